use Rattle.std.proofs.Common.{sym, subst}
use Rattle.std.proofs.lemmas.Result.{err_from_is_err_and}
use Rattle.loop_store.specs.declared.index.Index.{Index}
use Rattle.loop_store.specs.Index.{IsFitting, IsRecoveredIn, SaysRecording}
use Rattle.loop_store.specs.Reopen.{IsRefusedOpen}
use Rattle.loop_store.proofs.Openings.{bad-kept, keeping-fits, keeping-recovered}
use Rattle.loop_store.proofs.reopen.find.Goals as goal

pub returns-in_err-keep_newest-clause-refused : goal.returns-in_err-keep_newest-clause-refused
returns-in_err-keep_newest-clause-refused g c = λ image may.
    let index = c.in_ok-index.index in
    let bad = c.in_err-keep_newest.ensures.bad in
    let p = err_from_is_err_and c.from_residual-in_err-keep_newest.result c.from_residual-in_err-keep_newest.ensures.1 in
    rw (p.1, p.2) (subst (IsRefusedOpen c.args.keep image) (sym bad.0)
    (bad-kept c.args.keep index image (c.in_ok-index.ensures.finds.found image may).0 bad.1))

pub returns-clause-known : goal.returns-clause-known
returns-clause-known g c =
    let index = c.in_ok-index.index in
    let size = (g.D.Disk.medium c.args.disk.now).size in
    let known = c.in_ok-index.ensures.known in
    subst (λ (i : Index g.row.A.Denot). IsFitting i size × SaysRecording i) (sym c.in_ok-keep_newest.ensures.kept.0)
    (keeping-fits c.args.keep index size known.0, keeping-recovered c.args.keep index _ known.1)

pub returns-clause-found : goal.returns-clause-found
returns-clause-found g c = λ image may.
    let index = c.in_ok-index.index in
    let found = c.in_ok-index.ensures.finds.found image may in
    subst (λ (i : Index g.row.A.Denot). IsRecoveredIn i image) (sym c.in_ok-keep_newest.ensures.kept.0)
    (keeping-recovered c.args.keep index image found.0, (found.1.0, found.1.1))
