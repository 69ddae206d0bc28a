use Rattle.std.proofs.Common.{◌≡◌, ◌<◌, ◌≤◌, ◌^◌, ℕ, Option, List, false, sym, ◌∙◌, subst}
use Rattle.std.specs.Prelude.{IfSome}
use Rattle.std.specs.Io.KnownBytes.{Appends}
use Rattle.loop_record.specs.declared.geometry.Geometry.{Geometry}
use Rattle.loop_y4m.specs.Export.{frames_between}
use Rattle.loop_y4m.specs.Steps.{IsFirstBetween, MovedAll}
use Rattle.loop_y4m.specs.Text.{AppendsSome, header}
use Rattle.loop_y4m.proofs.ExportPieces.{headed, some_frames, unheaded, unwritten}
use Rattle.loop_y4m.proofs.exported.export.Goals as goal

pub returns-in_err-piece-clause-exported : goal.returns-in_err-piece-clause-exported
returns-in_err-piece-clause-exported g c = λ r stands.
    let fine : c.args.store.now.must_reopen ≡ false = sym c.must_reopen.ensures ∙ c.if-must_reopen.false in
    let is = c.in_ok-first.ensures.ok_part in
    let within = subst (λ (o : Option ℕ). IfSome o (λ n. (c.args.from ≤ n) × ((n ≤ c.args.to) × (n < 2 ^ 62)))) is c.held_between.ensures.within in
    let frames = subst (λ (o : Option ℕ). IsFirstBetween r c.args.from c.args.to o) is (c.held_between.ensures.frames r stands) in
    let rising = stands.told.formed.rising in
    unwritten _ c.args.store.now.geometry c.args.store.now.must_reopen (frames_between c.args.from c.args.to r.frames)
    (g.W.Write.contents c.args.out.now) c.from_residual-in_err-piece.result fine
    (some_frames r c.args.from c.in_ok-first.first c.args.to within.1.0 rising frames) c.from_residual-in_err-piece.ensures.1

pub returns-in_err-write_header-clause-exported : goal.returns-in_err-write_header-clause-exported
returns-in_err-write_header-clause-exported g c = λ r stands.
    let fine : c.args.store.now.must_reopen ≡ false = sym c.must_reopen.ensures ∙ c.if-must_reopen.false in
    let is = c.in_ok-first.ensures.ok_part in
    let within = subst (λ (o : Option ℕ). IfSome o (λ n. (c.args.from ≤ n) × ((n ≤ c.args.to) × (n < 2 ^ 62)))) is c.held_between.ensures.within in
    let frames = subst (λ (o : Option ℕ). IsFirstBetween r c.args.from c.args.to o) is (c.held_between.ensures.frames r stands) in
    let rising = stands.told.formed.rising in
    let given = subst (λ (h : Geometry). AppendsSome (g.W.Write.contents c.args.out.now)
    (g.W.Write.contents c.write_header.new.out) (header h)) c.geometry-geometry.ensures.geometry
    c.in_err-write_header.ensures in
    unheaded _ c.args.store.now.geometry c.args.store.now.must_reopen (frames_between c.args.from c.args.to r.frames)
    (g.W.Write.contents c.args.out.now) (g.W.Write.contents c.write_header.new.out)
    c.from_residual-in_err-write_header.result fine
    (some_frames r c.args.from c.in_ok-first.first c.args.to within.1.0 rising frames) c.from_residual-in_err-write_header.ensures.1 given

pub returns-clause-exported : goal.returns-clause-exported
returns-clause-exported g c = λ r stands.
    let fine : c.args.store.now.must_reopen ≡ false = sym c.must_reopen.ensures ∙ c.if-must_reopen.false in
    let is = c.in_ok-first.ensures.ok_part in
    let within = subst (λ (o : Option ℕ). IfSome o (λ n. (c.args.from ≤ n) × ((n ≤ c.args.to) × (n < 2 ^ 62)))) is c.held_between.ensures.within in
    let frames = subst (λ (o : Option ℕ). IsFirstBetween r c.args.from c.args.to o) is (c.held_between.ensures.frames r stands) in
    let rising = stands.told.formed.rising in
    let given = subst (λ (h : Geometry). Appends (g.W.Write.contents c.args.out.now)
    (g.W.Write.contents c.write_header.new.out) (header h)) c.geometry-geometry.ensures.geometry
    c.in_ok-write_header.ensures in
    headed _ c.args.store.now.geometry c.args.store.now.must_reopen (frames_between c.args.from c.args.to r.frames)
    (g.W.Write.contents c.args.out.now) (g.W.Write.contents c.write_header.new.out)
    (g.W.Write.contents c.write_frames.new.out) c.write_frames.result fine
    (some_frames r c.args.from c.in_ok-first.first c.args.to within.1.0 rising frames) given
    (subst (λ (l : List (List ℕ)). MovedAll (g.D.Disk.medium c.args.store.now.disk).honest
    (g.W.Write.contents c.write_header.new.out) (g.W.Write.contents c.write_frames.new.out) c.write_frames.result
    l) (sym frames.1) (c.write_frames.ensures.moved r stands frames.0))
