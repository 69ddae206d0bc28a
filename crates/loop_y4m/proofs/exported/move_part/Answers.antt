use Rattle.std.proofs.Common.{List, length, ℕ, refl, subst}
use Rattle.std.specs.Io.KnownBytes.{Appends}
use Rattle.loop_disk.specs.Medium.{piece}
use Rattle.loop_y4m.specs.declared.fault.ExportFault.TheVariants.{Store}
use Rattle.loop_store.specs.Goes.{Stands}
use Rattle.loop_store.proofs.CallRuns.{told-of}
use Rattle.loop_y4m.proofs.ExportPieces.{stopped_on}
use Rattle.loop_y4m.proofs.Ranges.{part_given, part_is, part_refused, running, writer_failed}
use Rattle.loop_y4m.proofs.exported.move_part.Goals as goal

pub returns-in_err-read_part-clause-moved : goal.returns-in_err-read_part-clause-moved
returns-in_err-read_part-clause-moved g c = λ r p stands there.
    let store = c.args.store.now in
    let s = running store.version store.keep r in
    let stood : Stands g.D.Disk.medium c.args.store.now s = record { recording = stands; version = refl; keep = refl; must_reopen = c.requires.open } in
    let said = (c.in_err-read_part.ensures.goes.answers s (told-of g.D.Disk.medium c.args.store.now s stood)).0 in
    stopped_on _ _ _ c.from_residual.result (Store c.in_err-read_part.field-0.0) (piece c.args.at (length c.args.part.now) p.bytes) c.from_residual.ensures.1
    (part_refused _ _ (λ honest. (honest, stood)) c.args.store.now.geometry store.version store.keep r c.args.number c.args.at p
    c.in_err-read_part.field-0.0 (g.W.Write.contents c.args.out.now) _ there said)

pub returns-in_err-write_pixels-clause-moved : goal.returns-in_err-write_pixels-clause-moved
returns-in_err-write_pixels-clause-moved g c = λ r p stands there.
    let store = c.args.store.now in
    let s = running store.version store.keep r in
    let stood : Stands g.D.Disk.medium c.args.store.now s = record { recording = stands; version = refl; keep = refl; must_reopen = c.requires.open } in
    let said = (c.in_ok-read_part.ensures.goes.answers s (told-of g.D.Disk.medium c.args.store.now s stood)).0 in
    writer_failed _ _ _ c.from_residual-in_err-write_pixels.result c.read_part.new.out _
    c.from_residual-in_err-write_pixels.ensures.1 c.in_err-write_pixels.ensures
    (λ honest. part_is r c.args.number c.args.at p c.read_part.new.out (length c.args.part.now) there
    (part_given _ c.args.store.now.geometry store.version store.keep r c.args.number c.args.at c.read_part.new.out said (honest, stood))
    c.read_part.auto.out)

pub returns-clause-moved : goal.returns-clause-moved
returns-clause-moved g c = λ r p stands there.
    let store = c.args.store.now in
    let s = running store.version store.keep r in
    let stood : Stands g.D.Disk.medium c.args.store.now s = record { recording = stands; version = refl; keep = refl; must_reopen = c.requires.open } in
    let said = (c.in_ok-read_part.ensures.goes.answers s (told-of g.D.Disk.medium c.args.store.now s stood)).0 in
    λ honest. subst (λ (bytes : List ℕ). Appends (g.W.Write.contents c.args.out.now)
    (g.W.Write.contents c.write_pixels.new.out) bytes)
    (part_is r c.args.number c.args.at p c.read_part.new.out (length c.args.part.now) there
    (part_given _ c.args.store.now.geometry store.version store.keep r c.args.number c.args.at c.read_part.new.out said (honest, stood))
    c.read_part.auto.out) c.in_ok-write_pixels.ensures
