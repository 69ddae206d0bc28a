use Rattle.std.proofs.Common.{List, Ok, ap, subst, sym, arith}
use Rattle.loop_disk.specs.Calls.{Writes}
use Rattle.loop_overlay.specs.Layers.{LaidWrite, overlaid}
use Rattle.loop_overlay.proofs.OverlayImages.{write_laid}
use Rattle.loop_overlay.proofs.overlay.OverlayDiskDisk.write_at.Goals as goal

pub returns-in-Ok-clause-disk : goal.returns-in-Ok-clause-disk
returns-in-Ok-clause-disk g c =
    let inside = c.self.inside in
    let m = g.D.Disk.medium inside.inner in
    let w : LaidWrite = record { at = c.args.at; bytes = c.args.bytes.now } in
    let size = ap (λ v. (g.D.Disk.medium v.disk).size) c.self.view_is in
    subst (λ v. (g.D.Disk.medium v.disk).honest → Writes {T = Unit {0}} c.args.at c.args.bytes.now
    (overlaid (g.D.Disk.medium v.disk) v.writes v.failures) (overlaid m c.add_write.new.writes.items inside.failures)
    (Ok tt)) c.self.view_is
    (λ honest.
    subst (λ (ws : List LaidWrite). Writes {T = Unit {0}} c.args.at c.args.bytes.now
    (overlaid m inside.writes.items inside.failures) (overlaid m ws inside.failures) (Ok tt))
    (sym c.in-Ok.ensures.added)
    (write_laid m inside.writes.items inside.failures w (omega (arith, c.requires, size, (g.met.D.Disk.sound inside.inner honest).length_is))))
