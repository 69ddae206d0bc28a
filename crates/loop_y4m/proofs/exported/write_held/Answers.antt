use Rattle.std.proofs.Common.{◌≡◌, ◌+◌, ◌≤◌, List, [], ◌∷◌, ◌++◌, length, take, ℕ, sym, ap, ◌∙◌, refl, subst, arith}
use Rattle.std.proofs.KnownBytes.{Appends-nil, Appends-trans}
use Rattle.std.proofs.lemmas.List.{length-take, take_all}
use Rattle.std.specs.Prelude.{codes}
use Rattle.std.specs.Io.KnownBytes.{Appends}
use Rattle.loop_record.specs.declared.geometry.Geometry.{Geometry}
use Rattle.loop_record.proofs.Bounds.{limits}
use Rattle.loop_store.proofs.FrameSizes.{sized}
use Rattle.loop_y4m.specs.declared.fault.ExportFault.TheVariants as export
use Rattle.loop_y4m.specs.Text.{frame}
use Rattle.loop_y4m.proofs.ExportPieces.{frame_more, frame_rest, only_joined, only_stands, some_later, stopped_later, stopped_on}
use Rattle.loop_y4m.proofs.exported.write_held.Goals as goal

pub returns-in_err-write_frame_line-clause-moved : goal.returns-in_err-write_frame_line-clause-moved
returns-in_err-write_frame_line-clause-moved g c = λ r p stands there.
    let old = g.W.Write.contents c.args.out.now in
    stopped_on _ old _ c.from_residual.result export.Write (frame p.bytes) c.from_residual.ensures.1
    (λ honest. some_later old old _ [] (codes "FRAME" ++ 10 ∷ []) p.bytes (frame p.bytes) (Appends-nil old) c.in_err-write_frame_line.ensures refl)

pub returns-in_err-move_part-clause-moved : goal.returns-in_err-move_part-clause-moved
returns-in_err-move_part-clause-moved g c = λ r p stands there.
    let only = c.loop-at.invariant.store in
    let now = only_stands g.D.Disk.medium c.args.store.now c.loop-at.store _ r only stands in
    stopped_on _ _ _ c.from_residual-in_err-move_part.result c.in_err-move_part.field-0.0 (frame p.bytes) c.from_residual-in_err-move_part.ensures.1
    (stopped_later _ _ _ (g.W.Write.contents c.loop-at.out) _ c.in_err-move_part.field-0.0
    (frame (take c.loop-at.at p.bytes)) _ _ (frame p.bytes) only.called.honest.0
    (c.loop-at.invariant.moved r p stands there)
    (c.in_err-move_part.ensures.moved r p now there) (frame_rest c.loop-at.at _ p.bytes))

pub loop-at-preserved : goal.loop-at-preserved
loop-at-preserved g c = record {
  store = only_joined g.D.Disk.medium c.args.store.now c.loop-at.store c.move_part.new.store _ c.loop-at.invariant.store c.in_ok-move_part.ensures.store;
  size = c.loop-at.invariant.size;
  within = omega (arith, c.min-count.ensures, c.loop-at-test.true);
  moved = λ r p stands there honest.
      let only = c.loop-at.invariant.store in
      let now = only_stands g.D.Disk.medium c.args.store.now c.loop-at.store _ r only stands in
      let n = length (take c.min-count.result c.loop-at.piece) in
      let count : n ≡ c.min-count.result = omega (arith, length-take c.min-count.result c.loop-at.piece, c.min-count.ensures) in
      subst (λ (bytes : List ℕ). Appends (g.W.Write.contents c.args.out.now) (g.W.Write.contents c.move_part.new.out)
      bytes) (sym (frame_more c.loop-at.at n p.bytes)
      ∙ ap (λ (k : ℕ). frame (take (c.loop-at.at + k) p.bytes)) count)
      (Appends-trans _ (g.W.Write.contents c.loop-at.out) _ (frame (take c.loop-at.at p.bytes)) _
      (c.loop-at.invariant.moved r p stands there honest)
      (c.in_ok-move_part.ensures.moved r p now there (only.called.honest.0 honest)));
}

pub returns-clause-moved : goal.returns-clause-moved
returns-clause-moved g c = λ r p stands there honest.
    let some : 1 ≤ c.args.store.now.geometry.slots = subst (λ (h : Geometry). 1 ≤ h.slots) c.geometry.ensures.geometry
    (limits c.geometry.result c.geometry.ensures.good).slots.0 in
    let size = sized c.args.store.now.geometry r (g.D.Disk.medium c.args.store.now.disk).bytes c.args.number p some
    (stands.held c.requires.open honest) there in
    subst (λ (bytes : List ℕ). Appends (g.W.Write.contents c.args.out.now) (g.W.Write.contents c.loop-at.out)
    (frame bytes)) (take_all c.loop-at.at p.bytes
    (omega (arith, size, c.loop-at.invariant.size, c.loop-at-test.false)))
    (c.loop-at.invariant.moved r p stands there honest)
