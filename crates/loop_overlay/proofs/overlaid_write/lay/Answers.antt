use Rattle.std.proofs.Common.{◌≡◌, ◌∙◌, ℕ, List, ap, subst, sym, inl, inr, take, drop, arith}
use Rattle.loop_disk.specs.Medium.{with_bytes_at}
use Rattle.loop_overlay.specs.Layers.{LaidWrite, laid_on}
use Rattle.loop_overlay.specs.Parts.{IsBufferOf}
use Rattle.loop_overlay.proofs.WriteOver.{part_laid, part_outside}
use Rattle.loop_overlay.proofs.overlaid_write.lay.Goals.{then-to-buf-via-then-to-buf, then-to-buf-via-else-to-buf+then-skipped-bytes}
use Rattle.loop_overlay.proofs.overlaid_write.lay.Goals as goal

pub returns-then-to-buf : goal.returns-then-to-buf
returns-then-to-buf c = λ image part.
    let w : LaidWrite = record { at = c.args.from; bytes = c.args.bytes.now } in
    let buf = c.args.buf.now in
    elim c.then-to-buf.branch [
      | then-to-buf-via-then-to-buf way ↦ part_outside c.args.at _ _ image buf w c.saturating_sub-to.ensures
          c.saturating_sub-skipped.ensures (inl way.if-to-buf.true) part
      | then-to-buf-via-else-to-buf+then-skipped-bytes way ↦ part_outside c.args.at _ _ image buf w
          c.saturating_sub-to.ensures c.saturating_sub-skipped.ensures (inr way.if-skipped-bytes.true) part
    ]

pub returns : goal.returns
returns c = λ image part.
    let w : LaidWrite = record { at = c.args.from; bytes = c.args.bytes.now } in
    let to = c.saturating_sub-to.result in
    let skipped = c.saturating_sub-skipped.result in
    let count = c.min-count.result in
    let buf = c.args.buf.now in
    let same : c.put.new.buf ≡ with_bytes_at to (take count (drop skipped w.bytes)) buf =
    c.put.ensures ∙ ap (λ (k : ℕ). with_bytes_at to (take k (drop skipped w.bytes)) buf) (omega arith) in
    subst (λ (l : List ℕ). IsBufferOf c.args.at (laid_on image w) l) (sym same)
    (part_laid c.args.at to skipped count image buf w c.saturating_sub-to.ensures c.saturating_sub-skipped.ensures
    c.min-count.ensures c.if-to-buf.false c.if-skipped-bytes.false part)
