use Rattle.std.proofs.Common.{◌≡◌, ℕ, ◌+◌, ◌≤◌, List, [], ◌∷◌, length, take, drop, ap, arith}
use Rattle.loop_record.specs.Geometry.{segment_at}
use Rattle.loop_record.proofs.Bounds.{limits, place-lt}
use Rattle.loop_record.proofs.Parts.{apart}
use Rattle.loop_ring.proofs.AnswerPairs.{both_ok}
use Rattle.loop_ring.proofs.BlockBeginnings.{is_header, begin_moments, begin_ok, begin_stray_ok}
use Rattle.loop_ring.proofs.ring.Ring.begin_block.Goals as goal

pub overflow_add-at : goal.overflow_add-at
overflow_add-at g c = omega (
  arith,
  c.segment_at-at.ensures,
  place-lt c.args.self.now.geometry c.args.segment c.args.self.now.good (omega (arith, c.requires.segment)),
)

pub returns : goal.returns
returns g c =
    let h = c.args.self.now.geometry in
    let j = c.args.segment in
    let bytes = c.encode_header.new.«out» in
    let header = is_header c.args.block _ c.ranges.block.fits (ap (λ (bs : List ℕ). take 511 (drop 1 bs)) c.encode_header.ensures) in
    let gate : take 1 bytes ≡ 165 ∷ [] = ap (λ (bs : List ℕ). take 1 bs) c.encode_header.ensures in
    let few = (limits h c.args.self.now.good).slots.1 in
    let fits : (g.D.Disk.medium c.args.disk.now).honest → segment_at h j + 512 ≤ length (g.D.Disk.medium c.args.disk.now).bytes = λ honest.
    omega (arith, (g.met.D.Disk.sound c.args.disk.now honest).length_is, c.requires.extent, apart h j h.segments c.requires.segment) in record {
      moments = λ honest. begin_moments h j c.args.block c.segment_at-at.result _ _ _ _ _ c.segment_at-at.ensures gate
          header few (fits honest) (c.requires.closed honest) (c.store_in_turn.ensures.disk honest);
      such = λ honest.
          both_ok c.store_in_turn.result (λ shows stray. (shows, stray))
          (begin_ok h j c.args.block c.segment_at-at.result _ _ _ _ _ c.segment_at-at.ensures gate header few
          (fits honest) (c.store_in_turn.ensures.disk honest))
          (begin_stray_ok h j c.args.block c.segment_at-at.result _ _ _ _ _ c.segment_at-at.ensures gate header few
          (fits honest) (c.store_in_turn.ensures.disk honest));
      settled = λ honest. (c.store_in_turn.ensures.disk honest).settled;
      fault = c.store_in_turn.ensures.fault;
      called = c.store_in_turn.ensures.called;
    }
