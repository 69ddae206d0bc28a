-- What an index notes of a segment and of a clip.
use Rattle.std.proofs.Common.{◌≡◌, true, ◌&&◌, eqb, ltb, Option, Some, None}
use Rattle.loop_record.specs.declared.segment.SegmentHead.{SegmentHead}
use Rattle.loop_record.proofs.TestFacts.{both, equal}
use Rattle.loop_ring.specs.Heads.{grown, has_frame, is_of}

-- a segment with a frame of the block, once it has this many
pub grown-head : (o : Option SegmentHead) (head : SegmentHead) → (is_of head.block o && has_frame o) ≡ true
    → grown head.frames o ≡ Some head
grown-head None head there = absurd cc
grown-head (Some h) head there =
    let t = both (eqb h.block head.block) (ltb 0 h.frames) there in
    λ i. Some (record { block = equal h.block head.block t.0 i; frames = head.frames })
