-- The size of a held frame.
use Rattle.std.proofs.Common.{◌≡◌, ℕ, ◌+◌, ◌-◌, ◌%◌, ◌<◌, ◌≤◌, true, Option, Some, List, is_some, length, drop, sym, ap, ◌∙◌, arith}
use Rattle.std.proofs.lemmas.List.{length-drop, length-take}
use Rattle.std.proofs.lemmas.Nat.{mod_below}
use Rattle.std.specs.List.{list_any}
use Rattle.loop_record.specs.declared.geometry.Geometry.{Geometry}
use Rattle.loop_record.specs.Geometry.{frame_bytes, slot_at}
use Rattle.loop_record.specs.Reading.{Holds}
use Rattle.loop_record.specs.Recording.{Picture, Recording, frame_under}
use Rattle.loop_record.proofs.FoundSegments.{slot-room}
use Rattle.loop_record.proofs.Parts.{reading-stages}
use Rattle.loop_ring.specs.Heads.{has_number, heads_of}
use Rattle.loop_ring.proofs.Heads.{any-index, heads-length}
use Rattle.loop_ring.proofs.HeldBlocks.{held-number}
use Rattle.loop_store.proofs.SlotLooks.{held-slot}

-- a frame of a recording that an image holds has the geometry's size
pub sized : (g : Geometry) (r : Recording) (image : List ℕ) (n : ℕ) (p : Picture) → 1 ≤ g.slots → Holds g r image
    → frame_under r.frames n ≡ Some p → length p.bytes ≡ frame_bytes g
sized g r image n p some held there =
    let has : list_any (has_number g.slots n) (heads_of g image) ≡ true = held-number g r image n held ∙ ap (λ (o : Option Picture). is_some o) there in
    let k = any-index (has_number g.slots n) (heads_of g image) has in
    let inside : k.0 < g.segments = omega (arith, k.1.0, heads-length g image) in
    let is = (held-slot g r image k.0 n held inside k.1.1).held in
    let place = slot_at g k.0 (n % g.slots) + 32 in
    let room = slot-room g image k.0 (n % g.slots) inside (mod_below n g.slots (omega (arith, some))) (reading-stages g r image held).size in
    ap (λ (bytes : List ℕ). length bytes) (bytes_of p _ (sym there ∙ is))
    ∙ length-take (place + frame_bytes g - place) (drop place image)
    ∙ omega (arith, room, length-drop place image)
  where
    bytes_of : (a b : Picture) → Some a ≡ Some b → a.bytes ≡ b.bytes
    bytes_of a b e = cc
