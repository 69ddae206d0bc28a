-- What the parts of a disk, read one after the other, say of its image.
use Rattle.std.proofs.Common.{◌≡◌, ℕ, ◌*◌, ◌≤◌, Bool, true, false, Option, Ok, Err, List, length, refl, sym, ap, ◌∙◌, subst}
use Rattle.std.specs.List.{All, list_any}
use Rattle.loop_record.specs.declared.clip.Span.{Span}
use Rattle.loop_record.specs.declared.damage.Damage.{Damage}
use Rattle.loop_record.specs.declared.damage.LayoutFault.{LayoutFault}
use Rattle.loop_record.specs.declared.geometry.Geometry.{Geometry}
use Rattle.loop_record.specs.declared.image.Found.{Found}
use Rattle.loop_record.specs.declared.segment.SegmentHead.{SegmentHead}
use Rattle.loop_record.specs.Geometry.{disk_size}
use Rattle.loop_record.specs.Layout.{geometry_in}
use Rattle.loop_record.specs.Plain.{AreIn, segments_of}
use Rattle.loop_record.specs.Reading.{Holds, by_block, is_bad_slot, lacks_frame, next_after, open_segments, reading, repeats}
use Rattle.loop_record.specs.Parts.{is_high, parts_of}
use Rattle.loop_record.specs.Recording.{Recording, last_number, ring_of}
use Rattle.loop_record.proofs.FoundSegments.{AreFull, IsFoundIn, fault-of, found-low, found-read, read-all, read-bad_clip, reading-bad_slot, reading-high}
use Rattle.loop_ring.specs.Heads.{clip_counts, heads_of, in_order}
use Rattle.loop_store.proofs.SegmentOrder.{order-read}
use Rattle.loop_store.specs.declared.index.Index.{Index}
use Rattle.loop_store.specs.Index.{IsFitting, IsOf, IsRecovered}
use Rattle.loop_store.specs.Found.{IsHeadIn, clips_of, some_bad_clip}
use Rattle.loop_record.proofs.Names.{all_frames}

-- the segments that were found, in the order of their blocks
pub found-by : (g : Geometry) (image : List ℕ) (fs : List Found) (heads : List (Option SegmentHead))
    → geometry_in image ≡ Ok g → length image ≡ disk_size g → heads ≡ heads_of g image → AreIn g fs → fs ≡ in_order 0 heads
    → IsFoundIn g image fs
found-by g image fs heads geometry size are within is = record {
  geometry = geometry;
  size = size;
  are = ap (λ (xs : List Found). segments_of g image xs) is ∙ order-read g image heads are;
  within = within;
}

-- the segments that were found, once none repeats a block and none but the last lacks a frame
pub full : (g : Geometry) (image : List ℕ) (fs : List Found) (twice lacks : Bool) → IsFoundIn g image fs
    → twice ≡ repeats (segments_of g image fs) → twice ≡ false → lacks ≡ lacks_frame g (segments_of g image fs)
    → lacks ≡ false → AreFull g image fs
full g image fs twice lacks found is single is' whole = record { found = found; single = sym is ∙ single; full = sym is' ∙ whole }

-- a header's refusal
pub refused-head : (g : Geometry) (image : List ℕ) (fault : LayoutFault) → geometry_in image ≡ Ok g
    → length image ≡ disk_size g → (fault ≡ LayoutFault.Damaged Damage.BlockTooHigh)
    × (list_any (is_high g) (by_block (open_segments (parts_of g image).segments)) ≡ true) → reading image ≡ Err fault
refused-head g image fault geometry size q = reading-high g image geometry size q.1 ∙ fault-of (sym q.0)

-- a slot's refusal
pub refused-slot : (g : Geometry) (image : List ℕ) (fs : List Found) (fault : LayoutFault)
    → AreFull g image fs → (fault ≡ LayoutFault.Damaged Damage.SlotHead)
    × (list_any (is_bad_slot g) (segments_of g image fs) ≡ true) → reading image ≡ Err fault
refused-slot g image fs fault a q =
    reading-bad_slot g image (segments_of g image fs) (found-read g image fs a.found)
    (found-low g image fs a.found) a.single a.full q.1 ∙ fault-of (sym q.0)

-- a clip's refusal
pub refused-clip : (g : Geometry) (image : List ℕ) (fs : List Found) (fault : LayoutFault)
    → AreFull g image fs → list_any (is_bad_slot g) (segments_of g image fs) ≡ false
    → (fault ≡ LayoutFault.Damaged Damage.ClipRange) × (some_bad_clip g image fs ≡ true) → reading image ≡ Err fault
refused-clip g image fs fault a right q =
    read-bad_clip g image fs (all_frames g (segments_of g image fs)) Damage.ClipRange a right refl refl q.1 ∙ fault-of (sym q.0)

-- nothing is refused
pub recovered : {A : Type 0} (index : Index A) (g : Geometry) (image : List ℕ) (fs : List Found)
    (heads : List (Option SegmentHead)) (clips : List (Option Span)) (next : ℕ) → IsOf index g heads clips next
    → AreFull g image fs → list_any (is_bad_slot g) (segments_of g image fs) ≡ false → (clips ≡ clips_of image)
    × (some_bad_clip g image fs ≡ false) → next ≡ next_after g (segments_of g image fs) → heads ≡ heads_of g image
    → IsRecovered index image
recovered index g image fs heads clips next is a right q after are =
    let frames = all_frames g (segments_of g image fs) in
    let r : Recording = record { next = next; frames = frames; clips = clips } in
    record {
      recording = r;
      known = record {
        held = subst (λ (h : Geometry). Holds h r image) (sym is.geometry)
            (read-all g image fs next frames clips a right refl after q.0 q.1);
        next_is = is.next_is;
        heads_are = is.heads_are ∙ are ∙ ap (λ (h : Geometry). heads_of h image) (sym is.geometry);
        clips_are = is.clips_are;
      };
    }

-- and it fits the disk
pub fitting : {A : Type 0} (index : Index A) (g : Geometry) (heads : List (Option SegmentHead))
    (clips : List (Option Span)) (next size : ℕ) → IsOf index g heads clips next → size ≡ disk_size g
    → length heads ≡ g.segments → All (IsHeadIn g) heads → next ≤ last_number (ring_of g)
    → length index.stamps.items ≡ g.segments * g.slots → IsFitting index size
fitting index g heads clips next size is size_is count within few places = record {
  size_is = size_is ∙ ap disk_size (sym is.geometry);
  whole = record {
    count = ap length is.heads_are ∙ count ∙ ap (λ (h : Geometry). h.segments) (sym is.geometry);
    within = subst (λ (h : Geometry). All (IsHeadIn h) index.table.heads) (sym is.geometry) (subst (All (IsHeadIn g)) (sym is.heads_are) within);
    few = subst (λ (h : Geometry). index.next ≤ last_number (ring_of h)) (sym is.geometry)
        (subst (λ (n : ℕ). n ≤ last_number (ring_of g)) (sym is.next_is) few);
    counted = is.counted ∙ (λ i. clip_counts (ring_of (sym is.geometry i)) (sym is.clips_are i) (sym is.heads_are i));
    places = places ∙ (λ i. (sym is.geometry i).segments * (sym is.geometry i).slots);
  };
}
