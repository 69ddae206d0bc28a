-- What is read of a disk again, part by part, and the answers where it is damaged. Only the store's own code uses
-- this.
use Rattle.std.specs.Prelude.{◌≡◌, ℕ, ◌≤◌, Bool, false, Option, Some, None, Result, Ok, Err, List, map}
use Rattle.std.specs.List.{flat_map, list_any, range_with_len}
use Rattle.loop_disk.specs.Calls.{Called, Stays}
use Rattle.loop_disk.specs.Medium.{MayBe, Medium}
use Rattle.loop_record.specs.declared.clip.Span.{Span}
use Rattle.loop_record.specs.declared.damage.LayoutFault.{LayoutFault}
use Rattle.loop_record.specs.declared.geometry.Geometry.{Geometry}
use Rattle.loop_record.specs.declared.image.Found.{Found}
use Rattle.loop_record.specs.declared.segment.SegmentHead.{SegmentHead}
use Rattle.loop_record.specs.Layout.{clip_in, is_too_high}
use Rattle.loop_record.specs.Plain.{segments_of}
use Rattle.loop_record.specs.Reading.{frames_of, is_bad_clip}
use Rattle.loop_record.specs.Recording.{empty}
use Rattle.loop_store.specs.declared.fault.StoreFault.{StoreFault}
use Rattle.loop_store.specs.Faults.{failed_in}

-- the store's refusal for that of the layout
abbrev pub refusal : LayoutFault → StoreFault
refusal LayoutFault.NotFormatted = StoreFault.NotFormatted
refusal (LayoutFault.Damaged damage) = StoreFault.Damaged damage

-- The answer meets the first, or it is the layout's refusal and meets the second, or memory was refused, or a call of
-- the disk failed.
abbrev pub Recovers : {T : Type 0} → Result T StoreFault → (T → Type 0) → (LayoutFault → Type 0) → Type 0
Recovers (Ok x) P Q = P x
Recovers (Err StoreFault.NoMemory) P Q = Unit {0}
Recovers (Err (StoreFault.Disk fault)) P Q = Unit {0}
Recovers (Err StoreFault.NotFormatted) P Q = Q LayoutFault.NotFormatted
Recovers (Err (StoreFault.Damaged damage)) P Q = Q (LayoutFault.Damaged damage)
Recovers (Err _) P Q = ⊥

-- What a call that only reads found: the answer is right for each image that agrees with what was read, and an honest
-- disk stays as it was.
pub record Finds {T : Type 0} (IsSuch : List ℕ → T → Type 0) (IsRefused : List ℕ → LayoutFault → Type 0)
    (old new : Medium) (result : Result T StoreFault) : Type 0 where
  pub found : (image : List ℕ) → MayBe new image → Recovers result (IsSuch image) (IsRefused image)
  pub gives : (image : List ℕ) → MayBe new image → MayBe old image
  pub stays : old.honest → Stays old new
  pub called : Called old new (failed_in result)

-- the header of an open segment has no more frames than there are slots, and its block isn't too high
abbrev pub IsHeadIn : Geometry → Option SegmentHead → Type 0
IsHeadIn g None = Unit {0}
IsHeadIn g (Some h) = (h.frames ≤ g.slots) × (is_too_high g h.block ≡ false)

-- the clip of each id
abbrev pub clips_of : List ℕ → List (Option Span)
clips_of image = map (clip_in image) (range_with_len 0 64)

-- some clip of the image is empty or has a number whose frame no segment has
abbrev pub some_bad_clip : Geometry → List ℕ → List Found → Bool
some_bad_clip g image fs =
    list_any (is_bad_clip (record empty { frames = flat_map (frames_of g) (segments_of g image fs) })) (clips_of image)
