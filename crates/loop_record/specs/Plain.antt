-- Frames without the place of their bytes in memory, and what an image's headers and clip table say together.
use Rattle.std.specs.Prelude.{◌<◌, ◌≤◌, ◌≡◌, ℕ, ◌+◌, ◌-◌, ◌*◌, ◌/◌, ◌%◌, ◌^◌, IfSome, ◌==◌, ◌||◌, Bool, true, false, not, [], ◌∷◌, ◌&&◌, nat_lt, if◌then◌else◌, Option, Some, None, Result, Ok, Err, List, map}
use Rattle.std.specs.List.{list_all, list_any, range_with_len}
use Rattle.loop_record.specs.declared.clip.Span.{Span}
use Rattle.loop_record.specs.declared.frame.Frame.{Frame}
use Rattle.loop_record.specs.declared.damage.Damage.{Damage}
use Rattle.loop_record.specs.declared.damage.Damage.TheVariants.{ClipRange}
use Rattle.loop_record.specs.declared.geometry.Geometry.{Geometry}
use Rattle.loop_record.specs.declared.image.Found.{Found}
use Rattle.loop_record.specs.Geometry.{frame_bytes, slot_at}
use Rattle.loop_record.specs.Recording.{Picture, picture}
use Rattle.loop_record.specs.Layout.{Segment, entry_at, is_too_high, slot_in}
use Rattle.loop_record.specs.Parts.{is_high}

-- frames without the place of their bytes in memory
abbrev pub pictures : {A : Type 0} → List (Frame A) → List Picture
pictures frames = map picture frames

-- the segment whose header was found open
abbrev pub segment_of : Geometry → List ℕ → Found → Segment
segment_of g image f =
    record {
      block = f.block;
      slots = map (λ i. slot_in (frame_bytes g) image (slot_at g f.segment i))
          (range_with_len 0 f.frames);
    }

-- those segments
abbrev pub segments_of : Geometry → List ℕ → List Found → List Segment
segments_of g image fs = map (segment_of g image) fs

-- a found segment is one of the geometry's, has no more frames than there are slots, and its block isn't too high
pub record IsIn (g : Geometry) (f : Found) : Type 0 where
  pub segment : f.segment < g.segments
  pub few : f.frames ≤ g.slots
  pub low : is_too_high g f.block ≡ false

-- each of them is such a segment
abbrev pub AreIn : Geometry → List Found → Type 0
AreIn g [] = Unit {0}
AreIn g (f ∷ fs) = IsIn g f × AreIn g fs

-- the segment is open, and its block is too high
abbrev pub IsSomeHigh : Geometry → Option Segment → Type 0
IsSomeHigh g None = ⊥
IsSomeHigh g (Some s) = is_high g s ≡ true

-- a found segment has the frame of that number
abbrev pub found_number : Geometry → ℕ → Found → Bool
found_number g n f = (f.block == n / g.slots) && nat_lt (n % g.slots) f.frames

-- a clip that is empty or has a number whose frame no segment has
abbrev pub lacks_number : Geometry → List Found → Option Span → Bool
lacks_number g fs None = false
lacks_number g fs (Some s) =
    nat_lt s.to s.from || not
    (list_all (λ n. list_any (found_number g n) fs) (range_with_len s.from (s.to + 1 - s.from)))

-- a clip, if the segments have each of its numbers
abbrev pub held_clip : Geometry → List Found → Option Span → Result (Option Span) Damage
held_clip g fs clip = if lacks_number g fs clip then Err ClipRange else Ok clip

-- the tag of a clip, if there is a clip, fits into 64 bits
abbrev pub IsTagFit : Option Span → Type 0
IsTagFit clip = IfSome clip (λ s. s.tag < 2 ^ 64)

-- the clip of each id in a clip table of this version
abbrev pub table_clips : ℕ → List ℕ → List (Option Span)
table_clips version table = map (λ id. entry_at version table (id * 32)) (range_with_len 0 64)
