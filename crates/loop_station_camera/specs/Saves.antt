-- The text of clips that are saved.
use Rattle.std.specs.Prelude.{◌≡◌, ◌≤◌, ◌<◌, ◌⊎◌, ℕ, ◌+◌, ◌-◌, true, List, [], ◌∷◌, ◌++◌, Option, None, Some, All, length, map, sum_by}
use Rattle.std.specs.Io.KnownBytes.{Appends}
use Rattle.std.specs.List.{flat_map, range_with_len}
use Rattle.std.specs.List.Sorted.{IsPermutation}
use Rattle.loop_record.specs.declared.geometry.Geometry.{Geometry}
use Rattle.loop_y4m.specs.declared.depth.Depth.{Depth}
use Rattle.loop_y4m.specs.Depths.{depth_of}
use Rattle.loop_y4m.specs.Text.{deep_text, frame, may_have}
use Rattle.loop_station_core.specs.Marks.{bits_of}
use Rattle.loop_station_core.specs.Sets.{store_of}
use Rattle.loop_station_shared.specs.declared.found.FoundClip.{FoundClip}
use Rattle.loop_station_camera.specs.declared.saves.Save.{Save}
use Rattle.loop_station_camera.specs.declared.save.pieces.Piece.{Piece}
use Rattle.loop_station_camera.specs.Answers.{SeenAnswer, answered_bytes}

-- the clips that a save reads
abbrev pub clips_read : Save → List FoundClip
clips_read s = elim s.event [ None ↦ s.found ∷ [] | Some clips ↦ clips.items ]

-- how many frames a clip has, and several
abbrev pub clip_length : FoundClip → ℕ
clip_length f = f.clip.to + 1 - f.clip.from

abbrev pub frames_in_clips : List FoundClip → ℕ
frames_in_clips clips = sum_by clip_length clips

-- ---- the order of the frames

-- what is left of a clip after a frame; the next one came at a time
abbrev pub rest_of : FoundClip → ℕ → ℕ → FoundClip
rest_of f end first = record f { clip = record f.clip { from = end + 1 }; first = first }

-- nothing is left of a piece's clip beside these others, or its frames after the piece
abbrev pub LeavesBeside : Piece → List FoundClip → List FoundClip → Type 0
LeavesBeside p others left = (p.end ≡ p.clip.clip.to) × (left ≡ others)
    ⊎ (p.end < p.clip.clip.to) × ((first : ℕ) × (left ≡ rest_of p.clip p.end first ∷ others))

-- A piece is the first frames of the clip that began first of those that are left.
pub record TakesFirst (old new : List FoundClip) (p : Piece) : Type 0 where
  pub some : p.clip.clip.from ≤ p.end
  pub first : All (λ f. p.clip.first ≤ f.first) old
  pub others : List FoundClip
  pub among : IsPermutation old (p.clip ∷ others)
  pub leaves : LeavesBeside p others new

-- clips are cut into pieces, one after the other, and this is left
abbrev pub AreCut : List FoundClip → List Piece → List FoundClip → Type 0
AreCut clips [] left = clips ≡ left
AreCut clips (p ∷ ps) left = (rest : List FoundClip) × TakesFirst clips rest p × AreCut rest ps left

-- the numbers of a piece, each with its clip
abbrev pub piece_numbers : Piece → List (FoundClip × ℕ)
piece_numbers p = map (λ n. (p.clip, n)) (range_with_len p.clip.clip.from (p.end - p.clip.clip.from + 1))

-- ---- the frames

-- The frame that the desk of a clip's store answered with, for a number: at either end it came when the clip says so.
pub record IsFrameOf (f : FoundClip) (number : ℕ) (a : SeenAnswer) : Type 0 where
  pub store : a.store ≡ store_of f.clip.id
  pub number_is : a.number ≡ number
  pub first : number ≡ f.clip.from → a.head.timestamp ≡ f.first
  pub last : number ≡ f.clip.to → a.head.timestamp ≡ f.last

-- and its samples have so many bits
abbrev pub IsSaved : Depth → FoundClip × ℕ → SeenAnswer → Type 0
IsSaved depth under a = IsFrameOf under.0 under.1 a × (depth_of (bits_of a.head.flags) ≡ Some depth)

-- each of these numbers has its frame, one after the other
abbrev pub AreSaved : Depth → List (FoundClip × ℕ) → List SeenAnswer → Type 0
AreSaved depth [] [] = Unit {0}
AreSaved depth (under ∷ more) (a ∷ answers) = IsSaved depth under a × AreSaved depth more answers
AreSaved depth _ _ = ⊥

-- A writer was given the whole text of frames with which desks answered, with the geometry of a store and samples that
-- its frames may have. They are those of all numbers of clips: of the clips' pieces, one after the other.
pub record WroteClips (old new : Option (List ℕ)) (geometry : Geometry) (clips : List FoundClip)
    (answers : List SeenAnswer) : Type 0 where
  pub depth : Depth
  pub fits : may_have geometry depth ≡ true
  pub written : Appends old new (deep_text geometry depth (answered_bytes answers))
  pub pieces : List Piece
  pub cut : AreCut clips pieces []
  pub frames : AreSaved depth (flat_map piece_numbers pieces) answers
  pub all : length answers ≡ frames_in_clips clips
  pub some : All (λ f. f.clip.from ≤ f.clip.to) clips

-- ---- in pieces (private contracts alone)

-- a frame was written, of samples of so many bits, and stands after the others that were
pub record WroteFrame (old new : Option (List ℕ)) (depth : Depth) (a : SeenAnswer) (before after : List SeenAnswer)
    : Type 0 where
  pub written : Appends old new (frame a.bytes)
  pub deep : depth_of (bits_of a.head.flags) ≡ Some depth
  pub stands : after ≡ before ++ a ∷ []

-- the frames of a piece were written, one after the other
pub record WrotePiece (old new : Option (List ℕ)) (depth : Depth) (piece : Piece) (answers : List SeenAnswer)
    : Type 0 where
  pub written : Appends old new (flat_map frame (answered_bytes answers))
  pub frames : AreSaved depth (piece_numbers piece) answers
  pub all : piece.clip.clip.from + length answers ≡ piece.end + 1

-- the piece that began first was taken out of what was left of clips; or nothing was left
abbrev pub TakesPiece : List FoundClip → List FoundClip → Option Piece → Type 0
TakesPiece old new None = (old ≡ []) × (new ≡ [])
TakesPiece old new (Some p) = TakesFirst old new p
