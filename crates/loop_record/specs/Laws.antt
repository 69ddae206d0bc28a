-- What follows from the definitions, in words.
use Rattle.std.specs.Prelude.{◌≡◌, ◌↔◌, ℕ, ◌≤◌, ◌<◌, ◌^◌, IsTrue, Some, None, Ok, List, [], ◌∷◌, length}
use Rattle.loop_record.specs.declared.clip.Span.{Span}
use Rattle.loop_record.specs.declared.geometry.Geometry.{Geometry}
use Rattle.loop_record.specs.declared.superblock.SuperHead.{SuperHead}
use Rattle.loop_record.specs.Geometry.{is_good}
use Rattle.loop_record.specs.Recording.{Picture, Recording, Ring, Step, head, empty, victim, is_legal, after_step, steps, IsWellFormed, MayGo, IsVictim}
use Rattle.loop_record.specs.Layout.{super_bytes, slot_bytes, header_bytes, entry_bytes, IsVersion, super_in, slot_in, slot_head, header_at, entry_at, has_tag_place}
use Rattle.loop_record.specs.Reading.{Holds, HoldsIn, IsFreshImage, reading}
use Rattle.loop_record.specs.Change.{KeepsClips}

-- the victim is the least block that may go; where there is none, no block may go
pub record VictimIsLeast (ring : Ring) (keep : ℕ) (r : Recording) : Type 0 where
  pub some : (b : ℕ) → victim ring keep r ≡ Some b ↔ IsVictim ring keep r b
  pub none : victim ring keep r ≡ None → (b : ℕ) → MayGo ring keep r b → ⊥

-- this holds for each well-formed recording
abbrev pub VictimsAreLeast : Type 0
VictimsAreLeast =
    (ring : Ring) (keep : ℕ) (r : Recording) → 1 ≤ ring.slots → IsWellFormed r → VictimIsLeast ring keep r

-- a step that may be made leaves a well-formed recording
abbrev pub LegalStepsKeepForm : Type 0
LegalStepsKeepForm =
    (ring : Ring) (keep : ℕ) (r : Recording) (step : Step) → 1 ≤ ring.slots → IsWellFormed r
    → IsTrue (is_legal ring keep r step) → IsWellFormed (after_step ring r step)

-- each step may be made after those before it
abbrev pub AreLegal : Ring → ℕ → Recording → List Step → Type 0
AreLegal ring keep r [] = Unit {0}
AreLegal ring keep r (s ∷ ss) = IsTrue (is_legal ring keep r s) × AreLegal ring keep (after_step ring r s) ss

-- the steps of an append may be made
abbrev pub AppendsAreLegal : Type 0
AppendsAreLegal =
    (ring : Ring) (keep : ℕ) (r : Recording) (group : List Picture) (list : List Step)
    → steps ring keep r group ≡ Some list → AreLegal ring keep r list

-- an image that reads as a recording reads as a well-formed one
abbrev pub ReadingsAreWellFormed : Type 0
ReadingsAreWellFormed = (g : Geometry) (r : Recording) (image : List ℕ) → Holds g r image → IsWellFormed r

-- a freshly formatted image reads as the empty recording, in its version
abbrev pub FreshImagesAreEmpty : Type 0
FreshImagesAreEmpty =
    (h : SuperHead) (image : List ℕ) → IsVersion h.version → IsTrue (is_good h.geometry) → IsFreshImage h image
    → HoldsIn h empty image

-- where the version's gate and the clip table have changed, but each id has the clip that it had, an image reads the
-- same
abbrev pub KeptClipsReadTheSame : Type 0
KeptClipsReadTheSame = (old new : List ℕ) → KeepsClips old new → reading new ≡ reading old

-- a slot has room for the number, the frame's head and its count of bytes
pub record FitsSlot (number : ℕ) (p : Picture) : Type 0 where
  pub number_fits : number < 2 ^ 64
  pub sequence : p.sequence < 2 ^ 32
  pub flags : p.flags < 2 ^ 32
  pub timestamp : p.timestamp < 2 ^ 64
  pub bytes : length p.bytes < 2 ^ 32

-- an entry of this version has room for the clip
pub record FitsEntry (version : ℕ) (s : Span) : Type 0 where
  pub from : s.from < 2 ^ 64
  pub to : s.to < 2 ^ 64
  pub tag : s.tag < 2 ^ 64
  pub placed : IsTrue (has_tag_place version s)

-- reading gives back what was written: of a slot its frame, of a superblock its geometry and version, of a header its
-- block, of an entry its clip
pub record WrittenIsRead : Type 0 where
  pub slot : (number : ℕ) (p : Picture) → FitsSlot number p
      → slot_head (length p.bytes) number (slot_in (length p.bytes) (slot_bytes number p) 0) ≡ Ok (head number p)
  pub superblock : (h : SuperHead) → IsVersion h.version → IsTrue (is_good h.geometry)
      → super_in (super_bytes h) ≡ Ok h
  pub header : (g : Geometry) (block : ℕ) → IsTrue (is_good g) → block < 2 ^ 64
      → header_at g (header_bytes block) 0 ≡ Some (record { block = block; frames = 0 })
  pub entry : (version : ℕ) (s : Span) → FitsEntry version s → entry_at version (entry_bytes s) 0 ≡ Some s
