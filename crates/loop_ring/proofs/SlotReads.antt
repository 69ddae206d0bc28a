-- What two reads of a slot say of it.
use Rattle.std.proofs.Common.{◌≡◌, ℕ, ◌+◌, ◌-◌, ◌≤◌, cond, ◌&&◌, eqb, IsErrAnd, Result, Ok, Err, List, length, take, drop, sym, ap, ◌∙◌, subst, arith}
use Rattle.std.proofs.lemmas.List.{drop-drop, drop-take, take-take}
use Rattle.byteorder.specs.Endian.{little_from}
use Rattle.byteorder.specs.Numbers.{little_from-take}
use Rattle.loop_disk.specs.Calls.{Stays}
use Rattle.loop_disk.specs.Medium.{Medium, piece}
use Rattle.loop_disk.proofs.Moments.{meanwhile_on, remembers_on}
use Rattle.loop_record.specs.declared.damage.Damage.{Damage}
use Rattle.loop_record.specs.declared.damage.Damage.TheVariants.{SlotHead}
use Rattle.loop_record.specs.declared.frame.FrameHead.{FrameHead}
use Rattle.loop_record.specs.declared.geometry.Geometry.{Geometry}
use Rattle.loop_record.specs.Geometry.{frame_bytes, slot_at}
use Rattle.loop_record.specs.Layout.{slot_head, slot_in}
use Rattle.loop_record.proofs.Fields.{little_from-drop}
use Rattle.loop_ring.specs.declared.fault.SlotFault.{SlotFault}
use Rattle.loop_ring.specs.declared.fault.SlotFault.TheVariants.{Damaged}
use Rattle.loop_ring.specs.Reads.{AnswersHead, AnswersPart, AnswersSlot, slot_of}

-- a disk that stays as it was, twice
pub stays_on : (old mid new : Medium) → Stays old mid → Stays mid new → Stays old new
stays_on old mid new first second = record {
  bytes = second.bytes ∙ first.bytes;
  images = λ c left. first.images c (second.images c left);
  time = meanwhile_on old mid new old.may_leave mid.may_leave first.time second.time first.images;
  keeps = remembers_on old mid new first.time.later first.keeps second.keeps;
}

-- the first 32 bytes of a slot have its head
slot_head-front : (n at number : ℕ) (image : List ℕ)
    → slot_head n number (slot_in n (piece at 32 image) 0) ≡ slot_head n number (slot_in n image at)
slot_head-front n at number image =
    let field : (k m : ℕ) → k + m ≤ 32 → little_from (0 + k) m (piece at 32 image) ≡ little_from (at + k) m image = λ k m l.
    let first : 0 + k ≡ k = omega arith in
    ap (λ (x : ℕ). little_from x m (piece at 32 image)) first ∙ little_from-take k m 32 (drop at image) l ∙ little_from-drop at k m image in
    let here : at + 0 ≡ at = omega arith in
    let number' : little_from 0 8 (piece at 32 image) ≡ little_from at 8 image = field 0 8 (omega arith) ∙ ap (λ (x : ℕ). little_from x 8 image) here in
    let sequence = field 8 4 (omega arith) in
    let flags = field 12 4 (omega arith) in
    let timestamp = field 16 8 (omega arith) in
    let size = field 24 4 (omega arith) in
    λ i. cond (eqb (number' i) number && eqb (size i) n)
    (Ok (record { number = number; sequence = sequence i; flags = flags i; timestamp = timestamp i }))
    (Err SlotHead)

-- what is decoded from the first read is what the slot says
pub head_read : (g : Geometry) (j i number at n : ℕ) (image head : List ℕ) (said : Result FrameHead Damage)
    → at ≡ slot_at g j i → n ≡ frame_bytes g → head ≡ piece at 32 image → said ≡ slot_head n number (slot_in n head 0)
    → slot_head (frame_bytes g) number (slot_of g image j i) ≡ said
head_read g j i number at n image head said at_is n_is read decoded =
    sym (decoded ∙ ap (λ (bytes : List ℕ). slot_head n number (slot_in n bytes 0)) read
    ∙ slot_head-front n at number image ∙ (λ x. slot_head (n_is x) number (slot_in (n_is x) image (at_is x))))

-- a part of a slot's pixels is the part of the image that lies there
part_of : (g : Geometry) (j i at m : ℕ) (image : List ℕ) → at + m ≤ frame_bytes g
    → piece at m (slot_of g image j i).picture.bytes ≡ piece (slot_at g j i + 32 + at) m image
part_of g j i at m image within =
    let here : ℕ = slot_at g j i + 32 in
    let n : ℕ = frame_bytes g in
    let count : here + n - here ≡ at + (n - at) = omega (arith, within) in
    ap (λ (k : ℕ). piece at m (take k (drop here image))) count
    ∙ ap (take m) (drop-take at (n - at) (drop here image))
    ∙ take-take m (n - at) (drop at (drop here image)) (omega (arith, within))
    ∙ ap (take m) (drop-drop at here image)

-- the second read gives a part of the pixels
pub part_read : (g : Geometry) (j i place from at m : ℕ) (image mid out : List ℕ) → place ≡ slot_at g j i → from ≡ at
    → at + m ≤ frame_bytes g → mid ≡ image → m ≡ length out → out ≡ piece (place + 32 + from) m mid
    → out ≡ piece at (length out) (slot_of g image j i).picture.bytes
part_read g j i place from at m image mid out place_is from_is within same count read =
    read ∙ (λ x. piece (place_is x + 32 + from_is x) m (same x)) ∙ sym (part_of g j i at m image within)
    ∙ ap (λ (k : ℕ). piece at k (slot_of g image j i).picture.bytes) count

-- the part of all of a slot's pixels
pub whole_part : (g : Geometry) (j i number : ℕ) (image out : List ℕ) (result : Result FrameHead SlotFault)
    → length out ≡ frame_bytes g → AnswersPart (frame_bytes g) number (slot_of g image j i) 0 result out
    → AnswersSlot (frame_bytes g) number (slot_of g image j i) result out
whole_part g j i number image out (Err fault) size said = (said.0, tt)
whole_part g j i number image out (Ok head) size said =
    let count : slot_at g j i + 32 + frame_bytes g - (slot_at g j i + 32) ≡ frame_bytes g = omega arith in
    let all = drop (slot_at g j i + 32) image in (
      said.0,
      said.1 ∙ ap (λ (k : ℕ). take k (slot_of g image j i).picture.bytes) size
          ∙ ap (λ (k : ℕ). take (frame_bytes g) (take k all)) count ∙ take-take (frame_bytes g) (frame_bytes g) all
          (omega arith) ∙ ap (λ (k : ℕ). take k all) (sym count),
    )

-- a damaged head is reported as such
pub answers_damage : (said : Result FrameHead Damage) (damage : Damage) (answer : Result FrameHead SlotFault)
    → said ≡ Err damage → IsErrAnd answer (λ made. made ≡ Damaged damage) → AnswersHead said answer
answers_damage said damage (Ok head) is made = absurd made
answers_damage said damage (Err fault) is made = subst (λ (x : SlotFault). AnswersHead said (Err x)) (sym made) is
