-- What a freshly formatted image reads as, and what a part reads as once it has been written.
use Rattle.std.proofs.Common.{◌≡◌, inr, ℕ, zero, suc, ◌+◌, ◌-◌, ◌^◌, ◌<◌, ◌≤◌, Bool, true, false, cond, ◌&&◌, eqb, leb, Option, Some, None, Ok, Err, List, [], ◌∷◌, ◌++◌, length, take, drop, get_or, map, replicate, refl, sym, ap, ◌∙◌, arith}
use Rattle.std.proofs.lemmas.List.{length-take, length-drop, take_all, append-nil, take-append-drop, get_or-take, get_or-drop, drop-take, take-take}
use Rattle.std.specs.Prelude.{slice_range, ◌||◌}
use Rattle.std.specs.List.{list_all, range_with_len}
use Rattle.byteorder.specs.Endian.{little_from}
use Rattle.byteorder.specs.Numbers.{little_number-reads_back}
use Rattle.loop_record.specs.declared.clip.Span.{Span}
use Rattle.loop_record.specs.declared.damage.Damage.TheVariants.{SlotHead, Superblock}
use Rattle.loop_record.specs.declared.damage.LayoutFault.TheVariants.{NotFormatted, Damaged}
use Rattle.loop_record.specs.declared.geometry.PixelFormat.{PixelFormat}
use Rattle.loop_record.specs.declared.geometry.Geometry.{Geometry}
use Rattle.loop_record.specs.Geometry.{format_named, frame_bytes, is_good, segment_at, clip_at}
use Rattle.loop_record.specs.Recording.{Picture, empty, head}
use Rattle.loop_record.specs.Layout.{magic, has_bytes, format_at, geometry_fields, checked_geometry, is_open, open_gates, segment_in, entry_at, clip_in, header_at, super_bytes, header_bytes, entry_bytes, geometry_in, version_in, with_version, super_in, slot_in, slot_bytes, slot_head}
use Rattle.loop_record.specs.Reading.{recording_or_damage, by_block, open_segments}
use Rattle.loop_record.specs.Laws.{FitsSlot, FitsEntry, WrittenIsRead, FreshImagesAreEmpty}
use Rattle.loop_record.proofs.Bounds.{limits}
use Rattle.loop_record.proofs.TestFacts.{equal, equal_test, at_most_test}
use Rattle.loop_record.proofs.OwnBytes.{map_range, prefix_range, moved_entry}
use Rattle.loop_record.proofs.Gates.{open_gates-are}
use Rattle.loop_record.proofs.Parts.{stages-reading}
use Rattle.loop_record.proofs.ReadBack.{slot_in-slot_bytes, geometry_in-super_bytes, version_in-super_bytes, little_from-slice}

-- ---- a fresh image

none_opened : (g : Geometry) (image : List ℕ) (lo n : ℕ)
    → ((j : ℕ) → lo ≤ j → j < lo + n → is_open image (segment_at g j) ≡ false)
    → open_segments (map (segment_in g image) (range_with_len lo n)) ≡ []
none_opened g image lo zero closed = refl
none_opened g image lo (suc n) closed =
    let first = closed lo (omega arith) (omega arith) in
    let rest = none_opened g image (lo + 1) n (λ j low high. closed j (omega (arith, low)) (omega (arith, high))) in
    rw first rest

abbrev no_clip : ℕ → Option Span
no_clip id = None

-- a freshly formatted image reads as the empty recording, in its version
pub reading-fresh : FreshImagesAreEmpty
reading-fresh h image is good f =
    let g = h.geometry in
    let whole : image ≡ super_bytes h ++ drop 512 image = sym (take-append-drop 512 image) ∙ ap (λ (bs : List ℕ). bs ++ drop 512 image) f.superblock in
    let segments = none_opened g image 0 g.segments (λ j low high. f.segments j (omega (arith, high))) in
    let clips : map (clip_in image) (range_with_len 0 64) ≡ replicate 64 None = map_range (clip_in image) no_clip 0 64
    (λ id low high. closed id (f.clips id (omega (arith, high)))) in
    record {
      held = stages-reading g empty image (record {
        geometry = ap geometry_in whole ∙ geometry_in-super_bytes h (drop 512 image) good;
        size = f.size;
        recording = λ i. recording_or_damage g (by_block (segments i)) (clips i);
      });
      version_is = ap version_in whole ∙ version_in-super_bytes h (drop 512 image) is;
    }
  where
    closed : (id : ℕ) → is_open image (clip_at id) ≡ false → clip_in image id ≡ None
    closed id e = rw e refl

-- ---- parts that were written

-- a byte of a part of the image
pub byte-slice : (at n i : ℕ) (image : List ℕ) → i < n → get_or image (at + i) 0 ≡ get_or
    (slice_range image at (at + n)) i 0
byte-slice at n i image l =
    let size : at + n - at ≡ n = omega arith in
    sym (get_or-drop at image i 0) ∙ sym (get_or-take (at + n - at) (drop at image) i 0 (omega (arith, size)))

-- ---- a part by itself

-- the number at a place of a part
number-slice : (at n i m : ℕ) (image : List ℕ) → i + m ≤ n
    → little_from i m (slice_range image at (at + n)) ≡ little_from (at + i) m image
number-slice at n i m image h = sym (little_from-slice at (at + n) i m image (omega (arith, h)))

open-slice : (at n i : ℕ) (image : List ℕ) → i < n → is_open (slice_range image at (at + n)) i ≡ is_open image (at + i)
open-slice at n i image l = ap (λ (x : ℕ). eqb x 0xA5) (sym (byte-slice at n i image l))

bytes-slice : (at n : ℕ) (image : List ℕ) (i : ℕ) (bs : List ℕ) → i + length bs ≤ n
    → has_bytes (slice_range image at (at + n)) i bs ≡ has_bytes image (at + i) bs
bytes-slice at n image i [] h = refl
bytes-slice at n image i (b ∷ bs) h =
    let first : eqb (get_or (slice_range image at (at + n)) i 0) b ≡ eqb (get_or image (at + i) 0) b =
    ap (λ (x : ℕ). eqb x b) (sym (byte-slice at n i image (omega (arith, h)))) in
    let place : at + (i + 1) ≡ at + i + 1 = omega arith in
    let rest = bytes-slice at n image (i + 1) bs (omega (arith, h)) ∙ ap (λ (k : ℕ). has_bytes image k bs) place in
    λ j. first j && rest j

-- the superblock, cut out of its image, says what it says in it
geometry_in-slice : (image : List ℕ) → 512 ≤ length image → geometry_in (slice_range image 0 512) ≡ geometry_in image
geometry_in-slice image room = λ i. cond (whole i && gate i && name i) (geometry i) (Err NotFormatted)
  where
    cut : List ℕ
    cut = slice_range image 0 512

    whole : leb 512 (length cut) ≡ leb 512 (length image)
    whole = at_most_test 512 (length cut) (omega (arith, length-take 512 (drop 0 image), length-drop 0 image, room))
        ∙ sym (at_most_test 512 (length image) room)

    gate : is_open cut 0 ≡ is_open image 0
    gate = open-slice 0 512 0 image (omega arith)

    name : has_bytes cut 1 magic ≡ has_bytes image 1 magic
    name = bytes-slice 0 512 image 1 magic (omega arith)

    format : format_at cut 20 ≡ format_at image 20
    format = ap format_named (ap (take 4) (drop-take 20 492 image) ∙ take-take 4 492 (drop 20 image) (omega arith))

    field : (at : ℕ) → at + 4 ≤ 512 → little_from at 4 cut ≡ little_from at 4 image
    field at h =
        let here : 0 + at ≡ at = omega arith in
        number-slice 0 512 at 4 image h ∙ ap (λ (k : ℕ). little_from k 4 image) here

    zeros : slice_range cut 45 512 ≡ slice_range image 45 512
    zeros = ap (take 467) (drop-take 45 467 image) ∙ take-take 467 467 (drop 45 image) (omega arith)

    of_format : (o : Option PixelFormat) → checked_geometry cut o ≡ checked_geometry image o
    of_format None = refl
    of_format (Some f) =
        let fields : geometry_fields cut f ≡ geometry_fields image f =
        λ i. record {
          width = field 12 (omega arith) i;
          height = field 16 (omega arith) i;
          format = f;
          rate_num =
              field 24 (omega arith) i;
          rate_den = field 28 (omega arith) i;
          segments = field 32 (omega arith) i;
          slots = field 36 (omega arith) i;
        } in
        let mark = field 8 (omega arith) in
        let size = field 40 (omega arith) in
        λ i. cond (eqb (mark i) 1 && is_good (fields i) && eqb (size i) (frame_bytes (fields i)) && list_all
        (λ x. eqb x 0) (zeros i)) (Ok (fields i)) (Err (Damaged Superblock))

    geometry : checked_geometry cut (format_at cut 20) ≡ checked_geometry image (format_at image 20)
    geometry = ap (λ (o : Option PixelFormat). checked_geometry cut o) format ∙ of_format (format_at image 20)

pub super_in-slice : (image : List ℕ) → 512 ≤ length image → super_in (slice_range image 0 512) ≡ super_in image
super_in-slice image room =
    let gate = open-slice 0 512 44 image (omega arith) in
    let geometry = geometry_in-slice image room in
    λ i. with_version (cond (gate i) 2 1) (geometry i)

-- the header of a segment, cut out of its image, says what it says in it
pub header_at-slice : (g : Geometry) (image : List ℕ) (at : ℕ) → g.slots ≤ 256
    → header_at g (slice_range image at (at + 512)) 0 ≡ header_at g image at
header_at-slice g image at few =
    let gate : is_open (slice_range image at (at + 512)) 0 ≡ is_open image at =
    open-slice at 512 0 image (omega arith) ∙ ap (λ (k : ℕ). is_open image k) (omega arith) in
    let block = number-slice at 512 8 8 image (omega arith) in
    let frames : open_gates g.slots (slice_range image at (at + 512)) 256 ≡ open_gates g.slots image (at + 256) =
    prefix_range (λ i. is_open (slice_range image at (at + 512)) (256 + i)) (λ i. is_open image (at + 256 + i)) 0 g.slots (λ i low high.
    open-slice at 512 (256 + i) image (omega (arith, few, high)) ∙ ap (λ (k : ℕ). is_open image k) (omega arith)) in
    λ i. cond (gate i) (Some (record { block = block i; frames = frames i })) None

-- a clip entry, cut out of its image, holds what it holds in it
pub entry_at-slice : (version : ℕ) (image : List ℕ) (at : ℕ)
    → entry_at version (slice_range image at (at + 32)) 0 ≡ entry_at version image at
entry_at-slice version image at = moved_entry version 0 at (slice_range image at (at + 32)) image (λ k l.
    let here : 0 + k ≡ k = omega arith in
    ap (λ (x : ℕ). get_or (slice_range image at (at + 32)) x 0) here ∙ sym (byte-slice at 32 k image l))

-- ---- written by itself

written_slot : (number : ℕ) (p : Picture) → FitsSlot number p → slot_head (length p.bytes) number
    (slot_in (length p.bytes) (slot_bytes number p) 0) ≡ Ok (head number p)
written_slot number p f =
    let whole : slice_range (slot_bytes number p) 0 (0 + 32 + length p.bytes) ≡ slot_bytes number p =
    take_all (0 + 32 + length p.bytes - 0) (slot_bytes number p) (omega arith) in
    let is = slot_in-slot_bytes (length p.bytes) 0 number p (slot_bytes number p) f refl whole in
    let first = equal_test number number refl in
    let second = equal_test (length p.bytes) (length p.bytes) refl in
    ap (slot_head (length p.bytes) number) is ∙ (λ i. cond (first i && second i) (Ok (head number p)) (Err SlotHead))

-- an entry that was written holds its clip
pub written-entry : (version : ℕ) (s : Span) → FitsEntry version s → entry_at version (entry_bytes s) 0 ≡ Some s
written-entry version s f =
    let from = little_number-reads_back 8 s.from [] f.from in
    let to = little_number-reads_back 8 s.to [] f.to in
    let tag = tagged (eqb version 2) (eqb s.tag 0) refl f.placed in
    λ i. Some (record { from = from i; to = to i; tag = tag i })
  where
    tagged : (t u : Bool) → eqb s.tag 0 ≡ u → (t || u) ≡ true → cond t (little_from 24 8 (entry_bytes s)) 0 ≡ s.tag
    tagged true u is e = little_number-reads_back 8 s.tag [] f.tag
    tagged false true is e = sym (equal s.tag 0 is)
    tagged false false is e = absurd cc

-- what was written is read again
pub written : WrittenIsRead
written = record {
  slot = written_slot;
  superblock = λ h is good.
      let geometry = geometry_in-super_bytes h [] good in
      let version_is = version_in-super_bytes h [] is in
      ap super_in (sym (append-nil (super_bytes h))) ∙ (λ i. with_version (version_is i) (geometry i));
  header = λ g b good fits. header g b (limits g good).slots.0 fits;
  entry = written-entry;
}
  where
    header : (g : Geometry) (b : ℕ) → 1 ≤ g.slots → b < 2 ^ 64 → header_at g (header_bytes b) 0 ≡ Some (record { block = b; frames = 0 })
    header g b some fits =
        let block = little_number-reads_back 8 b [] fits in
        let frames = open_gates-are g.slots 0 256 (header_bytes b) (λ i l. absurd (omega (arith, l))) (omega arith) (inr refl) in
        λ i. Some (record { block = block i; frames = frames i })
