-- A part of an image depends on the part's own bytes alone.
use Rattle.std.proofs.Common.{◌≡◌, ℕ, zero, suc, ◌+◌, ◌-◌, ◌*◌, ◌≤◌, ◌<◌, Bool, true, false, cond, ◌&&◌, eqb, leb, Option, Some, None, Ok, Err, List, [], ◌∷◌, length, get_or, take, drop, map, refl, sym, ap, ◌∙◌, arith}
use Rattle.std.proofs.Math.Nat.{mul-le-mul_right, add-mul}
use Rattle.std.proofs.lemmas.List.{length-drop, length-take, get_or-take, get_or-drop, ext_get_or}
use Rattle.std.specs.Prelude.{slice_range}
use Rattle.std.specs.List.{prefix_len, range_with_len, list_all}
use Rattle.byteorder.specs.Endian.{little_from}
use Rattle.loop_record.specs.declared.damage.Damage.TheVariants.{Superblock}
use Rattle.loop_record.specs.declared.damage.LayoutFault.TheVariants.{NotFormatted, Damaged}
use Rattle.loop_record.specs.declared.geometry.Geometry.{Geometry}
use Rattle.loop_record.specs.declared.geometry.PixelFormat.{PixelFormat}
use Rattle.loop_record.specs.Geometry.{format_named, frame_bytes, is_good, slot_size, segment_size, segment_at, gate_at, slot_at, clip_at}
use Rattle.loop_record.specs.Layout.{magic, is_open, has_bytes, slot_in, whole_frames, segment_in, entry_at, clip_in, geometry_in, version_in, format_at, geometry_fields, checked_geometry}
use Rattle.loop_record.proofs.Fields.{moved_number}
use Rattle.loop_record.proofs.Names.{tag_at, entry_fields}

-- two images of one length have the same bytes from one place up to another
pub record SameWithin (from to : ℕ) (a b : List ℕ) : Type 0 where
  pub size : length a ≡ length b
  pub bytes : (k : ℕ) → from ≤ k → k < to → get_or a k 0 ≡ get_or b k 0

pub SameWithin-part : (from to low high : ℕ) (a b : List ℕ) → SameWithin from to a b → from ≤ low → high ≤ to
    → SameWithin low high a b
SameWithin-part from to low high a b s p q = record { size = s.size; bytes = λ k l h. s.bytes k (omega arith) (omega arith) }

pub same_open : (a b : List ℕ) (at : ℕ) → SameWithin at (at + 1) a b → is_open a at ≡ is_open b at
same_open a b at s = ap (λ (x : ℕ). eqb x 0xA5) (s.bytes at (omega arith) (omega arith))

pub same_number : (n at : ℕ) (a b : List ℕ) → SameWithin at (at + n) a b → little_from at n a ≡ little_from at n b
same_number zero at a b s = refl
same_number (suc n) at a b s =
    let first : get_or a at 0 ≡ get_or b at 0 = s.bytes at (omega arith) (omega arith) in
    let rest = same_number n (suc at) a b (SameWithin-part at (at + suc n) (suc at) (suc at + n) a b s (omega arith) (omega arith)) in
    rw (first, rest) refl

pub same_bytes : (bs : List ℕ) (at : ℕ) (a b : List ℕ) → SameWithin at (at + length bs) a b
    → has_bytes a at bs ≡ has_bytes b at bs
same_bytes [] at a b s = refl
same_bytes (x ∷ bs) at a b s =
    let first : get_or a at 0 ≡ get_or b at 0 = s.bytes at (omega arith) (omega arith) in
    let rest = same_bytes bs (at + 1) a b (SameWithin-part at (at + suc (length bs)) (at + 1) (at + 1 + length bs) a b s (omega arith) (omega arith)) in
    rw (first, rest) refl

pub same_slice : (from to : ℕ) (a b : List ℕ) → SameWithin from to a b → slice_range a from to ≡ slice_range b from to
same_slice from to a b s =
    let size : length (take (to - from) (drop from a)) ≡ length (take (to - from) (drop from b)) =
    omega (
      arith,
      length-take (to - from) (drop from a),
      length-take (to - from) (drop from b),
      length-drop from a,
      length-drop from b,
      s.size,
    ) in
    ext_get_or 0 (take (to - from) (drop from a)) (take (to - from) (drop from b)) size (λ i h.
    let low : i < to - from = omega (arith, length-take (to - from) (drop from a)) in
    get_or-take (to - from) (drop from a) i 0 low ∙ get_or-drop from a i 0 ∙ s.bytes (from + i) (omega arith) (omega arith)
    ∙ sym (get_or-drop from b i 0) ∙ sym (get_or-take (to - from) (drop from b) i 0 low))

-- ---- slots and segments

pub same_slot : (n at : ℕ) (a b : List ℕ) → SameWithin at (at + 32 + n) a b → slot_in n a at ≡ slot_in n b at
same_slot n at a b s =
    let part : (low high : ℕ) → at ≤ low → high ≤ at + 32 + n → SameWithin low high a b = λ low high. SameWithin-part at (at + 32 + n) low high a b s in
    let number = same_number 8 at a b (part at (at + 8) (omega arith) (omega arith)) in
    let sequence = same_number 4 (at + 8) a b (part (at + 8) (at + 8 + 4) (omega arith) (omega arith)) in
    let flags = same_number 4 (at + 12) a b (part (at + 12) (at + 12 + 4) (omega arith) (omega arith)) in
    let timestamp = same_number 8 (at + 16) a b (part (at + 16) (at + 16 + 8) (omega arith) (omega arith)) in
    let size = same_number 4 (at + 24) a b (part (at + 24) (at + 24 + 4) (omega arith) (omega arith)) in
    let bytes = same_slice (at + 32) (at + 32 + n) a b (part (at + 32) (at + 32 + n) (omega arith) (omega arith)) in
    λ i. record { number = number i; size = size i; picture = record { sequence = sequence i; flags = flags i; timestamp = timestamp i; bytes = bytes i } }

-- ---- lists made over a range

pub prefix_range : (p q : ℕ → Bool) (lo n : ℕ) → ((i : ℕ) → lo ≤ i → i < lo + n → p i ≡ q i)
    → prefix_len p (range_with_len lo n) ≡ prefix_len q (range_with_len lo n)
prefix_range p q lo zero same = refl
prefix_range p q lo (suc n) same =
    let first : p lo ≡ q lo = same lo (omega arith) (omega arith) in
    let rest = prefix_range p q (lo + 1) n (λ i l h. same i (omega arith) (omega arith)) in
    rw (first, rest) refl

pub prefix_range-le : (p : ℕ → Bool) (lo n : ℕ) → prefix_len p (range_with_len lo n) ≤ n
prefix_range-le p lo zero = omega arith
prefix_range-le p lo (suc n) = go (p lo) (prefix_len p (range_with_len (lo + 1) n)) (prefix_range-le p (lo + 1) n)
  where
    go : (b : Bool) (k : ℕ) → k ≤ n → cond b (1 + k) 0 ≤ suc n
    go true k h = omega arith
    go false k h = omega arith

pub map_range : {X : Type 0} (f h : ℕ → X) (lo n : ℕ) → ((i : ℕ) → lo ≤ i → i < lo + n → f i ≡ h i)
    → map f (range_with_len lo n) ≡ map h (range_with_len lo n)
map_range f h lo zero same = refl
map_range f h lo (suc n) same =
    let first : f lo ≡ h lo = same lo (omega arith) (omega arith) in
    let rest = map_range f h (lo + 1) n (λ i l k. same i (omega arith) (omega arith)) in
    rw (first, rest) refl

-- ---- segments

pub same_whole_frames : (g : Geometry) (a b : List ℕ) (j : ℕ) → g.slots ≤ 256
    → SameWithin (segment_at g j) (segment_at g j + 512) a b → whole_frames g a j ≡ whole_frames g b j
same_whole_frames g a b j few s =
    prefix_range (λ i. is_open a (gate_at g j i)) (λ i. is_open b (gate_at g j i)) 0 g.slots (λ i l h.
    same_open a b (gate_at g j i) (SameWithin-part (segment_at g j) (segment_at g j + 512) (gate_at g j i)
    (gate_at g j i + 1) a b s (omega arith) (omega arith)))

-- slot i ends within its segment
pub slot_within : (g : Geometry) (j i : ℕ) → i < g.slots → slot_at g j i + slot_size g ≤ segment_at g j + segment_size g
slot_within g j i h =
    let e : (i + 1) * slot_size g ≤ g.slots * slot_size g = mul-le-mul_right (slot_size g) (omega arith) in
    let k : (i + 1) * slot_size g ≡ i * slot_size g + slot_size g = omega (arith, add-mul i 1 (slot_size g)) in
    omega (arith, e, k)

pub same_segment : (g : Geometry) (a b : List ℕ) (j : ℕ) → g.slots ≤ 256
    → SameWithin (segment_at g j) (segment_at g j + segment_size g) a b → segment_in g a j ≡ segment_in g b j
same_segment g a b j few s =
    let at = segment_at g j in
    let part : (low high : ℕ) → at ≤ low → high ≤ at + segment_size g → SameWithin low high a b =
    λ low high. SameWithin-part at (at + segment_size g) low high a b s in
    let gate = same_open a b at (part at (at + 1) (omega arith) (omega arith)) in
    let block = same_number 8 (at + 8) a b (part (at + 8) (at + 8 + 8) (omega arith) (omega arith)) in
    let whole = same_whole_frames g a b j few (part at (at + 512) (omega arith) (omega arith)) in
    let slots : map (λ i. slot_in (frame_bytes g) a (slot_at g j i)) (range_with_len 0 (whole_frames g b j)) ≡ map
    (λ i. slot_in (frame_bytes g) b (slot_at g j i)) (range_with_len 0 (whole_frames g b j)) =
    map_range (λ i. slot_in (frame_bytes g) a (slot_at g j i)) (λ i. slot_in (frame_bytes g) b (slot_at g j i)) 0 (whole_frames g b j) (λ i l h.
    let few' = prefix_range-le (λ i. is_open b (gate_at g j i)) 0 g.slots in
    let end = slot_within g j i (omega arith) in
    same_slot (frame_bytes g) (slot_at g j i) a b (part (slot_at g j i) (slot_at g j i + 32 + frame_bytes g) (omega arith) (omega (arith, end)))) in
    rw (gate, block, whole, slots) refl

-- ---- clip entries and the superblock

-- an entry whose gate and numbers are at another place, and whose tag is read the same if it is open, holds the same clip
pub moved_clip : (v w p q : ℕ) (a b : List ℕ) → ((k : ℕ) → k < 24 → get_or a (p + k) 0 ≡ get_or b (q + k) 0)
    → (is_open b q ≡ true → tag_at v a (p + 24) ≡ tag_at w b (q + 24)) → entry_at v a p ≡ entry_at w b q
moved_clip v w p q a b same tags = go (is_open b q) refl
  where
    gate : is_open a p ≡ is_open b q
    gate =
        let left : p ≡ p + 0 = omega arith in
        let right : q + 0 ≡ q = omega arith in
        ap (λ (k : ℕ). is_open a k) left ∙ ap (λ (x : ℕ). eqb x 0xA5) (same 0 (omega arith)) ∙ ap (λ (k : ℕ). is_open b k) right

    number : (i : ℕ) → i + 8 ≤ 24 → little_from (p + i) 8 a ≡ little_from (q + i) 8 b
    number i h = moved_number 8 (p + i) (q + i) a b (λ k l.
        let left : p + i + k ≡ p + (i + k) = omega arith in
        let right : q + (i + k) ≡ q + i + k = omega arith in
        ap (λ (x : ℕ). get_or a x 0) left ∙ same (i + k) (omega (arith, h, l)) ∙ ap (λ (x : ℕ). get_or b x 0) right)

    go : (t : Bool) → is_open b q ≡ t → entry_at v a p ≡ entry_at w b q
    go true e =
        let from = number 8 (omega arith) in
        let to = number 16 (omega arith) in
        let tag = tags e in
        λ i. cond (gate i) (Some (record { from = from i; to = to i; tag = tag i })) None
    go false e =
        let closed = gate ∙ e in
        (λ i. cond (closed i) (Some (entry_fields v a p)) None) ∙ sym (λ i. cond (e i) (Some (entry_fields w b q)) None)

-- the 32 bytes of an entry hold the same clip wherever they are
pub moved_entry : (version p q : ℕ) (a b : List ℕ) → ((k : ℕ) → k < 32 → get_or a (p + k) 0 ≡ get_or b (q + k) 0)
    → entry_at version a p ≡ entry_at version b q
moved_entry version p q a b same =
    moved_clip version version p q a b (λ k l. same k (omega (arith, l))) (λ e.
    let tag = moved_number 8 (p + 24) (q + 24) a b (λ k l.
    let left : p + 24 + k ≡ p + (24 + k) = omega arith in
    let right : q + (24 + k) ≡ q + 24 + k = omega arith in
    ap (λ (x : ℕ). get_or a x 0) left ∙ same (24 + k) (omega (arith, l)) ∙ ap (λ (x : ℕ). get_or b x 0) right) in
    λ i. cond (eqb version 2) (tag i) 0)

pub same_version : (a b : List ℕ) → SameWithin 44 45 a b → version_in a ≡ version_in b
same_version a b s = ap (λ (t : Bool). cond t 2 1) (same_open a b 44 s)

pub same_clip : (a b : List ℕ) (id : ℕ) → SameWithin 44 45 a b → SameWithin (clip_at id) (clip_at id + 32) a b
    → clip_in a id ≡ clip_in b id
same_clip a b id v s =
    ap (λ (n : ℕ). entry_at n a (clip_at id)) (same_version a b v)
    ∙ moved_entry (version_in b) (clip_at id) (clip_at id) a b (λ k l. s.bytes (clip_at id + k) (omega arith) (omega (arith, l)))

same_format : (a b : List ℕ) (at : ℕ) → SameWithin at (at + 4) a b → format_at a at ≡ format_at b at
same_format a b at s = ap format_named (same_slice at (at + 4) a b s)

same_field : (a b : List ℕ) (at : ℕ) → SameWithin 0 44 a b → at + 4 ≤ 44 → little_from at 4 a ≡ little_from at 4 b
same_field a b at s h = same_number 4 at a b (SameWithin-part 0 44 at (at + 4) a b s (omega arith) h)

same_fields : (a b : List ℕ) (f : PixelFormat) → SameWithin 0 44 a b → geometry_fields a f ≡ geometry_fields b f
same_fields a b f s =
    let field : (at : ℕ) → at + 4 ≤ 44 → little_from at 4 a ≡ little_from at 4 b = λ at h. same_field a b at s h in
    λ i. record {
      width = field 12 (omega arith) i;
      height = field 16 (omega arith) i;
      format = f;
      rate_num =
          field 24 (omega arith) i;
      rate_den = field 28 (omega arith) i;
      segments = field 32 (omega arith) i;
      slots =
          field 36 (omega arith) i;
    }

same_checked_geometry : (a b : List ℕ) (o : Option PixelFormat) → SameWithin 0 44 a b → SameWithin 45 512 a b
    → checked_geometry a o ≡ checked_geometry b o
same_checked_geometry a b None s rest = refl
same_checked_geometry a b (Some f) s rest =
    let fields = same_fields a b f s in
    let mark = same_field a b 8 s (omega arith) in
    let size = same_field a b 40 s (omega arith) in
    let zeros = same_slice 45 512 a b rest in
    λ i. cond (eqb (mark i) 1 && is_good (fields i) && eqb (size i) (frame_bytes (fields i)) && list_all
    (λ x. eqb x 0) (zeros i)) (Ok (fields i)) (Err (Damaged Superblock))

-- the geometry doesn't depend on the version's gate
pub same_geometry : (a b : List ℕ) → SameWithin 0 44 a b → SameWithin 45 512 a b → geometry_in a ≡ geometry_in b
same_geometry a b s rest =
    let gate = same_open a b 0 (SameWithin-part 0 44 0 1 a b s (omega arith) (omega arith)) in
    let name = same_bytes magic 1 a b (SameWithin-part 0 44 1 8 a b s (omega arith) (omega arith)) in
    let format = same_format a b 20 (SameWithin-part 0 44 20 24 a b s (omega arith) (omega arith)) in
    let geometry = ap (λ (o : Option PixelFormat). checked_geometry a o) format ∙ same_checked_geometry a b (format_at b 20) s rest in
    λ i. cond (leb 512 (s.size i) && gate i && name i) (geometry i) (Err NotFormatted)
