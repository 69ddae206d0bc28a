-- The slots of a group's frames, in bytes.
use Rattle.std.proofs.Common.{◌≡◌, ℕ, zero, suc, ◌+◌, ◌-◌, ◌*◌, ◌<◌, ◌≤◌, List, [], ◌∷◌, ◌++◌, length, take, get_or, map, refl, sym, ap, ◌∙◌, arith}
use Rattle.std.proofs.Math.Nat.{mul-le-mul_right, add-mul}
use Rattle.std.proofs.lemmas.List.{take_all, length-append, length-map, map-append, get_or_append_left, get_or-append-add}
use Rattle.std.proofs.lemmas.List.FromFn.{take-map-range_with_len, map-range_with_len_more, length-range_with_len}
use Rattle.std.specs.Prelude.{slice_range}
use Rattle.std.specs.List.{range_with_len}
use Rattle.loop_record.specs.Laws.{FitsSlot}
use Rattle.loop_record.specs.Layout.{Slot, slot_in, slot_bytes}
use Rattle.loop_record.specs.Recording.{Picture}
use Rattle.loop_record.proofs.OwnBytes.{map_range}
use Rattle.loop_record.proofs.ReadBack.{slot_in-slot_bytes}
use Rattle.std.specs.Borrow.{Bor}
use Rattle.loop_ring.specs.declared.group.SlotStamp.{SlotStamp}
use Rattle.loop_ring.specs.Groups.{IsGrouped, first_slots, frames_in, slot_stamp}
use Rattle.loop_ring.specs.Writes.{slots_in, slots_of}
use Rattle.loop_ring.proofs.Bytes.{moved_slot}

pub take-slots_of : (n k number : ℕ) (ps : List Picture) → take k (slots_of n number ps) ≡ slots_of n number (take k ps)
take-slots_of n zero number ps = refl
take-slots_of n (suc k) number [] = refl
take-slots_of n (suc k) number (p ∷ ps) = ap (λ (slots : List Slot). record { number = number; size = n; picture = p }
    ∷ slots) (take-slots_of n k (number + 1) ps)

-- bytes that hold the slots of frames hold those of a prefix of them
pub slots-beginning : (n number k count : ℕ) (bytes : List ℕ) (ps : List Picture) → k ≤ count
    → slots_in n bytes count ≡ slots_of n number ps → slots_in n bytes k ≡ slots_of n number (take k ps)
slots-beginning n number k count bytes ps le are =
    sym (take-map-range_with_len (λ i. slot_in n bytes (i * (32 + n))) 0 count k le)
    ∙ ap (λ (slots : List Slot). take k slots) are ∙ take-slots_of n k number ps

-- ---- one slot

slot-length : (number : ℕ) (p : Picture) → length (slot_bytes number p) ≡ 32 + length p.bytes
slot-length number p = omega arith

-- bytes that are the slot of a frame hold that slot
pub slot_staged : (n number : ℕ) (p : Picture) (out : List ℕ) → FitsSlot number p → length p.bytes ≡ n
    → length out ≡ 32 + n → out ≡ slot_bytes number p → slots_in n out 1 ≡ slots_of n number (p ∷ [])
slot_staged n number p out fits size long is =
    let first : 0 * (32 + n) ≡ 0 = omega arith in
    let count : 0 + 32 + n - 0 ≡ 32 + n = omega arith in
    let whole : slice_range out 0 (0 + 32 + n) ≡ slot_bytes number p = ap (λ (k : ℕ). take k out) count ∙ take_all (32 + n) out (omega (arith, long)) ∙ is in
    let one = ap (slot_in n out) first ∙ slot_in-slot_bytes n 0 number p out fits size whole in
    λ i. one i ∷ []

-- slots end where the next one begins
slot_end : (n i k : ℕ) → i < k → i * (32 + n) + (32 + n) ≤ k * (32 + n)
slot_end n i k l =
    let le : (i + 1) * (32 + n) ≤ k * (32 + n) = mul-le-mul_right (32 + n) (omega (arith, l)) in
    let split : (i + 1) * (32 + n) ≡ i * (32 + n) + (32 + n) = omega (arith, add-mul i 1 (32 + n)) in
    omega (arith, le, split)

-- slots with another after them
pub slots-appended : (n i : ℕ) (before out : List ℕ) (s : Slot) → length before ≡ i * (32 + n) → length out ≡ 32 + n
    → slots_in n out 1 ≡ s ∷ [] → slots_in n (before ++ out) (i + 1) ≡ slots_in n before i ++ s ∷ []
slots-appended n i before out s size long is =
    let new = before ++ out in
    let all : length new ≡ i * (32 + n) + (32 + n) = omega (arith, length-append before out, size, long) in
    let front : map (λ k. slot_in n new (k * (32 + n))) (range_with_len 0 i) ≡ map (λ k. slot_in n before (k * (32 + n))) (range_with_len 0 i) =
    map_range (λ k. slot_in n new (k * (32 + n))) (λ k. slot_in n before (k * (32 + n))) 0 i (λ k low high.
    let end = slot_end n k i (omega (arith, high)) in
    moved_slot n (k * (32 + n)) (k * (32 + n)) new before (omega (arith, all, end)) (omega (arith, size, end))
    (λ x l. get_or_append_left before out 0 (k * (32 + n) + x) (omega (arith, l, end, size)))) in
    let first : 0 * (32 + n) ≡ 0 = omega arith in
    let there : slot_in n new (i * (32 + n)) ≡ slot_in n out (0 * (32 + n)) =
    moved_slot n (i * (32 + n)) (0 * (32 + n)) new out (omega (arith, all)) (omega (arith, long, first)) (λ k l.
    let at : i * (32 + n) + k ≡ length before + k = omega (arith, size) in
    let same : k ≡ 0 * (32 + n) + k = omega (arith, first) in
    ap (λ (x : ℕ). get_or new x 0) at ∙ get_or-append-add before out k 0 ∙ ap (λ (x : ℕ). get_or out x 0) same) in
    let head : slot_in n out (0 * (32 + n)) ≡ s = ap (λ (ss : List Slot). get_or ss 0 s) is in
    map-range_with_len_more (λ k. slot_in n new (k * (32 + n))) 0 i i (omega arith) ∙ (λ x. front x ++ (there ∙ head) x ∷ [])

-- ---- a group that gains a frame

slots_of-behind : (n number : ℕ) (ps qs : List Picture) → slots_of n number (ps ++ qs) ≡ slots_of n number ps
    ++ slots_of n (number + length ps) qs
slots_of-behind n number [] qs = let e : number ≡ number + 0 = omega arith in ap (λ (k : ℕ). slots_of n k qs) e
slots_of-behind n number (p ∷ ps) qs =
    let e : number + 1 + length ps ≡ number + length (p ∷ ps) = omega arith in
    ap (λ (ss : List Slot). record { number = number; size = n; picture = p } ∷ ss)
    (slots_of-behind n (number + 1) ps qs ∙ ap (λ (k : ℕ). slots_of n (number + 1) ps ++ slots_of n k qs) e)

pub frames-length : (n count : ℕ) (bytes : List ℕ) → length (frames_in n bytes count) ≡ count
frames-length n count bytes = length-map (slots_in n bytes count) (λ s. s.picture)
    ∙ length-map (range_with_len 0 count) (λ i. slot_in n bytes (i * (32 + n))) ∙ length-range_with_len 0 count

-- the slot of one more frame, after those of the group
pub record Gains (n first count : ℕ) (old new : List ℕ) (p : Picture) : Type 0 where
  pub fits : FitsSlot (first + count) p
  pub size : length p.bytes ≡ n
  pub long : length old ≡ count * (32 + n)
  pub slots : slots_in n old count ≡ slots_of n first (frames_in n old count)
  pub behind : new ≡ old ++ slot_bytes (first + count) p

gained-slots : (n first count : ℕ) (old new : List ℕ) (p : Picture) → Gains n first count old new p
    → slots_in n new (count + 1) ≡ slots_in n old count ++ record { number = first + count; size = n; picture = p } ∷ []
gained-slots n first count old new p gains =
    let out = slot_bytes (first + count) p in
    let long : length out ≡ 32 + n = slot-length (first + count) p ∙ (λ i. 32 + gains.size i) in
    let slot = slot_staged n (first + count) p out gains.fits gains.size long refl in
    ap (λ (b : List ℕ). slots_in n b (count + 1)) gains.behind ∙ slots-appended n count old out
    (record { number = first + count; size = n; picture = p }) gains.long long slot

pub gained-frames : (n first count : ℕ) (old new : List ℕ) (p : Picture) → Gains n first count old new p
    → frames_in n new (count + 1) ≡ frames_in n old count ++ p ∷ []
gained-frames n first count old new p gains =
    let s : Slot = record { number = first + count; size = n; picture = p } in
    ap (λ (ss : List Slot). map (λ t. t.picture) ss) (gained-slots n first count old new p gains) ∙ map-append (λ t. t.picture) (slots_in n old count) (s ∷ [])

pub gained-kept : (n limit first count : ℕ) (heads heads' : List (List ℕ)) (bodies bodies' : List (Bor (List ℕ)))
    (stamps stamps' : List SlotStamp) (p : Picture)
    → Gains n first count (first_slots count heads bodies) (first_slots (count + 1) heads' bodies') p
    → IsGrouped n limit first count heads bodies stamps → count < limit
    → length stamps' ≡ length stamps → take (count + 1) stamps' ≡ take count stamps ++ slot_stamp p ∷ []
    → IsGrouped n limit first (count + 1) heads' bodies' stamps'
gained-kept n limit first count heads heads' bodies bodies' stamps stamps' p gains kept l room more = record {
  few = omega (arith, l);
  most = kept.most;
  fits = kept.fits;
  long =
      let split : (count + 1) * (32 + n) ≡ count * (32 + n) + (32 + n) = omega (arith, add-mul count 1 (32 + n)) in
      omega (
        arith,
        split,
        ap (λ (b : List ℕ). length b) gains.behind,
        length-append old (slot_bytes (first + count) p),
        slot-length (first + count) p,
        gains.size,
        gains.long,
      );
  slots =
      let many : first + length (frames_in n old count) ≡ first + count = (λ i. first + frames-length n count old i) in
      gained-slots n first count old new p gains
      ∙ ap (λ (ss : List Slot). ss ++ record { number = first + count; size = n; picture = p } ∷ []) gains.slots
      ∙ (λ i. slots_of n first (frames_in n old count) ++ record { number = sym many i; size = n; picture = p } ∷ [])
      ∙ sym (slots_of-behind n first (frames_in n old count) (p ∷ []))
      ∙ ap (slots_of n first) (sym (gained-frames n first count old new p gains));
  places = room ∙ kept.places;
  stamps =
      ap (λ (ps : List Picture). map slot_stamp ps) (gained-frames n first count old new p gains)
      ∙ map-append slot_stamp (frames_in n old count) (p ∷ [])
      ∙ (λ i. kept.stamps i ++ slot_stamp p ∷ []) ∙ sym more;
}
  where
    old : List ℕ
    old = first_slots count heads bodies

    new : List ℕ
    new = first_slots (count + 1) heads' bodies'
