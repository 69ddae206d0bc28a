-- The slots of a group: heads, each with the bytes that follow it.
use Rattle.std.proofs.Common.{◌≡◌, ℕ, ◌+◌, ◌*◌, ◌<◌, List, [], ◌∷◌, ◌++◌, length, take, get_or, set, refl, sym, ap, ◌∙◌, arith}
use Rattle.std.proofs.lemmas.List.{append-nil, append_assoc, length-set, length-take-le, take_more, take_more_set}
use Rattle.std.proofs.lemmas.List.Concat.{flat_map-append}
use Rattle.std.specs.Borrow.{Bor}
use Rattle.std.specs.List.{flat_map, zip}
use Rattle.loop_disk.specs.Rows.{joined}
use Rattle.loop_record.specs.Laws.{FitsSlot}
use Rattle.loop_record.specs.Layout.{slot_bytes}
use Rattle.loop_record.specs.Recording.{Picture}
use Rattle.loop_ring.specs.declared.group.SlotStamp.{SlotStamp}
use Rattle.loop_ring.specs.Groups.{IsGrouped, first_slots}
use Rattle.loop_ring.proofs.SlotStages.{Gains}

-- two lists side by side, each with one element more
zip_more : {X Y : Type 0} (xs : List X) (ys : List Y) (x : X) (y : Y) → length xs ≡ length ys
    → zip (xs ++ x ∷ []) (ys ++ y ∷ []) ≡ zip xs ys ++ (x, y) ∷ []
zip_more [] [] x y same = refl
zip_more [] (b ∷ ys) x y same = absurd (omega (arith, same))
zip_more (a ∷ xs) [] x y same = absurd (omega (arith, same))
zip_more {X} {Y} (a ∷ xs) (b ∷ ys) x y same = ap (λ (l : List (X × Y)). (a, b) ∷ l) (zip_more xs ys x y (omega (arith, same)))

-- the bytes of a slot
abbrev slot : List ℕ × Bor (List ℕ) → List ℕ
slot s = s.0 ++ s.1.now

-- one slot more
joined_more : (heads : List (List ℕ)) (bodies : List (Bor (List ℕ))) (head : List ℕ) (body : Bor (List ℕ))
    → length heads ≡ length bodies
    → flat_map slot (zip (heads ++ head ∷ []) (bodies ++ body ∷ [])) ≡ flat_map slot (zip heads bodies) ++ (head ++ body.now)
joined_more heads bodies head body same =
    ap (flat_map slot) (zip_more heads bodies head body same)
    ∙ flat_map-append slot (zip heads bodies) ((head, body) ∷ [])
    ∙ (λ i. flat_map slot (zip heads bodies) ++ append-nil (head ++ body.now) i)

-- the slots with that of the next place
pub slots_on : (count : ℕ) (heads : List (List ℕ)) (bodies : List (Bor (List ℕ))) (d : Bor (List ℕ)) → count < length heads
    → count < length bodies
    → first_slots (count + 1) heads bodies
    ≡ first_slots count heads bodies ++ (get_or heads count [] ++ (get_or bodies count d).now)
slots_on count heads bodies d l m =
    (λ i. flat_map slot (zip (take_more heads count [] l i) (take_more bodies count d m i)))
    ∙ joined_more (take count heads) (take count bodies) (get_or heads count []) (get_or bodies count d)
    (omega (arith, length-take-le count heads (omega (arith, l)), length-take-le count bodies (omega (arith, m))))

-- the slots with one put into the next place
pub slots_more : (count : ℕ) (heads : List (List ℕ)) (bodies : List (Bor (List ℕ))) (head : List ℕ) (body : Bor (List ℕ))
    → count < length heads → count < length bodies
    → first_slots (count + 1) (set heads count head) (set bodies count body)
    ≡ first_slots count heads bodies ++ (head ++ body.now)
slots_more count heads bodies head body l m =
    (λ i. flat_map slot (zip (take_more_set heads count head l i) (take_more_set bodies count body m i)))
    ∙ joined_more (take count heads) (take count bodies) head body
    (omega (arith, length-take-le count heads (omega (arith, l)), length-take-le count bodies (omega (arith, m))))

-- the rows with those of the next slot
pub rows_more : (p : ℕ) (rows : List (Bor (List ℕ))) (heads : List (List ℕ)) (bodies : List (Bor (List ℕ)))
    (a d : Bor (List ℕ)) → p < 64 → length rows ≡ 128 → length heads ≡ 64 → length bodies ≡ 64 → a.now ≡ get_or heads p []
    → joined (take (2 * p) rows) ≡ first_slots p heads bodies
    → joined (take (2 * (p + 1)) (set (set rows (2 * p) a) (2 * p + 1) (get_or bodies p d)))
    ≡ first_slots (p + 1) heads bodies
rows_more p rows heads bodies a d low rows_long heads_long bodies_long is so_far =
    let b = get_or bodies p d in
    let one = set rows (2 * p) a in
    let next : 2 * (p + 1) ≡ 2 * p + 1 + 1 = omega arith in
    ap (λ (k : ℕ). joined (take k (set one (2 * p + 1) b))) next
    ∙ ap joined (take_more_set one (2 * p + 1) b (omega (arith, length-set rows (2 * p) a, rows_long, low)))
    ∙ flat_map-append (λ row. row.now) (take (2 * p + 1) one) (b ∷ [])
    ∙ (λ i. joined (take_more_set rows (2 * p) a (omega (arith, rows_long, low)) i) ++ append-nil b.now i)
    ∙ (λ i. flat_map-append (λ row. row.now) (take (2 * p) rows) (a ∷ []) i ++ b.now)
    ∙ (λ i. so_far i ++ append-nil a.now i ++ b.now)
    ∙ (λ i. first_slots p heads bodies ++ is i ++ b.now)
    ∙ append_assoc (first_slots p heads bodies) (get_or heads p []) b.now
    ∙ sym (slots_on p heads bodies d (omega (arith, heads_long, low)) (omega (arith, bodies_long, low)))

-- a group with one frame more
pub gained : (n limit first count : ℕ) (heads : List (List ℕ)) (bodies : List (Bor (List ℕ))) (stamps : List SlotStamp)
    (head : List ℕ) (body : Bor (List ℕ)) (p : Picture) → IsGrouped n limit first count heads bodies stamps
    → count < limit → length heads ≡ 64 → length bodies ≡ 64 → FitsSlot (first + count) p → length p.bytes ≡ n
    → head ++ body.now ≡ slot_bytes (first + count) p
    → Gains n first count (first_slots count heads bodies)
    (first_slots (count + 1) (set heads count head) (set bodies count body)) p
gained n limit first count heads bodies stamps head body p kept l heads_long bodies_long fits size is = record {
  fits = fits;
  size = size;
  long = kept.long;
  slots = kept.slots;
  behind =
      slots_more count heads bodies head body (omega (arith, l, kept.most, heads_long)) (omega (arith, l, kept.most, bodies_long))
      ∙ ap (λ (b : List ℕ). first_slots count heads bodies ++ b) is;
}
