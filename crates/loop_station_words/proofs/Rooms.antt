-- How much of a store is free, and how many minutes fit into the most.
use Rattle.std.proofs.Common.{◌≡◌, ◌≤◌, ◌<◌, ◌+◌, ◌-◌, ◌*◌, ◌/◌, ◌^◌, ℕ, zero, suc, max, min, Bool, true, false, nat_le, nat_lt, List, [], ◌∷◌, Option, Some, None, refl, add-one, arith}
use Rattle.std.proofs.lemmas.Grind.{common_steps}
use Rattle.std.proofs.lemmas.Nat.{le-div}
use Rattle.loop_clips.specs.declared.clip.Clip.{Clip}
use Rattle.loop_record.specs.Geometry.{divided_up}
use Rattle.loop_station_words.specs.Rooms.{clip_meets, is_met, locked_below, lowest_in, lowest_met, nearer}

-- ---- how many minutes fit

below-next : (x m : ℕ) → 0 < m → x < m * (x / m) + m
below-next x m h = omega arith

six-more : (t n : ℕ) → 6 * (t + 1) * n ≡ 6 * n * t + 6 * n
six-more t n = grind (arith, common_steps)

more-come : (n d t : ℕ) → 1 ≤ n → 1 ≤ d → t ≡ 4194049 * d / (6 * n) → 4194050 ≤ (6 * (t + 1) * n + (d - 1)) / d
more-come n d t some rate is =
    let next : 4194049 * d < 6 * n * (4194049 * d / (6 * n)) + 6 * n = below-next (4194049 * d) (6 * n) (omega arith) in
    let that : 4194049 * d < 6 * n * t + 6 * n = rw is next in
    le-div 4194050 (6 * (t + 1) * n + (d - 1)) d rate (omega (arith, six-more t n, that))

pub none_more : (n d a b : ℕ) → 1 ≤ n → 1 ≤ d → a ≡ d → b ≡ max n 1
    → 4194049 < min (divided_up (6 * (4194049 * a / (6 * b) + 1) * n) (max d 1)) (2 ^ 64 - 1)
none_more n d a b some rate same large =
    let rate-is : max d 1 ≡ d = omega arith in
    let num-is : b ≡ n = omega arith in
    let more = more-come n d (4194049 * d / (6 * n)) some rate refl in
    rw (rate-is, num-is, same) (omega (arith, more))

-- ---- which blocks clips meet

-- a number lies before a block, if there is one
abbrev before : ℕ → Option ℕ → Bool
before k None = true
before k (Some b) = nat_lt k b

before-nearer : (k : ℕ) (o p : Option ℕ) → before k (nearer o p) ≡ true → (before k o ≡ true) × (before k p ≡ true)
before-nearer k None p h = (refl, h)
before-nearer k (Some a) None h = (h, refl)
before-nearer k (Some a) (Some b) h = grind (arith, common_steps)

unmet : (slots from k : ℕ) (c : Clip) → from ≤ k → before k (lowest_in slots from c) ≡ true → clip_meets slots k c ≡ false
unmet slots from k c h b = at (nat_le (max (c.from / slots) from) (c.to / slots)) refl where
  at : (t : Bool) → nat_le (max (c.from / slots) from) (c.to / slots) ≡ t → clip_meets slots k c ≡ false
  at true e = grind (arith, common_steps)
  at false e = grind (arith, common_steps)

none-before : (slots from k : ℕ) (clips : List Clip) → from ≤ k → before k (lowest_met slots from clips) ≡ true
    → is_met slots clips k ≡ false
none-before slots from k [] h b = refl
none-before slots from k (c ∷ cs) h b =
    let two = before-nearer k (lowest_in slots from c) (lowest_met slots from cs) b in
    let one : clip_meets slots k c ≡ false = unmet slots from k c h two.0 in
    let more : is_met slots cs k ≡ false = none-before slots from k cs h two.1 in
    grind (arith, common_steps)

met-in : (slots from b : ℕ) (c : Clip) → lowest_in slots from c ≡ Some b → (from ≤ b) × (clip_meets slots b c ≡ true)
met-in slots from b c i = at (nat_le (max (c.from / slots) from) (c.to / slots)) refl where
  at : (t : Bool) → nat_le (max (c.from / slots) from) (c.to / slots) ≡ t → (from ≤ b) × (clip_meets slots b c ≡ true)
  at true e = grind (arith, common_steps)
  at false e = grind (arith, common_steps)

met : (slots from b : ℕ) (clips : List Clip) → lowest_met slots from clips ≡ Some b
    → (from ≤ b) × (is_met slots clips b ≡ true)
met slots from b [] e = grind (arith, common_steps)
met slots from b (c ∷ cs) e = at (lowest_in slots from c) (lowest_met slots from cs) refl refl (λ y j. met slots from y cs j) where
  both : (x y : ℕ) (t : Bool) → nat_le x y ≡ t → lowest_in slots from c ≡ Some x → lowest_met slots from cs ≡ Some y
      → (from ≤ y) × (is_met slots cs y ≡ true) → (from ≤ b) × (is_met slots (c ∷ cs) b ≡ true)
  both x y true h i j m =
      let same : b ≡ x = grind (arith, common_steps) in
      let n = met-in slots from x c i in
      grind (arith, common_steps)
  both x y false h i j m =
      let same : b ≡ y = grind (arith, common_steps) in
      grind (arith, common_steps)

  at : (o p : Option ℕ) → lowest_in slots from c ≡ o → lowest_met slots from cs ≡ p
      → ((y : ℕ) → lowest_met slots from cs ≡ Some y → (from ≤ y) × (is_met slots cs y ≡ true))
      → (from ≤ b) × (is_met slots (c ∷ cs) b ≡ true)
  at None None i j rest = grind (arith, common_steps)
  at None (Some y) i j rest =
      let same : b ≡ y = grind (arith, common_steps) in
      let m = rest y j in
      grind (arith, common_steps)
  at (Some x) None i j rest =
      let same : b ≡ x = grind (arith, common_steps) in
      let m = met-in slots from x c i in
      grind (arith, common_steps)
  at (Some x) (Some y) i j rest = both x y (nat_le x y) refl i j (rest y j)

-- no block from one number to another is met
gap : (slots counted end : ℕ) (clips : List Clip) → ((k : ℕ) → counted ≤ k → k < end → is_met slots clips k ≡ false)
    → counted ≤ end → locked_below slots clips end ≡ locked_below slots clips counted
gap slots counted zero clips h le = let none : counted ≡ 0 = omega arith in rw none refl
gap slots counted (suc n) clips h le =
    at (nat_le counted n) refl (λ below. gap slots counted n clips (λ k from to. h k from (omega arith)) below) where
      at : (t : Bool) → nat_le counted n ≡ t
          → (counted ≤ n → locked_below slots clips n ≡ locked_below slots clips counted)
          → locked_below slots clips (suc n) ≡ locked_below slots clips counted
      at true e more =
          let below : counted ≤ n = grind (arith, common_steps) in
          let unmet-here : is_met slots clips n ≡ false = h n below (omega arith) in
          let rest : locked_below slots clips n ≡ locked_below slots clips counted = more below in
          grind (arith, common_steps)
      at false e more =
          let same : counted ≡ suc n = grind (arith, common_steps) in
          rw same refl

pub counted_on : (slots counted b : ℕ) (clips : List Clip) → lowest_met slots counted clips ≡ Some b
    → (locked_below slots clips (b + 1) ≡ locked_below slots clips counted + 1) × (counted ≤ b)
counted_on slots counted b clips e =
    let m = met slots counted b clips e in
    let none : (k : ℕ) → counted ≤ k → k < b → is_met slots clips k ≡ false =
    λ k from to. none-before slots counted k clips from (rw e (is-before k b to)) in
    let rest : locked_below slots clips b ≡ locked_below slots clips counted = gap slots counted b clips none m.0 in
    let here : is_met slots clips b ≡ true = m.1 in
    (rw add-one (grind (arith, common_steps)), m.0) where
      is-before : (k n : ℕ) → k < n → before k (Some n) ≡ true
      is-before k n h = grind (arith, common_steps)

pub all_counted : (slots counted end : ℕ) (clips : List Clip) → counted ≤ end
    → ((b : ℕ) → lowest_met slots counted clips ≡ Some b → end ≤ b)
    → locked_below slots clips end ≡ locked_below slots clips counted
all_counted slots counted end clips le far =
    gap slots counted end clips (λ k from to. none-before slots counted k clips from (at (lowest_met slots counted clips) refl k to)) le where
      at : (o : Option ℕ) → lowest_met slots counted clips ≡ o → (k : ℕ) → k < end
          → before k (lowest_met slots counted clips) ≡ true
      at None e k to = rw e refl
      at (Some b) e k to = let beyond : end ≤ b = far b e in rw e (grind (arith, common_steps))
