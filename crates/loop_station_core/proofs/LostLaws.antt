-- A search finds each lost frame, and no other.
use Rattle.std.proofs.Common.{◌≡◌, ℕ, ◌+◌, ◌-◌, ◌%◌, ◌^◌, ◌≤◌, ◌<◌, Bool, true, false, zero, suc, ap, sym, ◌∙◌, arith, refl}
use Rattle.std.specs.Prelude.{◌||◌, if◌then◌else◌, nat_lt, nat_le}
use Rattle.std.proofs.lemmas.Grind.{common_steps}
use Rattle.std.proofs.Math.Nat.{mod-eq_of_lt}
use Rattle.loop_station_core.proofs.Counts.{ahead-is}
use Rattle.loop_station_core.proofs.SearchLaws.{IsOf, first-of, goes-of, looks-at-all, searched-of, within}
use Rattle.loop_station_core.specs.Laws.{CountRises, LostAreCounted, LostAreFound, lost_at, lost_found, lost_from, search_of, searched, step_search}
use Rattle.loop_station_core.specs.Search.{ahead, has_gap, is_hole, takes_long, is_narrow, lost_counts, mark_at, middle, passed, told, turn}
use Rattle.loop_station_core.specs.declared.search.Mark.{Mark}
use Rattle.loop_station_core.specs.declared.search.Search.{Search}
use Rattle.loop_station_core.specs.declared.search.SearchTurn.{SearchTurn}
use Rattle.loop_station_core.specs.declared.search.SearchTurn.TheVariants.{Again, Gap, Over, Read}

-- so many frames later at least so many more are counted
rises : (count : ℕ → ℕ) (a k : ℕ) → CountRises count → count a + k ≤ count (a + k)
rises count a zero h = grind (arith, common_steps)
rises count a (suc k) h =
    let rest = rises count a k h in
    let one = h (a + k) in
    grind (arith, common_steps)

counts : (count : ℕ → ℕ) (a b : ℕ) → CountRises count → a ≤ b → count a + (b - a) ≤ count b
counts count a b h le =
    let all = rises count a (b - a) h in
    let there : a + (b - a) ≡ b = omega (arith, le) in
    let same : count (a + (b - a)) ≡ count b = ap count there in
    omega (arith, all, same)

ahead-by : (count : ℕ → ℕ) (a b : ℕ) → CountRises count → a ≤ b → lost_from count a b < 2 ^ 31
    → ahead (count a % 2 ^ 32) (count b % 2 ^ 32) (b - a) ≡ lost_from count a b
ahead-by count a b h le few =
    let more = counts count a b h le in
    let low : lost_from count a b < 2 ^ 32 = omega (arith, few) in
    ahead-is (count a) (count b) (b - a) (omega (arith, more)) (omega (arith, more)) ∙ mod-eq_of_lt low

few-by : (n m : ℕ) → n ≡ m → m < 2 ^ 31 → (if nat_lt n (2 ^ 31) then n else 0) ≡ m
few-by n m e few = grind (arith, common_steps)

pub lost-counted : LostAreCounted
lost-counted count a b h le few = few-by _ (lost_from count a b) (ahead-by count a b h le few) few

-- what is lost on two ways is lost on both
both : (count : ℕ → ℕ) (a b c : ℕ) → CountRises count → a ≤ b → b ≤ c
    → lost_from count a b + lost_from count b c ≡ lost_from count a c
both count a b c h ab bc =
    let one = counts count a b h ab in
    let two = counts count b c h bc in
    omega (arith, one, two, ab, bc)

-- without a gap nothing is lost
or-false : (hole late : Bool) → (hole || late) ≡ false → hole ≡ false
or-false true late e = e
or-false false late e = refl

none-by : (n m : ℕ) → n ≡ m → nat_lt 0 n ≡ false → m ≡ 0
none-by n m e none = grind (arith, common_steps)

no-lost : (time count : ℕ → ℕ) (period a b : ℕ) → CountRises count → a ≤ b → lost_from count a b < 2 ^ 31
    → has_gap period (mark_at time count a) (mark_at time count b) ≡ false → lost_from count a b ≡ 0
no-lost time count period a b h le few none =
    none-by _ (lost_from count a b) (ahead-by count a b h le few)
    (or-false (is_hole (mark_at time count a) (mark_at time count b))
    (takes_long period (mark_at time count a) (mark_at time count b)) none)

-- what a search has still to find
abbrev left : (ℕ → ℕ) → Search → ℕ
left count s = lost_from count s.from.number s.end.number

-- a gap between two frames is one of their marks
gap-same : (p q : ℕ) (a b c d : Mark) → p ≡ q → a ≡ b → c ≡ d → has_gap p a c ≡ has_gap q b d
gap-same p q a b c d e f g =
    ap (λ x. has_gap x a c) e ∙ ap (λ x. has_gap q x c) f ∙ ap (λ x. has_gap q b x) g

-- what a search has still to find once it was told of a frame in its middle
told-left : (time count : ℕ → ℕ) (period : ℕ) (s : Search) → IsOf time count period s → CountRises count
    → left count s < 2 ^ 31
    → left count (told s (time (middle s)) (count (middle s) % 2 ^ 32)) ≡ left count s
told-left time count period s h c few = at (has_gap s.period s.from (mark_at time count (middle s))) refl
  where
    w : (s.from.number ≤ middle s) × (middle s ≤ s.to.number)
    w = within s h.order

    parts : lost_from count s.from.number (middle s) + lost_from count (middle s) s.end.number ≡ left count s
    parts = both count s.from.number (middle s) s.end.number c w.0 (omega (arith, w.1, h.rest))

    at : (b : Bool) → has_gap s.period s.from (mark_at time count (middle s)) ≡ b
        → left count (if b then record s { to = mark_at time count (middle s) }
        else record s { from = mark_at time count (middle s) }) ≡ left count s
    at true e = refl
    at false e =
        let same =
        gap-same s.period period s.from (mark_at time count s.from.number) (mark_at time count (middle s))
        (mark_at time count (middle s)) h.rate h.from refl in
        let none =
        no-lost time count period s.from.number (middle s) c w.0 (omega (arith, parts, few)) (sym same ∙ e) in
        omega (arith, parts, none)

-- each turn tells what is then no longer to be found
turn-left : (time count : ℕ → ℕ) (period : ℕ) (s : Search) → IsOf time count period s → CountRises count
    → left count s < 2 ^ 31 → lost_at (turn s).1 + left count (step_search time count s) ≡ left count s
turn-left time count period s h c few =
    at (has_gap s.period s.from s.to) (is_narrow s) (nat_le s.end.number s.to.number) refl
  where
    parts : lost_from count s.from.number s.to.number + lost_from count s.to.number s.end.number ≡ left count s
    parts = both count s.from.number s.to.number s.end.number c h.order h.rest

    half : lost_from count s.from.number s.to.number < 2 ^ 31
    half = omega (arith, parts, few)

    lost : lost_counts s.from.sequence s.to.sequence (s.to.number - s.from.number)
        ≡ lost_from count s.from.number s.to.number
    lost =
        ap (λ m. lost_counts m.sequence s.to.sequence (s.to.number - s.from.number)) h.from
        ∙ ap (λ m. lost_counts (count s.from.number % 2 ^ 32) m.sequence (s.to.number - s.from.number)) h.to
        ∙ lost-counted count s.from.number s.to.number c h.order half

    none : has_gap s.period s.from s.to ≡ false → lost_from count s.from.number s.to.number ≡ 0
    none e =
        let same =
        gap-same s.period period s.from (mark_at time count s.from.number) s.to (mark_at time count s.to.number)
        h.rate h.from h.to in
        no-lost time count period s.from.number s.to.number c h.order half (sym same ∙ e)

    -- what a search does next, where these are so
    next : (gap narrow over : Bool) → Search × SearchTurn
    next gap narrow over = if gap
        then (if narrow then (passed s, Gap s.from s.to) else (s, Read (middle s)))
        else (if over then (s, Over) else (passed s, Again))

    step : Search × SearchTurn → Search
    step t = elim t.1 [
      | Read n ↦ told s (time n) (count n % 2 ^ 32)
      | Gap from to ↦ t.0
      | Again ↦ t.0
      | Over ↦ s
    ]

    at : (gap narrow over : Bool) → has_gap s.period s.from s.to ≡ gap
        → lost_at (next gap narrow over).1 + left count (step (next gap narrow over)) ≡ left count s
    at true true over e = omega (arith, parts, lost)
    at true false over e = let same = told-left time count period s h c few in omega (arith, same)
    at false narrow true e = omega arith
    at false narrow false e = let nothing = none e in omega (arith, parts, nothing)

-- so do all turns
all-left : (time count : ℕ → ℕ) (period turns : ℕ) (s : Search) → IsOf time count period s → CountRises count
    → left count s < 2 ^ 31
    → lost_found time count turns s + left count (searched time count turns s) ≡ left count s
all-left time count period zero s h c few = omega arith
all-left time count period (suc turns) s h c few =
    let one = turn-left time count period s h c few in
    let less : left count (step_search time count s) < 2 ^ 31 = omega (arith, one, few) in
    let more = all-left time count period turns (step_search time count s) (goes-of time count period s h) c less in
    omega (arith, one, more)

-- where a search is over, nothing is left
over-is : (s : Search) → (turn s).1 ≡ Over → (s.end.number ≤ s.to.number) × (has_gap s.period s.from s.to ≡ false)
over-is s e = let all = (looks-at-all s).0 e in (all.1, all.0)

over-left : (time count : ℕ → ℕ) (period : ℕ) (s : Search) → IsOf time count period s → CountRises count
    → left count s < 2 ^ 31 → (turn s).1 ≡ Over → left count s ≡ 0
over-left time count period s h c few e =
    let over = over-is s e in
    let same : s.to.number ≡ s.end.number = omega (arith, over.0, h.rest) in
    let at : lost_from count s.from.number s.to.number ≡ left count s = ap (λ n. lost_from count s.from.number n) same in
    let gap =
    gap-same s.period period s.from (mark_at time count s.from.number) s.to (mark_at time count s.to.number)
    h.rate h.from h.to in
    let none = no-lost time count period s.from.number s.to.number c h.order (omega (arith, at, few)) (sym gap ∙ over.1) in
    omega (arith, none, at)

found-by : (time count : ℕ → ℕ) (period turns : ℕ) (s : Search) → IsOf time count period s → CountRises count
    → left count s < 2 ^ 31 → (turn (searched time count turns s)).1 ≡ Over
    → lost_found time count turns s ≡ left count s
found-by time count period turns s h c few e =
    let all = all-left time count period turns s h c few in
    let rest : left count (searched time count turns s) < 2 ^ 31 = omega (arith, all, few) in
    let none =
    over-left time count period (searched time count turns s) (searched-of time count period turns s h) c rest e in
    omega (arith, all, none)

pub lost-found : LostAreFound
lost-found time count period a b turns c le few e =
    found-by time count period turns (search_of time count period a b) (first-of time count period a b le) c few e
