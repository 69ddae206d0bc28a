-- What holds of the newest of some stores.
use Rattle.std.proofs.Common.{◌≡◌, ℕ, ◌+◌, ◌-◌, ◌^◌, ◌<◌, ◌≤◌, Bool, true, false, List, [], ◌∷◌, Option, Some, max, min, arith, refl, subst, sym}
use Rattle.std.specs.Prelude.{IfSome, if◌then◌else◌, nat_le, nat_lt}
use Rattle.std.proofs.lemmas.Bool.{leb-false, leb-true, ltb-false, ltb-true}
use Rattle.loop_station_core.specs.Newest.{counts_ahead, later_of, newest_after_all, newest_of, nothing_seen, span_after, AreNotLater, AreSequences, IsAheadOf, NewestIsAhead, OrderedAreCounted, OthersAreTimed}
use Rattle.loop_station_core.specs.declared.newest.NewestSeen.{NewestSeen}
use Rattle.loop_station_core.specs.declared.newest.StoreNewest.{StoreNewest}
use Rattle.std.proofs.lemmas.Grind.{common_steps}

-- the way from one to a third is no longer than that over a second
triangle : (a b c : ℕ) → a < 2 ^ 32 → b < 2 ^ 32 → c < 2 ^ 32 → counts_ahead a c ≤ counts_ahead a b + counts_ahead b c
triangle a b c x y z = grind (arith, common_steps)

-- the way from one to a third over a second that is between
over : (a b c : ℕ) → a < 2 ^ 32 → b < 2 ^ 32 → c < 2 ^ 32 → counts_ahead a b < 2 ^ 31 → counts_ahead b c ≤ 2 ^ 31
    → counts_ahead a c ≡ counts_ahead a b + counts_ahead b c
over a b c x y z near far = grind (arith, common_steps)

-- one that isn't less than half ahead is behind by no more than half
behind : (s n : ℕ) → s < 2 ^ 32 → n < 2 ^ 32 → 2 ^ 31 ≤ counts_ahead s n → counts_ahead n s ≤ 2 ^ 31
behind s n x y far = grind (arith, common_steps)

none-ahead : (n : ℕ) → counts_ahead n n ≡ 0
none-ahead n = grind (arith, common_steps)

-- what one more store makes of the newest's sequence and of the span
record Led (n s span q after : ℕ) : Type 0 where
  fits : q < 2 ^ 32
  small : after < 2 ^ 64
  more : span ≤ after
  grown : after < 2 ^ 31 → counts_ahead q n + span ≤ after
  near : after < 2 ^ 31 → counts_ahead q s ≤ after

stays : (n s span : ℕ) → n < 2 ^ 32 → s < 2 ^ 32 → span < 2 ^ 64 → 2 ^ 31 ≤ counts_ahead s n
    → Led n s span n (max span (counts_ahead n s))
stays n s span x y small far = record {
  fits = x;
  small = omega (arith, small, behind s n y x far);
  more = omega arith;
  grown = λ short. omega (arith, none-ahead n);
  near = λ short. omega arith;
}

moves : (n s q span : ℕ) → n < 2 ^ 32 → s < 2 ^ 32 → span < 2 ^ 64 → q ≡ s → counts_ahead s n < 2 ^ 31
    → Led n s span q (min (span + counts_ahead s n) (2 ^ 64 - 1))
moves n s q span x y small is near = subst (λ k. Led n s span k (min (span + counts_ahead s n) (2 ^ 64 - 1))) (sym is) (record {
  fits = y;
  small = omega arith;
  more = omega (arith, small);
  grown = λ short. omega (arith, short);
  near = λ short. omega (arith, none-ahead s);
})

same-when : (n s : ℕ) → n < 2 ^ 32 → s < 2 ^ 32 → counts_ahead s n ≡ 0 → n ≡ s
same-when n s x y none = grind (arith, common_steps)

picked : (n s : StoreNewest) (ways early : Bool) → n.sequence < 2 ^ 32 → s.sequence < 2 ^ 32
    → nat_lt 0 (counts_ahead s.sequence n.sequence) ≡ ways
    → (if ways then s else (if early then n else s)).sequence ≡ s.sequence
picked n s true early x y is = refl
picked n s false true x y is = same-when n.sequence s.sequence x y (omega (arith, ltb-false 0 (counts_ahead s.sequence n.sequence) is))
picked n s false false x y is = refl

led-by : (n s : StoreNewest) (span : ℕ) (far : Bool) → n.sequence < 2 ^ 32 → s.sequence < 2 ^ 32 → span < 2 ^ 64
    → nat_le (2 ^ 31) (counts_ahead s.sequence n.sequence) ≡ far
    → Led n.sequence s.sequence span
    (if far then n else (if nat_lt 0 (counts_ahead s.sequence n.sequence) then s else later_of (Some n) s)).sequence
    (if far then max span (counts_ahead n.sequence s.sequence) else min (span + counts_ahead s.sequence n.sequence) (2 ^ 64 - 1))
led-by n s span true x y small is = stays n.sequence s.sequence span x y small (leb-true (2 ^ 31) (counts_ahead s.sequence n.sequence) is)
led-by n s span false x y small is =
    moves n.sequence s.sequence _ span x y small
    (picked n s (nat_lt 0 (counts_ahead s.sequence n.sequence)) (nat_le s.time n.time) x y refl)
    (leb-false (2 ^ 31) (counts_ahead s.sequence n.sequence) is)

led : (n s : StoreNewest) (span : ℕ) → n.sequence < 2 ^ 32 → s.sequence < 2 ^ 32 → span < 2 ^ 64
    → Led n.sequence s.sequence span (newest_of (Some n) s).sequence (span_after (Some n) span s)
led n s span x y small = led-by n s span (nat_le (2 ^ 31) (counts_ahead s.sequence n.sequence)) x y small refl

-- after more stores the newest is ahead of the one before by no more than the span has grown, and of each by no more than
-- the span
record Ended (e : NewestSeen) (n span : ℕ) (ss : List StoreNewest) : Type 0 where
  newest : StoreNewest
  is : e.by_count ≡ Some newest
  fits : newest.sequence < 2 ^ 32
  grown : e.span < 2 ^ 31 → counts_ahead newest.sequence n + span ≤ e.span
  each : e.span < 2 ^ 31 → IsAheadOf newest.sequence ss

one-more : (e : NewestSeen) (n s span q after : ℕ) (ss : List StoreNewest) (more : StoreNewest) → more.sequence ≡ s
    → n < 2 ^ 32 → s < 2 ^ 32 → Led n s span q after → Ended e q after ss → Ended e n span (more ∷ ss)
one-more e n s span q after ss more is x y l r = record {
  newest = r.newest;
  is = r.is;
  fits = r.fits;
  grown = λ short. omega (
    arith,
    r.grown short,
    l.grown (omega (arith, r.grown short, short)),
    triangle r.newest.sequence q n r.fits l.fits x,
  );
  each = λ short. (
    subst (λ k. counts_ahead r.newest.sequence k < 2 ^ 31) (sym is) (omega (
      arith,
      r.grown short,
      short,
      l.near (omega (arith, r.grown short, short)),
      l.grown (omega (arith, r.grown short, short)),
      triangle r.newest.sequence q s r.fits l.fits y,
    )),
    r.each short,
  );
}

all-led : (n : StoreNewest) (span : ℕ) (t : Option StoreNewest) (ss : List StoreNewest) → n.sequence < 2 ^ 32
    → span < 2 ^ 64 → AreSequences ss
    → Ended (newest_after_all (record { by_count = Some n; span = span; by_time = t }) ss) n.sequence span ss
all-led n span t [] x small all = record {
  newest = n;
  is = refl;
  fits = x;
  grown = λ short. omega (arith, none-ahead n.sequence);
  each = λ short. tt;
}
all-led n span t (s ∷ ss) x small all =
    let l = led n s span x all.0 small in
    one-more _ n.sequence s.sequence span _ _ ss s refl x all.0 l
    (all-led (newest_of (Some n) s) (span_after (Some n) span s) (Some (later_of t s)) ss l.fits l.small all.1)

-- what is chosen, by whether the sequences are in order
abbrev pick : Bool → NewestSeen → Option StoreNewest × Bool
pick b e = if b then (e.by_count, true) else (e.by_time, false)

chosen-by : (e : NewestSeen) (n : StoreNewest) (P : StoreNewest → Type 0) (b : Bool) → nat_lt e.span (2 ^ 31) ≡ b
    → e.by_count ≡ Some n → (e.span < 2 ^ 31 → P n)
    → (pick b e).1 ≡ true
    → IfSome (pick b e).0 P
chosen-by e n P true is some holds by = subst (λ o. IfSome o P) (sym some) (holds (ltb-true e.span (2 ^ 31) is))
chosen-by e n P false is some holds by = absurd cc

pub newest-ahead : NewestIsAhead
newest-ahead s ss all by =
    let r = all-led s 0 (Some s) ss all.0 (omega arith) all.1 in
    chosen-by _ r.newest (λ n. IsAheadOf n.sequence (s ∷ ss)) _ refl r.is
    (λ short. (omega (arith, r.grown short, short), r.each short)) by

-- one that is ahead of all is further ahead of the newest by what the span leaves
kept-by : (e : ℕ) (n s : StoreNewest) (span : ℕ) (far : Bool) → e < 2 ^ 32 → n.sequence < 2 ^ 32 → s.sequence < 2 ^ 32
    → counts_ahead e n.sequence + span < 2 ^ 31 → counts_ahead e s.sequence < 2 ^ 31
    → nat_le (2 ^ 31) (counts_ahead s.sequence n.sequence) ≡ far
    → counts_ahead e (if far then n else (if nat_lt 0 (counts_ahead s.sequence n.sequence) then s else later_of (Some n) s)).sequence
    + (if far then max span (counts_ahead n.sequence s.sequence) else min (span + counts_ahead s.sequence n.sequence) (2 ^ 64 - 1))
    < 2 ^ 31
kept-by e n s span true x y z room near is =
    let back = behind s.sequence n.sequence z y (leb-true (2 ^ 31) (counts_ahead s.sequence n.sequence) is) in
    omega (arith, room, near, back, over e n.sequence s.sequence x y z (omega (arith, room)) back)
kept-by e n s span false x y z room near is =
    let short = leb-false (2 ^ 31) (counts_ahead s.sequence n.sequence) is in
    let same = picked n s (nat_lt 0 (counts_ahead s.sequence n.sequence)) (nat_le s.time n.time) y z refl in
    subst (λ k. counts_ahead e k + min (span + counts_ahead s.sequence n.sequence) (2 ^ 64 - 1) < 2 ^ 31) (sym same)
    (omega (arith, room, near, short, over e s.sequence n.sequence x z y near (omega (arith, short))))

all-kept : (e : ℕ) (n : StoreNewest) (span : ℕ) (t : Option StoreNewest) (ss : List StoreNewest) → e < 2 ^ 32
    → n.sequence < 2 ^ 32 → counts_ahead e n.sequence + span < 2 ^ 31 → AreSequences ss → IsAheadOf e ss
    → (newest_after_all (record { by_count = Some n; span = span; by_time = t }) ss).span < 2 ^ 31
all-kept e n span t [] x y room all near = omega (arith, room)
all-kept e n span t (s ∷ ss) x y room all near =
    all-kept e (newest_of (Some n) s) (span_after (Some n) span s) (Some (later_of t s)) ss x
    (led n s span y all.0 (omega (arith, room))).fits
    (kept-by e n s span (nat_le (2 ^ 31) (counts_ahead s.sequence n.sequence)) x y all.0 room near.0 refl) all.1 near.1

counts-by : (e : NewestSeen) (b : Bool) → nat_lt e.span (2 ^ 31) ≡ b → e.span < 2 ^ 31
    → (pick b e).1 ≡ true
counts-by e true is short = refl
counts-by e false is short = absurd (omega (arith, short, ltb-false e.span (2 ^ 31) is))

pub ordered-counted : OrderedAreCounted
ordered-counted e s ss x all near =
    counts-by _ _ refl (all-kept e s 0 (Some s) ss x all.0 (omega (arith, near.0)) all.1 near.1)

-- after more stores the latest is none earlier than the one before, nor than each
record Timed (e : NewestSeen) (time : ℕ) (ss : List StoreNewest) : Type 0 where
  latest : StoreNewest
  is : e.by_time ≡ Some latest
  later : time ≤ latest.time
  each : AreNotLater latest.time ss

later-by : (t s : StoreNewest) (b : Bool) → nat_le s.time t.time ≡ b
    → (t.time ≤ (if b then t else s).time) × (s.time ≤ (if b then t else s).time)
later-by t s true is = (omega arith, leb-true s.time t.time is)
later-by t s false is = (omega (arith, leb-false s.time t.time is), omega arith)

all-timed : (c : Option StoreNewest) (span : ℕ) (t : StoreNewest) (ss : List StoreNewest)
    → Timed (newest_after_all (record { by_count = c; span = span; by_time = Some t }) ss) t.time ss
all-timed c span t [] = record { latest = t; is = refl; later = omega arith; each = tt }
all-timed c span t (s ∷ ss) =
    let r = all-timed (Some (newest_of c s)) (span_after c span s) (later_of (Some t) s) ss in
    let both = later-by t s (nat_le s.time t.time) refl in
    record {
      latest = r.latest;
      is = r.is;
      later = omega (arith, r.later, both.0);
      each = (omega (arith, r.later, both.1), r.each);
    }

timed-by : (e : NewestSeen) (n : StoreNewest) (P : StoreNewest → Type 0) (b : Bool) → e.by_time ≡ Some n → P n
    → (pick b e).1 ≡ false
    → IfSome (pick b e).0 P
timed-by e n P true some holds by = absurd cc
timed-by e n P false some holds by = subst (λ o. IfSome o P) (sym some) holds

pub others-timed : OthersAreTimed
others-timed s ss by =
    let r = all-timed (Some s) 0 s ss in
    let e = newest_after_all nothing_seen (s ∷ ss) in
    timed-by e r.latest (λ n. AreNotLater n.time (s ∷ ss)) (nat_lt e.span (2 ^ 31)) r.is (r.later, r.each) by
