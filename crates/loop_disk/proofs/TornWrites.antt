-- A write that is done in part, by several calls of the inner disk.
use Rattle.std.proofs.lemmas.Bool.{cases_lt}
use Rattle.std.proofs.Common.{◌≡◌, ◌⊎◌, inl, inr, ℕ, ◌+◌, ◌-◌, ◌<◌, ◌≤◌, min, List, length, take, get_or, Result, Ok, Err, IsErr, OnOk, sym, ◌∙◌, ap, subst, arith}
use Rattle.std.proofs.lemmas.List.{ext_get_or, take_min, length-take}
use Rattle.loop_disk.specs.declared.fault.DiskFault.{DiskFault}
use Rattle.loop_disk.specs.Medium.{IsSound, LeavesEachTorn, Medium, piece, with_bytes_at, SameOutside, TornAt}
use Rattle.loop_disk.specs.Calls.{Stays, Writes}
use Rattle.loop_disk.specs.Failing.{Tears}
use Rattle.loop_disk.proofs.Images.{get_or-piece, get_or-written_there, length-piece, written-piece, written_outside, untouched, widened, both}
use Rattle.loop_disk.proofs.Moments.{meanwhile_on, meanwhile_weaker, remembers_on}

-- a torn image, torn again in the same range
torn_twice : (at n : ℕ) (old mid : Medium) → ((c : List ℕ) → mid.may_leave c → TornAt at n old c) → (c : List ℕ)
    → TornAt at n mid c → TornAt at n old c
torn_twice at n old mid before c torn =
    let first = before torn.0 torn.1 in
    (first.0, first.1, both at n first.0 torn.0 c first.2 torn.2)

widened_torn : (a n at m : ℕ) (old : Medium) → at ≤ a → a + n ≤ at + m → (c : List ℕ) → TornAt a n old c
    → TornAt at m old c
widened_torn a n at m old low high c torn = (torn.0, torn.1, widened a n at m torn.0 c torn.2 low high)

pub tears_then : {T : Type 0} (at n : ℕ) (first second : List ℕ) (old mid new : Medium) (x : Unit {0})
    (r : Result T DiskFault)
    → Tears at n first old mid (Ok x) → Tears at n second mid new r → Tears at n second old new r
tears_then at n first second old mid new x r one two = record {
  done = two.done;
  elsewhere = both at n old.bytes mid.bytes new.bytes one.elsewhere two.elsewhere;
  images = λ c left. torn_twice at n old mid one.images c (two.images c left);
  time = meanwhile_on old mid new (TornAt at n old) (TornAt at n mid) one.time two.time (torn_twice at n old mid one.images);
  keeps = remembers_on old mid new one.time.later one.keeps two.keeps;
}

pub tears_within : {T : Type 0} (a n at m : ℕ) (bytes : List ℕ) (old new : Medium) (r : Result T DiskFault) → at ≤ a
    → a + n ≤ at + m → Tears a n bytes old new r → Tears at m bytes old new r
tears_within a n at m bytes old new r low high tears = record {
  done = tears.done;
  elsewhere = widened a n at m old.bytes new.bytes tears.elsewhere low high;
  images = λ c left. widened_torn a n at m old low high c (tears.images c left);
  time = meanwhile_weaker old new (TornAt a n old) (TornAt at m old) tears.time (widened_torn a n at m old low high);
  keeps = tears.keeps;
}

-- where a later call failed, nothing is claimed of the bytes
pub tears_failed : {T U : Type 0} (at n : ℕ) (bytes other : List ℕ) (old new : Medium) (r : Result T DiskFault)
    (failed : Result U DiskFault) → IsErr failed → Tears at n bytes old new r → Tears at n other old new failed
tears_failed at n bytes other old new r failed is tears = record {
  done = none failed is;
  elsewhere = tears.elsewhere;
  images = tears.images;
  time = tears.time;
  keeps = tears.keeps;
}
  where
    none : {U : Type 0} (q : Result U DiskFault) → IsErr q → OnOk q (new.bytes ≡ other)
    none (Ok x) h = cc
    none (Err e) h = tt

-- a write is one of these
written_tears : {T : Type 0} (at : ℕ) (bytes : List ℕ) (old new : Medium) (r : Result T DiskFault)
    → Writes at bytes old new r → Tears at (length bytes) (with_bytes_at at bytes old.bytes) old new r
written_tears at bytes old new r writes = record {
  done = writes.done;
  elsewhere = writes.elsewhere;
  images =
      writes.images;
  time = writes.time;
  keeps = writes.keeps;
}

pub tears_same : {T : Type 0} (at n : ℕ) (bytes other : List ℕ) (old new : Medium) (r : Result T DiskFault)
    → bytes ≡ other → Tears at n bytes old new r → Tears at n other old new r
tears_same at n bytes other old new r same tears = subst (λ (l : List ℕ). Tears at n l old new r) same tears

-- what was read is written again
pub read_and_written : {T : Type 0} (at n : ℕ) (seen : List ℕ) (old mid new : Medium) (r : Result T DiskFault)
    → at + n ≤ length old.bytes
    → seen ≡ piece at n old.bytes → Stays old mid → Writes at seen mid new r → Tears at n old.bytes old new r
read_and_written at n seen old mid new r fits is stays writes =
    let count : length seen ≡ n = ap (λ (l : List ℕ). length l) is ∙ omega (arith, length-piece at n old.bytes, fits) in
    let again : with_bytes_at at seen mid.bytes ≡ old.bytes = (λ i. with_bytes_at at (is i) (stays.bytes i)) ∙ written-piece at n old.bytes fits in
    let second : Tears at n old.bytes mid new r = tears_same at n (with_bytes_at at seen mid.bytes) old.bytes mid new
    r again (subst (λ (k : ℕ). Tears at k (with_bytes_at at seen mid.bytes) mid new r) count
    (written_tears at seen mid new r writes)) in
    let first : Tears {T = Unit {0}} at n old.bytes old mid (Ok tt) = record {
      done = stays.bytes;
      elsewhere = subst (λ (l : List ℕ). SameOutside at n old.bytes l) (sym stays.bytes) (untouched at n old.bytes);
      images = λ c left. (c, stays.images c left, untouched at n c);
      time = meanwhile_weaker old mid old.may_leave (TornAt at n old) stays.time (λ c left. (c, left, untouched at n c));
      keeps = stays.keeps;
    } in
    tears_then at n old.bytes old.bytes old mid new tt r first second

-- the first bytes are written, and then the present ones after them
pub kept_and_rewritten : {T : Type 0} (at keep : ℕ) (bytes front : List ℕ) (old mid new : Medium) (x : Unit {0})
    (r : Result T DiskFault)
    → front ≡ take (min keep (length bytes)) bytes → Writes at front old mid (Ok x) → Tears at (length bytes) mid.bytes mid new r
    → Tears at (length bytes) (with_bytes_at at (take keep bytes) old.bytes) old new r
kept_and_rewritten at keep bytes front old mid new x r is writes rest =
    let kept : front ≡ take keep bytes = is ∙ take_min keep bytes in
    let few : length front ≤ length bytes = omega (arith, ap (λ (l : List ℕ). length l) kept, length-take keep bytes) in
    let first : Tears at (length bytes) (with_bytes_at at front old.bytes) old mid (Ok x) =
    tears_within at (length front) at (length bytes) (with_bytes_at at front old.bytes) old mid (Ok x)
    (omega arith) (omega (arith, few)) (written_tears at front old mid (Ok x) writes) in
    tears_same at (length bytes) mid.bytes (with_bytes_at at (take keep bytes) old.bytes) old new r
    (writes.done ∙ ap (λ (l : List ℕ). with_bytes_at at l old.bytes) kept)
    (tears_then at (length bytes) (with_bytes_at at front old.bytes) mid.bytes old mid new x r first rest)

-- ---- each image of a torn write may be left

-- in an empty range there is nothing to tear
pub torn_none : (a n : ℕ) (m : Medium) → n ≡ 0 → LeavesEachTorn a n m m
torn_none a n m none c torn =
    subst m.may_leave (ext_get_or 0 torn.0 c (sym torn.2.size) (λ i l. sym (go i (cases_lt i a)))) torn.1
  where
    go : (i : ℕ) → (i < a) ⊎ (a ≤ i) → get_or c i 0 ≡ get_or torn.0 i 0
    go i (inl below) = torn.2.before i below
    go i (inr above) = torn.2.behind i (omega (arith, above, none))

-- two ranges, one after the other
pub torn_joined : (a m n : ℕ) (old mid new : Medium) → IsSound old → a + m + n ≤ old.size → LeavesEachTorn a m old mid
    → LeavesEachTorn (a + m) n mid new → LeavesEachTorn a (m + n) old new
torn_joined a m n old mid new sound room first second c torn = second c (e, first e (d, torn.1, here), rest)
  where
    d : List ℕ
    d = torn.0

    long : length d ≡ old.size
    long = sound.images_length d torn.1

    p : List ℕ
    p = piece a m c

    count : length p ≡ m
    count = omega (arith, length-piece a m c, torn.2.size, long, room)

    fits : a + length p ≤ length d
    fits = omega (arith, count, long, room)

    e : List ℕ
    e = with_bytes_at a p d

    here : SameOutside a m d e
    here = subst (λ (k : ℕ). SameOutside a k d e) count (written_outside a p d fits)

    front : (i : ℕ) → (i < a) ⊎ (a ≤ i) → i < a + m → get_or c i 0 ≡ get_or e i 0
    front i (inl below) l = torn.2.before i below ∙ sym (here.before i below)
    front i (inr above) l =
        let at : a + (i - a) ≡ i = omega (arith, above) in
        sym (ap (λ (k : ℕ). get_or e k 0) (sym at) ∙ get_or-written_there a p d (i - a) (omega (arith, fits))
        (omega (arith, count, l, above)) ∙ get_or-piece a m c (i - a) (omega (arith, l, above))
        ∙ ap (λ (k : ℕ). get_or c k 0) at)

    rest : SameOutside (a + m) n e c
    rest = record {
      size = torn.2.size ∙ sym here.size;
      before = λ i l. front i (cases_lt i a) l;
      behind = λ i l. torn.2.behind i (omega (arith, l)) ∙ sym (here.behind i (omega (arith, l)));
    }
