-- What the calls of a disk in memory do to its moments.
use Rattle.std.proofs.Common.{◌≡◌, ◌⊎◌, inl, inr, ⊎_elim, ℕ, ◌+◌, ◌-◌, ◌<◌, ◌≤◌, false, List, ◌∷◌, length, get_or, Ok, refl, sym, ◌∙◌, ap, subst, arith}
use Rattle.std.proofs.lemmas.Bool.{cases_lt, or_from, or_parts}
use Rattle.std.proofs.lemmas.Bool.Decides.{nat_tests}
use Rattle.std.proofs.lemmas.List.{ext_get_or}
use Rattle.loop_disk.specs.declared.fault.Failures.{Failures}
use Rattle.loop_disk.specs.Medium.{Medium, piece, with_bytes_at, SameOutside, TornAt, LeavesEachTorn, Meanwhile}
use Rattle.loop_disk.specs.Calls.{Stays, Writes, Syncs}
use Rattle.loop_disk.specs.History.{Moment, after_write, after_sync, is_within, is_loose, IsLeft, medium_of}
use Rattle.loop_disk.specs.Behind.{Behind, moment_now}
use Rattle.loop_disk.proofs.Images.{length-written, length-piece, get_or-piece, get_or-written_there, get_or-written_before, get_or-written_behind, written_outside}

pub outside_of : (at n i : ℕ) → is_within at n i ≡ false → (i < at) ⊎ (at + n ≤ i)
outside_of at n i out =
    ⊎_elim
    (λ (below : i < at). inl below)
    (λ (from : at ≤ i).
    ⊎_elim
    (λ (inside : i < at + n). absurd (grind (arith, nat_tests)))
    (λ (above : at + n ≤ i). inr above)
    (cases_lt i (at + n)))
    (cases_lt i at)

pub within_not : (at n i : ℕ) → (i < at) ⊎ (at + n ≤ i) → is_within at n i ≡ false
within_not at n i (inl below) = grind (arith, nat_tests)
within_not at n i (inr above) = grind (arith, nat_tests)

-- a byte outside the range of a write
pub kept_outside : (at : ℕ) (bytes image : List ℕ) (i : ℕ) → at + length bytes ≤ length image → (i < at)
    ⊎ (at + length bytes ≤ i) → get_or (with_bytes_at at bytes image) i 0 ≡ get_or image i 0
kept_outside at bytes image i fits (inl below) = get_or-written_before at bytes image i (omega (arith, fits)) below
kept_outside at bytes image i fits (inr above) = get_or-written_behind at bytes image i (omega (arith, fits)) above

-- Outside the range, what a crash may leave after a write is what it might have left before.
write_images : (f : Failures) (now : Moment) (earlier : List Moment) (v c : List ℕ) (at : ℕ)
    → at + length v ≤ length now.bytes
    → IsLeft (after_write at v now) c → TornAt at (length v) (medium_of f now earlier) c
write_images f now earlier v c at fits left =
    let n = length v in
    let bytes = now.bytes in
    let held = piece at n bytes in
    let long : length held ≡ n = omega (arith, length-piece at n bytes, fits) in
    let size : length c ≡ length bytes = left.size ∙ length-written at v bytes fits in
    let room : at + length held ≤ length c = omega (arith, long, size, fits) in
    let d = with_bytes_at at held c in
    let outside : SameOutside at n c d = subst (λ (k : ℕ). SameOutside at k c d) long (written_outside at held c room) in
    let same : (i : ℕ) → is_loose now.loose i ≡ false → get_or d i 0 ≡ get_or bytes i 0 = λ i fixed.
    ⊎_elim
    (λ (below : i < at). outside.before i below
    ∙ left.kept i (or_from (is_within at n i) (is_loose now.loose i) (within_not at n i (inl below)) fixed)
    ∙ kept_outside at v bytes i fits (inl below))
    (λ (from : at ≤ i).
    ⊎_elim
    (λ (inside : i < at + n).
    ap (λ (k : ℕ). get_or d k 0) (omega (arith, from))
    ∙ get_or-written_there at held c (i - at) (omega (arith, room)) (omega (arith, from, inside, long))
    ∙ get_or-piece at n bytes (i - at) (omega (arith, from, inside))
    ∙ ap (λ (k : ℕ). get_or bytes k 0) (omega (arith, from)))
    (λ (above : at + n ≤ i). outside.behind i above
    ∙ left.kept i (or_from (is_within at n i) (is_loose now.loose i) (within_not at n i (inr above)) fixed)
    ∙ kept_outside at v bytes i fits (inr above))
    (cases_lt i (at + n)))
    (cases_lt i at) in (
      d,
      record { size = outside.size ∙ size; kept = same },
      record {
        size = sym outside.size;
        before = λ i b. sym (outside.before i b);
        behind =
            λ i b. sym (outside.behind i b);
      },
    )

same_outside : (at n : ℕ) (old new : List ℕ) (i : ℕ) → SameOutside at n old new → (i < at) ⊎ (at + n ≤ i)
    → get_or new i 0 ≡ get_or old i 0
same_outside at n old new i outside (inl below) = outside.before i below
same_outside at n old new i outside (inr above) = outside.behind i above

-- What a crash might have left before a write, it may leave after it with any bytes in the range.
pub leaves_torn : (f : Failures) (now : Moment) (earlier : List Moment) (v : List ℕ) (at : ℕ)
    → at + length v ≤ length now.bytes
    → LeavesEachTorn at (length v) (medium_of f now earlier) (medium_of f (after_write at v now) (now ∷ earlier))
leaves_torn f now earlier v at fits c torn =
    let n = length v in record {
      size = torn.2.size ∙ torn.1.size ∙ sym (length-written at v now.bytes fits);
      kept = λ i fixed.
          let parts = or_parts (is_within at n i) (is_loose now.loose i) fixed in
          let out = outside_of at n i parts.0 in
          same_outside at n torn.0 c i torn.2 out ∙ torn.1.kept i parts.1 ∙ sym (kept_outside at v now.bytes i fits out);
    }

-- one more moment, at which a crash leaves what has P
one_more : (f : Failures) (old now : Moment) (earlier : List Moment) (P : List ℕ → Type 0)
    → ((c : List ℕ) → IsLeft now c → P c)
    → Meanwhile (medium_of f old earlier) (medium_of f now (old ∷ earlier)) P
one_more f old now earlier P within = record {
  later = omega arith;
  nothing_else = λ t c le left. ⊎_elim (λ (here : (t ≤ length (old ∷ earlier)) × IsLeft now c). inr (within c here.1)) inl left;
}

pub writes : (f : Failures) (now : Moment) (earlier : List Moment) (v : List ℕ) (at : ℕ)
    → at + length v ≤ length now.bytes
    → Writes {T = Unit {0}} at v (medium_of f now earlier) (medium_of f (after_write at v now) (now ∷ earlier)) (Ok tt)
writes f now earlier v at fits = record {
  done = refl;
  elsewhere = written_outside at v now.bytes fits;
  images = λ c left. write_images f now earlier v c at fits left;
  time = one_more f now (after_write at v now) earlier _ (λ c left. write_images f now earlier v c at fits left);
  keeps = λ t c le left. inr left;
}

sync_images : (now : Moment) (c : List ℕ) → IsLeft (after_sync now) c → IsLeft now c
sync_images now c left = record { size = left.size; kept = λ i fixed. left.kept i refl }

pub syncs : (f : Failures) (now : Moment) (earlier : List Moment) → Syncs {T = Unit {0}} (medium_of f now earlier)
    (medium_of f (after_sync now) (now ∷ earlier)) (Ok tt)
syncs f now earlier = record {
  stays = record {
    bytes = refl;
    images = sync_images now;
    time = one_more f now (after_sync now) earlier (IsLeft now)
        (sync_images now);
    keeps = λ t c le left. inr left;
  };
  settled = λ c left. ext_get_or 0 c now.bytes left.size (λ i within. left.kept i refl);
}

-- a call that changes nothing, and still adds a moment
pub looks : (f : Failures) (now : Moment) (earlier : List Moment) → Stays (medium_of f now earlier)
    (medium_of f now (now ∷ earlier))
looks f now earlier = record {
  bytes = refl;
  images = λ c left. left;
  time = one_more f now now earlier (IsLeft now)
      (λ c left. left);
  keeps = λ t c le left. inr left;
}

-- the past of a disk after a write of so many bytes
abbrev pub behind_write : ℕ → ℕ → Behind → List ℕ → Behind
behind_write at n past bytes = record past { loose = (at, n) ∷ past.loose; moments = moment_now past bytes ∷ past.moments }

-- a write as the memory disk has it
pub writes_behind : (f : Failures) (past later : Behind) (bytes image v : List ℕ) (at : ℕ)
    → at + length v ≤ length bytes
    → later ≡ behind_write at (length v) past bytes → image ≡ with_bytes_at at v bytes
    → Writes {T = Unit {0}} at v (medium_of f (moment_now past bytes) past.moments) (medium_of f (moment_now later image) later.moments) (Ok tt)
writes_behind f past later bytes image v at fits noted there =
    let same : medium_of f (moment_now later image) later.moments ≡ medium_of f
    (after_write at v (moment_now past bytes)) (moment_now past bytes ∷ past.moments) =
    λ i. medium_of f (moment_now (noted i) (there i)) (noted i).moments in
    subst (λ (m : Medium). Writes {T = Unit {0}} at v (medium_of f (moment_now past bytes) past.moments) m (Ok tt))
    (sym same) (writes f (moment_now past bytes) past.moments v at fits)
