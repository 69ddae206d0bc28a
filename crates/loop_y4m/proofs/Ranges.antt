-- The frames of a range of numbers, and what is written of them.
use Rattle.std.proofs.Common.{◌≡◌, inl, inr, ℕ, ◌+◌, ◌-◌, ◌^◌, ◌<◌, ◌≤◌, ◌⊎◌, Bool, true, false, not, ◌&&◌, cond, eqb, leb, Option, Some, None, Result, Ok, Err, List, [], ◌∷◌, ◌++◌, length, map, is_some, refl, sym, ap, ◌∙◌, subst, arith}
use Rattle.std.proofs.lemmas.Bool.Decides.{nat_tests}
use Rattle.std.proofs.KnownBytes.{Appends-nil, Appends-trans}
use Rattle.std.proofs.lemmas.List.{append-nil, append_assoc, length-append}
use Rattle.std.proofs.lemmas.List.Concat.{flat_map-append}
use Rattle.std.proofs.lemmas.List.Elements.{All-cons}
use Rattle.std.specs.Prelude.{IfOk, IfSome, IsErrAnd, flat_map}
use Rattle.std.specs.Io.KnownBytes.{Appends}
use Rattle.std.specs.List.{All, filter}
use Rattle.loop_disk.specs.Medium.{piece}
use Rattle.loop_record.specs.declared.geometry.Geometry.{Geometry}
use Rattle.loop_record.specs.Recording.{Picture, Recording, RiseBetween, frame_under, holds, ring_of}
use Rattle.loop_record.proofs.TestFacts.{clash, equal, equal_test}
use Rattle.loop_record.proofs.NumberOrder.{among-range, held-among}
use Rattle.loop_store.specs.declared.fault.StoreFault.{StoreFault}
use Rattle.loop_store.specs.declared.fault.StoreFault.TheVariants as store
use Rattle.loop_store.specs.Calls.{IsAnswered, IsPart, ReadFails, StoreState, checks, first_of, was_read_part}
use Rattle.loop_store.specs.Faults.{is_disk}
use Rattle.loop_store.specs.Numbers.{IsLeastFrom}
use Rattle.loop_store.specs.declared.fault.StoreFault.TheVariants.{NotHeld}
use Rattle.loop_store.proofs.CheckAnswers.{due-none, due-some, passed}
use Rattle.loop_y4m.specs.declared.fault.ExportFault.{ExportFault}
use Rattle.loop_y4m.specs.declared.fault.ExportFault.TheVariants.{Store, Write}
use Rattle.loop_y4m.specs.Export.{Stopped, frames_between}
use Rattle.loop_y4m.specs.Steps.{IsFirstBetween, Moved, frames_left}
use Rattle.loop_y4m.specs.Text.{AppendsSome, frame}

-- ---- the frames of a range

abbrev inside : ℕ → ℕ → ℕ × Picture → Bool
inside from to f = leb from f.0 && leb f.0 to

-- one more frame
taken : (from to : ℕ) (f : ℕ × Picture) (fs : List (ℕ × Picture)) (b : Bool) → inside from to f ≡ b
    → frames_between from to (f ∷ fs) ≡ cond b (f.1.bytes ∷ frames_between from to fs) (frames_between from to fs)
taken from to f fs true is = ap (λ (b : Bool). map (λ (k : ℕ × Picture). k.1.bytes) (cond b (f ∷ filter (inside from to) fs) (filter (inside from to) fs))) is
taken from to f fs false is = ap (λ (b : Bool). map (λ (k : ℕ × Picture). k.1.bytes) (cond b (f ∷ filter (inside from to) fs) (filter (inside from to) fs))) is

-- a number that isn't held is the number of no frame
apart : (f : ℕ × Picture) (fs : List (ℕ × Picture)) (k : ℕ) → is_some (frame_under (f ∷ fs) k) ≡ false → (f.0 ≡ k → ⊥)
apart f fs k none is = clash (is_some (frame_under (f ∷ fs) k)) (ap (λ (b : Bool). is_some (cond b (Some f.1) (frame_under fs k))) (equal_test f.0 k is)) none

behind : (f : ℕ × Picture) (fs : List (ℕ × Picture)) (k : ℕ) → is_some (frame_under (f ∷ fs) k) ≡ false
    → is_some (frame_under fs k) ≡ false
behind f fs k none = go (eqb f.0 k) none
  where
    go : (b : Bool) → is_some (cond b (Some f.1) (frame_under fs k)) ≡ false → is_some (frame_under fs k) ≡ false
    go true e = absurd cc
    go false e = e

-- a range without a held number
pub none_between : (from to : ℕ) (fs : List (ℕ × Picture))
    → ((k : ℕ) → from ≤ k → k ≤ to → is_some (frame_under fs k) ≡ false) → frames_between from to fs ≡ []
none_between from to [] none = refl
none_between from to (f ∷ fs) none = taken from to f fs false out ∙ none_between from to fs (λ k l u. behind f fs k (none k l u))
  where
    out : inside from to f ≡ false
    out = go (inside from to f) refl
      where
        go : (b : Bool) → inside from to f ≡ b → b ≡ false
        go false is = refl
        go true is = absurd (apart f fs f.0 (none f.0 (grind (arith, nat_tests, is)) (grind (arith, nat_tests, is))) refl)

-- numbers that aren't held, at the range's start
pub later_between : (from first to : ℕ) (fs : List (ℕ × Picture)) → from ≤ first
    → ((k : ℕ) → from ≤ k → k < first → is_some (frame_under fs k) ≡ false)
    → frames_between from to fs ≡ frames_between first to fs
later_between from first to [] low none = refl
later_between from first to (f ∷ fs) low none =
    taken from to f fs (inside first to f) same
    ∙ ap (λ (l : List (List ℕ)). cond (inside first to f) (f.1.bytes ∷ l) l) (later_between from first to fs low (λ k l u. behind f fs k (none k l u)))
    ∙ sym (taken first to f fs (inside first to f) refl)
  where
    same : inside from to f ≡ inside first to f
    same = go (leb from f.0) (leb first f.0) refl refl
      where
        go : (a b : Bool) → leb from f.0 ≡ a → leb first f.0 ≡ b → inside from to f ≡ inside first to f
        go true true x y = λ i. (x ∙ sym y) i && leb f.0 to
        go false false x y = λ i. (x ∙ sym y) i && leb f.0 to
        go true false x y = absurd (apart f fs f.0 (none f.0 (grind (arith, nat_tests, x)) (grind (arith, nat_tests, y))) refl)
        go false true x y = absurd (grind (arith, nat_tests, x, y, low))

-- the range's first number is held
pub first_between : (first to low high : ℕ) (fs : List (ℕ × Picture)) (p : Picture) → first ≤ to
    → RiseBetween low high fs → frame_under fs first ≡ Some p → frames_between first to fs ≡ p.bytes
    ∷ frames_between (first + 1) to fs
first_between first to low high [] p inner rise there = absurd cc
first_between first to low high (f ∷ fs) p inner rise there = go (eqb f.0 first) refl (λ at. first_between first to (f.0 + 1) high fs p inner rise.1 at) there
  where
    go : (b : Bool) → eqb f.0 first ≡ b → (frame_under fs first ≡ Some p → frames_between first to fs ≡ p.bytes
        ∷ frames_between (first + 1) to fs) → cond b (Some f.1) (frame_under fs first) ≡ Some p
        → frames_between first to (f ∷ fs) ≡ p.bytes ∷ frames_between (first + 1) to (f ∷ fs)
    go true is rest at =
        let e : f.0 ≡ first = equal f.0 first is in
        taken first to f fs true (grind (arith, nat_tests, e, inner))
        ∙ (λ i. bytes_of at i ∷ later_between first (first + 1) to fs (omega arith) (λ k l u. unheld k (omega (arith, e, u))) i)
        ∙ ap (λ (l : List (List ℕ)). p.bytes ∷ l) (sym (taken (first + 1) to f fs false (grind (arith, nat_tests, e))))
      where
        bytes_of : Some f.1 ≡ Some p → f.1.bytes ≡ p.bytes
        bytes_of s = cc

        unheld : (k : ℕ) → k ≤ f.0 → is_some (frame_under fs k) ≡ false
        unheld k l = none (is_some (frame_under fs k)) refl
          where
            none : (b : Bool) → is_some (frame_under fs k) ≡ b → b ≡ false
            none false x = refl
            none true x = absurd (omega (arith, l, (among-range (f.0 + 1) high k fs rise.1 (held-among k fs x)).0))
    go false is rest at =
        let held : is_some (frame_under fs first) ≡ true = ap (λ (o : Option Picture). is_some o) at in
        let above : f.0 + 1 ≤ first = (among-range (f.0 + 1) high first fs rise.1 (held-among first fs held)).0 in
        taken first to f fs false (grind (arith, nat_tests, above))
        ∙ rest at
        ∙ ap (λ (l : List (List ℕ)). p.bytes ∷ l) (sym (taken (first + 1) to f fs false (grind (arith, nat_tests, above))))

-- the least held number of a range, and where there is none
pub first_held : (r : Recording) (from m to : ℕ) → IsLeastFrom (holds r) from (Some m)
    → IsFirstBetween r from to (Some m)
first_held r from m to least = (least.1.0, later_between from m to r.frames least.0 least.1.1)

pub none_held : (r : Recording) (from to : ℕ) (least : Option ℕ) → ((m : ℕ) → least ≡ Some m → to < m)
    → IsLeastFrom (holds r) from least → IsFirstBetween r from to None
none_held r from to None above none = (tt, none_between from to r.frames (λ k l u. none k l))
none_held r from to (Some m) above least = (tt, none_between from to r.frames (λ k l u. least.1.1 k l (omega (arith, u, above m refl))))

-- a held number has a frame
pub frame_there : (r : Recording) (n : ℕ) → holds r n ≡ true → (p : Picture) × (frame_under r.frames n ≡ Some p)
frame_there r n held = go (frame_under r.frames n) refl held
  where
    go : (o : Option Picture) → frame_under r.frames n ≡ o → is_some o ≡ true → (p : Picture)
        × (frame_under r.frames n ≡ Some p)
    go None is e = absurd cc
    go (Some p) is e = (p, is)

-- what holds of each frame under its number holds of each of a range
pub each_between : (P : List ℕ → Type 0) (from to low high : ℕ) (fs : List (ℕ × Picture)) → RiseBetween low high fs
    → ((n : ℕ) (p : Picture) → frame_under fs n ≡ Some p → P p.bytes) → All P (frames_between from to fs)
each_between P from to low high [] rise each = λ k d l. absurd (omega (arith, l))
each_between P from to low high (f ∷ fs) rise each =
    subst (All P) (sym (taken from to f fs (inside from to f) refl))
    (go (inside from to f) (each_between P from to (f.0 + 1) high fs rise.1
    (λ n p there. each n p (later n p there))))
  where
    first : frame_under (f ∷ fs) f.0 ≡ Some f.1
    first = ap (λ (b : Bool). cond b (Some f.1) (frame_under fs f.0)) (equal_test f.0 f.0 refl)

    later : (n : ℕ) (p : Picture) → frame_under fs n ≡ Some p → frame_under (f ∷ fs) n ≡ Some p
    later n p there =
        let above : f.0 + 1 ≤ n = (among-range (f.0 + 1) high n fs rise.1 (held-among n fs (ap (λ (o : Option Picture). is_some o) there))).0 in
        let other : eqb f.0 n ≡ false = grind (arith, nat_tests, above) in
        ap (λ (b : Bool). cond b (Some f.1) (frame_under fs n)) other ∙ there

    go : (b : Bool) → All P (frames_between from to fs)
        → All P (cond b (f.1.bytes ∷ frames_between from to fs) (frames_between from to fs))
    go false all = all
    go true all = All-cons P f.1.bytes (frames_between from to fs) (each f.0 f.1 first) all

-- ---- the frames so far

-- so many frames of a range were written, and those from this number on are left
pub record Given (H : Type 0) (r : Recording) (first to count : ℕ) (next : Option ℕ) (old now : Option (List ℕ)) : Type 0 where
  pub done : List (List ℕ)
  pub are : frames_between first to r.frames ≡ done ++ frames_left next to r.frames
  pub counted : length done ≡ count
  pub given : H → Appends old now (flat_map frame done)

-- one more
pub given_more : (H : Type 0) (r : Recording) (first to count n high : ℕ) (p : Picture) (next : Option ℕ)
    (old mid new : Option (List ℕ)) → n ≤ to → RiseBetween 0 high r.frames → frame_under r.frames n ≡ Some p
    → Given H r first to count (Some n) old mid → (H → Appends mid new (frame p.bytes))
    → IsFirstBetween r (n + 1) to next → Given H r first to (count + 1) next old new
given_more H r first to count n high p next old mid new inner rise there before more after = record {
  done = before.done ++ p.bytes ∷ [];
  are = before.are ∙ ap (λ (l : List (List ℕ)). before.done ++ l)
      (first_between n to 0 high r.frames p inner rise there ∙ ap (λ (l : List (List ℕ)). p.bytes ∷ l) after.1)
      ∙ sym (append_assoc before.done (p.bytes ∷ []) (frames_left next to r.frames));
  counted = omega (arith, length-append before.done (p.bytes ∷ []), before.counted);
  given = λ h. subst (λ (bytes : List ℕ). Appends old new bytes)
      (sym (flat_map-append frame before.done (p.bytes ∷ [])
      ∙ ap (λ (bytes : List ℕ). flat_map frame before.done ++ bytes) (append-nil (frame p.bytes))))
      (Appends-trans old mid new (flat_map frame before.done) (frame p.bytes) (before.given h) (more h));
}

-- the whole text is that of the frames so far, that of the next frame, and that of those after it
pub given_rest : (H : Type 0) (r : Recording) (first to count n high : ℕ) (p : Picture) (old mid : Option (List ℕ))
    → n ≤ to → RiseBetween 0 high r.frames → frame_under r.frames n ≡ Some p
    → (before : Given H r first to count (Some n) old mid)
    → flat_map frame (frames_between first to r.frames) ≡ flat_map frame before.done ++ (frame p.bytes ++ flat_map frame (frames_between (n + 1) to r.frames))
given_rest H r first to count n high p old mid inner rise there before =
    ap (flat_map frame) (before.are ∙ ap (λ (l : List (List ℕ)). before.done ++ l)
    (first_between n to 0 high r.frames p inner rise there)) ∙ flat_map-append frame before.done
    (p.bytes ∷ frames_between (n + 1) to r.frames)

-- ---- a part of a frame

nothing_yet : (held : Option (List ℕ)) (bytes : List ℕ) → AppendsSome held held bytes
nothing_yet held bytes = ([], bytes, refl, Appends-nil held)

-- the state of a store of this version, which keeps so many blocks and needn't be reopened
abbrev pub running : ℕ → ℕ → Recording → StoreState
running version keep r = record { recording = r; version = version; keep = keep; must_reopen = false }

-- a read of a held frame is refused only where the disk failed or isn't honest
pub part_refused : (H K : Type 0) → (H → K) → (g : Geometry) (version keep : ℕ) (r : Recording) (number at : ℕ) (p : Picture)
    (fault : StoreFault) (held : Option (List ℕ)) (bytes : List ℕ) → frame_under r.frames number ≡ Some p
    → IsAnswered K (ring_of g) (running version keep r) (was_read_part number at (Err fault)) → Stopped H (Store fault) held held bytes
part_refused H K to g version keep r number at p fault held bytes there said =
    go fault (due-some (first_of (checks (ring_of g) (running version keep r) (was_read_part number at (Err fault))))
    (was_read_part number at (Err fault)) (ReadFails K fault) said)
  where
    none : first_of (checks (ring_of g) (running version keep r) (was_read_part number at (Err fault))) ≡ None
    none = passed (not (holds r number)) NotHeld [] (ap (λ (o : Option Picture). not (is_some o)) there)

    apart : (f : StoreFault) → let x : Option StoreFault = None in x ≡ Some f → ⊥
    apart f e = absurd cc

    failed : (f : StoreFault) → is_disk f ≡ true → Stopped H (Store f) held held bytes
    failed (store.Disk f) e = λ h. nothing_yet held bytes
    failed f e = absurd cc

    go : (f : StoreFault) → (first_of (checks (ring_of g) (running version keep r) (was_read_part number at (Err fault))) ≡ Some f)
        ⊎ ((first_of (checks (ring_of g) (running version keep r) (was_read_part number at (Err fault))) ≡ None) × ReadFails K f)
        → Stopped H (Store f) held held bytes
    go f (inl e) = absurd (apart f (sym none ∙ e))
    go f (inr x) = fails x.1
      where
        fails : ReadFails K f → Stopped H (Store f) held held bytes
        fails (inl is) = failed f is
        fails (inr damaged) = subst (λ (k : StoreFault). Stopped H (Store k) held held bytes) (sym damaged.0) (λ h. damaged.1 (to h))

-- a part that was read of an honest disk is one of the frame
pub part_given : (H : Type 0) (g : Geometry) (version keep : ℕ) (r : Recording) (number at : ℕ) (bytes : List ℕ)
    → IsAnswered H (ring_of g) (running version keep r) (was_read_part number at (Ok bytes)) → H → IsPart r number at bytes
part_given H g version keep r number at bytes said =
    (due-none (first_of (checks (ring_of g) (running version keep r) (was_read_part number at (Ok bytes))))
    (was_read_part number at (Ok bytes)) (H → IsPart r number at bytes) said refl).1

-- the bytes that were read are those of the frame
pub part_is : (r : Recording) (number at : ℕ) (p : Picture) (bytes : List ℕ) (m : ℕ)
    → frame_under r.frames number ≡ Some p → IsPart r number at bytes → length bytes ≡ m → bytes ≡ piece at m p.bytes
part_is r number at p bytes m there said count = said.bytes_are ∙ (λ i. piece at (count i) (same (sym said.there ∙ there) i))
  where
    same : Some said.picture ≡ Some p → said.picture.bytes ≡ p.bytes
    same e = cc

-- the writer failed
pub writer_failed : {T : Type 0} (H : Type 0) (old new : Option (List ℕ)) (result : Result T ExportFault)
    (bytes text : List ℕ) → IsErrAnd result (λ fault. fault ≡ Write) → AppendsSome old new bytes → (H → bytes ≡ text)
    → Moved H old new result text
writer_failed H old new (Ok x) bytes text failed some is = absurd failed
writer_failed H old new (Err fault) bytes text failed some is = subst (λ (f : ExportFault). Stopped H f old new text)
    (sym failed) (λ h. subst (AppendsSome old new) (is h) some)

-- how many numbers there are from this one on
abbrev pub numbers_left : Option ℕ → ℕ
numbers_left None = 0
numbers_left (Some n) = 2 ^ 62 - n

-- what holds of a number that is there
pub if_some : (P Q : ℕ → Type 0) (o : Option ℕ) → ((n : ℕ) → P n → Q n) → IfSome o P → IfSome o Q
if_some P Q None more p = tt
if_some P Q (Some n) more p = more n p

-- a fault isn't Ok
pub not_ok : {T E : Type 0} (P : E → Type 0) (Q : T → Type 0) (result : Result T E) → IsErrAnd result P → IfOk result Q
not_ok P Q (Ok x) failed = absurd failed
not_ok P Q (Err fault) failed = tt
