-- How bytes are written in parts.
use Rattle.std.proofs.Common.{◌≡◌, ℕ, ◌-◌, Option, Some, None, List, [], ◌++◌, length, take, drop, refl, ap, sym, append_assoc, append-nil, ◌∙◌}
use Rattle.std.specs.Io.KnownBytes.{Appends, Keeps}
use Rattle.std.proofs.lemmas.List.{take_rest, take-append-drop}
use Rattle.std.specs.Prelude.{Ok, Err, IsErr, Result}
use Rattle.loop_record.specs.declared.geometry.Geometry.{Geometry}
use Rattle.loop_y4m.specs.Text.{Wrote, header_with}

-- the writer was given all that comes before these bytes
abbrev pub IsGiven : Option (List ℕ) → Option (List ℕ) → List ℕ → List ℕ → Type 0
IsGiven old now bytes rest = (done : List ℕ) × (bytes ≡ done ++ rest) × Appends old now done

appends_none : (held : Option (List ℕ)) → Appends held held []
appends_none None = tt
appends_none (Some xs) = sym (append-nil xs)

appends_more : (old now new : Option (List ℕ)) (xs ys : List ℕ) → Appends old now xs → Appends now new ys
    → Appends old new (xs ++ ys)
appends_more None now new xs ys first then = tt
appends_more (Some held) None new xs ys first then = absurd first
appends_more (Some held) (Some more) None xs ys first then = absurd then
appends_more (Some held) (Some more) (Some all) xs ys first then = then ∙ ap (λ zs. zs ++ ys) first ∙ append_assoc held xs ys

appends_kept : (old now new : Option (List ℕ)) (xs : List ℕ) → Appends old now xs → Keeps now new → Appends old new xs
appends_kept None now new xs first then = tt
appends_kept (Some held) None new xs first then = absurd first
appends_kept (Some held) (Some more) None xs first then = absurd then
appends_kept (Some held) (Some more) (Some all) xs first then = then ∙ first

-- nothing is written yet
pub begins : (held : Option (List ℕ)) (bytes : List ℕ) → IsGiven held held bytes bytes
begins held bytes = ([], refl, appends_none held)

-- a write took n bytes
pub goes_on : (old now new : Option (List ℕ)) (bytes rest : List ℕ) (n : ℕ) → IsGiven old now bytes rest
    → Appends now new (take n rest) → IsGiven old new bytes (take (length rest - n) (drop n rest))
goes_on old now new bytes rest n given more = rw (take_rest rest n) (
  given.0 ++ take n rest,
  given.1 ∙ ap (λ r. given.0 ++ r) (sym (take-append-drop n rest))
      ∙ sym (append_assoc given.0 (take n rest) (drop n rest)),
  appends_more old now new given.0
      (take n rest) given.2 more,
)

-- a write took nothing
pub stands : (old now new : Option (List ℕ)) (bytes rest : List ℕ) → IsGiven old now bytes rest → Keeps now new
    → IsGiven old new bytes rest
stands old now new bytes rest given kept = (given.0, given.1, appends_kept old now new given.0 given.2 kept)

-- all is written
pub whole : (old now : Option (List ℕ)) (bytes rest : List ℕ) → IsGiven old now bytes rest → rest ≡ []
    → Appends old now bytes
whole old now bytes rest given none = rw (given.1 ∙ ap (λ r. given.0 ++ r) none ∙ append-nil given.0) given.2

-- a prefix is written
pub beginning : (old now : Option (List ℕ)) (bytes rest : List ℕ) → IsGiven old now bytes rest → (done : List ℕ)
    × (left : List ℕ) × (bytes ≡ done ++ left) × Appends old now done
beginning old now bytes rest given = (given.0, rest, given.1, given.2)

-- ---- one text after another

-- a prefix of the first is a prefix of both
pub first_failed : {E : Type 0} (old new : Option (List ℕ)) (e : E) (result : Result (Unit {0}) E)
    (first more : List ℕ) → IsErr result → Wrote old new (Err e) first → Wrote old new result (first ++ more)
first_failed old new e (Ok done) first more failed wrote = absurd cc
first_failed old new e (Err f) first more failed wrote = (wrote.0, wrote.1 ++ more, ap (λ b. b ++ more) wrote.2 ∙ append_assoc wrote.0 wrote.1 more, wrote.3)

-- the whole first, and what is written of the second
pub both : {E : Type 0} (old now new : Option (List ℕ)) (result : Result (Unit {0}) E) (first more : List ℕ)
    → Appends old now first → Wrote now new result more → Wrote old new result (first ++ more)
both old now new (Ok done) first more begun wrote = appends_more old now new first more begun wrote
both old now new (Err e) first more begun wrote = (
  first ++ wrote.0,
  wrote.1,
  ap (λ b. first ++ b) wrote.2 ∙ sym (append_assoc first wrote.0 wrote.1),
  appends_more old now new first wrote.0 begun wrote.3,
)

-- the text, under another name
pub written : {E : Type 0} (old new : Option (List ℕ)) (result : Result (Unit {0}) E) (line text : List ℕ)
    → Wrote old new result line → line ≡ text → Wrote old new result text
written old new result line text wrote same = rw (sym same) wrote

-- the parts of a header, as they are written one after another
pub nested : (a b c d e f g h i j k l : List ℕ) → a
    ++ (b ++ (c ++ (d ++ (e ++ (f ++ (g ++ (h ++ (i ++ (j ++ (k ++ l)))))))))) ≡ a ++ b ++ c ++ d ++ e ++ f ++ g ++ h
    ++ i ++ (j ++ k) ++ l
nested a b c d e f g h i j k l = simp append_assoc refl

-- a colour's name, and nothing more
pub written_alone : {E : Type 0} (old new : Option (List ℕ)) (result : Result (Unit {0}) E) (width : ℕ)
    (name : List ℕ) (g : Geometry) → Wrote old new result (header_with width (name ++ []) g)
    → Wrote old new result (header_with width name g)
written_alone old new result width name g wrote = rw (append-nil name) at wrote

-- for the loop that writes all
pub ruleset writing = (begins, stands, whole, beginning)
