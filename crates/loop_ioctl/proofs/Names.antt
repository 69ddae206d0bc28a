-- Names taken and given back.
use Rattle.std.proofs.Common.{◌≡◌, ℕ, ◌==◌, Bool, true, false, nat_lt, cond, List, [], ◌∷◌, ◌++◌, Option, Some, None, Ok, Err, refl, sym, ◌∙◌, ap, subst, arith, inl, inr}
use Rattle.std.proofs.lemmas.Bool.{cases_eq}
use Rattle.std.proofs.lemmas.Bool.Decides.{nat_tests}
use Rattle.std.specs.Option.{option_or, option_flatten}
use Rattle.slab.specs.Slab.{get, Updates, SameValues}
use Rattle.std.specs.Prelude.{Result, OnOk, IfErr}
use Rattle.loop_plane.specs.Fds.{Fds, names, IsHere, AttachFault, DetachFault}
use Rattle.loop_plane.specs.declared.table.FdFault.{FdFault}
use Rattle.loop_plane.specs.declared.table.FdFault.TheVariants.{NoSuchFd, Attached, NotAttached, NoMemory, TableFull}
use Rattle.loop_vb2.specs.declared.planes.PlaneSet.{PlaneSet}
use Rattle.loop_vb2.specs.declared.reason.Reason.{Reason}
use Rattle.loop_vb2.specs.Planes.{number_at}
use Rattle.loop_ioctl.specs.declared.call.PlaneFds.{PlaneFds}
use Rattle.loop_ioctl.specs.Names.{Names, reason_of, names_in, renamed, fd_refusal, place_refusal, place_value, place_taken, first_taken, set_refusal, set_named, value_with_fd, values_in, given_back, TakesPlace, TakesSet, AreAway, GivesBack}

-- functions that agree everywhere are one
pub ext : {A B : Type 0} {f g : A → B} → ((x : A) → f x ≡ g x) → f ≡ g
ext h = λ i. λ x. h x i

pub tested : (x y : ℕ) → x ≡ y → (x == y) ≡ true
tested x y e = grind (arith, nat_tests)

pub differ : (x y : ℕ) → (x ≡ y → ⊥) → (x == y) ≡ false
differ x y e = grind (arith, nat_tests)

pub else_first : (a b : Option Reason) → option_or a b ≡ None → a ≡ None
else_first None b e = refl
else_first (Some r) b e = absurd (cc)

pub else_last : (a b : Option Reason) → option_or a b ≡ None → b ≡ None
else_last None b e = e
else_last (Some r) b e = absurd (cc)

module _ {T : Type 0} where
  pub renamed_here : (fd : ℕ) (name : Option (Option T)) (before : Names T) (x : ℕ) → x ≡ fd
      → renamed fd name before x ≡ name
  unfolding renamed
  renamed_here fd name before x e = ap (λ t. cond t name (before x)) (tested x fd e)

  pub renamed_other : (fd : ℕ) (name : Option (Option T)) (before : Names T) (x : ℕ) → (x ≡ fd → ⊥)
      → renamed fd name before x ≡ before x
  unfolding renamed
  renamed_other fd name before x e = ap (λ t. cond t name (before x)) (differ x fd e)

  pub names_updated : (before after : Fds T) (fd : ℕ) (slot : Option (Option T)) → Updates before after fd slot
      → names_in after ≡ renamed fd slot (names_in before)
  unfolding names_in
  names_updated before after fd slot u =
      ext (λ (x : ℕ). elim (cases_eq x fd) [
        | inl e ↦ ap (λ k. get after k) e ∙ (u.changed ∙ sym (renamed_here fd slot (λ k. get before k) x e))
        | inr e ↦ u.others x e ∙ sym (renamed_other fd slot (λ k. get before k) x e)
      ])

  pub names_get : (table : Fds T) (fd : ℕ) → names_in table fd ≡ get table fd
  unfolding names_in
  names_get table fd = refl

  pub same_values : (before after : Fds T) → names_in after ≡ names_in before → SameValues before after
  unfolding names_in
  same_values before after e = λ key. ap (λ n. n key) e

  -- ---- one place

  pub took_some : (due : Bool) (fd : ℕ) (value : T) (before after : Fds T) → due ≡ true → IsHere before fd value
      → Updates before after fd (Some None) → TakesPlace due fd (Ok (Some value)) before after
  took_some due fd value before after d h u =
      let e : names_in before fd ≡ Some (Some value) = names_get before fd ∙ h in
      subst (λ t. TakesPlace t fd (Ok (Some value)) before after) (sym d)
      (ap fd_refusal e, sym (ap option_flatten e), names_updated before after fd (Some None) u)

  fault_reason : (fault : FdFault) (name : Option (Option T)) → AttachFault fault name
      → fd_refusal name ≡ Some (reason_of fault)
  fault_reason NoSuchFd name h = ap fd_refusal h
  fault_reason Attached name h = ap fd_refusal h
  fault_reason NotAttached name h = absurd h
  fault_reason NoMemory name h = absurd h
  fault_reason TableFull name h = absurd h

  pub took_fails : (due : Bool) (fd : ℕ) (fault : FdFault) (before after : Fds T) → due ≡ true
      → AttachFault fault (names before fd) → after ≡ before
      → TakesPlace {T = T} due fd (Err (reason_of fault)) before after
  took_fails due fd fault before after d h same =
      subst (λ t. TakesPlace {T = T} t fd (Err (reason_of fault)) before after) (sym d)
      (ap fd_refusal (names_get before fd) ∙ fault_reason fault (names before fd) h, same)

  not_away : (fault : FdFault) (name : Option (Option T)) → DetachFault fault name → name ≡ Some None → ⊥
  not_away NoSuchFd name h e = cc
  not_away Attached name h e = h
  not_away NotAttached name h e = let f : name ≡ Some (Some h.0) = h.1 in cc
  not_away NoMemory name h e = h
  not_away TableFull name h e = h

  pub gave : {U : Type 0} (fd : ℕ) (value : T) (before after : Fds T) (result : Result U (FdFault × T))
      → OnOk result (Updates before after fd (Some (Some value)))
      → IfErr result (λ e. DetachFault e.0 (names before fd)) → GivesBack (value_with_fd fd (Some value)) before after
  gave fd value before after (Ok u) ok fault = λ _. names_updated before after fd (Some (Some value)) ok
  gave fd value before after (Err e) ok fault = λ away. absurd (not_away e.0 (names before fd) fault (sym (names_get before fd) ∙ away.0))

  -- a value that was taken, given back
  restored : (fd : ℕ) (value : T) (before : Names T) → before fd ≡ Some (Some value) → renamed fd (Some (Some value))
      (renamed fd (Some None) before) ≡ before
  restored fd value before h =
      ext (λ (x : ℕ). elim (cases_eq x fd) [
        | inl e ↦ renamed_here fd (Some (Some value)) (renamed fd (Some None) before) x e ∙ sym (ap before e ∙ h)
        | inr e ↦ renamed_other fd (Some (Some value)) (renamed fd (Some None) before) x e ∙ renamed_other fd (Some None) before x e
      ])

  -- the values of a place that was taken are away, and given back they leave all as it was
  record IsRestored (vs : List (ℕ × T)) (before after : Names T) : Type 0 where
    away : AreAway vs after
    back : given_back vs after ≡ before

  name_restored : (fd : ℕ) (before : Names T) (name : Option (Option T)) → before fd ≡ name → fd_refusal name ≡ None
      → IsRestored (value_with_fd fd (option_flatten name)) before (renamed fd (Some None) before)
  name_restored fd before None h e = absurd (cc)
  name_restored fd before (Some None) h e = absurd (cc)
  name_restored fd before (Some (Some value)) h e = record { away = (renamed_here fd (Some None) before fd refl, tt); back = restored fd value before h }

  place_restored : (due : Bool) (fd : ℕ) (before : Names T) → place_refusal due fd before ≡ None
      → IsRestored (value_with_fd fd (place_value due fd before)) before (place_taken due fd before)
  place_restored false fd before e = record { away = tt; back = refl }
  place_restored true fd before e = name_restored fd before (before fd) refl e

  -- a place taken, and given back from a table that names the same
  pub undone : (due : Bool) (fd : ℕ) (place : Option T) (a b c d : Fds T) → TakesPlace due fd (Ok place) a b
      → names_in c ≡ names_in b → GivesBack (value_with_fd fd place) c d → names_in d ≡ names_in a
  undone due fd place a b c d took same gave =
      let r : IsRestored (value_with_fd fd (place_value due fd (names_in a))) (names_in a)
      (place_taken due fd (names_in a)) = place_restored due fd (names_in a) took.0 in
      let e : names_in c ≡ place_taken due fd (names_in a) = same ∙ took.2 in
      let away : AreAway (value_with_fd fd place) (names_in c) =
      subst (λ p. AreAway (value_with_fd fd p) (names_in c)) (sym took.1)
      (subst (λ n. AreAway (value_with_fd fd (place_value due fd (names_in a))) n) (sym e) r.away) in
      gave away ∙ (ap (λ n. given_back (value_with_fd fd place) n) e
      ∙ (ap (λ p. given_back (value_with_fd fd p) (place_taken due fd (names_in a))) took.1 ∙ r.back))

  -- ---- sets

  pub set_fails_second : (named : PlaneFds) (reason : Reason) (y : Option T) (a b c d : Fds T)
      → TakesPlace (nat_lt 0 named.count) (number_at named.fds 0) (Ok y) a b
      → TakesPlace {T = T} (nat_lt 1 named.count) (number_at named.fds 1) (Err reason) b c
      → GivesBack (value_with_fd (number_at named.fds 0) y) c d → TakesSet {T = T} named (Err reason) a d
  set_fails_second named reason y a b c d first second gave =
      let d1 = nat_lt 1 named.count in
      let f1 = number_at named.fds 1 in
      let last = place_refusal (nat_lt 2 named.count) (number_at named.fds 2) (first_taken named 2 (names_in a)) in (
        ap (λ x. option_or x (option_or (place_refusal d1 f1 (first_taken named 1 (names_in a))) last)) first.0
            ∙ ap (λ x. option_or x last) (sym (ap (place_refusal d1 f1) first.2) ∙ second.0),
        same_values a d (undone (nat_lt 0 named.count) (number_at named.fds 0) y a b c d first (ap names_in second.1) gave),
      )

  pub set_fails_third : (named : PlaneFds) (reason : Reason) (y cb : Option T) (a b c d e f : Fds T)
      → TakesPlace (nat_lt 0 named.count) (number_at named.fds 0) (Ok y) a b → TakesPlace (nat_lt 1 named.count)
      (number_at named.fds 1) (Ok cb) b c → TakesPlace {T = T} (nat_lt 2 named.count) (number_at named.fds 2)
      (Err reason) c d → GivesBack (value_with_fd (number_at named.fds 1) cb) d e
      → GivesBack (value_with_fd (number_at named.fds 0) y) e f → TakesSet {T = T} named (Err reason) a f
  set_fails_third named reason y cb a b c d e f first second third gave more =
      let d1 = nat_lt 1 named.count in
      let f1 = number_at named.fds 1 in
      let d2 = nat_lt 2 named.count in
      let f2 = number_at named.fds 2 in
      let e2 : names_in c ≡ first_taken named 2 (names_in a) = second.2 ∙ ap (place_taken d1 f1) first.2 in
      let last = place_refusal d2 f2 (first_taken named 2 (names_in a)) in (
        ap (λ x. option_or x (option_or (place_refusal d1 f1 (first_taken named 1 (names_in a))) last)) first.0
            ∙ (ap (λ x. option_or x last) (sym (ap (place_refusal d1 f1) first.2) ∙ second.0)
            ∙ (sym (ap (place_refusal d2 f2) e2) ∙ third.0)),
        same_values a f (undone (nat_lt 0 named.count) (number_at named.fds 0) y a b e f first
            (undone d1 f1 cb b c d e second (ap names_in third.1) gave) more),
      )

  -- ---- values given back

  pub back_joined : (vs ws : List (ℕ × T)) (before : Names T) → given_back (vs ++ ws) before ≡ given_back ws
      (given_back vs before)
  back_joined [] ws before = refl
  back_joined (v ∷ vs) ws before = back_joined vs ws (renamed v.0 (Some (Some v.1)) before)

  away_first : (vs ws : List (ℕ × T)) (before : Names T) → AreAway (vs ++ ws) before → AreAway vs before
  away_first [] ws before h = tt
  away_first (v ∷ vs) ws before h = (h.0, away_first vs ws (renamed v.0 (Some (Some v.1)) before) h.1)

  away_second : (vs ws : List (ℕ × T)) (before : Names T) → AreAway (vs ++ ws) before
      → AreAway ws (given_back vs before)
  away_second [] ws before h = h
  away_second (v ∷ vs) ws before h = away_second vs ws (renamed v.0 (Some (Some v.1)) before) h.1

  pub gives_joined : (vs ws : List (ℕ × T)) (a b c : Fds T) → GivesBack vs a b → GivesBack ws b c
      → GivesBack (vs ++ ws) a c
  gives_joined vs ws a b c first second =
      λ (away : AreAway (vs ++ ws) (names_in a)).
      let e : names_in b ≡ given_back vs (names_in a) = first (away_first vs ws (names_in a) away) in
      let rest : AreAway ws (names_in b) = subst (λ n. AreAway ws n) (sym e) (away_second vs ws (names_in a) away) in
      second rest ∙ (ap (given_back ws) e ∙ sym (back_joined vs ws (names_in a)))

  pub set_gave : (set : PlaneSet T) (a b c d : Fds T) → GivesBack (value_with_fd (number_at set.fds 2) set.planes.cr)
      a b → GivesBack (value_with_fd (number_at set.fds 1) set.planes.cb) b c
      → GivesBack (value_with_fd (number_at set.fds 0) set.planes.y) c d → GivesBack (values_in set) a d
  set_gave set a b c d first second third =
      gives_joined (value_with_fd (number_at set.fds 2) set.planes.cr)
      (value_with_fd (number_at set.fds 1) set.planes.cb ++ value_with_fd (number_at set.fds 0) set.planes.y) a b
      d first
      (gives_joined (value_with_fd (number_at set.fds 1) set.planes.cb) (value_with_fd (number_at set.fds 0) set.planes.y) b c d second third)

  -- ---- a set that was taken, given back

  away_joined : (vs ws : List (ℕ × T)) (before : Names T) → AreAway vs before → AreAway ws (given_back vs before)
      → AreAway (vs ++ ws) before
  away_joined [] ws before first second = second
  away_joined (v ∷ vs) ws before first second = (first.0, away_joined vs ws (renamed v.0 (Some (Some v.1)) before) first.1 second)

  both_restored : (vs ws : List (ℕ × T)) (before middle after : Names T) → IsRestored vs middle after
      → IsRestored ws before middle → IsRestored (vs ++ ws) before after
  both_restored vs ws before middle after last first = record {
    away = away_joined vs ws after last.away (subst (λ n. AreAway ws n) (sym last.back) first.away);
    back = back_joined vs ws after ∙ (ap (given_back ws) last.back ∙ first.back);
  }

  pub set_passed : (named : PlaneFds) (before : Names T) → set_refusal named before ≡ None
      → (place_refusal (nat_lt 0 named.count) (number_at named.fds 0) before ≡ None)
      × (place_refusal (nat_lt 1 named.count) (number_at named.fds 1) (first_taken named 1 before) ≡ None)
      × (place_refusal (nat_lt 2 named.count) (number_at named.fds 2) (first_taken named 2 before) ≡ None)
  set_passed named before e =
      let a = place_refusal (nat_lt 0 named.count) (number_at named.fds 0) before in
      let b = place_refusal (nat_lt 1 named.count) (number_at named.fds 1) (first_taken named 1 before) in
      let c = place_refusal (nat_lt 2 named.count) (number_at named.fds 2) (first_taken named 2 before) in
      let rest : option_or b c ≡ None = else_last a (option_or b c) e in
      (else_first a (option_or b c) e, else_first b c rest, else_last b c rest)

  set_restored : (named : PlaneFds) (before : Names T) → set_refusal named before ≡ None
      → IsRestored (values_in (set_named named before)) before (first_taken named 3 before)
  set_restored named before e =
      let p = set_passed named before e in
      let n1 = first_taken named 1 before in
      let n2 = first_taken named 2 before in
      let v0 = value_with_fd (number_at named.fds 0) (place_value (nat_lt 0 named.count) (number_at named.fds 0) before) in
      let v1 = value_with_fd (number_at named.fds 1) (place_value (nat_lt 1 named.count) (number_at named.fds 1) n1) in
      let v2 = value_with_fd (number_at named.fds 2) (place_value (nat_lt 2 named.count) (number_at named.fds 2) n2) in
      both_restored v2 (v1 ++ v0) before n2 (first_taken named 3 before) (place_restored (nat_lt 2 named.count) (number_at named.fds 2) n2 p.2)
      (both_restored v1 v0 before n1 n2 (place_restored (nat_lt 1 named.count) (number_at named.fds 1) n1 p.1)
      (place_restored (nat_lt 0 named.count) (number_at named.fds 0) before p.0))

  pub set_undone : (named : PlaneFds) (set : PlaneSet T) (a b c : Fds T) → TakesSet named (Ok set) a b
      → GivesBack (values_in set) b c → names_in c ≡ names_in a
  set_undone named set a b c took gave =
      let r : IsRestored (values_in (set_named named (names_in a))) (names_in a) (first_taken named 3 (names_in a)) = set_restored named (names_in a) took.0 in
      let away : AreAway (values_in set) (names_in b) =
      subst (λ p. AreAway (values_in p) (names_in b)) (sym took.1) (subst (λ n. AreAway (values_in (set_named named (names_in a))) n) (sym took.2) r.away) in
      gave away ∙ (ap (given_back (values_in set)) took.2 ∙ (ap (λ p. given_back (values_in p) (first_taken named 3 (names_in a))) took.1 ∙ r.back))

  pub same_names : (before after : Fds T) → SameValues before after → names_in after ≡ names_in before
  unfolding names_in
  same_names before after h = ext h
