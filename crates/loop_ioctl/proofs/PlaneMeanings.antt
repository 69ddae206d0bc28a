-- Names and sets, each plane read as what it means: reading commutes with what is done to them.
use Rattle.std.proofs.Common.{◌≡◌, ℕ, ◌==◌, Bool, true, false, nat_lt, cond, List, [], ◌∷◌, ◌++◌, map, Option, Some, None, option_map, refl, sym, ◌∙◌, ap, subst}
use Rattle.std.specs.Option.{option_or, option_flatten}
use Rattle.loop_plane.specs.Plane.{Plane}
use Rattle.loop_vb2.specs.declared.planes.PlaneSet.{PlaneSet}
use Rattle.loop_vb2.specs.Planes.{number_at, read_set}
use Rattle.loop_ioctl.specs.declared.call.PlaneFds.{PlaneFds}
use Rattle.loop_ioctl.specs.Names.{Names, renamed, fd_refusal, place_refusal, place_value, place_taken, first_taken, set_refusal, set_named, value_with_fd, values_in, given_back, AreAway}
use Rattle.loop_ioctl.proofs.Short.{values_of}
use Rattle.loop_ioctl.specs.Calls.{read_names}
use Rattle.loop_ioctl.proofs.Names.{ext}

module _ {P : Type 0} (m : P → Plane) where
  name_refusal_read : (name : Option (Option P)) → fd_refusal (option_map (option_map m) name) ≡ fd_refusal name
  name_refusal_read None = refl
  name_refusal_read (Some None) = refl
  name_refusal_read (Some (Some value)) = refl

  name_value_read : (name : Option (Option P)) → option_flatten (option_map (option_map m) name) ≡ option_map m
      (option_flatten name)
  name_value_read None = refl
  name_value_read (Some value) = refl

  pub renamed_read : (fd : ℕ) (name : Option (Option P)) (before : Names P)
      → renamed fd (option_map (option_map m) name) (read_names m before) ≡ read_names m (renamed fd name before)
  unfolding renamed
  renamed_read fd name before =
      ext (λ (x : ℕ). elim (x == fd) as
      (λ t. cond t (option_map (option_map m) name) (option_map (option_map m) (before x)) ≡ option_map
      (option_map m) (cond t name (before x))) [ true ↦ refl | false ↦ refl ])

  place_refusal_read : (due : Bool) (fd : ℕ) (before : Names P)
      → place_refusal due fd (read_names m before) ≡ place_refusal due fd before
  place_refusal_read false fd before = refl
  place_refusal_read true fd before = name_refusal_read (before fd)

  place_value_read : (due : Bool) (fd : ℕ) (before : Names P)
      → place_value due fd (read_names m before) ≡ option_map m (place_value due fd before)
  place_value_read false fd before = refl
  place_value_read true fd before = name_value_read (before fd)

  place_taken_read : (due : Bool) (fd : ℕ) (before : Names P)
      → place_taken due fd (read_names m before) ≡ read_names m (place_taken due fd before)
  place_taken_read false fd before = refl
  place_taken_read true fd before = renamed_read fd (Some None) before

  first_read : (named : PlaneFds) (before : Names P) → first_taken named 1 (read_names m before) ≡ read_names m
      (first_taken named 1 before)
  first_read named before = place_taken_read (nat_lt 0 named.count) (number_at named.fds 0) before

  second_read : (named : PlaneFds) (before : Names P) → first_taken named 2 (read_names m before) ≡ read_names m
      (first_taken named 2 before)
  second_read named before =
      ap (place_taken (nat_lt 1 named.count) (number_at named.fds 1)) (first_read named before)
      ∙ place_taken_read (nat_lt 1 named.count) (number_at named.fds 1) (first_taken named 1 before)

  pub set_taken_read : (named : PlaneFds) (before : Names P) → first_taken named 3 (read_names m before) ≡ read_names m
      (first_taken named 3 before)
  set_taken_read named before =
      ap (place_taken (nat_lt 2 named.count) (number_at named.fds 2)) (second_read named before)
      ∙ place_taken_read (nat_lt 2 named.count) (number_at named.fds 2) (first_taken named 2 before)

  pub set_refusal_read : (named : PlaneFds) (before : Names P)
      → set_refusal named (read_names m before) ≡ set_refusal named before
  set_refusal_read named before =
      let d1 = nat_lt 1 named.count in
      let f1 = number_at named.fds 1 in
      let d2 = nat_lt 2 named.count in
      let f2 = number_at named.fds 2 in
      λ i. option_or (place_refusal_read (nat_lt 0 named.count) (number_at named.fds 0) before i)
      (option_or ((ap (place_refusal d1 f1) (first_read named before) ∙ place_refusal_read d1 f1 (first_taken named 1 before)) i)
      ((ap (place_refusal d2 f2) (second_read named before) ∙ place_refusal_read d2 f2 (first_taken named 2 before)) i))

  pub set_named_read : (named : PlaneFds) (before : Names P) → set_named named (read_names m before) ≡ read_set m
      (set_named named before)
  set_named_read named before =
      let d1 = nat_lt 1 named.count in
      let f1 = number_at named.fds 1 in
      let d2 = nat_lt 2 named.count in
      let f2 = number_at named.fds 2 in
      λ i. record {
        count = named.count;
        planes = record {
          y = place_value_read (nat_lt 0 named.count) (number_at named.fds 0) before i;
          cb = (ap (place_value d1 f1) (first_read named before) ∙ place_value_read d1 f1 (first_taken named 1 before)) i;
          cr = (ap (place_value d2 f2) (second_read named before) ∙ place_value_read d2 f2 (first_taken named 2 before)) i;
        };
        fds = named.fds;
      }

  -- ---- values given back

  abbrev pub read_value : ℕ × P → ℕ × Plane
  read_value v = (v.0, m v.1)

  value_with_fd_read : (fd : ℕ) (place : Option P) → value_with_fd fd (option_map m place) ≡ map read_value
      (value_with_fd fd place)
  value_with_fd_read fd None = refl
  value_with_fd_read fd (Some value) = refl

  map_joined : (vs ws : List (ℕ × P)) → map read_value (vs ++ ws) ≡ map read_value vs ++ map read_value ws
  map_joined [] ws = refl
  map_joined (v ∷ vs) ws = ap (λ l. read_value v ∷ l) (map_joined vs ws)

  values_read : (set : PlaneSet P) → values_in (read_set m set) ≡ map read_value (values_in set)
  values_read set =
      let v0 = value_with_fd (number_at set.fds 0) set.planes.y in
      let v1 = value_with_fd (number_at set.fds 1) set.planes.cb in
      let v2 = value_with_fd (number_at set.fds 2) set.planes.cr in
      (λ i. value_with_fd_read (number_at set.fds 2) set.planes.cr i
      ++ (value_with_fd_read (number_at set.fds 1) set.planes.cb i
      ++ value_with_fd_read (number_at set.fds 0) set.planes.y i))
      ∙ (ap (λ l. map read_value v2 ++ l) (sym (map_joined v1 v0)) ∙ sym (map_joined v2 (v1 ++ v0)))

  pub values_of_read : (sets : List (PlaneSet P)) → values_of (map (read_set m) sets) ≡ map read_value (values_of sets)
  values_of_read [] = refl
  values_of_read (set ∷ sets) = (λ i. values_read set i ++ values_of_read sets i) ∙ sym (map_joined (values_in set) (values_of sets))

  pub back_read : (vs : List (ℕ × P)) (before : Names P) → given_back (map read_value vs)
      (read_names m before) ≡ read_names m (given_back vs before)
  back_read [] before = refl
  back_read (v ∷ vs) before = ap (given_back (map read_value vs)) (renamed_read v.0 (Some (Some v.1)) before)
      ∙ back_read vs (renamed v.0 (Some (Some v.1)) before)

  name_away : (name : Option (Option P)) → option_map (option_map m) name ≡ Some None → name ≡ Some None
  name_away None e = absurd (cc)
  name_away (Some None) e = refl
  name_away (Some (Some value)) e = absurd (cc)

  pub away_read : (vs : List (ℕ × P)) (before : Names P) → AreAway (map read_value vs) (read_names m before)
      → AreAway vs before
  away_read [] before h = tt
  away_read (v ∷ vs) before h = (
    name_away (before v.0) h.0,
    away_read vs (renamed v.0 (Some (Some v.1)) before)
        (subst (λ n. AreAway (map read_value vs) n) (renamed_read v.0 (Some (Some v.1)) before) h.1),
  )
