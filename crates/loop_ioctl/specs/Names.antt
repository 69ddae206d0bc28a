-- What fds name, and the planes of a set that are taken from them and given back.
use Rattle.std.specs.Prelude.{◌≡◌, ℕ, zero, suc, Bool, cond, ◌==◌, nat_lt, List, [], ◌∷◌, ◌++◌, Option, Some, None, option_map, option_to_list, Result, Ok, Err}
use Rattle.std.specs.Option.{option_or, option_flatten}
use Rattle.slab.specs.Slab.{SameValues}
use Rattle.loop_plane.specs.Fds.{Fds, names}
use Rattle.loop_plane.specs.declared.table.FdFault.{FdFault}
use Rattle.loop_plane.specs.declared.table.FdFault.TheVariants as fault
use Rattle.loop_vb2.specs.declared.planes.PlaneSet.{PlaneSet}
use Rattle.loop_vb2.specs.declared.planes.Planes.{Planes}
use Rattle.loop_vb2.specs.declared.reason.Reason.{Reason}
use Rattle.loop_vb2.specs.declared.reason.Reason.TheVariants.{NoSuchFd, FdAttached}
use Rattle.loop_vb2.specs.Planes.{number_at}
use Rattle.loop_ioctl.specs.declared.call.PlaneFds.{PlaneFds}

-- what each fd names: None where it names nothing, Some None while its value is away
abbrev pub Names : Type 0 → Type 0
Names T = ℕ → Option (Option T)

-- the reason of an fd's fault as it is to be attached
abbrev pub reason_of : FdFault → Reason
reason_of fault.NoSuchFd = NoSuchFd
reason_of fault.Attached = FdAttached
reason_of fault.NotAttached = NoSuchFd
reason_of fault.NoMemory = NoSuchFd
reason_of fault.TableFull = NoSuchFd

module _ {T : Type 0} where
  -- what the fds of a table name
  unfoldable pub names_in : Fds T → Names T
  names_in fds = λ fd. names fds fd

  -- the names with that of one fd changed
  unfoldable pub renamed : ℕ → Option (Option T) → Names T → Names T
  renamed fd name before = λ other. cond (other == fd) name (before other)

  -- why an fd's value can't be taken: it names nothing, or its value is away
  abbrev pub fd_refusal : Option (Option T) → Option Reason
  fd_refusal None = Some NoSuchFd
  fd_refusal (Some None) = Some FdAttached
  fd_refusal (Some (Some value)) = None

  -- ---- the place of a plane in a set: its value is taken where one is due

  abbrev pub place_refusal : Bool → ℕ → Names T → Option Reason
  place_refusal due fd before = cond due (fd_refusal (before fd)) None

  abbrev pub place_value : Bool → ℕ → Names T → Option T
  place_value due fd before = cond due (option_flatten (before fd)) None

  abbrev pub place_taken : Bool → ℕ → Names T → Names T
  place_taken due fd before = cond due (renamed fd (Some None) before) before

  -- ---- a set by fd: the first `count` values are taken, one after the other

  -- the names once the first n are taken
  abbrev pub first_taken : PlaneFds → ℕ → Names T → Names T
  first_taken named zero before = before
  first_taken named (suc place) before =
      place_taken (nat_lt place named.count) (number_at named.fds place) (first_taken named place before)

  -- the reason of the first fd that fails
  abbrev pub set_refusal : PlaneFds → Names T → Option Reason
  set_refusal named before =
      option_or (place_refusal (nat_lt 0 named.count) (number_at named.fds 0) before)
      (option_or (place_refusal (nat_lt 1 named.count) (number_at named.fds 1) (first_taken named 1 before))
      (place_refusal (nat_lt 2 named.count) (number_at named.fds 2) (first_taken named 2 before)))

  -- three planes, by their numbers
  abbrev pub three_planes : (ℕ → Option T) → Planes T
  three_planes place = record { y = place 0; cb = place 1; cr = place 2 }

  -- the set that they name
  abbrev pub set_named : PlaneFds → Names T → PlaneSet T
  set_named named was = record {
    count = named.count;
    planes = three_planes (λ i. place_value (nat_lt i named.count) (number_at named.fds i) (first_taken named i was));
    fds = named.fds;
  }

  -- ---- values given back

  -- the value of a place with its fd, where there is one
  abbrev pub value_with_fd : ℕ → Option T → List (ℕ × T)
  value_with_fd fd place = option_to_list (option_map (λ value. (fd, value)) place)

  -- those of a set, the last first
  abbrev pub values_in : PlaneSet T → List (ℕ × T)
  values_in set =
      value_with_fd (number_at set.fds 2) set.planes.cr
      ++ (value_with_fd (number_at set.fds 1) set.planes.cb ++ value_with_fd (number_at set.fds 0) set.planes.y)

  -- the names once each value is given back under its fd
  abbrev pub given_back : List (ℕ × T) → Names T → Names T
  given_back [] before = before
  given_back (v ∷ vs) before = given_back vs (renamed v.0 (Some (Some v.1)) before)

  -- ---- what calls do to a table

  -- a place's value is taken, or nothing is done
  abbrev pub TakesPlace : Bool → ℕ → Result (Option T) Reason → Fds T → Fds T → Type 0
  TakesPlace due fd (Ok place) before after =
      (place_refusal due fd (names_in before) ≡ None) × (place ≡ place_value due fd (names_in before))
      × (names_in after ≡ place_taken due fd (names_in before))
  TakesPlace due fd (Err reason) before after =
      (place_refusal due fd (names_in before) ≡ Some reason) × (after ≡ before)

  -- a set is taken, or nothing is done
  abbrev pub TakesSet : PlaneFds → Result (PlaneSet T) Reason → Fds T → Fds T → Type 0
  TakesSet named (Ok set) before after =
      (set_refusal named (names_in before) ≡ None) × (set ≡ set_named named (names_in before))
      × (names_in after ≡ first_taken named 3 (names_in before))
  TakesSet named (Err reason) before after =
      (set_refusal named (names_in before) ≡ Some reason) × SameValues before after

  -- each of the values is away as it comes back
  abbrev pub AreAway : List (ℕ × T) → Names T → Type 0
  AreAway [] before = Unit {0}
  AreAway (v ∷ vs) before = (before v.0 ≡ Some None) × AreAway vs (renamed v.0 (Some (Some v.1)) before)

  -- values are given back, where they are away
  abbrev pub GivesBack : List (ℕ × T) → Fds T → Fds T → Type 0
  GivesBack vs before after = AreAway vs (names_in before) → names_in after ≡ given_back vs (names_in before)

  -- nothing is done, or at a refusal values are given back, where they are away
  abbrev pub GivesIfRefused : {U E : Type 0} → List (ℕ × T) → Result U E → Fds T → Fds T → Type 0
  GivesIfRefused vs (Ok _) before after = after ≡ before
  GivesIfRefused vs (Err _) before after = GivesBack vs before after
