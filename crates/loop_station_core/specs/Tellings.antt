-- What a camera tells: at once, or after what waits for its file of events.
use Rattle.std.specs.Prelude.{◌≡◌, ◌≤◌, ◌<◌, ◌≢◌, ◌++◌, ℕ, ◌+◌, ◌-◌, ◌==◌, ◌&&◌, Bool, true, false, not, List, [], ◌∷◌, nat_lt, length, if◌then◌else◌}
use Rattle.loop_station_core.specs.declared.tellings.Tellings.{Tellings}
use Rattle.loop_station_core.specs.declared.tellings.ToldWhen.{ToldWhen}
use Rattle.loop_station_core.specs.declared.tellings.ToldWhen.TheVariants.{Now, Later, Full}

abbrev pub no_tellings : Tellings
no_tellings = record { waiting = 0 }

-- something is to be told, or is once the file of events is written: at once where nothing waits, or after what does
abbrev pub told_when : Tellings → Bool → Tellings × ToldWhen
told_when t noted = if (t.waiting == 0) && not noted then (t, Now)
    else (if nat_lt t.waiting 1024 then (record t { waiting = t.waiting + 1 }, Later) else (t, Full))

-- the first that waits is told
abbrev pub first_told : Tellings → Tellings
first_told t = record t { waiting = t.waiting - 1 }

abbrev pub none_waits : Tellings → Bool
none_waits t = t.waiting == 0

-- half of what may wait is left for what was done
abbrev pub orders_have_room : Tellings → Bool
orders_have_room t = nat_lt t.waiting 512

-- What happens to what a camera tells: a line comes, by its number, and needs the file of events or doesn't; and that
-- file is written for the first that waits.
pub data TellStep : Type 0 where
  comes : ℕ → Bool → TellStep
  written : TellStep

abbrev pub tellings_after : Tellings → TellStep → Tellings
tellings_after t (comes n noted) = (told_when t noted).0
tellings_after t written = first_told t

-- what a line is that comes: told, waiting, or not taken in
abbrev pub if_told : ToldWhen → ℕ → List ℕ
if_told Now n = n ∷ []
if_told _ n = []

abbrev pub if_waits : ToldWhen → ℕ → List ℕ
if_waits Later n = n ∷ []
if_waits _ n = []

abbrev pub if_taken : ToldWhen → ℕ → List ℕ
if_taken Full n = []
if_taken _ n = n ∷ []

abbrev pub first_waiting : List ℕ → List ℕ
first_waiting [] = []
first_waiting (n ∷ q) = n ∷ []

abbrev pub waiting_after_first : List ℕ → List ℕ
waiting_after_first [] = []
waiting_after_first (n ∷ q) = q

-- the lines that wait after a step, in their order
abbrev pub queue_after : Tellings → List ℕ → TellStep → List ℕ
queue_after t q (comes n noted) = q ++ if_waits (told_when t noted).1 n
queue_after t q written = waiting_after_first q

-- those that are told by it
abbrev pub told_by : Tellings → List ℕ → TellStep → List ℕ
told_by t q (comes n noted) = if_told (told_when t noted).1 n
told_by t q written = first_waiting q

-- those that it takes in
abbrev pub taken_by : Tellings → TellStep → List ℕ
taken_by t (comes n noted) = if_taken (told_when t noted).1 n
taken_by t written = []

-- the lines that are told by a list of steps, that wait after it, and that it took in, each in their order
abbrev pub told_by_steps : Tellings → List ℕ → List TellStep → List ℕ
told_by_steps t q [] = []
told_by_steps t q (s ∷ ss) = told_by t q s ++ told_by_steps (tellings_after t s) (queue_after t q s) ss

abbrev pub queue_in : Tellings → List ℕ → List TellStep → List ℕ
queue_in t q [] = q
queue_in t q (s ∷ ss) = queue_in (tellings_after t s) (queue_after t q s) ss

abbrev pub taken_in : Tellings → List TellStep → List ℕ
taken_in t [] = []
taken_in t (s ∷ ss) = taken_by t s ++ taken_in (tellings_after t s) ss

-- The lines of a camera are told in the order in which they came, each once: what was told, and then what waits, is
-- what was taken in.
abbrev pub LinesAreInOrder : Type 0
LinesAreInOrder = (steps : List TellStep)
    → told_by_steps no_tellings [] steps ++ queue_in no_tellings [] steps ≡ taken_in no_tellings steps

-- A line is told at once exactly where nothing waits and it needs no file. It isn't taken in only where 1,024 wait.
-- Where orders are done, at most half as many do.
abbrev pub LinesAreTakenIn : Type 0
LinesAreTakenIn = (t : Tellings) (noted : Bool) → let came = (told_when t noted).1 in
    (came ≡ Now → (none_waits t ≡ true) × (noted ≡ false)) × (none_waits t ≡ true → noted ≡ false → came ≡ Now)
    × (came ≡ Full → 1024 ≤ t.waiting) × (orders_have_room t ≡ true → came ≢ Full)
