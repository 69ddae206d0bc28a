-- What follows from the end of a save.
use Rattle.std.specs.Prelude.{ℕ, ◌+◌, ◌-◌, ◌^◌, Bool, true, false, List, [], ◌∷◌, Option, Some, None, is_some, min, if◌then◌else◌, ◌≡◌, ◌≢◌}
use Rattle.loop_station_core.specs.declared.save_end.AfterSave.{AfterSave}
use Rattle.loop_station_core.specs.declared.save_end.SaveEnd.{SaveEnd}
use Rattle.loop_station_core.specs.declared.save_end.SaveEnd.TheVariants.{Whole, Already, MayPass, Final}
use Rattle.loop_station_core.specs.declared.save_end.SaveLine.{SaveLine}
use Rattle.loop_station_core.specs.declared.save_end.SaveLine.TheVariants.{Saved, Waits, NotSaved}

-- the text of the clip is there
abbrev pub is_saved : SaveEnd → Bool
is_saved Whole = true
is_saved Already = true
is_saved MayPass = false
is_saved Final = false

-- a minute later
abbrev pub minute_later : ℕ → ℕ
minute_later now = min (now + 60000000) (2 ^ 64 - 1)

-- A line tells the end, unless the clip was saved already. A save that began by itself and may succeed later is tried
-- again, and told as such unless that was told before.
abbrev pub after_save : SaveEnd → Bool → Bool → ℕ → AfterSave
after_save Whole automatic told now = record { line = Some Saved; again = None }
after_save Already automatic told now = record { line = None; again = None }
after_save Final automatic told now = record { line = Some NotSaved; again = None }
after_save MayPass automatic told now = if automatic
    then record { line = if told then None else Some Waits; again = Some (minute_later now) }
    else record { line = Some NotSaved; again = None }

-- a line says that a save is tried again
abbrev pub says_waits : Option SaveLine → ℕ
says_waits (Some Waits) = 1
says_waits _ = 0

-- how many lines say so, of a save that began by itself and ends so one time after the other, as long as it is tried
-- again
abbrev pub waits_in : Bool → List (SaveEnd × ℕ) → ℕ
waits_in told [] = 0
waits_in told (e ∷ es) =
    let after = after_save e.0 true told e.1 in
    says_waits after.line + (if is_some after.again then waits_in true es else 0)

-- The end of a save is told to be that its text is there exactly where it has just been made whole. It is told that
-- there is none exactly where there is none and it isn't tried again; and it is, a minute later, exactly where it may
-- succeed and began by itself.
abbrev pub EndsAreTold : Type 0
EndsAreTold = (end : SaveEnd) (automatic told : Bool) (now : ℕ) → let after = after_save end automatic told now in
    (after.line ≡ Some Saved → end ≡ Whole) × (end ≡ Whole → after.line ≡ Some Saved)
    × (after.line ≡ Some NotSaved → (is_saved end ≡ false) × (after.again ≡ None))
    × (is_saved end ≡ false → after.again ≡ None → after.line ≡ Some NotSaved)
    × (end ≡ MayPass → automatic ≡ true → after.again ≡ Some (minute_later now))
    × (after.again ≢ None → (end ≡ MayPass) × (automatic ≡ true))

-- A save that is tried again is told as such: where it fails so at first, once in all, however it ends.
abbrev pub RetriesAreTold : Type 0
RetriesAreTold = (now : ℕ) (ends : List (SaveEnd × ℕ)) → waits_in false ((MayPass, now) ∷ ends) ≡ 1
