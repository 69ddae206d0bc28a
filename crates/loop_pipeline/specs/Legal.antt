-- When the calls of a desk are a legal history of it.
use Rattle.std.specs.Prelude.{◌≡◌, List, map}
use Rattle.loop_disk.specs.Medium.{Medium}
use Rattle.loop_store.specs.Goes.{with_each}
use Rattle.loop_desk.specs.Bare.{bare_call, bare_state}
use Rattle.loop_desk.specs.Desk.{AreDeskAnswers, DeskCall, DeskState, desk_after_calls, desk_failed_for}
use Rattle.loop_desk.specs.Seen.{SeenDesk, DeskStands, rules_of}

-- From a state that the first desk stands for, calls without pixels are answered as the model has it, and lead to the
-- state, without pixels, that the last desk stands for.
pub record ReplaysFrom {D : Type 0} (medium : D → Medium) (old new : SeenDesk D) (calls : List DeskCall)
    (first : DeskState) : Type 0 where
  pub last : DeskState
  pub closes : DeskStands medium new last
  pub answers : AreDeskAnswers (rules_of old) (bare_state first) (map bare_call calls)
  pub replay : desk_after_calls (rules_of old) (bare_state first) (map bare_call calls) ≡ bare_state last

-- A legal history: it replays, if the disk is honest, and calls of the disk have failed just as its answers say.
pub record IsLegalRun {D : Type 0} (medium : D → Medium) (old : SeenDesk D) (calls : List DeskCall) (new : SeenDesk D)
    : Type 0 where
  pub replays : (s : DeskState) → DeskStands medium old s → (medium old.store.disk).honest
      → ReplaysFrom medium old new calls s
  pub counted : (medium new.store.disk).failures
      ≡ with_each (map desk_failed_for calls) (medium old.store.disk).failures
