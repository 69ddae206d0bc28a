-- A camera's desks, as they are lent to a visit.
use Rattle.std.specs.Prelude.{◌≡◌, ◌≢◌, ◌⊎◌, ◌<◌, ℕ, ⊤, Err, None, Result, Some, List, [], ◌∷◌, All, length, slice_get, slice_index_or, slice_set}
use Rattle.std.specs.List.{filter, flat_map}
use Rattle.rtrb.specs.declared.AnyItems.{AnyItems}
use Rattle.rtrb.specs.declared.consumer.Consumer.{Consumer}
use Rattle.loop_disk.specs.Medium.{Medium}
use Rattle.loop_record.specs.declared.clip.Span.{Span}
use Rattle.loop_record.specs.declared.frame.Frame.{Frame}
use Rattle.loop_store.specs.declared.fault.StoreFault.{StoreFault}
use Rattle.loop_store.specs.declared.fault.StoreFault.TheVariants.{NoSuchClip}
use Rattle.loop_desk.specs.Desk.{DeskCall, clip_unlocked}
use Rattle.loop_desk.specs.Seen.{DeskGoes, SeenDesk}
use Rattle.loop_pipeline.specs.declared.seat.Taken.{Taken}
use Rattle.loop_pipeline.specs.declared.seat.Taken.TheVariants.{Asked}
use Rattle.loop_pipeline.specs.Backs.{GoesBy, IsRightful, Part, is_placed_submit, parts_at, placed_calls}
use Rattle.loop_pipeline.specs.Nexts.{end_past}
use Rattle.loop_pipeline.specs.Seats.{TakesFrom}

-- what no visit changes: the desks as they were when it began, the place of the active one, and one past the sequence
-- of the last frame that was brought to any
pub record Lent (D : Type 0) : Type 0 where
  pub began : List (SeenDesk D)
  pub active : ℕ
  pub end : ℕ

-- with it the desks as they are now
pub record SeenDesks (D : Type 0) : Type 0 where
  pub lent : Lent D
  pub desks : List (SeenDesk D)

-- another desk is active
abbrev pub turned : {D : Type 0} → ℕ → SeenDesks D → SeenDesks D
turned place seen = record seen { lent = record seen.lent { active = place } }

-- each desk of a list went on by the parts of its place
abbrev pub EachWent : {D : Type 0} → (D → Medium) → List (SeenDesk D) → List (SeenDesk D) → List (ℕ × Part) → Type 0
EachWent {D} medium old new parts =
    (place : ℕ) (d e : SeenDesk D) → slice_get old place ≡ Some d → slice_get new place ≡ Some e
    → GoesBy medium d (parts_at place parts) e

-- Since the visit began the desks went on by calls that visits may make, and by flushes: no frame came to one.
pub record AreVisited {D : Type 0} (medium : D → Medium) (asks : DeskCall → Type 0) (seen : SeenDesks D) : Type 0 where
  pub all : length seen.desks ≡ length seen.lent.began
  pub inside : seen.lent.active < length seen.desks
  pub parts : List (ℕ × Part)
  pub among : All (λ part. part.0 < length seen.lent.began) parts
  pub went : EachWent medium seen.lent.began seen.desks parts
  pub rightful : All (λ part. IsRightful asks part.1) parts
  pub quiet : filter is_placed_submit (flat_map placed_calls parts) ≡ []

-- What leave to unlock does to a desk: if the clip of its id is the one that it is for, that is unlocked, and this is the
-- desk's answer. Otherwise nothing is done, and the answer is that there is no such clip.
abbrev pub UnlocksThis : {D : Type 0} → (D → Medium) → ℕ → Span → SeenDesk D → SeenDesk D → Result ⊤ StoreFault
    → Type 0
UnlocksThis medium id clip old new answer = let is = slice_index_or old.store.clips id None in
    (is ≡ Some clip) × DeskGoes medium old new (clip_unlocked id answer ∷ [])
    ⊎ (is ≢ Some clip) × (new ≡ old) × (answer ≡ Err NoSuchClip)

-- ---- between visits (private contracts alone)

-- one past the newest sequence, after a frame that was brought
abbrev pub end_with : Taken → ℕ → ℕ
end_with (Asked info answer) end = end_past info.sequence
end_with _ end = end

-- the next frame of a ring goes to the active desk, if there is one and it can be noted
pub record SubmitsAt {D A : Type 0} (medium : D → Medium) (old new : SeenDesks D)
    (from up : Consumer (Frame A) A AnyItems) (taken : Taken) : Type 0 where
  pub before : SeenDesk D
  pub after : SeenDesk D
  pub at : slice_get old.desks old.lent.active ≡ Some before
  pub takes : TakesFrom medium before after from up taken
  pub desks : new.desks ≡ slice_set old.desks old.lent.active after
  pub active : new.lent.active ≡ old.lent.active
  pub end : new.lent.end ≡ end_with taken old.lent.end
