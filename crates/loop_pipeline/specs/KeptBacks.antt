-- What a back keeps: all that happened to its desks, and which frames came to them.
use Rattle.std.specs.Prelude.{◌≡◌, ◌<◌, ℕ, Bool, true, false, List, [], ◌∷◌, All, length, map}
use Rattle.std.specs.List.{flat_map}
use Rattle.rtrb.specs.declared.AnyItems.{AnyItems}
use Rattle.rtrb.specs.declared.consumer.Consumer.{Consumer}
use Rattle.rtrb.specs.Ring.{SameConsumer, received}
use Rattle.loop_disk.specs.Medium.{Medium}
use Rattle.loop_record.specs.declared.frame.Frame.{Frame}
use Rattle.loop_record.specs.Recording.{picture}
use Rattle.loop_store.specs.declared.fault.StoreFault.{StoreFault}
use Rattle.loop_desk.specs.Desk.{DeskCall}
use Rattle.loop_desk.specs.Seen.{SeenDesk}
use Rattle.loop_pipeline.specs.Backs.{Came, EachServed, IsFed, IsRightful, MayGiveUpAt, Part, SeenBack, placed_calls, unasked_by}
use Rattle.loop_pipeline.specs.DeskEvents.{DeskEvent, Happened, desk_in, desks_now, part_in}

-- From the desks that the back took to the desks as they are, whatever their disks, there were just these calls, each
-- desk's own; their submits are of the frames that came out of the ring, and `asks` says which calls visits may make.
-- The back began with its first desk alone; the others joined it.
pub record BackKeeps {D A : Type 0} (medium : D → Medium) (asks : DeskCall → Type 0) (gives_up : StoreFault → Type 0)
    (seen : SeenBack D A) (from : Consumer (Frame A) A AnyItems) (given_up : ℕ) (refused : Bool) : Type 0 where
  pub ring : SameConsumer seen.from from
  pub all : length seen.desks ≡ length seen.began
  pub inside : seen.active < length seen.desks
  -- what happened over all desks, in order
  pub first : SeenDesk D
  pub events : List (DeskEvent D)
  pub happened : Happened medium (record { desks = first ∷ []; active = 0; end = seen.start }) events
      (desks_now seen)
  pub began : seen.began ≡ first ∷ flat_map desk_in events
  -- the calls in it, each part with the place of its desk
  pub parts : List (ℕ × Part)
  pub are : parts ≡ flat_map part_in events
  pub among : All (λ part. part.0 < length seen.began) parts
  pub served : EachServed medium seen.began seen.desks parts
  pub rightful : All (λ part. IsRightful asks part.1) parts
  pub came : List Came
  pub fed : IsFed (map picture (received from)) (flat_map placed_calls parts) given_up came
  -- no frame is given up without asking a desk, unless a flush was refused by such a fault
  pub tried : refused ≡ true → MayGiveUpAt gives_up (length seen.began) parts
  pub excused : refused ≡ false → flat_map unasked_by came ≡ []
