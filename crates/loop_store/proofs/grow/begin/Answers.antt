use Rattle.std.proofs.Common.{◌≡◌, ℕ, ◌/◌, [], Some, List, subst}
use Rattle.std.proofs.lemmas.Result.{on_ok_weaker}
use Rattle.loop_disk.proofs.Moments.{weaker}
use Rattle.loop_record.specs.declared.geometry.Geometry.{Geometry}
use Rattle.loop_record.specs.Change.{ShowsSegment}
use Rattle.loop_record.specs.Reading.{empty_segment}
use Rattle.loop_ring.specs.Writes.{ShowsOrNot}
use Rattle.loop_store.proofs.BlockImages.{begun-held, begun-held_or, begun-newest, held-some}
use Rattle.loop_store.proofs.grow.begin.Goals as goal

shows_slots : (g : Geometry) (j next slots : ℕ) (old new : List ℕ) → slots ≡ g.slots
    → ShowsSegment g j (Some (empty_segment (next / slots))) old new
    → ShowsSegment g j (Some (empty_segment (next / g.slots))) old new
shows_slots g j next slots old new is shows = subst (λ (n : ℕ). ShowsSegment g j (Some (empty_segment (next / n))) old new) is shows

either_slots : (g : Geometry) (j next slots : ℕ) (old new : List ℕ) → slots ≡ g.slots
    → ShowsOrNot g j (Some (empty_segment (next / slots))) old new
    → ShowsOrNot g j (Some (empty_segment (next / g.slots))) old new
either_slots g j next slots old new is shows = subst (λ (n : ℕ). ShowsOrNot g j (Some (empty_segment (next / n))) old new) is shows

pub returns : goal.returns
returns g c =
    let h = c.args.ring.now.geometry in
    let next = c.args.next in
    let j = c.args.segment in
    let old = (g.D.Disk.medium c.args.disk.now).bytes in
    let new = (g.D.Disk.medium c.begin_block.new.disk).bytes in record {
      moments = λ r is honest held.
          weaker _ _ _ _ (c.begin_block.ensures.moments honest) (λ image either.
          held-some h r [] image (begun-held_or h r next j old image held is c.requires.segment
          (c.requires.first honest) (c.requires.free honest)
          (either_slots h j next c.from.result old image c.from.ensures either)));
      held = λ r is honest held.
          on_ok_weaker c.begin_block.result (λ shows. begun-held h r next j old new held is c.requires.segment
          (c.requires.first honest) (c.requires.free honest)
          (shows_slots h j next c.from.result old new c.from.ensures shows.0)) (c.begin_block.ensures.such honest);
      such = λ honest.
          on_ok_weaker c.begin_block.result (λ shows.
          let shown = shows_slots h j next c.from.result old new c.from.ensures shows.0 in
          (begun-newest h next j new (c.requires.first honest) shown.holds shows.1, shown)) (c.begin_block.ensures.such honest);
      settled = c.begin_block.ensures.settled;
      fault = c.begin_block.ensures.fault;
      called = c.begin_block.ensures.called;
    }
