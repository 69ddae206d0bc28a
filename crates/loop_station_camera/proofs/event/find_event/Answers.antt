use Rattle.std.proofs.Common.{◌≡◌, length, subst, ◌∙◌, arith, rules}
use Rattle.std.proofs.lemmas.List.Sorted.{IsNonDecreasingBy-from_sort_by_key}
use Rattle.loop_station_camera.specs.Events.{AreEnds}
use Rattle.loop_station_camera.specs.Keeping.{IsOnlyRead}
use Rattle.loop_station_camera.proofs.EventRuns.{all-done, one-done}
use Rattle.loop_station_camera.proofs.ReadRuns.{each-one}
use Rattle.loop_station_camera.proofs.event.find_event.Goals as goal

pub places-preserved : goal.places-preserved
places-preserved g c =
    let part = c.in_ok-add_clips.ensures.found in
    record {
      finds = one-done c.args.tag c.places.place c.args.desks.now.desks c.places.desks.desks c.add_clips.new.desks.desks
          c.places.found.items c.add_clips.new.found.items part.0 c.number_at-number.result c.in_ok-clips.clips.items
          (IsOnlyRead g.D.Disk.medium) c.number_at-number.ensures c.places.invariant.finds c.in_ok-clips.ensures.same
          (subst (λ l. AreEnds c.number_at-number.result l part.0) c.deref.ensures.value part.2) part.1
          c.add_clips.ensures.reads;
      reads = each-one g.D.Disk.medium c.args.desks.now.desks c.places.desks.desks c.add_clips.new.desks.desks
          c.places.place c.places.invariant.reads c.add_clips.ensures.reads;
      lent = c.add_clips.ensures.lent ∙ c.places.invariant.lent;
    }

pub returns-clause-finds : goal.returns-clause-finds
returns-clause-finds g c =
    let all : c.places.place ≡ length c.args.desks.now.desks =
    omega (arith, c.count-count.ensures, c.places-test.false, c.places.auto.place-end) in
    all-done c.args.tag c.places.place c.args.desks.now.desks c.places.desks.desks c.places.found.items
    c.sort_unstable_by_key.new.self.items c.places.invariant.finds all c.sort_unstable_by_key.ensures.permutation
    (IsNonDecreasingBy-from_sort_by_key (λ f. f.first) _ c.sort_unstable_by_key.ensures.sorted
    (λ a r q k. search rules))
