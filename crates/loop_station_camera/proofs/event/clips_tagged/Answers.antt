use Rattle.std.proofs.Common.{◌≡◌, ◌≤◌, ap, ◌∙◌, List, length, subst, take, rules}
use Rattle.std.proofs.lemmas.List.Sorted.{IsNonDecreasingBy-from_sort_by_key}
use Rattle.loop_clips.specs.declared.clip.Clip.{Clip}
use Rattle.loop_station_camera.specs.Events.{having_tag}
use Rattle.loop_station_camera.proofs.EventRuns.{tagged-there}
use Rattle.loop_station_camera.proofs.event.clips_tagged.Goals as goal

pub returns-clause-same : goal.returns-clause-same
returns-clause-same g c =
    let value : c.as_slice-clip-items.result.now ≡ c.in_ok-outline.outline.clips.items = search rules in
    let all : length c.in_ok-outline.outline.clips.items ≤ c.loop-clip.clip-index =
    subst (λ l. length l ≤ c.loop-clip.clip-index) value c.loop-clip-test.false in
    let are : c.loop-clip.clips.items
    ≡ having_tag c.args.tag (take c.loop-clip.clip-index c.in_ok-outline.outline.clips.items) =
    c.loop-clip.invariant ∙ ap (λ (l : List Clip). having_tag c.args.tag (take c.loop-clip.clip-index l)) value in
    tagged-there g.D.Disk.medium c.args.tag c.args.place c.loop-clip.clip-index c.args.desks.now.desks
    c.in_ok-outline.outline c.loop-clip.clips.items c.sort_unstable_by_key.new.self.items
    c.in_ok-outline.ensures.outline all are c.sort_unstable_by_key.ensures.permutation

pub returns-clause-sorted : goal.returns-clause-sorted
returns-clause-sorted g c =
    IsNonDecreasingBy-from_sort_by_key (λ c. c.from) _ c.sort_unstable_by_key.ensures.sorted (λ a r q k. search rules)
