use Rattle.std.proofs.Common.{◌∙◌, ◌∷◌, ◌++◌, [], All, ap, arith, length, map, subst, sym}
use Rattle.std.proofs.lemmas.List.{map_push}
use Rattle.std.proofs.lemmas.List.Elements.{All-nil, All-push}
use Rattle.std.specs.List.{zip}
use Rattle.std.specs.Iterator.Adapters.{zip_first, zip_second}
use Rattle.std.specs.Vec.Iter.{into_iter_items, into_iter_len}
use Rattle.loop_plane.specs.Kinds.{mmap_plane}
use Rattle.loop_commands.specs.Recorded.{IsRecordingShot, source_and_store}
use Rattle.loop_commands.proofs.Recordings.{none-paired, pair-more}
use Rattle.loop_commands.proofs.cameras.shots_of.Goals as goal

pub loop-source-init : goal.loop-source-init
loop-source-init c =
    let it = c.into_iter-source-iterator.ensures.into_iter_gives in
    let first = ap zip_first it ∙ c.zip-source-items.ensures.first in
    let second = ap zip_second it in
    let sources = ap into_iter_items first ∙ c.into_iter.ensures.rest in
    let many = ap into_iter_len first ∙ c.into_iter.ensures.len in
    let stores = ap into_iter_items second ∙ c.zip-source-items.ensures.second.0 in
    let count = ap into_iter_len second ∙ c.zip-source-items.ensures.second.1 in
    let none = c.in_ok-shots.ensures.items in
    record {
      first = omega (arith, many, ap length sources, c.args.sources.ok.0);
      second = omega (arith, count, ap length stores, c.args.stores.ok.0);
      room = omega (arith, count, c.in_ok-shots.ensures.len, c.in_ok-shots.ensures.capacity, c.len.ensures);
      held = λ i. map source_and_store (none i) ++ zip (sources i) (stores i);
      ready = subst (λ l. All (IsRecordingShot mmap_plane c.args.frames) l) (sym none) (All-nil (IsRecordingShot mmap_plane c.args.frames));
    }

pub loop-source-preserved : goal.loop-source-preserved
loop-source-preserved c =
    let so = c.loop-source.invariant in
    let steps = c.in-Some.ensures.steps in
    let push = c.push_reserved.ensures in
    let made = c.in_ok-shot_before.ensures in
    let shots = c.loop-source.shots.items in
    record {
      first = omega (arith, steps.0.1, ap length steps.0.0, so.first);
      second = omega (arith, steps.1.1, ap length steps.1.0, so.second);
      room = omega (arith, steps.1.1, push.len, push.capacity, so.room);
      held =
          pair-more _ _ _ _ _ _ _ _ _
          (ap (map source_and_store) push.items ∙ map_push source_and_store shots _ ∙ ap (λ h. map source_and_store shots ++ h ∷ []) made.held)
          steps.0.0 steps.1.0 so.held;
      ready = rw push.items (All-push (IsRecordingShot mmap_plane c.args.frames) _ _ so.ready made.ready);
    }

pub returns-clause-held : goal.returns-clause-held
returns-clause-held c =
    let at = c.loop-source in
    none-paired (map source_and_store at.shots.items) (zip c.args.sources.items c.args.stores.items)
    (into_iter_items (zip_first at.source-iterator)) (into_iter_items (zip_second at.source-iterator))
    (into_iter_len (zip_first at.source-iterator)) (into_iter_len (zip_second at.source-iterator)) at.invariant.first
    at.invariant.second c.in-None.ensures.steps (λ u. u.1.0) (λ v. v.1.0) at.invariant.held
