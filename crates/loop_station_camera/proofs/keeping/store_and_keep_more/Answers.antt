use Rattle.std.proofs.Common.{◌≡◌, ◌<◌, ◌≤◌, None, length, refl, ap, subst, ◌∙◌, arith, rules}
use Rattle.std.specs.Global.{Global}
use Rattle.loop_pipeline.specs.Backs.{GoesAt}
use Rattle.loop_pipeline.proofs.DeskPlaces.{goes-still}
use Rattle.loop_station_core.specs.declared.keep.Keep.{Keep}
use Rattle.loop_station_camera.specs.declared.growing.Growing.{Growing}
use Rattle.loop_station_camera.specs.Keeping.{KeepsMoreHere, LocksTime}
use Rattle.loop_station_camera.proofs.KeepRuns.{more-here, none-kept, one-kept, one-skipped}
use Rattle.loop_station_camera.proofs.keeping.store_and_keep_more.Goals as goal
use Rattle.loop_station_camera.proofs.keeping.store_and_keep_more.Goals.{then-is_none+then-is_past, else-is_none}

pub places-init : goal.places-init
places-init g c = record {
  kept = none-kept (KeepsMoreHere {A = Global} g.D.Disk.medium c.args.times c.args.growing.now.keep.tag)
      c.store_all-unstored.new.desks.desks c.nothing_kept-all.result c.nothing_kept-all.ensures.clips
      c.nothing_kept-all.ensures.fault;
  keep = refl;
  lent = c.store_all-unstored.ensures.lent;
  still = refl;
}

pub places-preserved-then-is_settled : goal.places-preserved-then-is_settled
places-preserved-then-is_settled g c =
    let inside : c.places.place < length c.places.desks.desks =
    omega (arith, c.places-test.true, c.count-count.ensures, c.places.invariant.still) in
    record {
      kept = one-skipped (KeepsMoreHere {A = Global} g.D.Disk.medium c.args.times c.args.growing.now.keep.tag) c.places.place
          c.store_all-unstored.new.desks.desks c.places.desks.desks c.places.desks.desks c.places.all
          c.places.invariant.kept
          (goes-still c.places.desks.desks c.places.place
          (λ d e. KeepsMoreHere {A = Global} g.D.Disk.medium c.args.times c.args.growing.now.keep.tag d e None) inside (λ d. refl));
      keep = c.places.invariant.keep;
      lent = c.places.invariant.lent;
      still = c.places.invariant.still;
    }

pub places-preserved-then-since-times : goal.places-preserved-then-since-times
places-preserved-then-since-times g c =
    let inside : c.places.place < length c.places.desks.desks =
    omega (arith, c.places-test.true, c.count-count.ensures, c.places.invariant.still) in
    record {
      kept = one-skipped (KeepsMoreHere {A = Global} g.D.Disk.medium c.args.times c.args.growing.now.keep.tag) c.places.place
          c.store_all-unstored.new.desks.desks c.places.desks.desks c.places.desks.desks c.places.all
          c.places.invariant.kept
          (goes-still c.places.desks.desks c.places.place
          (λ d e. KeepsMoreHere {A = Global} g.D.Disk.medium c.args.times c.args.growing.now.keep.tag d e None) inside (λ d. refl));
      keep = c.places.invariant.keep;
      lent = c.places.invariant.lent;
      still = c.places.invariant.still;
    }

pub places-preserved : goal.places-preserved
places-preserved g c =
    let low : c.args.times.since ≤ c.max-since.result = search rules in
    let locks : GoesAt c.places.place c.places.desks.desks c.keep_at-kept.new.desks.desks
    (λ d e. LocksTime g.D.Disk.medium (record c.args.times { since = c.max-since.result }) c.args.growing.now.keep.tag d e
    c.keep_at-kept.result) =
    subst (λ (k : Keep). GoesAt c.places.place c.places.desks.desks c.keep_at-kept.new.desks.desks
    (λ d e. LocksTime g.D.Disk.medium (record c.args.times { since = c.max-since.result }) k.tag d e
    c.keep_at-kept.result)) c.places.invariant.keep c.keep_at-kept.ensures.locks in
    record {
      kept = one-kept (KeepsMoreHere {A = Global} g.D.Disk.medium c.args.times c.args.growing.now.keep.tag) c.places.place
          c.store_all-unstored.new.desks.desks c.places.desks.desks c.is_before-is_past.new.desks.desks c.places.all
          c.places.invariant.kept c.take_kept.new.all c.keep_at-kept.result c.take_kept.ensures
          (more-here g.D.Disk.medium c.args.times c.max-since.result c.args.growing.now.keep.tag c.places.place
          c.places.desks.desks c.keep_at-kept.new.desks.desks c.is_before-is_past.new.desks.desks c.places.all
          c.take_kept.new.all c.keep_at-kept.result c.take_kept.ensures low locks c.is_before-is_past.ensures.reads);
      keep = elim c.if-is_none.branch [
        | then-is_none+then-is_past w ↦
            ap (λ (x : Growing). x.keep) w.growing-is ∙ (w.settle.ensures ∙ c.places.invariant.keep)
        | else-is_none w ↦
            ap (λ (x : Growing). x.keep) w.growing-is ∙ (w.unsettle.ensures ∙ c.places.invariant.keep)
      ];
      lent = c.is_before-is_past.ensures.lent ∙ (c.keep_at-kept.ensures.lent ∙ c.places.invariant.lent);
      still = c.is_before-is_past.ensures.still ∙ (c.keep_at-kept.ensures.still ∙ c.places.invariant.still);
    }
