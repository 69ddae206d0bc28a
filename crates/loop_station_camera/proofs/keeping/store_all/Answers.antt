use Rattle.std.proofs.Common.{◌<◌, ◌++◌, [], ◌∷◌, Ok, Err, ap, ◌∙◌, length, refl, subst, arith}
use Rattle.std.proofs.lemmas.List.{nil_from_length}
use Rattle.loop_desk.specs.Desk.{flushed}
use Rattle.loop_desk.specs.Seen.{DeskGoes, TellsStatus}
use Rattle.loop_pipeline.specs.Backs.{GoesAt, IsSoAt}
use Rattle.loop_pipeline.specs.Desks.{Lent}
use Rattle.loop_pipeline.proofs.DeskPlaces.{as-many, goes-still, goes-then, same-desk, still-within, there-now}
use Rattle.loop_station_camera.proofs.FlushRuns.{one-more}
use Rattle.loop_station_camera.proofs.keeping.store_all.Goals as goal

pub flushes-init : goal.flushes-init
flushes-init g c = record {
  place = c.active-place.ensures.place;
  inside = c.active-place.ensures.inside;
  lent = refl;
  went = goes-still c.args.desks.now.desks c.args.desks.now.lent.active _
      (subst (λ n. n < length c.args.desks.now.desks) c.active-place.ensures.place c.active-place.ensures.inside)
      (λ d. ([], refl));
}

pub flushes-preserved : goal.flushes-preserved
flushes-preserved g c =
    let so = c.flushes.invariant in
    let here = ap (λ (l : Lent g.row.D.Denot). l.active) so.lent in
    let next = subst (λ n. GoesAt n c.flushes.desks.desks c.flush.new.self.desks
    (λ d e. DeskGoes g.D.Disk.medium d e (flushed (Ok c.in-Ok.flushed) ∷ []))) here c.in-Ok.ensures.goes in
    record {
      place = so.place;
      inside = so.inside;
      lent = c.in-Ok.ensures.lent ∙ so.lent;
      went = goes-then c.args.desks.now.desks c.flushes.desks.desks c.flush.new.self.desks c.args.desks.now.lent.active
          _ _ _ so.went next
          (λ d e f was goes. (
            was.0 ++ Ok c.in-Ok.flushed ∷ [],
            one-more g.D.Disk.medium e f (Ok c.in-Ok.flushed) goes d was.0 was.1,
          ));
    }

pub status-requires : goal.status-requires
status-requires g c =
    still-within c.args.desks.now.desks c.flushes.desks.desks _ _ _ c.flushes.invariant.went c.flushes.invariant.inside

pub returns-then-status-eq0 : goal.returns-then-status-eq0
returns-then-status-eq0 g c =
    let so = c.flushes.invariant in
    let told = same-desk (λ desk. TellsStatus g.D.Disk.medium desk c.status.result) c.flushes.desks.desks
    c.args.desks.now.lent.active so.went.after (there-now _ _ _ _ so.went)
    (subst (λ n. IsSoAt n c.flushes.desks.desks (λ desk. TellsStatus g.D.Disk.medium desk c.status.result)) so.place
    c.status.ensures) in
    record {
      goes = record {
        before = so.went.before;
        after = so.went.after;
        at = so.went.at;
        goes = record {
          answers = so.went.goes.0;
          flushes = so.went.goes.1;
          all = λ e. nil_from_length _ (grind (arith, told.pending, c.if-status-eq0.true));
        };
        same = so.went.same;
      };
      lent = so.lent;
      still = as-many c.args.desks.now.desks c.flushes.desks.desks _ _ so.went;
    }

pub returns-in-Err : goal.returns-in-Err
returns-in-Err g c =
    let so = c.flushes.invariant in
    let here = ap (λ (l : Lent g.row.D.Denot). l.active) so.lent in
    let next = subst (λ n. GoesAt n c.flushes.desks.desks c.flush.new.self.desks
    (λ d e. DeskGoes g.D.Disk.medium d e (flushed (Err c.in-Err.fault) ∷ []))) here c.in-Err.ensures.goes in
    record {
      goes = goes-then c.args.desks.now.desks c.flushes.desks.desks c.flush.new.self.desks c.args.desks.now.lent.active
          _ _ _ so.went next
          (λ d e f was goes. record {
            answers = was.0 ++ Err c.in-Err.fault ∷ [];
            flushes = one-more g.D.Disk.medium e f (Err c.in-Err.fault) goes d was.0 was.1;
            all = λ none. absurd (cc);
          });
      lent = c.in-Err.ensures.lent ∙ so.lent;
      still = as-many c.flushes.desks.desks c.flush.new.self.desks _ _ next
          ∙ as-many c.args.desks.now.desks c.flushes.desks.desks _ _ so.went;
    }
