use Rattle.std.proofs.Common.{refl, subst}
use Rattle.rtrb.specs.Ring.{SameProducer}
use Rattle.loop_pipeline.specs.Fronts.{FrontKeeps, IsRegular, Leaves, SeenFront}
use Rattle.loop_pipeline.proofs.FrontRuns.{again, held, kept, regular}
use Rattle.loop_pipeline.proofs.front.Front.into_ended.Goals as goal

pub returns-clause-ended : goal.returns-clause-ended
returns-clause-ended g c =
    let inside = c.self.inside in
    let leaves : Leaves g.S.FrameSource.next_gives g.P.PlaneMemory.plane (g.G.Guide.due c.args.self.guide)
    (g.G.Guide.ends c.args.self.guide) c.args.self (record {
      device = inside.device;
      queue = inside.queue;
      table = inside.table;
      hand = inside.hand;
      to = inside.to;
      missed = inside.missed;
      failed = inside.failed;
      over = inside.over;
    }) = record {
      ring = subst (λ (v : SeenFront g.row.S.Denot g.row.P.Denot g.row.G.Denot g.row.A.Denot).
          SameProducer v.to inside.to) c.self.view_is c.self.invariant.ring;
      keeps = subst (λ (v : SeenFront g.row.S.Denot g.row.P.Denot g.row.G.Denot g.row.A.Denot).
          IsRegular g.P.PlaneMemory.plane v.queue → FrontKeeps g.S.FrameSource.next_gives g.P.PlaneMemory.plane
          (g.G.Guide.due v.guide) (g.G.Guide.ends v.guide) v inside.device inside.queue inside.to inside.missed
          inside.failed inside.over) c.self.view_is
          (kept g.S.FrameSource.next_gives g.P.PlaneMemory.plane _ _ _ _ _ _ _ _ _ _ _ _ c.frames_are_kept.ensures c.self.invariant);
      port = again g.S.FrameSource.next_gives g.P.PlaneMemory.plane _ _ _ _ _ _ _ _ _ _ _ _ c.self.invariant;
      regular = subst (λ (v : SeenFront g.row.S.Denot g.row.P.Denot g.row.G.Denot g.row.A.Denot).
          IsRegular g.P.PlaneMemory.plane v.queue → IsRegular g.P.PlaneMemory.plane inside.queue) c.self.view_is
          (regular g.S.FrameSource.next_gives g.P.PlaneMemory.plane _ _ _ _ _ _ _ _ _ _ _ _
          c.queues_stay_sound.ensures c.self.invariant);
      held = held g.S.FrameSource.next_gives g.P.PlaneMemory.plane _ _ _ _ _ _ _ _ _ _ _ _ c.self.invariant;
    } in (
      refl,
      subst (λ over. Leaves g.S.FrameSource.next_gives g.P.PlaneMemory.plane (g.G.Guide.due c.args.self.guide)
          (g.G.Guide.ends c.args.self.guide) c.args.self (record {
            device = inside.device;
            queue = inside.queue;
            table = inside.table;
            hand = inside.hand;
            to = inside.to;
            missed = inside.missed;
            failed = inside.failed;
            over = over;
          })) c.if-not-self.false leaves,
    )
