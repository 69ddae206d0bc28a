use Rattle.std.proofs.Common.{◌≡◌, true, [], ◌∷◌, length, refl, sym, ap, subst, ◌∙◌, append_assoc, append-nil, arith}
use Rattle.std.specs.Vec.Iter.{into_iter_items}
use Rattle.loop_ioctl.specs.Events.{Runs, is_whole, are_whole}
use Rattle.loop_ioctl.proofs.EventRuns.{first_true, second_true, nothing_left, runs_none, runs_more}
use Rattle.loop_ioctl.proofs.ModelTurns.{runs_are_in_order}
use Rattle.loop_ioctl.proofs.events.run_events.Goals as goal

pub loop-event-init : goal.loop-event-init
loop-event-init g c =
    let m = g.P.PlaneMemory.plane in
    let gives = c.into_iter-event-iterator.ensures.into_iter_gives in
    let all = ap length gives.0 in
    let count = gives.1 in
    record {
      items = gives.0;
      left = omega (arith, c.args.events.ok.0);
      runs = subst (λ l. Runs m [] l c.args.queue.now c.args.table.now c.args.queue.now c.args.table.now)
          (sym c.in-Ok.ensures.items) (runs_none m c.args.queue.now c.args.table.now);
      shape = refl;
      whole = subst (λ l. are_whole c.args.queue.now.body.shape l ≡ true) (sym gives.0) c.requires.whole;
      room = omega (arith, c.in-Ok.ensures.capacity, c.in-Ok.ensures.len, c.len.ensures, c.args.events.ok.0);
    }

pub react-reply-requires : goal.react-reply-requires
react-reply-requires g c =
    let shape = c.args.queue.now.body.shape in
    let rest = into_iter_items c.next.new.self in
    let whole : are_whole shape (c.in-Some.event ∷ rest) ≡ true =
    subst (λ l. are_whole shape l ≡ true) c.in-Some.ensures.steps.0 c.loop-event.invariant.whole in
    record {
      whole = ap (λ s. is_whole s c.in-Some.event) c.loop-event.invariant.shape
          ∙ first_true (is_whole shape c.in-Some.event) (are_whole shape rest) whole;
    }

pub push_reserved-requires : goal.push_reserved-requires
push_reserved-requires g c =
    let short = ap length c.in-Some.ensures.steps.0 in
    omega (arith, c.loop-event.invariant.room, short)

pub loop-event-preserved : goal.loop-event-preserved
loop-event-preserved g c =
    let at = c.loop-event in
    let x = c.in-Some.event in
    let shape = c.args.queue.now.body.shape in
    let rest = into_iter_items c.next.new.self in
    let steps : into_iter_items at.event-iterator ≡ x ∷ rest = c.in-Some.ensures.steps.0 in
    let whole : are_whole shape (x ∷ rest) ≡ true = subst (λ l. are_whole shape l ≡ true) steps at.invariant.whole in
    let short = ap length steps in
    record {
      items = append_assoc at.yielded (x ∷ []) rest ∙ rw (← steps) at.invariant.items;
      left = let was = at.invariant.left in let gone = c.in-Some.ensures.steps.1 in omega arith;
      runs =
          runs_more g.P.PlaneMemory.plane at.yielded x at.replies.items c.push_reserved.new.self.items
          c.react-reply.result c.args.queue.now at.queue c.react-reply.new.queue c.args.table.now at.table
          c.react-reply.new.table
          c.push_reserved.ensures.items at.invariant.runs c.react-reply.ensures.step;
      shape = c.react-reply.ensures.shape ∙ at.invariant.shape;
      whole = second_true (is_whole shape x) (are_whole shape rest) whole;
      room = omega (arith, c.push_reserved.ensures.len, c.push_reserved.ensures.capacity, at.invariant.room, short);
    }

pub returns-clause-runs : goal.returns-clause-runs
returns-clause-runs g c =
    let at = c.loop-event in
    let none = c.in-None.ensures.steps in
    let empty : into_iter_items at.event-iterator ≡ [] = nothing_left (into_iter_items at.event-iterator) (sym at.invariant.left ∙ none.0) in
    let all : at.yielded ≡ c.args.events.items = sym (append-nil at.yielded) ∙ rw empty at at.invariant.items in
    subst (λ l. Runs g.P.PlaneMemory.plane l at.replies.items c.args.queue.now c.args.table.now at.queue at.table) all at.invariant.runs

pub returns-clause-in_order : goal.returns-clause-in_order
returns-clause-in_order g c =
    runs_are_in_order g.row.A.Denot g.P.PlaneMemory.plane c.args.events.items c.loop-event.replies.items
    c.args.queue.now c.loop-event.queue c.args.table.now c.loop-event.table (returns-clause-runs g c)
