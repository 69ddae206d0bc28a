use Rattle.std.proofs.Common.{◌≡◌, true, length, rules, refl, subst}
use Rattle.loop_capture.specs.Ticks.{SeenDevice, Ends, Ticks}
use Rattle.loop_vb2.specs.Planes.{frame_size}
use Rattle.loop_capture.proofs.SourceTick.{took}
use Rattle.loop_capture.proofs.device.Device.tick.Goals as goal

pub returns-in-Some-clause-tick : goal.returns-in-Some-clause-tick
returns-in-Some-clause-tick g c =
    let gives = g.S.FrameSource.next_gives in
    let m = g.P.PlaneMemory.plane in
    let size = length c.self.inside.frame.items in
    let d : SeenDevice g.row.S.Denot = record { source = c.self.inside.source; size = size; next = c.self.inside.next; goes_on = c.self.inside.goes_on } in
    let e : SeenDevice g.row.S.Denot =
    record { source = c.end_lent.new.source; size = size; next = c.sequence_after-self-inside.result; goes_on = c.self.inside.goes_on } in
    let fits : size ≡ frame_size c.args.queue.now.body.shape = search rules in
    let started : c.args.queue.now.body.started ≡ true = search rules in
    let is = c.sequence_at-sequence.ensures in
    let bytes = g.S.FrameSource.lends c.make_ready.new.self in
    let given = c.end_lent.ensures.gave c.self.inside.source c.in-Some.answer bytes c.in-Some.ensures.gives in
    subst (λ x. Ticks gives m c.args.now c.end_lent.result x e c.args.queue.now c.end_lent.new.queue) c.self.view_is
    (took gives m c.args.now c.sequence_at-sequence.result c.take_fresh.result c.in-Some.answer c.end_lent.result
    bytes d e c.args.queue.now c.take_fresh.new.self c.end_lent.new.queue fits started
    c.take_fresh.ensures.step is (λ more. search rules) given refl refl
    c.sequence_after-self-inside.ensures c.end_lent.ensures.ends)

pub returns-in-None-clause-tick : goal.returns-in-None-clause-tick
returns-in-None-clause-tick g c =
    let gives = g.S.FrameSource.next_gives in
    let m = g.P.PlaneMemory.plane in
    let size = length c.self.inside.frame.items in
    let d : SeenDevice g.row.S.Denot = record { source = c.self.inside.source; size = size; next = c.self.inside.next; goes_on = c.self.inside.goes_on } in
    let e : SeenDevice g.row.S.Denot =
    record {
      source = c.ask-answer.new.source;
      size = length c.ask-answer.new.frame.items;
      next = c.sequence_after-self-inside-in-None.result;
      goes_on = c.self.inside.goes_on;
    } in
    let fits : size ≡ frame_size c.args.queue.now.body.shape = search rules in
    let started : c.args.queue.now.body.started ≡ true = search rules in
    let is = c.sequence_at-sequence.ensures in
    let ends = subst (λ l. Ends m c.ask-answer.result
    (record { sequence = c.sequence_at-sequence.result; timestamp = c.args.now }) l c.end_frame.result
    c.take_fresh.new.self c.end_frame.new.queue) c.deref.ensures.value c.end_frame.ensures.ends in
    subst (λ x. Ticks gives m c.args.now c.end_frame.result x e c.args.queue.now c.end_frame.new.queue) c.self.view_is
    (took gives m c.args.now c.sequence_at-sequence.result c.take_fresh.result c.ask-answer.result c.end_frame.result
    c.ask-answer.new.frame.items d e c.args.queue.now c.take_fresh.new.self c.end_frame.new.queue fits started
    c.take_fresh.ensures.step is (λ more. c.ask-answer.ensures.size)
    (subst (λ s. gives s c.ask-answer.result c.ask-answer.new.frame.items c.ask-answer.new.source) (c.in-None.ensures.none refl)
    c.ask-answer.ensures.gives) c.ask-answer.ensures.size refl c.sequence_after-self-inside-in-None.ensures ends)
