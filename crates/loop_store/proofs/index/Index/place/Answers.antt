use Rattle.std.proofs.Common.{◌≢◌, inr, refl, sym, ◌∙◌}
use Rattle.loop_record.specs.Recording.{last_number, ring_of}
use Rattle.loop_store.proofs.index.Index.place.Goals as goal

pub returns-in-Some-clause-answers : goal.returns-in-Some-clause-answers
returns-in-Some-clause-answers g c = λ r image told.
    let unspent : c.args.self.now.next ≢ last_number (ring_of c.args.self.now.ring.geometry) =
    λ e. c.if-self-last_number.false (e ∙ sym c.last_number.ensures) in
    (λ e. unspent (told.next_is ∙ e), c.in-Some.ensures.place r image told (λ e. unspent (told.next_is ∙ e)))

pub returns-in-None-clause-answers : goal.returns-in-None-clause-answers
returns-in-None-clause-answers g c = λ r image told.
    let unspent : c.args.self.now.next ≢ last_number (ring_of c.args.self.now.ring.geometry) =
    λ e. c.if-self-last_number.false (e ∙ sym c.last_number.ensures) in
    inr (refl, (λ e. unspent (told.next_is ∙ e), c.in-None.ensures.place r image told (λ e. unspent (told.next_is ∙ e))))
