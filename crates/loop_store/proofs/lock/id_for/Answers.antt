use Rattle.std.proofs.Common.{inl, inr, refl, sym, ap, ◌∙◌, subst, arith}
use Rattle.std.specs.Prelude.{◌<◌, ℕ}
use Rattle.loop_record.specs.Recording.{first_free}
use Rattle.loop_store.proofs.UnheldNumbers.{first-fits, first-full, first-missing, first-old}
use Rattle.loop_store.proofs.lock.id_for.Goals as goal

pub returns-in-Some-clause-refusals : goal.returns-in-Some-clause-refusals
returns-in-Some-clause-refusals g c = inr (inl ((c.in-Some.number, (refl, c.in-Some.ensures.within)), omega (arith, c.if-span.false)))

pub returns-in-Some-clause-answers : goal.returns-in-Some-clause-answers
returns-in-Some-clause-answers g c = λ r image known. first-missing c.args.index.now.version r c.args.span
    c.in-Some.number (omega (arith, c.if-span.false)) (c.in-Some.ensures.missing r image known)

pub returns-in_default-free_id-clause-refusals : goal.returns-in_default-free_id-clause-refusals
returns-in_default-free_id-clause-refusals g c =
    inr (inr (inl (refl, (omega (arith, c.if-span.false), c.in_default-free_id.ensures))))

pub returns-in_default-free_id-clause-answers : goal.returns-in_default-free_id-clause-answers
returns-in_default-free_id-clause-answers g c = λ r image known.
    first-full c.args.index.now.version r c.args.span (omega (arith, c.if-span.false))
    (c.in_default.ensures.missing r image known) (sym (ap first_free known.clips_are) ∙ c.in_default-free_id.ensures)

pub returns-then-not-has_place-clause-refusals : goal.returns-then-not-has_place-clause-refusals
returns-then-not-has_place-clause-refusals g c =
    inr (inr (inr (refl, (omega (arith, c.if-span.false), sym c.has_place.ensures ∙ c.if-not-has_place.true))))

pub returns-then-not-has_place-clause-answers : goal.returns-then-not-has_place-clause-answers
returns-then-not-has_place-clause-answers g c = λ r image known.
    let is = c.in-Some-free_id.ensures.1 ∙ ap first_free known.clips_are in
    first-old c.args.index.now.version r c.args.span (omega (arith, c.if-span.false))
    (c.in_default.ensures.missing r image known) (subst (λ (n : ℕ). n < 64) is c.in-Some-free_id.ensures.0)
    (sym c.has_place.ensures ∙ c.if-not-has_place.true)

pub returns-clause-answers : goal.returns-clause-answers
returns-clause-answers g c = λ r image known.
    let is = c.in-Some-free_id.ensures.1 ∙ ap first_free known.clips_are in (
      first-fits c.args.index.now.version r c.args.span (omega (arith, c.if-span.false))
          (c.in_default.ensures.missing r image known) (subst (λ (n : ℕ). n < 64) is c.in-Some-free_id.ensures.0)
          (sym c.has_place.ensures ∙ c.if-not-has_place.false),
      is,
    )
