use Rattle.std.proofs.Common.{◌≡◌, ℕ, None, Some, arith}
use Rattle.loop_store.specs.Numbers.{is_among}
use Rattle.loop_record.specs.Recording.{holds}
use Rattle.loop_store.proofs.Least.{least-same}
use Rattle.loop_y4m.proofs.Ranges.{first_held, none_held}
use Rattle.loop_y4m.proofs.exported.held_between.Goals as goal

pub returns-in-Some-clause-frames : goal.returns-in-Some-clause-frames
returns-in-Some-clause-frames g c = λ r stands.
    first_held r c.args.from c.in-Some.number c.args.to
    (least-same (is_among c.args.store.now.numbers) (holds r) c.args.from
    (Some c.in-Some.number) stands.told.numbers_are c.in-Some.ensures.least)

pub returns-in_default-clause-frames : goal.returns-in_default-clause-frames
returns-in_default-clause-frames g c = λ r stands.
    none_held r c.args.from c.args.to (Some c.in-Some.number) (λ m is. omega (arith, c.if-number-to.false, that c.in-Some.number m is))
    (least-same (is_among c.args.store.now.numbers) (holds r) c.args.from (Some c.in-Some.number) stands.told.numbers_are c.in-Some.ensures.least)
  where
    that : (a b : ℕ) → Some a ≡ Some b → a ≡ b
    that a b e = cc

pub returns-in_default-2-clause-frames : goal.returns-in_default-2-clause-frames
returns-in_default-2-clause-frames g c = λ r stands.
    none_held r c.args.from c.args.to None (λ m is. absurd cc)
    (least-same (is_among c.args.store.now.numbers) (holds r) c.args.from None stands.told.numbers_are
    c.in_default.ensures.least)
