use Rattle.std.proofs.Common.{inr, arith}
use Rattle.loop_store.proofs.SlotLooks.{if-none}
use Rattle.loop_recorder.proofs.ReceiptPlaces.{some-both}
use Rattle.loop_recorder.proofs.ended.least_broken.Goals as goal

pub returns-in-None-clause-tied : goal.returns-in-None-clause-tied
returns-in-None-clause-tied g c = if-none c.first_stranger.result c.in-None.ensures.tied

pub returns-in-None-clause-broken : goal.returns-in-None-clause-broken
returns-in-None-clause-broken g c =
    some-both c.first_stranger.result
    (λ k named least. inr (record {
      absent = omega (arith, named.0);
      named = named.1;
      tied = c.in-None.ensures.tied;
      least = λ i pass inside j r within outside. least i pass inside j r within (omega (arith, outside));
    }))
    c.first_stranger.ensures.named c.first_stranger.ensures.least
