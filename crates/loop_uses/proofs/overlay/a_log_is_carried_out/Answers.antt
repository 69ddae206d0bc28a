use Rattle.std.proofs.Common.{ap, ◌∙◌, ℕ, List, [], ◌∷◌, replicate}
use Rattle.loop_disk.specs.Calls.{no_failures}
use Rattle.loop_disk.specs.Crashing.{medium_after}
use Rattle.loop_disk.specs.declared.crash.DeviceCall.TheVariants as call
use Rattle.loop_uses.proofs.overlay.a_log_is_carried_out.Goals as goal

pub returns-in-Ok-carry_out : goal.returns-in-Ok-carry_out
returns-in-Ok-carry_out c =
    (c.in-Ok-carry_out.ensures.carried tt (replicate 4 0) c.in-Ok.ensures.fresh).done
    ∙ ap (λ (bytes : List ℕ). (medium_after (record {
      start = replicate 4 0;
      calls = call.Write 1 bytes ∷ call.Sync ∷ [];
      failures = no_failures;
    })).bytes) c.in-Ok-from_slice.ensures.items
