use Rattle.std.proofs.Common.{ℕ, ◌<◌}
use Rattle.loop_overlay.specs.Pages.{IsThere}
use Rattle.lapyrei.proofs.open.first_gone.Given as goal

abbrev pub invariant-loop-page : goal.invariant-loop-page
invariant-loop-page l = (p : ℕ) → p < l.page → IsThere l.present p
