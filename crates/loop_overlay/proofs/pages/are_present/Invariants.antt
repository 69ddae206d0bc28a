use Rattle.std.proofs.Common.{ℕ, ◌*◌, ◌+◌, ◌<◌}
use Rattle.loop_overlay.specs.Pages.{IsThere}
use Rattle.loop_overlay.proofs.pages.are_present.Given as goal

-- the part's pages before this one are there
abbrev pub invariant-loop-page : goal.invariant-loop-page
invariant-loop-page l = (p : ℕ) → p < l.page → l.at < (p + 1) * 4096 → IsThere l.present p
