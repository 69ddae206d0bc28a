-- What the answers of the ledger mean.
use Rattle.std.specs.Prelude.{◌≡◌, ℕ, ◌+◌, ◌-◌, ◌<◌, ◌≤◌, ◌⊎◌, List, ◌++◌, length, slice_index, Contains}
use Rattle.std.specs.List.{All, AllPairs, range_with_len}
use Rattle.loop_pages.specs.declared.fault.PageFault.{PageFault}
use Rattle.loop_pages.specs.declared.fault.PageFault.TheVariants.{NoPages, NoMemory, BadCount}

-- a count that may be asked for: 1 up to this many
abbrev pub IsCount : ℕ → ℕ → Type 0
IsCount most count = (0 < count) × (count ≤ most)

-- pages below a limit, each above the one before
pub record IsRising (limit : ℕ) (pages : List ℕ) : Type 0 where
  pub below : All (λ page. page < limit) pages
  pub rise : AllPairs (λ page later. page < later) pages

-- each page below a limit was tried once, from page 0 upward, after those that were tried before: the claim got some,
-- and missed the others
pub record IsTried (limit : ℕ) (got missed before tried : List ℕ) : Type 0 where
  pub order : tried ≡ before ++ range_with_len 0 limit
  pub got_rise : IsRising limit got
  pub missed_rise : IsRising limit missed
  pub each : (page : ℕ) → page < limit → Contains got page ⊎ Contains missed page
  pub once : length got + length missed ≡ limit

-- a claim that has as many as it asked for, and tried no page past the last of them
pub record IsGot (most count : ℕ) (pages missed before tried : List ℕ) : Type 0 where
  pub all : length pages ≡ count
  pub tries : IsTried (slice_index pages (count - 1) + 1) pages missed before tried
  pub within : slice_index pages (count - 1) < most

-- a claim that tried every page and got fewer than it asked for
pub record IsShort (most count : ℕ) (got missed before tried : List ℕ) : Type 0 where
  pub few : length got < count
  pub tries : IsTried most got missed before tried

-- why a claim was refused: BadCount is the answer to a count that may not be asked for, and to no other
abbrev pub FaultOfClaim : PageFault → Type 0 → Type 0
FaultOfClaim BadCount good = ¬ good
FaultOfClaim NoMemory good = good
FaultOfClaim NoPages good = good

-- why no ledger was made: nothing is claimed, so pages are never wanting
abbrev pub FaultOfNew : PageFault → Type 0 → Type 0
FaultOfNew BadCount good = ¬ good
FaultOfNew NoMemory good = good
FaultOfNew NoPages good = ⊥

-- a fact that holds where too few pages were free
abbrev pub IfNoPages : PageFault → Type 0 → Type 0
IfNoPages NoPages fact = fact
IfNoPages NoMemory fact = Unit {0}
IfNoPages BadCount fact = Unit {0}

-- a fact that holds where the call was refused for another reason
abbrev pub UnlessNoPages : PageFault → Type 0 → Type 0
UnlessNoPages NoPages fact = Unit {0}
UnlessNoPages NoMemory fact = fact
UnlessNoPages BadCount fact = fact
