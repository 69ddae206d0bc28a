-- What an upgrade of the layout to version 2 finds, and what it leaves.
use Rattle.std.specs.Prelude.{◌≡◌, ℕ, ◌+◌, ◌<◌, List, Option, None, get_or, is_some, slice_index_or}
use Rattle.loop_record.specs.declared.clip.Span.{Span}
use Rattle.loop_record.specs.Change.{KeepsClips}
use Rattle.loop_record.specs.Geometry.{clip_at}
use Rattle.loop_record.specs.Layout.{clip_in, is_open, version_in}

-- the old image in version 2, where each id has the clip that it had, and an entry without one is unchanged
pub record IsUpgraded (old new : List ℕ) : Type 0 where
  pub clips : KeepsClips old new
  pub closed : (id k : ℕ) → id < 64 → k < 32 → clip_in old id ≡ None
      → get_or new (clip_at id + k) 0 ≡ get_or old (clip_at id + k) 0
  pub version : version_in new ≡ 2

-- ---- inside the call

-- the open entries of the image are those of these clips
abbrev pub AreOpen : List (Option Span) → List ℕ → Type 0
AreOpen clips image = (id : ℕ) → id < 64 → is_open image (clip_at id) ≡ is_some (slice_index_or clips id None)
