-- How callers see a table of clips, and what its calls leave of an image.
use Rattle.std.specs.Prelude.{◌≡◌, ◌⊎◌, ℕ, ◌+◌, ◌<◌, List, [], ◌∷◌, Option, Some, None}
use Rattle.loop_clips.specs.declared.clip.Clip.{Clip}
use Rattle.loop_record.specs.declared.clip.Span.{Span}
use Rattle.loop_record.specs.Change.{ShowsClip}
use Rattle.loop_record.specs.Layout.{clip_in}
use Rattle.loop_record.specs.Recording.{first_free}

-- the clips, each with its id; the first place is that of this id
abbrev pub clip_list : ℕ → List (Option Span) → List Clip
clip_list id [] = []
clip_list id (None ∷ clips) = clip_list (id + 1) clips
clip_list id (Some s ∷ clips) = record { id = id; from = s.from; to = s.to; tag = s.tag } ∷ clip_list (id + 1) clips

-- the least of these ids without a clip; none where each has one
abbrev pub IsFirstFree : List (Option Span) → Option ℕ → Type 0
IsFirstFree clips None = first_free clips ≡ 64
IsFirstFree clips (Some id) = (id < 64) × (id ≡ first_free clips)

-- the old image, where the entry of an id is as it was or has this clip
abbrev pub ShowsClipOrNot : ℕ → Option Span → List ℕ → List ℕ → Type 0
ShowsClipOrNot id clip old new = ShowsClip id (clip_in old id) old new ⊎ ShowsClip id clip old new
