-- Which clips may be locked, and what a lock and an unlock note. Only the store's own code uses this.
use Rattle.std.specs.Prelude.{◌≡◌, ◌⊎◌, ℕ, ◌+◌, ◌*◌, ◌<◌, ◌≤◌, true, false, IsTrue, Option, None, Some, Result, Ok, Err, List}
use Rattle.loop_record.specs.declared.clip.Span.{Span}
use Rattle.loop_record.specs.declared.geometry.Geometry.{Geometry}
use Rattle.loop_record.specs.Layout.{has_tag_place, version_in}
use Rattle.loop_record.specs.Recording.{Recording, Ring, block, first_free, holds, may_lock}
use Rattle.loop_ring.specs.Heads.{heads_of}
use Rattle.loop_store.specs.declared.fault.StoreFault.{StoreFault}
use Rattle.loop_store.specs.declared.fault.StoreFault.TheVariants.{ClipEmpty, ClipNotHeld, ClipTableFull, OldLayout}
use Rattle.loop_store.specs.Calls.{first_of, span_checks}
use Rattle.loop_store.specs.Grow.{HasNoneStray}

-- the numbers from one up to another, without the other, are held
abbrev pub AreHeld : Recording → ℕ → ℕ → Type 0
AreHeld r from end = (m : ℕ) → from ≤ m → m < end → holds r m ≡ true

-- a run from this number on goes as far as it can in its block: its end isn't held, or is the first number after that
-- block
abbrev pub EndsRun : Ring → Recording → ℕ → ℕ → Type 0
EndsRun ring r from end = (holds r end ≡ false) ⊎ (end ≡ (block ring from + 1) * ring.slots)

-- the number, if there is one, lies within a span
abbrev pub IsInSpan : Span → Option ℕ → Type 0
IsInSpan span None = Unit {0}
IsInSpan span (Some n) = (span.from ≤ n) × (n ≤ span.to)

-- why no clip of a span may be added, whatever the disk: it is empty, or a number of it isn't held, or each id has a
-- clip, or this version of the layout has no place for its tag
abbrev pub CanRefuseSpan : ℕ → Span → List (Option Span) → StoreFault → Type 0
CanRefuseSpan version span clips fault =
    (fault ≡ ClipEmpty) × (span.to < span.from)
    ⊎ (((n : ℕ) × ((fault ≡ ClipNotHeld n) × IsInSpan span (Some n))) × (span.from ≤ span.to)
    ⊎ ((fault ≡ ClipTableFull) × ((span.from ≤ span.to) × (first_free clips ≡ 64))
    ⊎ (fault ≡ OldLayout) × ((span.from ≤ span.to) × (has_tag_place version span ≡ false))))

-- the answer to whether a clip of a span may be added in this version of the layout, and under which id
abbrev pub AnswersSpan : ℕ → Recording → Span → Result ℕ StoreFault → Type 0
AnswersSpan version r span (Ok id) = (first_of (span_checks version r span) ≡ None) × (id ≡ first_free r.clips)
AnswersSpan version r span (Err fault) = first_of (span_checks version r span) ≡ Some fault

-- a recording to which a clip of this span may be added, in this version of the layout, under this id
pub record CanTake (version : ℕ) (g : Geometry) (span : Span) (id : ℕ) (r : Recording) : Type 0 where
  pub fits : first_of (span_checks version r span) ≡ None
  pub legal : IsTrue (may_lock r span)
  pub id_is : id ≡ first_free r.clips

-- the segments' headers and the layout's version are those of the old image, and no gate is stray
pub record KeepsSegments (g : Geometry) (old new : List ℕ) : Type 0 where
  pub heads : heads_of g new ≡ heads_of g old
  pub unstray : HasNoneStray g new
  pub version : version_in new ≡ version_in old
