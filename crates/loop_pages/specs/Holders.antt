-- Who holds a page, by the views of the seats.
use Rattle.std.specs.Prelude.{◌≡◌, ℕ, ◌⊎◌, List, Contains, slice_index}
use mathlib.Core.Option.{some}
use lib.ListN.{get_elem?}
use Rattle.atomic_table.specs.Table.{State}
use Rattle.loop_pages.specs.declared.rule.Holding.{Holding}

-- the view of this seat lists the page
abbrev pub ListsPage : List Holding → ℕ → ℕ → Type 0
ListsPage views seat page = (v : Holding) × (get_elem? views seat ≡ some v) × Contains v.pages page

-- the word of a page is 1 where exactly one seat's view lists the page, and 0 where none does
abbrev pub OneHolder : State (Unit {0}) Holding → Type 0
OneHolder s = (page : ℕ)
    → ((slice_index s.words page ≡ 1) × ((seat : ℕ) × ListsPage s.views seat page × ((other : ℕ)
    → ListsPage s.views other page → other ≡ seat)))
    ⊎ ((slice_index s.words page ≡ 0) × ((seat : ℕ) → ¬ ListsPage s.views seat page))
