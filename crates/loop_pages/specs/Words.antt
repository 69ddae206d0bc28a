-- The rule of the page words, and what a step on one of them tells its seat.
use Rattle.std.specs.Prelude.{◌≡◌, ℕ, zero, suc, ◌+◌, ◌≤◌, ◌==◌, if◌then◌else◌, MatchBool, List, [], ◌∷◌, ◌++◌, length, slice_index}
use Rattle.atomic_table.specs.Table.{State, Me, Step}
use Rattle.loop_pages.specs.declared.rule.Holding.{Holding}

-- a view: the pages that its seat holds, those that its last claim missed, and all that it ever tried, in their order
abbrev pub holding : List ℕ → List ℕ → List ℕ → Holding
holding pages missed tried = record { pages = pages; missed = missed; tried = tried }

-- how often a list contains a page
abbrev pub times : ℕ → List ℕ → ℕ
times page [] = 0
times page (other ∷ others) = (if page == other then 1 else 0) + times page others

-- how often the views list a page as held
abbrev pub times_listed : ℕ → List Holding → ℕ
times_listed page [] = 0
times_listed page (v ∷ vs) = times page v.pages + times_listed page vs

-- there is a word for each page, and it says how often the views list the page, which is once or not at all
pub record IsLedgerKept (count : ℕ) (s : State (Unit {0}) Holding) : Type 0 where
  pub size : length s.words ≡ count
  pub counted : (page : ℕ) → slice_index s.words page ≡ times_listed page s.views
  pub once : (page : ℕ) → times_listed page s.views ≤ 1

-- what a claim has missed when it tries a page: a claim begins at page 0, and so does its list
abbrev pub missed_before : ℕ → List ℕ → List ℕ
missed_before zero missed = []
missed_before (suc page) missed = missed

-- a try of a page: the view has tried it, gains it where its word was 0, and has missed it where it was not
abbrev pub tries : Step (Unit {0}) → Me (Unit {0}) Holding → ℕ → Me (Unit {0}) Holding → Type 0
tries step before found after =
    MatchBool
    (found == 0)
    (after.0 ≡ holding (before.0.pages ++ step.word ∷ []) (missed_before step.word before.0.missed)
    (before.0.tried ++ step.word ∷ []))
    (after.0 ≡ holding before.0.pages (missed_before step.word before.0.missed ++ step.word ∷ [])
    (before.0.tried ++ step.word ∷ []))

-- a page given back: the view loses the page, which it listed last
abbrev pub frees : Step (Unit {0}) → Me (Unit {0}) Holding → ℕ → Me (Unit {0}) Holding → Type 0
frees step before _ after =
    (before.0.pages ≡ after.0.pages ++ step.word ∷ [])
    × ((after.0.missed ≡ before.0.missed) × (after.0.tried ≡ before.0.tried))
