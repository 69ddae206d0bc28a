-- What follows from the definitions of what C is told.
use Rattle.std.specs.Prelude.{◌⊎◌, ℕ, ◌*◌, ◌≤◌, List, [], ◌∷◌, length}
use Rattle.lapyrei.specs.declared.answer.Answer.{Answer}
use Rattle.loop_overlay.specs.Pages.{IsThere, Meets}
use Rattle.lapyrei.specs.Told.{AllThere, AsksForBytes}

-- where all pages of the file are there, no answer asks for bytes
abbrev pub WholeFilesSuffice : Type 0
WholeFilesSuffice =
    (bytes present : List ℕ) (answer : Answer) → AllThere bytes present → AsksForBytes bytes present answer → ⊥

-- answers to calls on these bytes, each of which asks for bytes: the next call has them, and what was there before
abbrev pub AskInTurn : List ℕ → List ℕ → List Answer → Type 0
AskInTurn bytes present [] = Unit {0}
AskInTurn bytes present (answer ∷ answers) =
    AsksForBytes bytes present answer
    × ((next : List ℕ) × (((page : ℕ) → IsThere present page ⊎ Meets page answer.at answer.count → IsThere next page)
    × AskInTurn bytes next answers))

-- there are no more of them than the file has pages
abbrev pub AnswersAskOncePerPage : Type 0
AnswersAskOncePerPage =
    (pages : ℕ) (bytes present : List ℕ) (answers : List Answer) → length bytes ≤ pages * 4096
    → AskInTurn bytes present answers → length answers ≤ pages
