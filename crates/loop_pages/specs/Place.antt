-- Where a seat or a hold belongs, and what it knows.
use Rattle.std.specs.Prelude.{◌≡◌, ℕ, List, [], ◌∷◌, ◌++◌, refl}
use Rattle.std.specs.Coded.{Coded, code_by, coded×, coded_ℕ, coded_list}
use Rattle.atomic_table.specs.Seated.{TableId, table_id_coded}

-- a ledger, the pages of it that are held, those that the last claim missed, and all that were ever tried, in
-- their order
pub record Place : Type 0 where
  pub ledger : TableId
  pub pages : List ℕ
  pub missed : List ℕ
  pub tried : List ℕ

abbrev pub place : TableId → List ℕ → List ℕ → List ℕ → Place
place ledger pages missed tried = record { ledger = ledger; pages = pages; missed = missed; tried = tried }

-- a place is stored as the tuple of its fields
abbrev pub place_code : Coded Place
place_code =
    code_by
    (TableId × (List ℕ × (List ℕ × List ℕ)))
    (coded× table_id_coded (coded× (coded_list coded_ℕ) (coded× (coded_list coded_ℕ) (coded_list coded_ℕ))))
    (λ p. (p.ledger, (p.pages, (p.missed, p.tried))))
    (λ t. place t.0 t.1.0 t.1.1.0 t.1.1.1)
    (λ _. refl)

-- a seat of this ledger that holds no page
abbrev pub IsIdle : TableId → Place → Type 0
IsIdle ledger seat = (seat.ledger ≡ ledger) × (seat.pages ≡ [])

-- the page is the last of the list
abbrev pub EndsWith : List ℕ → ℕ → Type 0
EndsWith pages page = (before : List ℕ) × (pages ≡ before ++ page ∷ [])
