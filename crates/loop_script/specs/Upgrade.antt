-- What is printed of an upgrade of the layout.
use Rattle.std.specs.Prelude.{ℕ, Bool, true, false, List, codes}

-- whether version 2 was made, or was there already
abbrev pub told_of_upgrade : Bool → List ℕ
told_of_upgrade true = codes "upgraded"
told_of_upgrade false = codes "already 2"
