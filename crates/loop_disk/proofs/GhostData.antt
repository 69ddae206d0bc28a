-- A struct that holds only data for proofs: it has no byte at run time, and to own it is to own nothing.
use Rattle.std.proofs.Common.{List, [], ◌∷◌, refl}
use denote.RattleType.{RattleType, Valss}
use denote.Steps.{nothing}
use denote.Struct.Struct.{Struct, within}
use mir.Val.{Val, vnil, vstruct}
use seplogic.Ra.Ura.{Ura}
use types.Kit.{Goal, Item, Step, fjoin, feq_i, fpack, step, ‵, ◌$◌}
use types.Logic.{Logic}

-- its value at run time, and the list of values that it stands for
abbrev pub no_bytes : Val
no_bytes = vstruct vnil

abbrev just_it : List Val
just_it = no_bytes ∷ []

-- a type without fields
abbrev pub no_fields : RattleType
no_fields = Struct (record { name = []; args = []; types = []; fields = [] })

-- where such a value is, its owner can be said to have it: what is asked for are the values of no field, which are at hand
pub makes_nothing : {M : Type 1} {𝓤 : Ura M} {𝓛 : Logic 𝓤} {K : Type 0} {known : List (Item 𝓤)} {G : Goal 𝓤 𝓛.H} → K
    → Step K 𝓛 (‵ (no_fields.own_val tt just_it) ∷ known) G known G
makes_nothing k = step (λ later.
    let fields = within (record { name = []; args = []; types = []; fields = [] }) tt just_it in
    nothing k $ feq_i k (List Val) just_it just_it refl $ fjoin k $ fpack k (Valss []) fields tt $ later)
