-- The words of a refusal.
use Rattle.std.specs.Prelude.{ℕ, List, [], ◌++◌, codes}
use Rattle.std.specs.Fmt.{decimal}
use Rattle.loop_record.specs.Layout.{damage_number}
use Rattle.loop_store.specs.declared.fault.StoreFault.{StoreFault}
use Rattle.loop_store.specs.declared.fault.StoreFault.TheVariants.{ClipNotHeld, Damaged}
use Rattle.loop_store.specs.Faults.{fault_name, fault_number}

-- what follows the name: a space and the number of the kind of damage, or of the frame that isn't held
abbrev pub argument_of : StoreFault → List ℕ
argument_of (Damaged damage) = codes " " ++ decimal (damage_number damage)
argument_of (ClipNotHeld number) = codes " " ++ decimal number
argument_of _ = []

-- the words of a refusal: `refused`, its number and its name, and its argument
abbrev pub words_of : StoreFault → List ℕ
words_of fault = codes "refused " ++ decimal (fault_number fault) ++ codes " " ++ fault_name fault ++ argument_of fault
