-- What an operator on sets answers: the set with given members, or the fault.
use Rattle.std.specs.Prelude.{◌≡◌, Bool, List, Result, Ok, Err}
use Rattle.std.specs.List.{list_any}
use Rattle.ascending.specs.Ascending.{set_of}
use Rattle.b_values.specs.Values.{limited, same_value, value_cmp}
use Rattle.b_values.specs.declared.values.FaultKind.{FaultKind}
use Rattle.b_values.specs.declared.values.Value.{Value}
use Rattle.b_values.specs.declared.values.Value.TheVariants.{Set}
use Rattle.set_making.specs.declared.OpFault.{OpFault}
use Rattle.set_making.specs.declared.OpFault.TheVariants.{Fault, Memory}

-- the set with these members, or the fault where it has too many nodes
abbrev pub set_with : List Value → Result Value FaultKind
set_with xs = limited (Set (set_of value_cmp xs))

-- the value or the fault of an operator's row, unless memory ran out
abbrev pub Answers : Result Value FaultKind → Result Value OpFault → Type 0
Answers row (Ok v) = row ≡ Ok v
Answers row (Err (Fault k)) = row ≡ Err k
Answers row (Err Memory) = Unit {0}

-- a fault is the row's, unless memory ran out
abbrev pub FaultOf : Result Value FaultKind → OpFault → Type 0
FaultOf row (Fault k) = row ≡ Err k
FaultOf row Memory = Unit {0}

-- whether x is one of these
abbrev pub is_among : List Value → Value → Bool
is_among xs x = list_any (λ y. same_value y x) xs
