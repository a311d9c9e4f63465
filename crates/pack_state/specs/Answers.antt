-- What the unpacking functions answer.
use Rattle.std.specs.Prelude.{◌≡◌, Option, Some, None, Result, Ok, Err}
use Rattle.pack_state.specs.declared.fault.PackFault.{PackFault}
use Rattle.pack_state.specs.declared.fault.PackFault.TheVariants.{NoSuchState, Memory}

-- what was found, seen by `view`, or that there is none; nothing where memory ran out
abbrev pub Gives : {X Y : Type 0} → (X → Y) → Result X PackFault → Option Y → Type 0
Gives view (Ok x) found = found ≡ Some (view x)
Gives view (Err NoSuchState) found = found ≡ None
Gives view (Err Memory) found = Unit {0}
