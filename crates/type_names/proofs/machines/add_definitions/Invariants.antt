use Rattle.std.proofs.Common.{◌≡◌, ◌++◌, drop}
use Rattle.type_names.specs.Machines.{definition_names}
use Rattle.type_names.proofs.machines.add_definitions.Given as goal

-- what is listed, and then the rest
abbrev pub invariant-loop-def : goal.invariant-loop-def
invariant-loop-def l = l.out ++ definition_names (drop l.def-index l.defs) ≡ l.fn.out ++ definition_names l.defs
