use Rattle.std.proofs.Common.{◌≡◌, ◌++◌, reverse, length}
use Rattle.b_definitions.specs.Parting as spec
use Rattle.b_definitions.proofs.parting.found_in.Given as goal

-- those among what is left, and then those that were found from behind
abbrev pub invariant-loop-def : goal.invariant-loop-def
invariant-loop-def l = record {
  firsts : spec.firsts l.index 0 l.left ++ reverse l.found.firsts.items ≡ spec.firsts l.index 0 l.fn.defs;
  later : spec.later l.index 0 l.left ++ reverse l.found.later.items ≡ spec.later l.index 0 l.fn.defs;
}

abbrev pub decreases-loop-def : goal.decreases-loop-def
decreases-loop-def l = length l.left
