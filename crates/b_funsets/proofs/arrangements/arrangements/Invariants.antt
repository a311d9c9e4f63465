use Rattle.std.proofs.Common.{◌↔◌, ◌≤◌, ◌+◌, ◌-◌, length, map}
use Rattle.ascending.specs.Ascending.{In}
use Rattle.b_values.specs.declared.values.Value.{Value}
use Rattle.b_values.specs.declared.values.Value.TheVariants.{Set}
use Rattle.b_funsets.specs.Arrangements.{injections_below}
use Rattle.b_funsets.proofs.arrangements.arrangements.Given as goal

abbrev pub invariant-loop-k : goal.invariant-loop-k
invariant-loop-k l = record {
  within : l.k ≤ length l.t + 1;
  found : (z : Value) → In z l.sets.items ↔ In z (map Set (injections_below l.k l.t));
}

abbrev pub decreases-loop-k : goal.decreases-loop-k
decreases-loop-k l = length l.t + 1 - l.k
