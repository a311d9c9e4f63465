use Rattle.std.proofs.Common.{◌≡◌, ◌≤◌, ◌<◌, ℕ, length, map, drop, Result, Ok, Err}
use Rattle.b_meaning.specs.Meaning.{raised, places_in, power_of}
use Rattle.b_values.specs.Values.{IsKept}
use Rattle.b_meaning.proofs.parts.raise.Given as goal

abbrev pub invariant-operands : goal.invariant-operands
invariant-operands l = record {
  state : raised (drop l.left (places_in (map (power_of l.limit) l.powers))) (drop l.left l.bases.items) l.fn.last ≡ Ok l.value;
  within : l.left ≤ length l.powers;
  even : length l.bases.items ≡ length l.powers;
  kept : IsKept l.value;
}

abbrev pub decreases-operands : goal.decreases-operands
decreases-operands l = l.left
