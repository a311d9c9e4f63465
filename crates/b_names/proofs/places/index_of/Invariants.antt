use Rattle.std.proofs.Common.{◌≡◌, ℕ, ◌≤◌, List, length, drop}
use Rattle.b_names.specs.Index.{place_in}
use Rattle.b_names.proofs.Names.{place_after}
use Rattle.b_names.proofs.places.index_of.Given as goal

-- the map has the names of the definitions from a place on
abbrev pub invariant-loop-i : goal.invariant-loop-i
invariant-loop-i l = record {
  within : l.i ≤ length l.defs;
  places : (x : List ℕ) → place_in l.places x ≡ place_after l.i (drop l.i l.defs) x;
}

-- how many definitions are left
abbrev pub decreases-loop-i : goal.decreases-loop-i
decreases-loop-i l = l.i
