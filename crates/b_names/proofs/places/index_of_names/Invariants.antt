use Rattle.std.proofs.Common.{◌≡◌, ℕ, ◌≤◌, List, length, drop}
use Rattle.b_names.specs.Index.{place_in}
use Rattle.b_names.proofs.Names.{place_among_after}
use Rattle.b_names.proofs.places.index_of_names.Given as goal

-- the map has the names from a place on
abbrev pub invariant-loop-left : goal.invariant-loop-left
invariant-loop-left l = record {
  within : l.left ≤ length l.names;
  places : (x : List ℕ) → place_in l.places x ≡ place_among_after l.left (drop l.left l.names) x;
}

-- how many names are left
abbrev pub decreases-loop-left : goal.decreases-loop-left
decreases-loop-left l = l.left
