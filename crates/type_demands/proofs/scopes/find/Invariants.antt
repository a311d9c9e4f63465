use Rattle.std.proofs.Common.{◌≡◌, ◌≤◌, length, take}
use Rattle.type_demands.specs.Scopes.{scope_of}
use Rattle.type_demands.proofs.scopes.find.Given as goal

-- no frame from there on has the name
abbrev pub invariant-loop-i : goal.invariant-loop-i
invariant-loop-i l = record {
  within : l.i ≤ length l.frames;
  so_far : scope_of l.frames l.name ≡ scope_of (take l.i l.frames) l.name;
}

abbrev pub decreases-loop-i : goal.decreases-loop-i
decreases-loop-i l = l.i
