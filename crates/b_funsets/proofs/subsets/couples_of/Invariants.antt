use Rattle.std.proofs.Common.{◌≡◌, take}
use Rattle.b_funsets.specs.Families.{couples}
use Rattle.b_funsets.proofs.subsets.couples_of.Given as goal

abbrev pub invariant-loop-x : goal.invariant-loop-x
invariant-loop-x l = l.cs ≡ couples (take l.x-index l.s) l.t
