use Rattle.std.proofs.Common.{◌≡◌, map, take}
use Rattle.b_funsets.specs.Arrows.{first}
use Rattle.b_rows.proofs.relations.first_parts.Given as goal

abbrev pub invariant-loop-m : goal.invariant-loop-m
invariant-loop-m l = l.found.items ≡ map first (take l.m-index l.members)
