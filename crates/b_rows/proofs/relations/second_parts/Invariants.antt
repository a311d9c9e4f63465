use Rattle.std.proofs.Common.{◌≡◌, map, take}
use Rattle.b_funsets.specs.Arrows.{second}
use Rattle.b_rows.proofs.relations.second_parts.Given as goal

abbrev pub invariant-loop-m : goal.invariant-loop-m
invariant-loop-m l = l.found.items ≡ map second (take l.m-index l.members)
