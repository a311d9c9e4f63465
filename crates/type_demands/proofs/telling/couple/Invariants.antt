use Rattle.std.proofs.Common.{◌≡◌, ◌++◌, ◌+◌, drop, length}
use Rattle.type_demands.specs.Demands.{couple_whole, couple_demands, tuple_parts, tuple_whole, tuple_demands}
use Rattle.type_demands.proofs.telling.couple.Given as goal

-- what is told, and what is left
abbrev pub invariant-loop-i : goal.invariant-loop-i
invariant-loop-i l = record {
  told : l.out.items ++ couple_demands l.whole (l.fn.first + l.i) l.next (drop l.i l.names) ≡ l.fn.out.items ++ tuple_demands l.names l.fn.first;
  whole : couple_whole l.whole l.next (drop l.i l.names) ≡ tuple_whole l.names l.fn.first;
  parts : l.next + length (drop l.i l.names) ≡ l.fn.first + tuple_parts l.names;
}
