use Rattle.std.proofs.Common.{◌≡◌, ◌++◌, map, drop}
use Rattle.b_relations.specs.Relations.{couple, couples_in}
use Rattle.b_relations.proofs.iterating.push_ends.Given as goal

abbrev pub invariant-loop-m : goal.invariant-loop-m
invariant-loop-m l = l.found.items ++ map (λ q. couple (l.a, q.1)) (couples_in (drop l.m-index l.group)) ≡ l.fn.found.items ++ map (λ q. couple (l.a, q.1)) (couples_in l.group)
