use Rattle.std.proofs.Common.{◌≡◌, ◌++◌, map, drop}
use Rattle.b_relations.specs.Parts.{taken}
use Rattle.b_relations.specs.Relations.{couples_in}
use Rattle.b_relations.proofs.walking.take_into.Given as goal

abbrev pub invariant-loop-m : goal.invariant-loop-m
invariant-loop-m l = l.found.items ++ map (taken l.what) (couples_in (drop l.m-index l.members)) ≡ l.fn.found.items ++ map (taken l.what) (couples_in l.members)
