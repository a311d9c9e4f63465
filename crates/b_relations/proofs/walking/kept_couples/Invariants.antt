use Rattle.std.proofs.Common.{◌≡◌, ◌++◌, filter, drop}
use Rattle.b_relations.specs.Parts.{keeps, passes}
use Rattle.b_relations.proofs.walking.kept_couples.Given as goal

abbrev pub invariant-loop-m : goal.invariant-loop-m
invariant-loop-m l = l.kept ++ filter (passes (keeps l.side l.set l.within)) (drop l.m-index l.members) ≡ filter (passes (keeps l.side l.set l.within)) l.members
