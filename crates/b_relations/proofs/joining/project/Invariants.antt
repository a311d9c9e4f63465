use Rattle.std.proofs.Common.{[], map, take, Ok}
use Rattle.std.specs.List.{flat_map}
use Rattle.b_relations.specs.Joining.{Adds, projection}
use Rattle.b_relations.proofs.joining.project.Given as goal

abbrev pub invariant-loop-x : goal.invariant-loop-x
invariant-loop-x l = Adds [] (flat_map (λ x. map (projection l.side x) l.t) (take l.x-index l.s)) (Ok tt) l.gathering
