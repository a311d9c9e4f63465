use Rattle.std.proofs.Common.{[], ◌∷◌, take, Ok}
use Rattle.std.specs.List.{flat_map}
use Rattle.b_relations.specs.Joining.{Adds, projection}
use Rattle.b_relations.proofs.joining.add_row.Given as goal

abbrev pub invariant-loop-y : goal.invariant-loop-y
invariant-loop-y l = Adds l.fn.gathering (flat_map (λ y. projection l.side l.x y ∷ []) (take l.y-index l.t)) (Ok tt) l.gathering
