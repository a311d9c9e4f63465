use Rattle.std.proofs.Common.{[], ◌∷◌, map, take, Ok}
use Rattle.std.specs.List.{flat_map}
use Rattle.b_relations.specs.Joining.{Adds, made}
use Rattle.b_relations.specs.Relations.{couples_in}
use Rattle.b_relations.proofs.joining.add_group.Given as goal

abbrev pub invariant-loop-m : goal.invariant-loop-m
invariant-loop-m l = Adds l.fn.gathering (flat_map (λ m. map (made l.how (l.a, l.b)) (couples_in (m ∷ []))) (take l.m-index l.group)) (Ok tt) l.gathering
