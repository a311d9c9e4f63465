use Rattle.std.proofs.Common.{[], ◌∷◌, take, Ok}
use Rattle.std.specs.List.{flat_map}
use Rattle.b_relations.specs.Joining.{Adds, joined}
use Rattle.b_relations.specs.Relations.{couples_in}
use Rattle.b_relations.proofs.joining.join_all.Given as goal

abbrev pub invariant-loop-m : goal.invariant-loop-m
invariant-loop-m l = Adds [] (flat_map (λ m. joined l.how (couples_in (m ∷ [])) (couples_in l.s)) (take l.m-index l.r)) (Ok tt) l.gathering
