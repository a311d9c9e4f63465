use Rattle.std.proofs.Common.{[], ◌∷◌, take}
use Rattle.std.specs.List.{flat_map}
use Rattle.b_relations.specs.Joining.{joined}
use Rattle.b_relations.specs.Listed.{SameMembers}
use Rattle.b_relations.specs.Relations.{couples_in}
use Rattle.b_relations.specs.declared.joining.Join.TheVariants.{Compose}
use Rattle.b_relations.proofs.iterating.composition.Given as goal

abbrev pub invariant-loop-m : goal.invariant-loop-m
invariant-loop-m l = SameMembers l.found.items (flat_map (λ m. joined Compose (couples_in (m ∷ [])) (couples_in l.s)) (take l.m-index l.r))
