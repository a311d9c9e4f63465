use Rattle.std.proofs.Common.{◌≡◌, ◌++◌, map, filter, drop}
use Rattle.std.specs.List.{flat_map}
use Rattle.b_relations.specs.Parts.{begins_with}
use Rattle.b_relations.specs.Relations.{couples_in}
use Rattle.b_relations.proofs.applying.images.Given as goal

abbrev pub invariant-loop-x : goal.invariant-loop-x
invariant-loop-x l =
    l.found.items ++ flat_map (λ x. map (λ p. p.1) (couples_in (filter (begins_with x) l.relation))) (drop l.x-index l.set)
    ≡ flat_map (λ x. map (λ p. p.1) (couples_in (filter (begins_with x) l.relation))) l.set
