use Rattle.std.proofs.Common.{◌≡◌, map, drop}
use Rattle.b_expand.specs.Places as places
use Rattle.b_summaries.proofs.texts.names_depth.Given as goal

-- what is left decides
abbrev pub invariant-loop-name : goal.invariant-loop-name
invariant-loop-name l = places.greatest l.most (map (λ x. x.at.depth) (drop l.name-index l.names)) ≡ places.greatest l.fn.at.depth (map (λ x. x.at.depth) l.names)
