use Rattle.std.proofs.Common.{◌≡◌, map, drop}
use Rattle.set_elements.specs.Sizes.{link_of, chain_on}
use Rattle.set_elements.proofs.conjuncts.+shape_in.Given as goal

-- what is found, and then the rest
abbrev pub invariant-shape_links-loop-link : goal.invariant-shape_links-loop-link
invariant-shape_links-loop-link l = chain_on l.set l.size l.found (map link_of (drop l.link-index l.links)) ≡ chain_on l.set l.size l.fn.begun (map link_of l.links)
