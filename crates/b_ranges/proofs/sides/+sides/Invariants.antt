use Rattle.std.proofs.Common.{◌≡◌, map, drop}
use Rattle.b_ranges.specs.Sides as spec
use Rattle.b_ranges.proofs.sides.+sides.Given as goal

-- what is mentioned so far, and by the rest
abbrev pub invariant-links_after-loop-link : goal.invariant-links_after-loop-link
invariant-links_after-loop-link l = spec.all_of l.so_far (map (spec.link_of l.slots) (drop l.link-index l.links)) ≡ spec.all_of l.fn.first (map (spec.link_of l.slots) l.links)

abbrev pub invariant-powers_before-loop-power : goal.invariant-powers_before-loop-power
invariant-powers_before-loop-power l = spec.all_of l.so_far (map (spec.power_of l.slots) (drop l.power-index l.powers)) ≡ spec.all_of l.fn.last (map (spec.power_of l.slots) l.powers)

abbrev pub invariant-each_of-loop-e : goal.invariant-each_of-loop-e
invariant-each_of-loop-e l = spec.all_of l.so_far (map (spec.side_of l.slots) (drop l.e-index l.es)) ≡ spec.all_of spec.nothing (map (spec.side_of l.slots) l.es)

abbrev pub invariant-clauses_after-loop-clause : goal.invariant-clauses_after-loop-clause
invariant-clauses_after-loop-clause l = spec.all_of l.so_far (map (spec.clause_of l.slots) (drop l.clause-index l.clauses)) ≡ spec.all_of l.fn.first (map (spec.clause_of l.slots) l.clauses)
