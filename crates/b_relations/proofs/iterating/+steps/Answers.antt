use Rattle.std.proofs.Common.{◌/◌, map, ◌∙◌}
use Rattle.b_relations.specs.Relations.{couple, couples_in, iterated}
use Rattle.b_relations.proofs.IterateLaws.{even_steps, odd_steps}
use Rattle.b_relations.proofs.Results.{made_ascends}
use Rattle.b_relations.proofs.iterating.+steps.Goals as goal

pub composition-requires : goal.composition-requires
composition-requires t c = made_ascends (map couple (iterated (couples_in c.args.relation.now) (c.args.times / 2))) c.as_slice-2.result.now (c.as_slice-2.ensures ∙ c.in_ok-half.ensures)

pub returns-then-times-eq0-2 : goal.returns-then-times-eq0-2
returns-then-times-eq0-2 t c = even_steps (couples_in c.args.relation.now) c.args.times c.in_ok-half.half c.as_slice.result.now c.as_slice-2.result.now c.in_ok-square.square
    c.if-times-eq0-2.true c.in_ok-half.ensures c.as_slice.ensures c.as_slice-2.ensures c.in_ok-square.ensures

pub returns : goal.returns
returns t c = odd_steps c.args.relation.now c.args.times c.in_ok-half.half c.as_slice.result.now c.as_slice-2.result.now c.in_ok-square.square c.as_slice-else-times-eq0-2.result.now c.composition-else-times-eq0-2.result
    c.if-times-eq0-2.false c.in_ok-half.ensures c.as_slice.ensures c.as_slice-2.ensures c.in_ok-square.ensures c.as_slice-else-times-eq0-2.ensures c.composition-else-times-eq0-2.ensures
