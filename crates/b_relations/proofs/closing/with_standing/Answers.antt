use Rattle.std.proofs.Common.{map, sym, subst, ◌∙◌}
use Rattle.ascending.specs.Ascending.{IsAscending}
use Rattle.b_values.specs.ValueLaws.{elements_ascend}
use Rattle.b_values.specs.Values.{value_cmp}
use Rattle.b_relations.specs.Relations.{couple, couples_in, iterated}
use Rattle.b_relations.proofs.Results.{made_ascends}
use Rattle.b_relations.proofs.closing.with_standing.Goals as goal

pub united-requires-clause-left : goal.united-requires-clause-left
united-requires-clause-left c = subst (IsAscending value_cmp) (sym c.members-in-Ok.ensures) (elements_ascend c.args.ways.now c.requires.value)

pub united-requires-clause-right : goal.united-requires-clause-right
united-requires-clause-right c = made_ascends (map couple (iterated (couples_in c.members.result.now) 0)) c.as_slice.result.now (c.as_slice.ensures ∙ c.in-Ok.ensures)
