use Rattle.std.proofs.Common.{[], false, subst, ap, ◌∙◌}
use Rattle.std.specs.List.{filter}
use Rattle.ascending.specs.AscendingLaws.{ascending_none}
use Rattle.b_values.specs.ValueLaws.{elements_ascend}
use Rattle.b_values.specs.Values.{elements, value_cmp}
use Rattle.set_making.specs.Making.{set_with, Answers}
use Rattle.b_relations.specs.Parts.{keeps, passes}
use Rattle.b_relations.specs.declared.walking.Side.TheVariants.{Left}
use Rattle.b_relations.proofs.Overwriting.{all_couples}
use Rattle.b_relations.proofs.Results.{filtered_ascends}
use Rattle.b_relations.proofs.closing.couples_alone.Goals as goal

pub kept_couples-requires : goal.kept_couples-requires
kept_couples-requires c = ascending_none value_cmp

pub set_in_order-requires : goal.set_in_order-requires
set_in_order-requires c = filtered_ascends (passes (keeps Left [] false)) (elements c.args.r.now) c.in-Ok.members (elements_ascend c.args.r.now c.requires.value)
    (c.in-Ok.ensures ∙ ap (filter (passes (keeps Left [] false))) c.members.ensures)

pub returns-in-Ok : goal.returns-in-Ok
returns-in-Ok c = subst (λ l. Answers (set_with l) c.set_in_order.result)
    (c.in-Ok.ensures ∙ ap (filter (passes (keeps Left [] false))) c.members.ensures ∙ all_couples (elements c.args.r.now)) c.set_in_order.ensures
