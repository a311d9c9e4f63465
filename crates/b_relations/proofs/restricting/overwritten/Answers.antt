use Rattle.std.proofs.Common.{map, [], false, ap, ◌∙◌}
use Rattle.std.specs.List.{filter}
use Rattle.ascending.specs.Ascending.{set_of}
use Rattle.ascending.specs.AscendingLaws.{ascending_none}
use Rattle.b_values.specs.ValueLaws.{elements_ascend}
use Rattle.b_values.specs.Values.{elements, value_cmp}
use Rattle.b_relations.specs.Relations.{couples_in}
use Rattle.b_relations.specs.Parts.{keeps, passes}
use Rattle.b_relations.specs.declared.walking.Side.TheVariants.{Left}
use Rattle.b_relations.proofs.Overwriting.{all_couples, old_couples, both_merged}
use Rattle.b_relations.proofs.Results.{filtered_ascends, kept_of}
use Rattle.b_relations.proofs.restricting.overwritten.Goals as goal

pub kept_couples-requires-2 : goal.kept_couples-requires-2
kept_couples-requires-2 c = ascending_none value_cmp

pub merge-requires-clause-left : goal.merge-requires-clause-left
merge-requires-clause-left c = filtered_ascends _ (elements c.args.r.now) c.as_slice-2.result.now (elements_ascend c.args.r.now c.requires.relation.value)
    (c.as_slice-2.ensures ∙ kept_of Left false _ _ _ _ _ c.members-2.ensures c.as_slice.ensures c.in_ok-old.ensures)

pub merge-requires-clause-right : goal.merge-requires-clause-right
merge-requires-clause-right c = filtered_ascends (passes (keeps Left [] false)) (elements c.args.s.now) c.as_slice-3.result.now (elements_ascend c.args.s.now c.requires.over.value)
    (c.as_slice-3.ensures ∙ c.in_ok-new.ensures ∙ ap (filter (passes (keeps Left [] false))) c.members-3.ensures)

pub returns : goal.returns
returns c = both_merged c.args.r.now c.args.s.now c.as_slice-2.result.now c.as_slice-3.result.now c.merge.result
    (c.as_slice-2.ensures ∙ kept_of Left false _ _ _ _ _ c.members-2.ensures c.as_slice.ensures c.in_ok-old.ensures ∙ old_couples c.args.r.now c.args.s.now _ (c.set_from-firsts.ensures.set ∙ ap (set_of value_cmp) (c.in_ok-take_all.ensures ∙ ap (λ l. map (λ p. p.0) (couples_in l)) c.members.ensures)))
    (c.as_slice-3.ensures ∙ c.in_ok-new.ensures ∙ ap (filter (passes (keeps Left [] false))) c.members-3.ensures ∙ all_couples (elements c.args.s.now))
    c.merge.ensures
