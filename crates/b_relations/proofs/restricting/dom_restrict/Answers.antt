use Rattle.ascending.specs.Ascending.{In}
use Rattle.b_values.specs.Values.{elements}
use Rattle.set_making.specs.Making.{is_among}
use Rattle.set_making.specs.MakingLaws.{answers_kept}
use Rattle.b_relations.specs.Relations.{Relates, dom_restrict_members}
use Rattle.b_relations.proofs.Results.{answers_relation}
use Rattle.b_relations.proofs.RowLaws.{in_dom_restrict}
use Rattle.b_relations.proofs.RowValues.{chosen_values}
use Rattle.b_relations.proofs.restricting.dom_restrict.Goals as goal

pub returns-clause-kept : goal.returns-clause-kept
returns-clause-kept c = answers_kept (dom_restrict_members c.args.s.now c.args.r.now) c.restricted.result (chosen_values (λ p. is_among (elements c.args.s.now) p.0) c.args.r.now c.requires.relation.value) c.restricted.ensures

pub returns-clause-members : goal.returns-clause-members
returns-clause-members c = answers_relation (λ x y. In x (elements c.args.s.now) × Relates c.args.r.now x y) (dom_restrict_members c.args.s.now c.args.r.now) c.restricted.result (in_dom_restrict c.args.s.now c.args.r.now) c.restricted.ensures
