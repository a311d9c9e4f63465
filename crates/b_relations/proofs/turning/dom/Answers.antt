use Rattle.set_making.specs.MakingLaws.{answers_kept, answers_law}
use Rattle.b_relations.specs.Relations.{InDomain, dom_members}
use Rattle.b_relations.proofs.RowLaws.{in_dom}
use Rattle.b_relations.proofs.RowValues.{dom_values}
use Rattle.b_relations.proofs.turning.dom.Goals as goal

pub returns-clause-kept : goal.returns-clause-kept
returns-clause-kept c = answers_kept (dom_members c.args.r.now) c.taken_of_all.result (dom_values c.args.r.now c.requires.value) c.taken_of_all.ensures

pub returns-clause-members : goal.returns-clause-members
returns-clause-members c = answers_law (InDomain c.args.r.now) (dom_members c.args.r.now) c.taken_of_all.result (in_dom c.args.r.now) c.taken_of_all.ensures
