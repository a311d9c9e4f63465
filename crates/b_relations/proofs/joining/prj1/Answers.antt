use Rattle.set_making.specs.MakingLaws.{answers_kept}
use Rattle.b_relations.specs.Relations.{prj1_members}
use Rattle.b_relations.proofs.JoinLaws.{prj1_is, prj1_law}
use Rattle.b_relations.proofs.RowValues.{prj1_values}
use Rattle.b_relations.proofs.joining.prj1.Goals as goal

pub returns-clause-kept : goal.returns-clause-kept
returns-clause-kept c = answers_kept (prj1_members c.args.s.now c.args.t.now) c.project.result (prj1_values c.args.s.now c.args.t.now c.requires.first.value c.requires.second.value) (prj1_is c.args.s.now c.args.t.now c.members.result.now c.members-2.result.now c.project.result c.members.ensures c.members-2.ensures c.project.ensures)

pub returns-clause-members : goal.returns-clause-members
returns-clause-members c = prj1_law c.args.s.now c.args.t.now c.project.result (prj1_is c.args.s.now c.args.t.now c.members.result.now c.members-2.result.now c.project.result c.members.ensures c.members-2.ensures c.project.ensures)
