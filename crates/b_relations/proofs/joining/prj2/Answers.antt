use Rattle.set_making.specs.MakingLaws.{answers_kept}
use Rattle.b_relations.specs.Relations.{prj2_members}
use Rattle.b_relations.proofs.JoinLaws.{prj2_is, prj2_law}
use Rattle.b_relations.proofs.RowValues.{prj2_values}
use Rattle.b_relations.proofs.joining.prj2.Goals as goal

pub returns-clause-kept : goal.returns-clause-kept
returns-clause-kept c = answers_kept (prj2_members c.args.s.now c.args.t.now) c.project.result (prj2_values c.args.s.now c.args.t.now c.requires.first.value c.requires.second.value) (prj2_is c.args.s.now c.args.t.now c.members.result.now c.members-2.result.now c.project.result c.members.ensures c.members-2.ensures c.project.ensures)

pub returns-clause-members : goal.returns-clause-members
returns-clause-members c = prj2_law c.args.s.now c.args.t.now c.project.result (prj2_is c.args.s.now c.args.t.now c.members.result.now c.members-2.result.now c.project.result c.members.ensures c.members-2.ensures c.project.ensures)
