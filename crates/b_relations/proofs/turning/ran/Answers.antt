use Rattle.set_making.specs.MakingLaws.{answers_kept, answers_law}
use Rattle.b_relations.specs.Relations.{InRange, ran_members}
use Rattle.b_relations.proofs.RowLaws.{in_ran}
use Rattle.b_relations.proofs.RowValues.{ran_values}
use Rattle.b_relations.proofs.turning.ran.Goals as goal

pub returns-clause-kept : goal.returns-clause-kept
returns-clause-kept c = answers_kept (ran_members c.args.r.now) c.taken_of_all.result (ran_values c.args.r.now c.requires.value) c.taken_of_all.ensures

pub returns-clause-members : goal.returns-clause-members
returns-clause-members c = answers_law (InRange c.args.r.now) (ran_members c.args.r.now) c.taken_of_all.result (in_ran c.args.r.now) c.taken_of_all.ensures
