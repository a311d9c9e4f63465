use Rattle.set_making.specs.MakingLaws.{answers_kept}
use Rattle.b_relations.specs.Relations.{Relates, converse_members}
use Rattle.b_relations.proofs.Results.{answers_relation}
use Rattle.b_relations.proofs.RowLaws.{in_converse}
use Rattle.b_relations.proofs.RowValues.{converse_values}
use Rattle.b_relations.proofs.turning.converse.Goals as goal

pub returns-clause-kept : goal.returns-clause-kept
returns-clause-kept c = answers_kept (converse_members c.args.r.now) c.taken_of_all.result (converse_values c.args.r.now c.requires.value) c.taken_of_all.ensures

pub returns-clause-members : goal.returns-clause-members
returns-clause-members c = answers_relation (λ x y. Relates c.args.r.now y x) (converse_members c.args.r.now) c.taken_of_all.result (in_converse c.args.r.now) c.taken_of_all.ensures
