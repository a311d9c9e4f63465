use Rattle.set_making.specs.MakingLaws.{answers_kept, answers_same}
use Rattle.b_relations.specs.Relations.{closure1_members, closure_members}
use Rattle.b_relations.proofs.ClosureLaws.{closure1_within, closure_law, closure_values, part_fault, with_standing_members}
use Rattle.b_relations.proofs.closing.closure.Goals as goal

pub returns-in-Ok-clause-value : goal.returns-in-Ok-clause-value
returns-in-Ok-clause-value c = (answers_same _ (closure_members c.args.r.now) c.with_standing.result (with_standing_members c.args.r.now c.in-Ok.ways c.in-Ok.ensures.value) c.with_standing.ensures)

pub returns-in-Ok-clause-kept : goal.returns-in-Ok-clause-kept
returns-in-Ok-clause-kept c = answers_kept (closure_members c.args.r.now) c.with_standing.result (closure_values c.args.r.now c.requires.value) (answers_same _ (closure_members c.args.r.now) c.with_standing.result (with_standing_members c.args.r.now c.in-Ok.ways c.in-Ok.ensures.value) c.with_standing.ensures)

pub returns-in-Ok-clause-closure : goal.returns-in-Ok-clause-closure
returns-in-Ok-clause-closure c = closure_law c.args.r.now c.with_standing.result (answers_same _ (closure_members c.args.r.now) c.with_standing.result (with_standing_members c.args.r.now c.in-Ok.ways c.in-Ok.ensures.value) c.with_standing.ensures)

pub returns-in-Err-clause-value : goal.returns-in-Err-clause-value
returns-in-Err-clause-value c = part_fault (closure1_members c.args.r.now) (closure_members c.args.r.now) c.in-Err.fault (closure1_within c.args.r.now) c.in-Err.ensures.value
