use Rattle.std.proofs.Common.{map}
use Rattle.set_making.specs.MakingLaws.{answers_kept}
use Rattle.b_relations.specs.Relations.{couple, couples, closure1_members}
use Rattle.b_relations.proofs.ClosureLaws.{alone_closure, alone_kept, alone_within, made_relation, closure1_law, closure1_values, part_fault}
use Rattle.b_relations.proofs.closing.closure1.Goals as goal

pub grown-requires-clause-kept : goal.grown-requires-clause-kept
grown-requires-clause-kept c = alone_kept c.args.r.now c.in-Ok.relation c.requires c.in-Ok.ensures

pub grown-requires-clause-relation : goal.grown-requires-clause-relation
grown-requires-clause-relation c = made_relation (couples c.args.r.now) c.in-Ok.relation c.in-Ok.ensures

pub returns-in-Ok-clause-value : goal.returns-in-Ok-clause-value
returns-in-Ok-clause-value c = (alone_closure c.args.r.now c.in-Ok.relation c.grown.result c.in-Ok.ensures c.grown.ensures)

pub returns-in-Ok-clause-kept : goal.returns-in-Ok-clause-kept
returns-in-Ok-clause-kept c = answers_kept (closure1_members c.args.r.now) c.grown.result (closure1_values c.args.r.now c.requires.value) (alone_closure c.args.r.now c.in-Ok.relation c.grown.result c.in-Ok.ensures c.grown.ensures)

pub returns-in-Ok-clause-closure : goal.returns-in-Ok-clause-closure
returns-in-Ok-clause-closure c = closure1_law c.args.r.now c.grown.result (alone_closure c.args.r.now c.in-Ok.relation c.grown.result c.in-Ok.ensures c.grown.ensures)

pub returns-in-Err-clause-value : goal.returns-in-Err-clause-value
returns-in-Err-clause-value c = part_fault (map couple (couples c.args.r.now)) (closure1_members c.args.r.now) c.in-Err.fault (alone_within c.args.r.now) c.in-Err.ensures
