use Rattle.b_clauses.specs.Clauses.{definitions_in, others_in}
use Rattle.b_clauses.proofs.FromBehind.{definitions_on, others_on}
use Rattle.b_clauses.proofs.parting.parts_of.Goals as goal

-- one more clause from behind
pub loop-clause-preserved : goal.loop-clause-preserved
loop-clause-preserved c = record {
  texts = definitions_on c.loop-clause.left c.pop.new.self c.in-Some.clause c.loop-clause.found.texts.items c.in_ok-found.found.texts.items (definitions_in c.args.clauses) c.loop-clause.invariant.texts c.in-Some.ensures c.in_ok-found.ensures.texts;
  others = others_on c.loop-clause.left c.pop.new.self c.in-Some.clause c.loop-clause.found.others.items c.in_ok-found.found.others.items (others_in c.args.clauses) c.loop-clause.invariant.others c.in-Some.ensures c.in_ok-found.ensures.others;
}
