use Rattle.b_summaries.proofs.Refusals.{answers_built, answers_refused, is_there, is_shallow, told_anyway}
use Rattle.b_summaries.proofs.expanding.expand.Goals as goal

pub returns-in-Ok-verdict-clause-answers : goal.returns-in-Ok-verdict-clause-answers
returns-in-Ok-verdict-clause-answers c = answers_built c.args.defs.now.table.now.defs c.args.formula c.in-Ok.facts c.in-Ok.ensures c.in-Ok-verdict.sort c.in-Ok-verdict.ensures c.built.result c.built.ensures.answers

pub returns-in-Err-verdict-clause-answers : goal.returns-in-Err-verdict-clause-answers
returns-in-Err-verdict-clause-answers c = answers_refused c.args.defs.now.table.now.defs c.args.formula c.in-Ok.facts c.in-Ok.ensures c.in-Err-verdict.why c.in-Err-verdict.ensures

-- what is built is no refusal
pub returns-in-Ok-verdict-clause-place : goal.returns-in-Ok-verdict-clause-place
returns-in-Ok-verdict-clause-place c = told_anyway c.args.defs.now.index.definitions c.args.formula c.built.result c.built.ensures.whole

-- where there is a verdict, there is an expanded tree
pub built-requires-clause-there : goal.built-requires-clause-there
built-requires-clause-there c = is_there c.args.defs.now.table.now.defs c.args.formula c.in-Ok.facts c.in-Ok.ensures c.in-Ok-verdict.sort c.in-Ok-verdict.ensures

-- which is as deep as a text may be
pub built-requires-clause-shallow : goal.built-requires-clause-shallow
built-requires-clause-shallow c = is_shallow c.args.defs.now.table.now.defs c.args.formula c.in-Ok.facts c.in-Ok.ensures c.in-Ok-verdict.sort c.in-Ok-verdict.ensures
