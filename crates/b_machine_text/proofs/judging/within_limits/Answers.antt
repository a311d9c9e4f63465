use Rattle.std.proofs.Common.{None, Err, sym, ap, ◌∙◌}
use Rattle.b_expand.specs.declared.faults.ParseKind.{ParseKind}
use Rattle.b_machine_text.specs.Machines.{expanded_clauses}
use Rattle.b_machine_text.specs.Verdicts.{judged}
use Rattle.b_machine_text.proofs.Giving.{gives_refusal, judged_past, judged_built, fitting}
use Rattle.b_machine_text.proofs.judging.within_limits.Goals as goal

pub returns-in-Some : goal.returns-in-Some
returns-in-Some c =
    gives_refusal (judged c.args.name None (expanded_clauses c.args.defs.now.formulas.table.now.defs c.args.clauses.items)) c.refusal_of.result.kind c.args.end c.refused.result c.refused.ensures
    (judged_past c.args.name (expanded_clauses c.args.defs.now.formulas.table.now.defs c.args.clauses.items) c.args.size c.in-Some.kind c.requires.size c.in-Some.ensures ∙ ap (λ (k : ParseKind). Err k) (sym c.refusal_of.ensures))

pub returns-in-None : goal.returns-in-None
returns-in-None c = judged_built c.args.name (expanded_clauses c.args.defs.now.formulas.table.now.defs c.args.clauses.items) c.args.size c.requires.size c.in-None.ensures c.args.end c.built.result c.built.ensures

pub built-requires-clause-fits : goal.built-requires-clause-fits
built-requires-clause-fits c = fitting c.args.defs.now.formulas.table.now.defs c.args.clauses.items c.args.size c.requires.size c.in-None.ensures
