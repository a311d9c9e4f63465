use Rattle.std.proofs.Common.{Err, sym, ap, ◌∙◌}
use Rattle.b_expand.specs.declared.faults.ParseKind.{ParseKind}
use Rattle.b_machine_text.specs.Machines.{expanded_clauses}
use Rattle.b_machine_text.specs.Verdicts.{judged, verdict_by, are_usable, kind_of_fault}
use Rattle.b_machine_text.proofs.Giving.{gives_refusal, gives_along, unusable, usable, unusable_verdict, usable_verdict}
use Rattle.b_machine_text.proofs.judging.under_definitions.Goals as goal

pub returns-in-Some : goal.returns-in-Some
returns-in-Some c =
    gives_refusal (verdict_by c.args.defs.now.formulas.table.now.defs c.args.name (kind_of_fault c.args.fault) c.args.clauses.items) c.no_sentence.result.kind c.args.end c.refused.result c.refused.ensures
    (unusable_verdict c.args.defs.now.formulas.table.now.defs c.args.name (kind_of_fault c.args.fault) c.args.clauses.items (unusable (are_usable c.args.defs.now.formulas.table.now.defs) c.in-Some.ensures) ∙ ap (λ (k : ParseKind). Err k) (sym c.no_sentence.ensures))

pub returns-in-None : goal.returns-in-None
returns-in-None c =
    gives_along (judged c.args.name (kind_of_fault c.args.fault) (expanded_clauses c.args.defs.now.formulas.table.now.defs c.args.clauses.items)) (verdict_by c.args.defs.now.formulas.table.now.defs c.args.name (kind_of_fault c.args.fault) c.args.clauses.items)
    (usable_verdict c.args.defs.now.formulas.table.now.defs c.args.name (kind_of_fault c.args.fault) c.args.clauses.items (usable (are_usable c.args.defs.now.formulas.table.now.defs) c.in-None.ensures)) c.args.end c.judged.result c.judged.ensures
