use Rattle.std.proofs.Common.{Option, None, sym, ap, ◌∙◌}
use Rattle.b_machine_text.specs.Machines.{expanded_clauses}
use Rattle.b_machine_text.specs.Verdicts.{judged, kind_of_fault}
use Rattle.b_machine_text.specs.declared.judging.Refusal.{Refusal}
use Rattle.b_machine_text.proofs.Giving.{gives_refusal, gives_along, judged_fault}
use Rattle.b_machine_text.proofs.judging.unless_fault.Goals as goal

pub returns-in-Some : goal.returns-in-Some
returns-in-Some c =
    gives_refusal (judged c.args.name (kind_of_fault c.args.fault) (expanded_clauses c.args.defs.now.formulas.table.now.defs c.args.clauses.items)) c.in-Some.refusal.kind c.args.end c.refused.result c.refused.ensures
    (ap (λ (f : Option Refusal). judged c.args.name (kind_of_fault f) (expanded_clauses c.args.defs.now.formulas.table.now.defs c.args.clauses.items)) c.in-Some.is ∙ judged_fault c.args.name (expanded_clauses c.args.defs.now.formulas.table.now.defs c.args.clauses.items) c.args.size c.in-Some.refusal.kind (sym c.requires.size))

pub returns-in-None : goal.returns-in-None
returns-in-None c =
    gives_along (judged c.args.name None (expanded_clauses c.args.defs.now.formulas.table.now.defs c.args.clauses.items)) (judged c.args.name (kind_of_fault c.args.fault) (expanded_clauses c.args.defs.now.formulas.table.now.defs c.args.clauses.items)) (ap (λ (f : Option Refusal). judged c.args.name (kind_of_fault f) (expanded_clauses c.args.defs.now.formulas.table.now.defs c.args.clauses.items)) (sym c.in-None.is)) c.args.end c.within_limits.result c.within_limits.ensures
