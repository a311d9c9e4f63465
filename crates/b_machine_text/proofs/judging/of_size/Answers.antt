use Rattle.std.proofs.Common.{Err, sym, ap, ◌∙◌}
use Rattle.b_expand.specs.declared.faults.ParseKind.{ParseKind}
use Rattle.b_machine_text.specs.Machines.{expanded_clauses}
use Rattle.b_machine_text.specs.Verdicts.{judged, kind_of_fault}
use Rattle.b_machine_text.proofs.Giving.{gives_refusal, judged_none}
use Rattle.b_machine_text.proofs.judging.of_size.Goals as goal

pub returns-in-None : goal.returns-in-None
returns-in-None c =
    gives_refusal (judged c.args.name (kind_of_fault c.args.fault) (expanded_clauses c.args.defs.now.formulas.table.now.defs c.args.clauses.items)) c.no_sentence.result.kind c.args.end c.refused.result c.refused.ensures
    (judged_none c.args.name (expanded_clauses c.args.defs.now.formulas.table.now.defs c.args.clauses.items) (kind_of_fault c.args.fault) (sym c.in-None.is ∙ c.requires.size) ∙ ap (λ (k : ParseKind). Err k) (sym c.no_sentence.ensures))
