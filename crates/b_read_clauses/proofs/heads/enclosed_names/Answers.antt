use Rattle.std.proofs.lemmas.Result.{err_from_is_err_and}
use Rattle.b_machine_grammar.specs.Cuts.{cut_at}
use Rattle.b_machine_grammar.specs.Grammar.{IsNames}
use Rattle.b_stretches.specs.Stretches.{pieces}
use Rattle.b_stretches.proofs.Reading.{enclosed_none, enclosed_on}
use Rattle.b_read_clauses.proofs.heads.enclosed_names.Goals as goal

pub returns-in_err-content : goal.returns-in_err-content
returns-in_err-content c =
    let p = err_from_is_err_and c.from_residual.result c.from_residual.ensures.1 in
    rw (p.1, p.2) (enclosed_none c.args.opening (cut_at c.args.closing) IsNames (pieces c.args.s) c.in_err-content.field-0.0 c.in_err-content.ensures)

pub returns : goal.returns
returns c = enclosed_on c.args.opening (cut_at c.args.closing) IsNames (pieces c.args.s) c.in_ok-content.content c.names.result c.in_ok-content.ensures c.names.ensures
