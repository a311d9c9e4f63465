use Rattle.std.proofs.Common.{◌≡◌, ◌∙◌, [], ◌∷◌, Some, None, true, false, sym, ap, refl, arith}
use Rattle.std.proofs.lemmas.Result.{err_from_is_err_and}
use Rattle.b_machine_grammar.specs.declared.words.Word.TheVariants as word
use Rattle.b_machine_grammar.specs.declared.words.Separator.TheVariants as at
use Rattle.b_machine_grammar.specs.Cuts.{cut, cut_at}
use Rattle.b_machine_grammar.specs.Grammar as grammar
use Rattle.b_stretches.specs.Stretches.{pieces, next_of}
use Rattle.b_read_parts.proofs.Forms as simple
use Rattle.b_read_parts.specs.Parts as spec
use Rattle.b_read_parts.proofs.simple.choice_such.Goals as goal

pub returns-in_err-targets : goal.returns-in_err-targets
returns-in_err-targets c =
    let p = err_from_is_err_and c.from_residual.result c.from_residual.ensures.1 in
    rw (p.1, p.2) (simple.such_no_names c.args.at (pieces c.args.front) (pieces c.args.back) c.in_err-targets.field-0.0 c.in_err-targets.ensures)

pub returns-in_err-condition : goal.returns-in_err-condition
returns-in_err-condition c =
    let p = err_from_is_err_and c.from_residual-in_err-condition.result c.from_residual-in_err-condition.ensures.1 in
    rw (p.1, p.2) (simple.such_no_condition c.args.at (pieces c.args.front) (pieces c.args.back) c.in_err-condition.field-0.0 c.in_err-condition.ensures)

pub returns : goal.returns
returns c = simple.chooses_such c.args.at (pieces c.args.front) (pieces c.args.back) c.in_ok-targets.targets c.in_ok-condition.condition c.in_ok-targets.ensures c.in_ok-condition.ensures
