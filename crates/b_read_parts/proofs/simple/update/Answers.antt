use Rattle.std.proofs.Common.{◌≡◌, ◌∙◌, [], ◌∷◌, Some, None, true, false, sym, ap, refl, arith}
use Rattle.std.proofs.lemmas.Result.{err_from_is_err_and}
use Rattle.b_machine_grammar.specs.declared.words.Word.TheVariants as word
use Rattle.b_machine_grammar.specs.declared.words.Separator.TheVariants as at
use Rattle.b_machine_grammar.specs.Cuts.{cut, cut_at}
use Rattle.b_machine_grammar.specs.Grammar as grammar
use Rattle.b_stretches.specs.Stretches.{pieces, next_of}
use Rattle.b_read_parts.proofs.Forms as simple
use Rattle.b_read_parts.specs.Parts as spec
use Rattle.b_read_parts.proofs.simple.update.Goals as goal

pub returns-in_err-target : goal.returns-in_err-target
returns-in_err-target c =
    let p = err_from_is_err_and c.from_residual.result c.from_residual.ensures.1 in
    rw (p.1, p.2) (simple.updates_nothing (pieces c.args.front) (pieces c.args.back) c.in_err-target.field-0.0 c.in_err-target.ensures)

pub returns-in_err-value : goal.returns-in_err-value
returns-in_err-value c =
    let p = err_from_is_err_and c.from_residual-in_err-value.result c.from_residual-in_err-value.ensures.1 in
    rw (p.1, p.2) (simple.updates_no_value (pieces c.args.front) (pieces c.args.back) c.in_err-value.field-0.0 c.in_err-value.ensures)

pub returns : goal.returns
returns c = simple.updates (pieces c.args.front) (pieces c.args.back) (c.in_ok-target.target, c.in_ok-target.at, c.in_ok-target.argument) c.in_ok-value.value c.in_ok-target.ensures c.in_ok-value.ensures
