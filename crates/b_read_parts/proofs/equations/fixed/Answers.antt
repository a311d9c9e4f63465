use Rattle.std.proofs.Common.{◌≡◌, ◌∙◌, [], ◌∷◌, Some, None, true, false, sym, ap, refl, arith}
use Rattle.std.proofs.lemmas.Result.{err_from_is_err_and}
use Rattle.b_machine_grammar.specs.declared.words.Word.TheVariants as word
use Rattle.b_machine_grammar.specs.declared.words.Separator.TheVariants as at
use Rattle.b_machine_grammar.specs.Cuts.{cut, cut_at}
use Rattle.b_machine_grammar.specs.Grammar as grammar
use Rattle.b_stretches.specs.Stretches.{pieces, next_of}
use Rattle.b_read_parts.proofs.Forms as simple
use Rattle.b_read_parts.specs.Parts as spec
use Rattle.b_read_parts.proofs.equations.fixed.Goals as goal

pub returns-in_err-bound : goal.returns-in_err-bound
returns-in_err-bound c =
    let p = err_from_is_err_and c.from_residual.result c.from_residual.ensures.1 in
    rw (p.1, p.2) (simple.fixed_no_names (pieces c.args.front) (pieces c.args.back) c.in_err-bound.field-0.0 c.in_err-bound.ensures)

pub returns-in_err-left : goal.returns-in_err-left
returns-in_err-left c =
    let p = err_from_is_err_and c.from_residual-in_err-left.result c.from_residual-in_err-left.ensures.1 in
    rw (p.1, p.2) (simple.fixed_no_left (pieces c.args.front) (pieces c.args.back) c.in_err-left.field-0.0 c.in_err-left.ensures)

pub returns-in_err-values : goal.returns-in_err-values
returns-in_err-values c =
    let p = err_from_is_err_and c.from_residual-in_err-values.result c.from_residual-in_err-values.ensures.1 in
    rw (p.1, p.2) (simple.fixed_no_right (pieces c.args.front) (pieces c.args.back) c.in_err-values.field-0.0 c.in_err-values.ensures)

pub returns-else-are_same_names : goal.returns-else-are_same_names
returns-else-are_same_names c = simple.fixed_unlike (pieces c.args.front) (pieces c.args.back) c.stuck.result c.in_ok-bound.bound c.in_ok-left.left c.stuck.ensures c.in_ok-bound.ensures c.in_ok-left.ensures (sym (rw (c.as_slice.ensures, c.as_slice-2.ensures) at c.if-are_same_names.ensures))
