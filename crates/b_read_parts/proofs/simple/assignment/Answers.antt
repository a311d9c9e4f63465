use Rattle.std.proofs.Common.{◌≡◌, ◌∙◌, [], ◌∷◌, Some, None, true, false, sym, ap, refl, arith}
use Rattle.std.proofs.lemmas.Result.{err_from_is_err_and}
use Rattle.b_machine_grammar.specs.declared.words.Word.TheVariants as word
use Rattle.b_machine_grammar.specs.declared.words.Separator.TheVariants as at
use Rattle.b_machine_grammar.specs.Cuts.{cut, cut_at}
use Rattle.b_machine_grammar.specs.Grammar as grammar
use Rattle.b_stretches.specs.Stretches.{pieces, next_of}
use Rattle.b_read_parts.proofs.Forms as simple
use Rattle.b_read_parts.specs.Parts as spec
use Rattle.b_read_parts.proofs.simple.assignment.Goals as goal

pub returns-in_err-targets : goal.returns-in_err-targets
returns-in_err-targets c =
    let p = err_from_is_err_and c.from_residual.result c.from_residual.ensures.1 in
    rw (p.1, p.2) (simple.assigns_no_names c.args.at (pieces c.args.front) (pieces c.args.back) c.in_err-targets.field-0.0 c.in_err-targets.ensures)

pub returns-in_err-values : goal.returns-in_err-values
returns-in_err-values c =
    let p = err_from_is_err_and c.from_residual-in_err-values.result c.from_residual-in_err-values.ensures.1 in
    rw (p.1, p.2) (simple.assigns_no_values c.args.at (pieces c.args.front) (pieces c.args.back) c.in_err-values.field-0.0 c.in_err-values.ensures)

pub returns-then-len : goal.returns-then-len
returns-then-len c = simple.assigns c.args.at (pieces c.args.front) (pieces c.args.back) c.in_ok-targets.targets c.in_ok-values.values c.in_ok-targets.ensures c.in_ok-values.ensures (omega (arith, c.len.ensures, c.len-2.ensures, c.if-len.true))

pub returns-else-len : goal.returns-else-len
returns-else-len c = simple.assigns_unequal c.args.at (pieces c.args.front) (pieces c.args.back) c.stuck_behind.result c.in_ok-targets.targets c.in_ok-values.values c.stuck_behind.ensures c.in_ok-targets.ensures c.in_ok-values.ensures (λ e. omega (arith, e, c.len.ensures, c.len-2.ensures, c.if-len.false))
