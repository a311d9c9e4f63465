use Rattle.std.proofs.Common.{sym}
use Rattle.std.proofs.lemmas.Result.{err_from_is_err_and}
use Rattle.b_stretches.specs.Stretches.{pieces}
use Rattle.b_read_parts.proofs.Forms.{no_use_with, uses_with}
use Rattle.b_read_parts.proofs.simple.used.Goals as goal

pub returns-in_err-target : goal.returns-in_err-target
returns-in_err-target c =
    let p = err_from_is_err_and c.from_residual.result c.from_residual.ensures.1 in
    rw (p.1, p.2) (no_use_with (pieces c.args.s) c.in_err-target.field-0.0 (sym c.if-is_applied.ensures) c.in_err-target.ensures)

pub returns-in_ok-push : goal.returns-in_ok-push
returns-in_ok-push c =
    rw (c.in_ok-push.ensures.ok, c.new-arguments.ensures)
    (uses_with (pieces c.args.s) (c.in_ok-target.target, c.in_ok-target.field-0-1, c.in_ok-target.argument) (sym c.if-is_applied.ensures) c.in_ok-target.ensures)
