use Rattle.std.proofs.Common.{◌∙◌, sym, ap}
use Rattle.b_stretches.specs.Stretches.{pieces, next_of}
use Rattle.b_read_parts.proofs.Forms.{right_on}
use Rattle.b_read_parts.proofs.equations.right_side.Goals as goal

pub returns-in-Some : goal.returns-in-Some
returns-in-Some c =
    right_on (pieces c.args.s) ((c.in-Some.field-0-0, c.in-Some.field-0-1.now), pieces c.in-Some.back) c.written.result (sym c.cut_at.ensures.1 ∙ ap next_of c.in-Some.is) c.written.ensures
