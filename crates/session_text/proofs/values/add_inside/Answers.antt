use Rattle.std.proofs.Common.{◌<◌, length, arith}
use Rattle.b_values.specs.Texts.{spelling_of}
use Rattle.session_text.proofs.Lengths.{on_err, long_byte}
use Rattle.session_text.proofs.values.add_inside.Goals as goal

pub returns-in_err-add_byte-clause-long : goal.returns-in_err-add_byte-clause-long
returns-in_err-add_byte-clause-long c =
    let small : c.loop-b.b-index < length c.args.bytes.now = omega arith in
    on_err c.from_residual.result (long_byte spelling_of c.args.bytes.now c.loop-b.b-index c.loop-b.out c.args.out.now _ small c.loop-b.invariant c.in_err-add_byte.ensures.long)
