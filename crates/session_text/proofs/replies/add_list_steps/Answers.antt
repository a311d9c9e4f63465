use Rattle.std.proofs.Common.{◌<◌, length, arith}
use Rattle.session_text.proofs.Lengths.{on_err, long_step}
use Rattle.session_text.proofs.replies.add_list_steps.Goals as goal

pub returns-in_err-add_numbered-clause-long : goal.returns-in_err-add_numbered-clause-long
returns-in_err-add_numbered-clause-long c =
    let small : c.loop-step.step-index < length c.args.steps.now = omega arith in
    on_err c.from_residual.result
    (long_step c.args.face.now c.args.steps.now c.loop-step.step-index c.loop-step.k c.step-item.result c.loop-step.out c.args.out.now _ small c.step-item.is c.loop-step.invariant.text c.in_err-add_numbered.ensures.long)
