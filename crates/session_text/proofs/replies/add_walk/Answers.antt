use Rattle.std.proofs.Common.{◌≡◌, ◌<◌, length, get_or, arith}
use Rattle.session_words.specs.Replies.{step_line}
use Rattle.session_text.specs.Writing.{its_number}
use Rattle.session_text.proofs.Lengths.{on_err, long_item}
use Rattle.session_text.proofs.replies.add_walk.Goals as goal

pub returns-in_err-add_step-clause-long : goal.returns-in_err-add_step-clause-long
returns-in_err-add_step-clause-long c =
    let small : c.loop-step.step-index < length c.args.steps.now = omega arith in
    let is : c.get.result.now ≡ get_or c.args.steps.now c.loop-step.step-index c.get.result.now = cc in
    on_err c.from_residual.result
    (long_item (step_line c.args.face.now its_number) c.args.steps.now c.loop-step.step-index c.get.result.now c.loop-step.out c.args.out.now _ small is c.loop-step.invariant c.in_err-add_step.ensures.long)
