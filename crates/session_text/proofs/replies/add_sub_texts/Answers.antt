use Rattle.std.proofs.Common.{◌<◌, ◌+◌, length, arith}
use Rattle.session_text.proofs.Lengths.{on_err, long_item}
use Rattle.session_words.specs.Replies.{sub_text}
use Rattle.session_text.proofs.replies.add_sub_texts.Goals as goal

pub returns-in_err-add_sub_text-clause-long : goal.returns-in_err-add_sub_text-clause-long
returns-in_err-add_sub_text-clause-long c =
    let small : c.loop-sub.sub-index < length c.args.subs.now = omega arith in
    on_err c.from_residual.result
    (long_item (sub_text) c.args.subs.now c.loop-sub.sub-index c.sub-item.result c.loop-sub.out c.args.out.now _ small c.sub-item.is c.loop-sub.invariant c.in_err-add_sub_text.ensures.long)
