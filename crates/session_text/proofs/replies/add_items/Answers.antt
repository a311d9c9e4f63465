use Rattle.std.proofs.Common.{◌<◌, ◌+◌, length, arith}
use Rattle.session_text.proofs.Lengths.{on_err, long_item}
use Rattle.session_words.specs.Replies.{item_line}
use Rattle.session_text.proofs.replies.add_items.Goals as goal

pub returns-in_err-add_item-clause-long : goal.returns-in_err-add_item-clause-long
returns-in_err-add_item-clause-long c =
    let small : c.loop-item.item-index < length c.args.items.now = omega arith in
    on_err c.from_residual.result
    (long_item (item_line c.args.face.now) c.args.items.now c.loop-item.item-index c.item-item.result c.loop-item.out c.args.out.now _ small c.item-item.is c.loop-item.invariant c.in_err-add_item.ensures.long)
