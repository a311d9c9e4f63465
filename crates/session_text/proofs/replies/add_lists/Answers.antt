use Rattle.std.proofs.Common.{◌<◌, length, arith}
use Rattle.session_text.proofs.Lengths.{on_err, long_list, long_list_end}
use Rattle.session_text.proofs.replies.add_lists.Goals as goal

pub returns-in_err-k-clause-long : goal.returns-in_err-k-clause-long
returns-in_err-k-clause-long c =
    let small : c.loop-list.list-index < length c.args.lists.now = omega arith in
    on_err c.from_residual.result
    (long_list c.args.face.now c.args.lists.now c.loop-list.list-index c.loop-list.k c.list-item.result c.as_slice.result.now c.loop-list.out c.args.out.now _ small c.list-item.is c.as_slice.ensures c.loop-list.invariant.text c.in_err-k.ensures.long)

pub returns-in_err-add_list_end-clause-long : goal.returns-in_err-add_list_end-clause-long
returns-in_err-add_list_end-clause-long c =
    let small : c.loop-list.list-index < length c.args.lists.now = omega arith in
    on_err c.from_residual-in_err-add_list_end.result
    (long_list_end c.args.face.now c.args.lists.now c.loop-list.list-index c.loop-list.k c.list-item.result c.as_slice.result.now c.loop-list.out c.add_list_steps.new.out c.args.out.now _ small c.list-item.is c.as_slice.ensures c.in_ok-k.ensures.added c.loop-list.invariant.text c.in_err-add_list_end.ensures.long)
