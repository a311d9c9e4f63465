use Rattle.std.proofs.Common.{◌≤◌, length, arith}
use Rattle.session_text.proofs.Lengths.{on_err, long_named, named_on}
use Rattle.session_text.proofs.replies.add_named.Goals as goal

pub returns-in_err-add_named_value-clause-long : goal.returns-in_err-add_named_value-clause-long
returns-in_err-add_named_value-clause-long c =
    let some : 1 ≤ length c.loop-rest.rest.now = omega arith in
    let more : 1 ≤ length c.loop-rest.left.now = omega arith in
    on_err c.from_residual.result
    (long_named c.args.face.now c.loop-rest.rest.now c.loop-rest.left.now c.name-item.result c.v-item.result c.loop-rest.out c.args.out.now _ some more c.name-item.is c.v-item.is c.loop-rest.invariant c.in_err-add_named_value.ensures.long)

pub loop-rest-preserved : goal.loop-rest-preserved
loop-rest-preserved c =
    let some : 1 ≤ length c.loop-rest.rest.now = omega arith in
    let more : 1 ≤ length c.loop-rest.left.now = omega arith in
    named_on c.args.face.now c.loop-rest.rest.now c.loop-rest.left.now c.name-item.result c.v-item.result c.loop-rest.out c.add_named_value.new.out c.args.out.now _ some more c.name-item.is c.v-item.is c.in_ok-add_named_value.ensures.added c.loop-rest.invariant
