use Rattle.std.proofs.Common.{rules, ◌∙◌, sym, ◌<◌, length, arith}
use Rattle.host_top.proofs.Numbers.{too_many, number_of_some, reached, passed}
use Rattle.host_top.proofs.words.read_number.Goals as goal

pub returns-in_default-clause-value : goal.returns-in_default-clause-value
returns-in_default-clause-value c =
    sym (number_of_some c.args.most c.args.digits.now (omega arith)
    ∙ sym c.loop-b.invariant
    ∙ too_many c.args.most c.loop-b.high c.args.digits.now c.loop-b.b-index (omega arith) (omega arith))

pub returns-in_default-checked_add-clause-value : goal.returns-in_default-checked_add-clause-value
returns-in_default-checked_add-clause-value c =
    sym (number_of_some c.args.most c.args.digits.now (omega arith)
    ∙ sym c.loop-b.invariant
    ∙ too_many c.args.most c.loop-b.high c.args.digits.now c.loop-b.b-index (omega arith) (omega arith))

pub returns-then-high-most-clause-value : goal.returns-then-high-most-clause-value
returns-then-high-most-clause-value c =
    let some : 0 < length c.args.digits.now = search rules in
    sym (number_of_some c.args.most c.args.digits.now some
    ∙ sym c.loop-b.invariant
    ∙ reached c.args.most c.loop-b.high c.args.digits.now c.loop-b.b-index (omega arith) (omega arith))

pub returns-else-high-most-clause-value : goal.returns-else-high-most-clause-value
returns-else-high-most-clause-value c =
    let some : 0 < length c.args.digits.now = search rules in
    sym (number_of_some c.args.most c.args.digits.now some
    ∙ sym c.loop-b.invariant
    ∙ passed c.args.most c.loop-b.high c.args.digits.now c.loop-b.b-index (omega arith) (omega arith))
