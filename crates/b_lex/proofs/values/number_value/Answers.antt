use Rattle.std.proofs.Common.{◌+◌, ◌-◌, ◌*◌, ◌≤◌, get_or, arith}
use Rattle.b_lex.specs.Bytes.{decimal}
use Rattle.b_lex.proofs.Numbers.{next_fits}
use Rattle.b_lex.proofs.values.number_value.Goals as goal

pub returns-in_default : goal.returns-in_default
returns-in_default c small =
    let fits : c.loop-b.value * 10 + (get_or c.args.digits.now c.loop-b.b-index 0 - 48) ≤ decimal c.args.digits.now = next_fits c.args.digits.now c.loop-b.b-index c.loop-b.value c.loop-b.invariant c.loop-b-test.true in
    omega (arith, c.in_default.ensures)

pub returns-in_default-checked_add : goal.returns-in_default-checked_add
returns-in_default-checked_add c small =
    let fits : c.loop-b.value * 10 + (get_or c.args.digits.now c.loop-b.b-index 0 - 48) ≤ decimal c.args.digits.now = next_fits c.args.digits.now c.loop-b.b-index c.loop-b.value c.loop-b.invariant c.loop-b-test.true in
    omega (arith, c.in_default-checked_add.ensures, c.in-Some.ensures, c.saturating_sub.ensures)
