use Rattle.std.proofs.Common.{◌∙◌, ap, sym, drop, arith}
use Rattle.b_values.proofs.ReadingSteps.{amount, amount_begins, lt_false}
use Rattle.b_values.proofs.reading.magnitude_at.Goals as goal

pub loop-to-init : goal.loop-to-init
loop-to-init c = record {
  small = omega arith;
  same = amount_begins c.args.most (drop c.args.at c.args.text.now) ∙ ap (λ b. amount c.args.most b 0 (drop c.args.at c.args.text.now)) (sym (lt_false c.args.at c.args.at (omega arith)));
}
