use Rattle.std.proofs.Common.{◌∙◌}
use Rattle.b_values.proofs.ReadingSteps.{past_end}
use Rattle.b_values.proofs.reading.strip_at.Goals as goal

pub returns-then-to-text : goal.returns-then-to-text
returns-then-to-text c = c.loop-b.invariant.same ∙ past_end c.args.sign.now c.args.text.now c.loop-b.b-index c.loop-b.to c.loop-b-test.true c.if-to-text.true
