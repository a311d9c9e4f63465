use Rattle.std.proofs.Common.{Ok, ap, map}
use Rattle.b_outcomes.specs.Frames.{joined}
use Rattle.b_outcomes.proofs.Gathers.{adds_many}
use Rattle.b_outcomes.proofs.joining.join_each.Goals as goal

pub returns-then-is_over : goal.returns-then-is_over
returns-then-is_over c = ap Ok (adds_many c.args.out.now (map (λ y. joined c.args.first c.args.targets.now c.args.x.now y) c.args.ys.now) (c.is_over.ensures c.if-is_over.true))
