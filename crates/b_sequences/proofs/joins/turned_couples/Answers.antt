use Rattle.std.proofs.Common.{ap, ◌∙◌}
use Rattle.std.specs.Prelude.{reverse}
use Rattle.b_values.specs.Reading.{numbered}
use Rattle.b_sequences.proofs.Numbered.{seconds-reverse}
use Rattle.b_sequences.proofs.Steps.{mapped}
use Rattle.b_sequences.proofs.joins.turned_couples.Goals as goal

pub returns-in_ok-turned-in-Some : goal.returns-in_ok-turned-in-Some
returns-in_ok-turned-in-Some c = mapped reverse _ _ _ c.in-Some.ensures (c.in_ok-turned-in-Some.ensures ∙ ap (numbered 1) (seconds-reverse _))
