use Rattle.std.proofs.Common.{drop, sym, ap, ◌∙◌}
use Rattle.b_values.specs.Reading.{numbered}
use Rattle.b_sequences.specs.Sequences.{seconds}
use Rattle.b_sequences.proofs.Steps.{cut_couples, rest_seconds}
use Rattle.b_sequences.proofs.parts.later_couples.Goals as goal

pub returns-in_ok-renumbered-in-Some : goal.returns-in_ok-renumbered-in-Some
returns-in_ok-renumbered-in-Some c =
    cut_couples drop _ _ _ _ (sym c.in-Some.ensures.value)
    (c.in_ok-renumbered-in-Some.ensures ∙ ap (λ cs. numbered 1 (seconds cs)) c.split_at.ensures.back ∙ ap (numbered 1) (rest_seconds _ _ c.requires))
