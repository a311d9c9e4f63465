use Rattle.std.proofs.Common.{take, sym, ◌∙◌}
use Rattle.b_sequences.proofs.Steps.{cut_couples, front_numbered}
use Rattle.b_sequences.proofs.parts.first_couples.Goals as goal

pub returns-in_ok-front_of-in-Some : goal.returns-in_ok-front_of-in-Some
returns-in_ok-front_of-in-Some c =
    cut_couples take _ _ _ _ (sym c.in-Some.ensures.value) (c.in_ok-front_of-in-Some.ensures ∙ front_numbered _ _ c.requires)
