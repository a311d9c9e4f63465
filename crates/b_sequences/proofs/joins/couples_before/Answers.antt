use Rattle.std.proofs.Common.{[], ◌∷◌, ◌++◌, ◌∙◌}
use Rattle.b_sequences.proofs.Steps.{mapped, both_numbered}
use Rattle.b_sequences.proofs.joins.couples_before.Goals as goal

pub returns-in_ok-before_part-in-Some : goal.returns-in_ok-before_part-in-Some
returns-in_ok-before_part-in-Some c =
    mapped (λ xs. xs ++ c.args.x.now ∷ []) _ _ _ c.in-Some.ensures (c.in_ok-before_part-in-Some.ensures ∙ both_numbered _ _ c.in-Some.ensures.couples)
