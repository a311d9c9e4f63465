use Rattle.std.proofs.Common.{refl, ◌∙◌}
use Rattle.b_sequences.specs.SequenceLaws.{as_sequence_none}
use Rattle.b_sequences.proofs.Numbered.{numbered_set, unnumbered_set}
use Rattle.b_sequences.proofs.numbering.couples_of.Goals as goal

pub returns-then-are_numbered : goal.returns-then-are_numbered
returns-then-are_numbered c = numbered_set _ _ _ c.in-Set.is (c.as_slice-couples.ensures ∙ c.get.ensures) (c.if-are_numbered.ensures.0 refl)

pub returns-else-are_numbered : goal.returns-else-are_numbered
returns-else-are_numbered c = unnumbered_set _ _ _ c.in-Set.is (c.as_slice-couples.ensures ∙ c.get.ensures) (λ n. let f = c.if-are_numbered.ensures.1 n in cc)

pub returns-in_default : goal.returns-in_default
returns-in_default c = as_sequence_none _ (λ p. c.in_default.not-Set _ p.1)
