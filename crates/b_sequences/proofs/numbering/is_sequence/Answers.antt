use Rattle.b_sequences.specs.SequenceLaws.{as_sequence_sound, as_sequence_complete}
use Rattle.b_sequences.proofs.Numbered.{found_or_not}
use Rattle.b_sequences.proofs.numbering.is_sequence.Goals as goal

pub returns-clause-sequence : goal.returns-clause-sequence
returns-clause-sequence c = found_or_not _ _ _ c.couples_of.ensures c.is_some.ensures

pub returns-clause-list : goal.returns-clause-list
returns-clause-list c = λ xs. (as_sequence_sound _ xs, as_sequence_complete _ xs)
