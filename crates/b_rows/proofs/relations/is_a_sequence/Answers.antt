use Rattle.b_rows.proofs.Kept.{sequence_test}
use Rattle.b_rows.proofs.relations.is_a_sequence.Goals as goal

pub returns : goal.returns
returns c = sequence_test c.args.v.now _ c.is_sequence.ensures.sequence
