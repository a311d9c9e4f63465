-- The one reading is what descent reads.
use Rattle.b_grammar.proofs.Deeper.{one_text}
use Rattle.b_grammar.proofs.one_tree.Goals as goal

pub returns : goal.returns
returns c = one_text
