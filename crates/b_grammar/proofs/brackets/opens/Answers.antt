-- The code's table is that of the definitions.
use Rattle.b_grammar.specs.Symbols.{openers}
use Rattle.b_grammar.proofs.brackets.opens.Goals as goal

pub returns : goal.returns
unfolding openers
returns c = c.is_among.ensures
