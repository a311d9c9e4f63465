-- The code's table is that of the definitions.
use Rattle.b_grammar.specs.Symbols.{closers}
use Rattle.b_grammar.proofs.brackets.closes.Goals as goal

pub returns : goal.returns
unfolding closers
returns c = c.is_among.ensures
