-- By the forms of the grammar.
use Rattle.b_grammar.proofs.Endings.{formula_ends}
use Rattle.b_grammar.proofs.formula_ends_operand.Goals as goal

pub returns : goal.returns
returns c = formula_ends
