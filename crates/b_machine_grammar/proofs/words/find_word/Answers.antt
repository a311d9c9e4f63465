-- The code's table is that of the definitions.
use Rattle.b_machine_grammar.specs.Words.{spellings, word_spelled}
use Rattle.b_machine_grammar.proofs.words.find_word.Goals as goal

pub returns : goal.returns
unfolding spellings word_spelled
returns c = c.lookup.ensures
