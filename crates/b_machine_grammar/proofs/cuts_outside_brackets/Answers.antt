-- By going through the list.
use Rattle.b_machine_grammar.proofs.Outside.{cut_outside}
use Rattle.b_machine_grammar.proofs.cuts_outside_brackets.Goals as goal

pub returns : goal.returns
returns c = cut_outside
