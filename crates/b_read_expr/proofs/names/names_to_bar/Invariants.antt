use Rattle.std.proofs.Common.{length}
use Rattle.b_grammar.specs.Grammar.{names_to_bar}
use Rattle.b_read_expr.proofs.Naming.{IsNaming}
use Rattle.b_read_expr.proofs.names.names_to_bar.Given as goal

abbrev pub invariant-loop-names : goal.invariant-loop-names
invariant-loop-names l = IsNaming names_to_bar (names_to_bar l.lexemes) l.lexemes l.names l.rest

abbrev pub decreases-loop-names : goal.decreases-loop-names
decreases-loop-names l = length l.rest
