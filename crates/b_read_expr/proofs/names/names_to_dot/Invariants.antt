use Rattle.std.proofs.Common.{length}
use Rattle.b_grammar.specs.Grammar.{names_to_dot}
use Rattle.b_read_expr.proofs.Naming.{IsNaming}
use Rattle.b_read_expr.proofs.names.names_to_dot.Given as goal

abbrev pub invariant-loop-names : goal.invariant-loop-names
invariant-loop-names l = IsNaming names_to_dot (names_to_dot l.lexemes) l.lexemes l.names l.rest

abbrev pub decreases-loop-names : goal.decreases-loop-names
decreases-loop-names l = length l.rest
