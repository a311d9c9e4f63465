use Rattle.std.proofs.Common.{◌≡◌, length}
use Rattle.b_machine_grammar.specs.Grammar.{same_names}
use Rattle.b_read_parts.proofs.equations.are_same_names.Given as goal

-- the names that are left decide
abbrev pub invariant-loop-some : goal.invariant-loop-some
invariant-loop-some l = same_names l.some l.others ≡ same_names l.fn.some l.fn.others

abbrev pub decreases-loop-some : goal.decreases-loop-some
decreases-loop-some l = length l.some
