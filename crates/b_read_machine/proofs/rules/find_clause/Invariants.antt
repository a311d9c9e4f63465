use Rattle.std.proofs.Common.{◌≡◌, map, length}
use Rattle.std.specs.List.{list_any}
use Rattle.b_machine_grammar.specs.Words.{is_word}
use Rattle.b_read_machine.specs.Rules.{kind_of}
use Rattle.b_read_machine.proofs.rules.find_clause.Given as goal

-- the clauses that are left decide
abbrev pub invariant-loop-rest : goal.invariant-loop-rest
invariant-loop-rest l = list_any (is_word l.kind) (map kind_of l.rest) ≡ list_any (is_word l.kind) (map kind_of l.clauses)

abbrev pub decreases-loop-rest : goal.decreases-loop-rest
decreases-loop-rest l = length l.rest
