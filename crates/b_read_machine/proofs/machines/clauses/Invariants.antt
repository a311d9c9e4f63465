use Rattle.b_machine_grammar.specs.declared.words.Separator.TheVariants as at
use Rattle.b_machine_grammar.specs.Cuts.{cut}
use Rattle.b_machine_grammar.specs.Grammar.{IsClause}
use Rattle.b_stretches.specs.Stretches.{next_of}
use Rattle.b_stretches.proofs.Reading.{IsPartlyFollowed, left_behind}
use Rattle.b_read_machine.proofs.machines.clauses.Given as goal

-- what is read is a part of what follows
abbrev pub invariant-loop-rest : goal.invariant-loop-rest
invariant-loop-rest l = IsPartlyFollowed (cut at.Clause) (IsClause l.depth) (next_of l.next) l.all (next_of l.rest)

abbrev pub decreases-loop-rest : goal.decreases-loop-rest
decreases-loop-rest l = left_behind (next_of l.rest)
