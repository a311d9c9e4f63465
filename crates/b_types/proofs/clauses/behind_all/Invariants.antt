use Rattle.std.proofs.Common.{◌≡◌, ◌+◌, drop}
use Rattle.b_types.specs.Machines.{own_counts}
use Rattle.b_types.proofs.clauses.behind_all.Given as goal

-- what is counted, and then the rest
abbrev pub invariant-loop-operation : goal.invariant-loop-operation
invariant-loop-operation l = l.at + own_counts (drop l.operation-index l.operations) ≡ l.fn.first + own_counts l.operations
