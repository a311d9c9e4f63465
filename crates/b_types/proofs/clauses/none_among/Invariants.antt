use Rattle.std.proofs.Common.{◌≡◌, drop}
use Rattle.b_types.specs.Machines.{none_among}
use Rattle.b_types.proofs.clauses.none_among.Given as goal

-- none so far
abbrev pub invariant-loop-name : goal.invariant-loop-name
invariant-loop-name l = none_among l.declared.names (drop l.name-index l.names) ≡ none_among l.declared.names l.names
