use Rattle.std.proofs.Common.{◌≡◌, ◌++◌, drop}
use Rattle.type_demands.specs.Scopes.{names_of}
use Rattle.b_types.proofs.clauses.add_bound.Given as goal

-- what is listed, and then the rest
abbrev pub invariant-loop-name : goal.invariant-loop-name
invariant-loop-name l = l.out ++ names_of (drop l.name-index l.names) ≡ l.fn.out ++ names_of l.names
