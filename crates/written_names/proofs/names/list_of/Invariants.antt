use Rattle.std.proofs.Common.{◌≡◌, ◌++◌, drop}
use Rattle.written_names.specs.Names.{names_of}
use Rattle.written_names.proofs.names.list_of.Given as goal

-- the names so far, and the rest
abbrev pub invariant-loop-bound : goal.invariant-loop-bound
invariant-loop-bound l = l.names ++ names_of (drop l.bound-index l.bounds) ≡ names_of l.bounds
