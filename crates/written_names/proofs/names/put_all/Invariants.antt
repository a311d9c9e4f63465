use Rattle.std.proofs.Common.{◌≡◌, drop}
use Rattle.written_names.specs.Names.{added, has}
use Rattle.written_names.proofs.names.put_all.Given as goal

-- the names so far, and the rest
abbrev pub invariant-loop-name : goal.invariant-loop-name
invariant-loop-name l = added (has l.into) (drop l.name-index l.names) ≡ added (has l.fn.into) l.names
