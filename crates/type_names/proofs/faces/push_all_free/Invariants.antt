use Rattle.std.proofs.Common.{◌≡◌, ◌++◌, drop}
use Rattle.type_names.specs.Names.{alike, free}
use Rattle.type_names.proofs.faces.push_all_free.Given as goal

-- what is listed, and then the rest
abbrev pub invariant-loop-name : goal.invariant-loop-name
invariant-loop-name l = l.out.items ++ alike l.fn.part (free l.hiding.names (drop l.name-index l.names)) ≡ l.fn.out.items ++ alike l.fn.part (free l.hiding.names l.names)
