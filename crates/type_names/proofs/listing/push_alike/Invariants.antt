use Rattle.std.proofs.Common.{◌≡◌, ◌++◌, drop}
use Rattle.type_names.specs.Names.{alike}
use Rattle.type_names.proofs.listing.push_alike.Given as goal

-- what is listed, and then the rest
abbrev pub invariant-loop-name : goal.invariant-loop-name
invariant-loop-name l = l.out.items ++ alike l.fn.part (drop l.name-index l.names) ≡ l.fn.out.items ++ alike l.fn.part l.names
