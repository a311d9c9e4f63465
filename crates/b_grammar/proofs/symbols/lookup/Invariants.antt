use Rattle.std.proofs.Common.{◌≡◌, length}
use Rattle.b_grammar.specs.Symbols.{entries, lookup}
use Rattle.b_grammar.proofs.symbols.lookup.Given as goal

-- the entries that are left decide
abbrev pub invariant-loop-table : goal.invariant-loop-table
invariant-loop-table l = lookup (entries l.table) l.spelling ≡ lookup (entries l.fn.table) l.spelling

abbrev pub decreases-loop-table : goal.decreases-loop-table
decreases-loop-table l = length l.table
