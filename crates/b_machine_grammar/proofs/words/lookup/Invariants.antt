use Rattle.std.proofs.Common.{◌≡◌, map, length}
use Rattle.b_machine_grammar.specs.Words.{lookup}
use Rattle.b_machine_grammar.proofs.words.lookup.Given as goal

-- the entries that are left decide
abbrev pub invariant-loop-table : goal.invariant-loop-table
invariant-loop-table l = lookup (map (λ e. (e.0.now, e.1)) l.table) l.spelling ≡ lookup (map (λ e. (e.0.now, e.1)) l.fn.table) l.spelling

abbrev pub decreases-loop-table : goal.decreases-loop-table
decreases-loop-table l = length l.table
