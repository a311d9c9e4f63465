use Rattle.std.proofs.Common.{◌≡◌, ◌≤◌, map, drop, max, length}
use Rattle.b_lex.specs.Tables.{longest}
use Rattle.b_lex.proofs.tables.longest_entry.Given as goal

-- the longest entry so far, or a longer one behind this place
abbrev pub invariant-loop-entry : goal.invariant-loop-entry
invariant-loop-entry l =
    (max l.most (longest (map (λ e. e.now) (drop l.entry-index l.table)) l.text) ≡ longest (map (λ e. e.now) l.table) l.text) × (l.most ≤ length l.text)
