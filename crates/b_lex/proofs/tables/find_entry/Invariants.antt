use Rattle.std.proofs.Common.{◌≡◌, map, drop}
use Rattle.b_lex.specs.Tables.{has_entry}
use Rattle.b_lex.proofs.tables.find_entry.Given as goal

-- the entries behind this place decide
abbrev pub invariant-loop-e : goal.invariant-loop-e
invariant-loop-e l = has_entry (map (λ e. e.now) (drop l.e-index l.table)) l.entry ≡ has_entry (map (λ e. e.now) l.table) l.entry
