use Rattle.std.proofs.Common.{◌≡◌, map, drop}
use Rattle.b_lex.specs.Tables.{has_entry}
use Rattle.b_grammar.proofs.brackets.is_among.Given as goal

-- the entries behind this place decide
abbrev pub invariant-loop-entry : goal.invariant-loop-entry
invariant-loop-entry l = has_entry (map (λ e. e.now) (drop l.entry-index l.table)) l.word ≡ has_entry (map (λ e. e.now) l.table) l.word
