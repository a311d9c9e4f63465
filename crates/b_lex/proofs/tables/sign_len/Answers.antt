use Rattle.std.proofs.Common.{sym, ap, map}
use Rattle.b_lex.specs.Tables.{longest, signs}
use Rattle.b_lex.proofs.InRows.{is_empty, longest_found}
use Rattle.b_lex.proofs.tables.sign_len.Goals as goal

pub returns-in-empty-clause-value : goal.returns-in-empty-clause-value
unfolding signs
returns-in-empty-clause-value c = ap (longest signs) (sym (is_empty c.args.text.now c.in-empty.len_below))

pub returns-in-len1-up-clause-value : goal.returns-in-len1-up-clause-value
returns-in-len1-up-clause-value c = longest_found 37 signs (map (λ e. e.now) c.signs_with.result.now) c.args.text.now c.longest_entry.result c.in-len1-up.len_at_least c.signs_with.ensures c.longest_entry.ensures.value
