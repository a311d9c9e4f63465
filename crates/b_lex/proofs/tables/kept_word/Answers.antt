use Rattle.std.proofs.Common.{sym, ap, map}
use Rattle.b_lex.specs.Tables.{has_entry, words}
use Rattle.b_lex.proofs.InRows.{is_empty, entry_found}
use Rattle.b_lex.proofs.tables.kept_word.Goals as goal

pub returns-in-empty : goal.returns-in-empty
unfolding words
returns-in-empty c = ap (has_entry words) (sym (is_empty c.args.word.now c.in-empty.len_below))

pub returns-in-len1-up : goal.returns-in-len1-up
returns-in-len1-up c = entry_found 32 words (map (λ e. e.now) c.words_with.result.now) c.args.word.now c.find_entry.result c.in-len1-up.len_at_least c.words_with.ensures c.find_entry.ensures
