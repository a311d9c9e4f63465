use Rattle.std.proofs.Common.{sym, ap}
use Rattle.b_grammar.specs.Symbols.{entries, spellings, fixed_of}
use Rattle.b_grammar.proofs.InRows.{is_empty, found}
use Rattle.b_grammar.proofs.symbols.find_fixed.Goals as goal

pub returns-in-empty : goal.returns-in-empty
unfolding spellings fixed_of
returns-in-empty c = ap fixed_of (sym (is_empty c.args.spelling.now c.in-empty.len_below))

pub returns-in-len1-up : goal.returns-in-len1-up
unfolding fixed_of
returns-in-len1-up c = found 59 spellings (entries c.spellings_with.result.now) c.args.spelling.now c.lookup.result c.in-len1-up.len_at_least c.spellings_with.ensures c.lookup.ensures
