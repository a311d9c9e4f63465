use Rattle.std.proofs.Common.{◌≡◌, ◌++◌, ◌+◌, ◌≤◌, ℕ, length}
use Rattle.b_lex.specs.Reading.{AreSpans}
use Rattle.b_grammar.specs.Symbols.{lexemes, lexemes_from}
use Rattle.b_grammar.proofs.symbols.lexemes.Given as goal

-- the lexemes so far and those of the rest make the whole; at most one bracket is open for each token that was read
abbrev pub invariant-loop-tokens : goal.invariant-loop-tokens
invariant-loop-tokens l = record {
  spans : (from : ℕ) × AreSpans from (length l.text) l.tokens;
  same : l.all.items ++ lexemes_from l.machine l.text l.depth l.tokens ≡ lexemes l.machine l.text l.fn.tokens;
  few : l.depth + length l.tokens ≤ length l.fn.tokens;
}

abbrev pub decreases-loop-tokens : goal.decreases-loop-tokens
decreases-loop-tokens l = length l.tokens
