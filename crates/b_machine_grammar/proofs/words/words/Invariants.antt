use Rattle.std.proofs.Common.{◌≡◌, ◌++◌, ℕ, length}
use Rattle.b_lex.specs.Reading.{AreSpans}
use Rattle.b_machine_grammar.specs.Words.{words}
use Rattle.b_machine_grammar.proofs.words.words.Given as goal

-- the words so far and those of the rest make the whole
abbrev pub invariant-loop-tokens : goal.invariant-loop-tokens
invariant-loop-tokens l = record {
  spans : (from : ℕ) × AreSpans from (length l.text) l.tokens;
  same : l.all.items ++ words l.text l.tokens ≡ words l.text l.fn.tokens;
}

abbrev pub decreases-loop-tokens : goal.decreases-loop-tokens
decreases-loop-tokens l = length l.tokens
