use Rattle.std.proofs.Common.{◌≡◌, ◌++◌, drop, false}
use Rattle.b_lex.specs.Spelling.{unescape}
use Rattle.b_lex.proofs.values.unescaped.Given as goal

-- what the bytes so far stand for, and what the rest does
abbrev pub invariant-loop-b : goal.invariant-loop-b
invariant-loop-b l = l.value.items ++ unescape l.behind_slash (drop l.b-index l.bytes) ≡ unescape false l.bytes
