-- Whether too many brackets are open, lexeme by lexeme.
use Rattle.std.proofs.Common.{◌≡◌, ◌<◌, ◌≤◌, ◌||◌, true, false, List, ◌∷◌, ap}
use Rattle.std.proofs.lemmas.Bool.{lt-ltb, le-ltb}
use Rattle.b_grammar.specs.declared.Lexeme.{Lexeme}
use Rattle.b_parse_expr.specs.Parsing.{is_deep}

pub deep_first : (l : Lexeme) (ls : List Lexeme) → 100 < l.at.depth → is_deep (l ∷ ls) ≡ true
deep_first l ls h = ap (λ b. b || is_deep ls) (lt-ltb 100 l.at.depth h)

pub shallow_first : (l : Lexeme) (ls : List Lexeme) → l.at.depth ≤ 100 → is_deep (l ∷ ls) ≡ is_deep ls
shallow_first l ls h = ap (λ b. b || is_deep ls) (le-ltb 100 l.at.depth h)
