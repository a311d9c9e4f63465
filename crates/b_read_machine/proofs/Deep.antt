-- Whether too many brackets are open, lexeme by lexeme.
use Rattle.std.proofs.Common.{◌≡◌, ◌<◌, ◌≤◌, ◌||◌, true, false, List, ◌∷◌, ap}
use Rattle.std.proofs.lemmas.Bool.{lt-ltb, le-ltb}
use Rattle.b_machine_grammar.specs.Cuts.{Piece}
use Rattle.b_read_machine.specs.Texts.{is_deep}

pub deep_first : (s : Piece) (ts : List Piece) → 100 < s.1.at.depth → is_deep (s ∷ ts) ≡ true
deep_first s ts h = ap (λ b. b || is_deep ts) (lt-ltb 100 s.1.at.depth h)

pub shallow_first : (s : Piece) (ts : List Piece) → s.1.at.depth ≤ 100 → is_deep (s ∷ ts) ≡ is_deep ts
shallow_first s ts h = ap (λ b. b || is_deep ts) (le-ltb 100 s.1.at.depth h)
