-- The tokens of a text.
use Rattle.std.specs.Prelude.{ℕ, ◌+◌, ◌<◌, ◌≤◌, List, [], ◌∷◌, drop, Option, Some, None, Result, Ok, Err, Vec}
use Rattle.std.specs.declared.alloc.Global.{Global}
use Rattle.std.specs.List.{slice_range}
use Rattle.b_lex.specs.declared.tokens.Token.{Token}
use Rattle.b_lex.specs.declared.tokens.TokenKind.{TokenKind}
use Rattle.b_lex.specs.declared.tokens.LexKind.{LexKind}
use Rattle.b_lex.specs.declared.tokens.LexFault.{LexFault}
use Rattle.b_lex.specs.declared.tokens.LexFault.TheVariants.{Refused, Memory}
use Rattle.b_lex.specs.declared.fronts.Front.TheVariants.{Skip, Take, Stop}
use Rattle.b_lex.specs.Fronts.{Begins}

-- From a place on, a text has these tokens up to its end, or up to a fault of this kind at this place: at each place
-- bytes that separate are passed over, a token is taken, or the fault stands.
pub data Reads : ℕ → List ℕ → List Token → Option (LexKind × ℕ) → Type 0 where
  ended : (at : ℕ) → Reads at [] [] None
  skips : (at n : ℕ) (text : List ℕ) (tokens : List Token) (fault : Option (LexKind × ℕ))
      → Begins text (Skip n) → Reads (at + n) (drop n text) tokens fault → Reads at text tokens fault
  takes : (at n : ℕ) (kind : TokenKind) (text : List ℕ) (tokens : List Token) (fault : Option (LexKind × ℕ))
      → Begins text (Take kind n) → Reads (at + n) (drop n text) tokens fault
      → Reads at text (record { kind = kind; from = at; to = at + n } ∷ tokens) fault
  stops : (at n : ℕ) (kind : LexKind) (text : List ℕ) → Begins text (Stop kind n) → Reads at text [] (Some (kind, at + n))

-- these are the tokens of the text, all of it
abbrev pub AreTokens : List ℕ → List Token → Type 0
AreTokens text tokens = Reads 0 text tokens None

-- the text's first fault in reading order is of this kind and at this place
abbrev pub IsFirstFault : List ℕ → LexKind → ℕ → Type 0
IsFirstFault text kind at = (tokens : List Token) × Reads 0 text tokens (Some (kind, at))

-- the tokens of the text, or its first fault, unless memory ran out
abbrev pub Lexes : List ℕ → Result (Vec Token Global) LexFault → Type 0
Lexes text (Ok tokens) = AreTokens text tokens.items
Lexes text (Err (Refused kind at)) = IsFirstFault text kind at
Lexes text (Err Memory) = Unit {0}

-- spans in order between two places, none of them empty
abbrev pub AreSpans : ℕ → ℕ → List Token → Type 0
AreSpans from to [] = Unit {0}
AreSpans from to (token ∷ tokens) = (from ≤ token.from) × (token.from < token.to) × (token.to ≤ to) × AreSpans token.to to tokens

-- how a token of a text is spelled
abbrev pub spelling : List ℕ → Token → List ℕ
spelling text token = slice_range text token.from token.to
