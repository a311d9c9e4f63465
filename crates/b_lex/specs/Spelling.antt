-- How tokens are spelled, and what a string stands for.
use Rattle.std.specs.Prelude.{◌≡◌, ℕ, Bool, true, false, not, ◌&&◌, ◌-◌, ◌^◌, ◌<◌, ◌≤◌, List, [], ◌∷◌, ◌++◌, length, take, drop, unwrap_or, if◌then◌else◌, ◌==◌}
use Rattle.std.specs.List.{list_all, AllByRecursion}
use Rattle.b_lex.specs.declared.tokens.Token.{Token}
use Rattle.b_lex.specs.declared.tokens.TokenKind.{TokenKind}
use Rattle.b_lex.specs.declared.tokens.TokenKind.TheVariants.{Name, Number, Text, Word, Sign}
use Rattle.b_lex.specs.Tables.{has_entry, is_reserved, signs}
use Rattle.b_lex.specs.Bytes.{is_letter, is_digit, is_name_byte, decimal}
use Rattle.b_lex.specs.Strings.{IsBody, escape_of}
use Rattle.b_lex.specs.Reading.{spelling}

-- a letter, and then letters, digits and `_`
abbrev pub is_identifier : List ℕ → Bool
is_identifier [] = false
is_identifier (b ∷ bytes) = is_letter b && list_all is_name_byte bytes

-- a name: an identifier that is no reserved word
abbrev pub is_name : List ℕ → Bool
is_name bytes = is_identifier bytes && not (is_reserved bytes)

-- one or more digits
abbrev pub are_digits : List ℕ → Bool
are_digits [] = false
are_digits (b ∷ bytes) = is_digit b && list_all is_digit bytes

-- a string with its quotes, and the bytes that it stands for
pub record IsText (bytes value : List ℕ) : Type 0 where
  pub body : List ℕ
  pub is : bytes ≡ 34 ∷ (body ++ 34 ∷ [])
  pub stands : IsBody body value

-- the spellings of each kind of token
abbrev pub IsSpelled : TokenKind → List ℕ → Type 0
IsSpelled Name bytes = (is_identifier bytes ≡ true) × (is_reserved bytes ≡ false)
IsSpelled Number bytes = (are_digits bytes ≡ true) × (decimal bytes ≤ 2 ^ 127 - 1)
IsSpelled Text bytes = (value : List ℕ) × IsText bytes value × (length value < 2 ^ 32)
IsSpelled Word bytes = is_reserved bytes ≡ true
IsSpelled Sign bytes = has_entry signs bytes ≡ true

-- each token of the text is spelled as its kind says
abbrev pub AreSpelled : List ℕ → List Token → Type 0
AreSpelled text tokens = AllByRecursion (λ token. IsSpelled token.kind (spelling text token)) tokens

-- bytes between quotes, with each letter behind a backslash replaced by what it stands for; the first byte may be such a letter
abbrev pub unescape : Bool → List ℕ → List ℕ
unescape behind_slash [] = []
unescape true (b ∷ bytes) = unwrap_or (escape_of b) b ∷ unescape false bytes
unescape false (b ∷ bytes) = if b == 92 then unescape true bytes else b ∷ unescape false bytes

-- what stands between the first byte and the last
abbrev pub inside_of : List ℕ → List ℕ
inside_of bytes = take (length bytes - 2) (drop 1 bytes)
