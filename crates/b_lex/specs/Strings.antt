-- What stands between the quotes of a string, and how a string ends.
use Rattle.std.specs.Prelude.{◌≡◌, ℕ, Bool, true, not, ◌||◌, nat_lt, ◌+◌, ◌^◌, ◌<◌, ◌≤◌, List, [], ◌∷◌, ◌++◌, length, take, drop, Option, Some, None, if◌then◌else◌, ◌==◌, encode_utf8}
use Rattle.std.specs.Char.{IsScalar}
use Rattle.std.specs.Bool.{MatchBool}
use Rattle.std.specs.Str.{StartsWithNoChar}
use Rattle.b_lex.specs.declared.tokens.TokenKind.TheVariants.{Text}
use Rattle.b_lex.specs.declared.tokens.LexKind.TheVariants.{BadByte, OpenString}
use Rattle.b_lex.specs.declared.fronts.Front.{Front}
use Rattle.b_lex.specs.declared.fronts.Front.TheVariants.{Take, Stop}
use Rattle.b_lex.specs.declared.fronts.Part.{Part}
use Rattle.b_lex.specs.declared.fronts.Part.TheVariants.{More, End}

-- a character that stands for itself in a string: each but the quote, the backslash and LF
abbrev pub is_plain : ℕ → Bool
is_plain c = not ((c == 34) || (c == 92) || (c == 10))

-- what a letter behind a backslash stands for: `\"`, `\\`, `\n` and `\t` for a quote, a backslash, LF and tab
abbrev pub escape_of : ℕ → Option ℕ
escape_of letter =
    if letter == 34 then Some 34
    else if letter == 92 then Some 92
    else if letter == 110 then Some 10
    else if letter == 116 then Some 9
    else None

-- bytes between the quotes of a string stand for bytes
pub data IsBody : List ℕ → List ℕ → Type 0 where
  empty : IsBody [] []
  plain : (c : ℕ) (body value : List ℕ) → IsScalar c → is_plain c ≡ true → IsBody body value
      → IsBody (encode_utf8 c ++ body) (encode_utf8 c ++ value)
  escaped : (letter b : ℕ) (body value : List ℕ) → escape_of letter ≡ Some b → IsBody body value
      → IsBody (92 ∷ letter ∷ body) (b ∷ value)

-- a string with so many bytes between its quotes, which stand for so many
abbrev pub closed_front : ℕ → ℕ → Front
closed_front body value = if nat_lt value (2 ^ 32) then Take Text (body + 2) else Stop OpenString 0

-- behind a backslash: LF and the end leave the string open, another letter is bad
abbrev pub IsEscapeEnd : ℕ → List ℕ → Front → Type 0
IsEscapeEnd body [] front = front ≡ Stop OpenString 0
IsEscapeEnd body (b ∷ after) front = MatchBool (b == 10) (front ≡ Stop OpenString 0) ((escape_of b ≡ None) × (front ≡ Stop BadByte (body + 2)))

-- behind the last part of a string: a quote closes it, LF and the end leave it open,
-- another byte is bad where no character begins
abbrev pub IsStringEnd : ℕ → ℕ → List ℕ → Front → Type 0
IsStringEnd body value [] front = front ≡ Stop OpenString 0
IsStringEnd body value (b ∷ after) front =
    MatchBool (b == 34) (front ≡ closed_front body value)
    (MatchBool (b == 10) (front ≡ Stop OpenString 0)
    (MatchBool (b == 92) (IsEscapeEnd body after front)
    (StartsWithNoChar (b ∷ after) × (front ≡ Stop BadByte (body + 1)))))

-- what a quote begins that has this text behind it
pub record IsStringFront (text : List ℕ) (front : Front) : Type 0 where
  pub body : List ℕ
  pub value : List ℕ
  pub after : List ℕ
  pub is : text ≡ body ++ after
  pub stands : IsBody body value
  pub ends : IsStringEnd (length body) (length value) after front

-- bytes between the quotes of a string, which stand for so many
pub record IsBodyOf (body : List ℕ) (size : ℕ) : Type 0 where
  pub value : List ℕ
  pub stands : IsBody body value
  pub size_is : length value ≡ size

-- the character at the front of the text has so many bytes
pub record BeginsChar (text : List ℕ) (n : ℕ) : Type 0 where
  pub char : ℕ
  pub is_scalar : IsScalar char
  pub is : text ≡ encode_utf8 char ++ drop n text
  pub len : n ≡ length (encode_utf8 char)

-- what stands behind a backslash that follows so many bytes of a string
abbrev pub IsEscape : ℕ → List ℕ → Part → Type 0
IsEscape body after (More n m) = (n ≡ 2) × (m ≡ 1) × IsBodyOf (92 ∷ take 1 after) 1 × (0 < length after)
IsEscape body after (End front) = IsEscapeEnd body after front

-- what stands behind so many bytes of a string, which stand for so many
abbrev pub IsPart : ℕ → ℕ → List ℕ → Part → Type 0
IsPart body value rest (More n m) = IsBodyOf (take n rest) m × (0 < n) × (n ≤ length rest) × (m ≤ n)
IsPart body value rest (End front) = IsStringEnd body value rest front
