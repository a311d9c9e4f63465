-- What stands at the front of a text: bytes that separate, a token, or a fault.
use Rattle.std.specs.Prelude.{◌≡◌, ℕ, nat_le, nat_eq, ◌+◌, ◌-◌, ◌^◌, ◌<◌, ◌≤◌, List, [], ◌∷◌, length, drop, Option, Some, None, if◌then◌else◌, ◌==◌, codes}
use Rattle.std.specs.List.{starts_with, take_while, prefix_len}
use Rattle.std.specs.Bool.{MatchBool}
use Rattle.b_lex.specs.declared.tokens.TokenKind.TheVariants.{Name, Number, Word, Sign}
use Rattle.b_lex.specs.declared.tokens.LexKind.TheVariants.{BadByte, OpenComment, NumberTooWide}
use Rattle.b_lex.specs.declared.fronts.Front.{Front}
use Rattle.b_lex.specs.declared.fronts.Front.TheVariants.{Skip, Take, Stop}
use Rattle.b_lex.specs.Tables.{is_reserved, longest, signs}
use Rattle.b_lex.specs.Bytes.{is_space, is_letter, is_digit, is_name_byte, is_in_line, before_close, decimal}
use Rattle.b_lex.specs.Strings.{IsStringFront}

-- a comment between `/*` and `*/`, by how many bytes stand between them
abbrev pub comment_front : Option ℕ → Front
comment_front None = Stop OpenComment 0
comment_front (Some n) = Skip (n + 4)

-- a letter and the name bytes behind it
abbrev pub word_front : List ℕ → Front
word_front word = Take (if is_reserved word then Word else Name) (length word)

-- a run of digits
abbrev pub number_front : List ℕ → Front
number_front digits = if nat_le (decimal digits) (2 ^ 127 - 1) then Take Number (length digits) else Stop NumberTooWide 0

-- the longest sign, by how many bytes it has
abbrev pub sign_front : ℕ → Front
sign_front n = if n == 0 then Stop BadByte 0 else Take Sign n

-- what stands at the front of a text that begins with no quote
abbrev pub front_of : List ℕ → Front
front_of [] = Skip 0
front_of (b ∷ text) =
    if starts_with nat_eq (b ∷ text) (codes "/*") then comment_front (before_close (drop 2 (b ∷ text)))
    else if starts_with nat_eq (b ∷ text) (codes "//") then Skip (prefix_len is_in_line (drop 2 (b ∷ text)) + 2)
    else if is_space b then Skip 1
    else if is_letter b then word_front (take_while is_name_byte (b ∷ text))
    else if is_digit b then number_front (take_while is_digit (b ∷ text))
    else sign_front (longest signs (b ∷ text))

-- what stands at the front of a text
abbrev pub Begins : List ℕ → Front → Type 0
Begins [] front = ⊥
Begins (b ∷ text) front = MatchBool (b == 34) (IsStringFront text front) (front ≡ front_of (b ∷ text))

-- what stands at the front lies within a text of so many bytes, and isn't empty unless it is a fault
abbrev pub IsWithin : ℕ → Front → Type 0
IsWithin len (Skip n) = (0 < n) × (n ≤ len)
IsWithin len (Take kind n) = (0 < n) × (n ≤ len)
IsWithin len (Stop kind n) = n ≤ len
