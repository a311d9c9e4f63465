-- How a line is cut, and which bytes are which arguments.
use Rattle.std.specs.Prelude.{ℕ, ◌-◌, ◌^◌, Bool, true, false, not, ◌&&◌, ◌||◌, nat_le, List, [], ◌∷◌, take, drop, Option, Some, None, if◌then◌else◌, ◌==◌, codes}
use Rattle.std.specs.List.{list_all, prefix_len, position_or_len}
use Rattle.std.specs.Str.{bytes_eq}
use Rattle.b_lex.specs.Bytes.{is_blank, is_name_byte, decimal}
use Rattle.b_lex.specs.Spelling.{is_name, are_digits}

-- without the blanks at its front, at its end (a blank before nothing is nothing), and at both
abbrev pub without_front : List ℕ → List ℕ
without_front bytes = drop (prefix_len is_blank bytes) bytes

abbrev pub onto_end : ℕ → List ℕ → List ℕ
onto_end b [] = if is_blank b then [] else b ∷ []
onto_end b (c ∷ bytes) = b ∷ c ∷ bytes

abbrev pub without_end : List ℕ → List ℕ
without_end [] = []
without_end (b ∷ bytes) = onto_end b (without_end bytes)

abbrev pub trimmed : List ℕ → List ℕ
trimmed bytes = without_end (without_front bytes)

-- what stands before the first blank, and what stands behind the blanks there
abbrev pub first_word : List ℕ → List ℕ
first_word bytes = take (position_or_len is_blank bytes) bytes

abbrev pub behind_word : List ℕ → List ℕ
behind_word bytes = without_front (drop (position_or_len is_blank bytes) bytes)

abbrev pub has_byte : List ℕ → Bool
has_byte [] = false
has_byte (b ∷ bytes) = true

-- these bytes, where they pass the test
abbrev pub such_as : (List ℕ → Bool) → List ℕ → Option (List ℕ)
such_as test bytes = if test bytes then Some bytes else None

-- one or more decimal digits that stand for at most 2^64 - 1; leading zeros may be there
abbrev pub number_of : List ℕ → Option ℕ
number_of bytes = if are_digits bytes && nat_le (decimal bytes) (2 ^ 64 - 1) then Some (decimal bytes) else None

-- letters, digits, `_`, `-` and `.`
abbrev pub is_document_byte : ℕ → Bool
is_document_byte b = is_name_byte b || (b == 45) || (b == 46)

-- the name of a document doesn't begin with `.` or `-`
abbrev pub is_document : List ℕ → Bool
is_document [] = false
is_document (b ∷ bytes) = is_name_byte b && list_all is_document_byte bytes

-- an operation by its name, or one of the two that begin a trace
abbrev pub is_operation : List ℕ → Bool
is_operation bytes = is_name bytes || bytes_eq bytes (codes "$setup_constants") || bytes_eq bytes (codes "$initialise_machine")
