-- The lines of a session as they are counted. A line of more than 65,536 bytes before its LF is too long: its first 65,536 bytes are one
-- counted line, and each further 65,536 bytes of it, and a shorter last part, are one more.
use Rattle.std.specs.Prelude.{ℕ, ◌-◌, ◌/◌, nat_le, List, [], ◌∷◌, ◌++◌, length, map, if◌then◌else◌, ◌==◌}
use Rattle.std.specs.List.{flat_map, repeat}

abbrev pub most_bytes : ℕ
most_bytes = 65536

-- a counted line: one that a session is handed, without its LF and a CR before that; the first part of one that is too long; a further part
pub data Counted : Type 0 where
  Handed : List ℕ → Counted
  TooLong : Counted
  Further : Counted

-- a byte before a first piece
abbrev pub onto_first : ℕ → List (List ℕ) → List (List ℕ)
onto_first b [] = (b ∷ []) ∷ []
onto_first b (piece ∷ pieces) = (b ∷ piece) ∷ pieces

-- the bytes, cut behind each LF
abbrev pub pieces : List ℕ → List (List ℕ)
pieces [] = []
pieces (b ∷ bytes) = if b == 10 then (b ∷ []) ∷ pieces bytes else onto_first b (pieces bytes)

-- a piece without the LF at its end
abbrev pub unended : List ℕ → List ℕ
unended [] = []
unended (b ∷ []) = if b == 10 then [] else b ∷ []
unended (b ∷ c ∷ piece) = b ∷ unended (c ∷ piece)

-- a piece without the LF at its end and without a CR before that LF
abbrev pub line_in : List ℕ → List ℕ
line_in [] = []
line_in (b ∷ []) = if b == 10 then [] else b ∷ []
line_in (b ∷ c ∷ []) = if c == 10 then (if b == 13 then [] else b ∷ []) else b ∷ c ∷ []
line_in (b ∷ c ∷ d ∷ piece) = b ∷ line_in (c ∷ d ∷ piece)

-- how many parts so many bytes have behind the first
abbrev pub parts_behind : ℕ → ℕ
parts_behind size = (size - 1) / most_bytes

abbrev pub counted_in : List ℕ → List Counted
counted_in piece =
    if nat_le (length (unended piece)) most_bytes
    then Handed (line_in piece) ∷ []
    else TooLong ∷ repeat (parts_behind (length (unended piece))) (Further ∷ [])

-- the counted lines of the bytes, in order
abbrev pub counted_lines : List ℕ → List Counted
counted_lines bytes = flat_map counted_in (pieces bytes)
