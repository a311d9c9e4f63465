-- The lines of a session.
use Rattle.std.specs.Prelude.{ℕ, suc, Bool, false, ◌&&◌, List, [], ◌∷◌, if◌then◌else◌, ◌==◌}

-- a byte before a first line
abbrev pub onto_first : ℕ → List (List ℕ) → List (List ℕ)
onto_first b [] = (b ∷ []) ∷ []
onto_first b (line ∷ lines) = (b ∷ line) ∷ lines

abbrev pub begins_lf : List ℕ → Bool
begins_lf [] = false
begins_lf (b ∷ bytes) = b == 10

-- The lines of the bytes, each without the LF that ends it and without a CR before that LF. A last line without LF counts where it has a byte.
abbrev pub lines_of : List ℕ → List (List ℕ)
lines_of [] = []
lines_of (b ∷ bytes) =
    if b == 10 then [] ∷ lines_of bytes
    else if b == 13 && begins_lf bytes then lines_of bytes
    else onto_first b (lines_of bytes)

-- a line without a CR at its end
abbrev pub chomped : List ℕ → List ℕ
chomped [] = []
chomped (b ∷ []) = if b == 13 then [] else b ∷ []
chomped (b ∷ c ∷ line) = b ∷ chomped (c ∷ line)

-- how many of the lines are ended by a LF
abbrev pub whole_lines : List ℕ → ℕ
whole_lines [] = 0
whole_lines (b ∷ bytes) = if b == 10 then suc (whole_lines bytes) else whole_lines bytes
