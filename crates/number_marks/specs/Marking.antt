-- Marks at numbers: the list has one for each number from 0 on, set or not.
use Rattle.std.specs.Prelude.{ℕ, zero, suc, max, ◌+◌, ◌==◌, Bool, true, false, List, [], ◌∷◌}
use Rattle.std.specs.List.{list_any}

-- whether a number has a mark; behind the list none has
abbrev pub has_mark : List Bool → ℕ → Bool
has_mark [] n = false
has_mark (mark ∷ marks) zero = mark
has_mark (mark ∷ marks) (suc n) = has_mark marks n

-- the number is given a mark
abbrev pub with_mark : ℕ → List Bool → List Bool
with_mark zero [] = true ∷ []
with_mark (suc n) [] = false ∷ with_mark n []
with_mark zero (mark ∷ marks) = true ∷ marks
with_mark (suc n) (mark ∷ marks) = mark ∷ with_mark n marks

-- each of these numbers is given one
abbrev pub with_marks : List ℕ → List Bool → List Bool
with_marks [] marks = marks
with_marks (n ∷ numbers) marks = with_marks numbers (with_mark n marks)

-- the list reaches up to so many numbers at least, those further on without a mark
abbrev pub with_room : ℕ → List Bool → List Bool
with_room zero marks = marks
with_room (suc n) [] = false ∷ with_room n []
with_room (suc n) (mark ∷ marks) = mark ∷ with_room n marks

-- the number behind all of these
abbrev pub past_all : List ℕ → ℕ
past_all [] = 0
past_all (n ∷ numbers) = max (n + 1) (past_all numbers)

-- the number is one of these
abbrev pub is_among : ℕ → List ℕ → Bool
is_among n = list_any (λ other. n == other)
