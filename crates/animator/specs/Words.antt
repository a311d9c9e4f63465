-- The words of a line, and the command that it stands for.
use Rattle.std.specs.Prelude.{ℕ, ◌+◌, ◌-◌, ◌*◌, ◌^◌, Bool, true, false, ◌&&◌, ◌||◌, nat_le, List, [], ◌∷◌, filter, Option, Some, None, if◌then◌else◌, ◌==◌, codes}
use Rattle.std.specs.List.{fold, list_all, slice_split, starts_with}
use Rattle.std.specs.Str.{bytes_eq}
use Rattle.std.specs.Bool.{nat_eq}
use Rattle.animator.specs.declared.model.Command.{Command}
use Rattle.animator.specs.declared.model.Command.TheVariants.{Blank, Unknown, Ops, Take, Back}

-- a space or a tab
abbrev pub is_blank : ℕ → Bool
is_blank b = (b == 32) || (b == 9)

abbrev pub has_byte : List ℕ → Bool
has_byte [] = false
has_byte (b ∷ bytes) = true

-- the words of a line: what stands between blanks, where that isn't empty
abbrev pub words_of : List ℕ → List (List ℕ)
words_of line = filter has_byte (slice_split is_blank line)

abbrev pub is_digit : ℕ → Bool
is_digit b = nat_le 48 b && nat_le b 57

-- one or more digits
abbrev pub is_digits : List ℕ → Bool
is_digits bytes = has_byte bytes && list_all is_digit bytes

-- the number that digits stand for
abbrev pub value_of : List ℕ → ℕ
value_of digits = fold (λ high b. 10 * high + (b - 48)) 0 digits

-- the number that one or more digits stand for, up to `most`
abbrev pub number_of : ℕ → List ℕ → Option ℕ
number_of most bytes = if is_digits bytes && nat_le (value_of bytes) most then Some (value_of bytes) else None

-- `step` with a number
abbrev pub take_of : Option ℕ → Command
take_of None = Unknown
take_of (Some k) = Take k

-- a command by its word and its arguments
abbrev pub named_command : List ℕ → List (List ℕ) → Command
named_command word [] = if bytes_eq word (codes "ops") then Ops else if bytes_eq word (codes "back") then Back else Unknown
named_command word (argument ∷ []) = if bytes_eq word (codes "step") then take_of (number_of (2 ^ 64 - 1) argument) else Unknown
named_command word (argument ∷ next ∷ more) = Unknown

-- a command by the words of its line; a line without words or whose first word begins with `//` is none
abbrev pub command_by : List (List ℕ) → Command
command_by [] = Blank
command_by (word ∷ arguments) = if starts_with nat_eq word (codes "//") then Blank else named_command word arguments

-- the command that a line stands for
abbrev pub command_of : List ℕ → Command
command_of line = command_by (words_of line)
