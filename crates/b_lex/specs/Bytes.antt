-- What single bytes are, and where a comment ends.
use Rattle.std.specs.Prelude.{ℕ, suc, ◌+◌, ◌-◌, ◌*◌, Bool, not, ◌&&◌, ◌||◌, nat_le, nat_eq, List, [], ◌∷◌, Option, Some, None, if◌then◌else◌, ◌==◌, codes}
use Rattle.std.specs.List.{starts_with}
use Rattle.std.specs.Option.{option_map}

-- space, tab, CR and LF separate
abbrev pub is_space : ℕ → Bool
is_space b = (b == 32) || (b == 9) || (b == 13) || (b == 10)

-- a space or a tab
abbrev pub is_blank : ℕ → Bool
is_blank b = (b == 32) || (b == 9)

abbrev pub is_letter : ℕ → Bool
is_letter b = (nat_le 65 b && nat_le b 90) || (nat_le 97 b && nat_le b 122)

abbrev pub is_digit : ℕ → Bool
is_digit b = nat_le 48 b && nat_le b 57

-- a letter, a digit or `_`
abbrev pub is_name_byte : ℕ → Bool
is_name_byte b = is_letter b || is_digit b || (b == 95)

-- LF alone ends a line
abbrev pub is_in_line : ℕ → Bool
is_in_line b = not (b == 10)

-- how many bytes stand before the first `*/`
abbrev pub before_close : List ℕ → Option ℕ
before_close [] = None
before_close (b ∷ text) = if starts_with nat_eq (b ∷ text) (codes "*/") then Some 0 else option_map suc (before_close text)

-- the number that digits spell behind digits that spell another, and the number that they spell
abbrev pub decimal_from : ℕ → List ℕ → ℕ
decimal_from high [] = high
decimal_from high (b ∷ digits) = decimal_from (high * 10 + (b - 48)) digits

abbrev pub decimal : List ℕ → ℕ
decimal digits = decimal_from 0 digits
