-- Numbers that digits stand for.
use Rattle.std.proofs.Common.{◌≡◌, ◌∙◌, sym, ap, ℕ, ◌+◌, ◌-◌, ◌*◌, ◌<◌, ◌≤◌, List, [], ◌∷◌, length, drop, get_or, None, refl, arith}
use Rattle.std.specs.Prelude.{Bool, true, false, ◌&&◌, nat_le, Option, Some, if◌then◌else◌}
use Rattle.std.specs.List.{fold, list_all}
use Rattle.std.proofs.lemmas.List.{drop_more, drop_all}
use Rattle.std.proofs.lemmas.Bool.Decides.{nat_tests}
use Rattle.animator.specs.Words.{is_digit, number_of}
use Rattle.host_top.specs.Reading.{number_from}

-- a number past the bound stays past it
pub past : (most high : ℕ) (bytes : List ℕ) → most < high → number_from most high bytes ≡ None
past most high [] above = grind (arith, nat_tests)
past most high (b ∷ bytes) above =
    let rest : number_from most (10 * high + (b - 48)) bytes ≡ None = past most (10 * high + (b - 48)) bytes (omega arith) in grind (arith, nat_tests, rest)

next_past : (most high b : ℕ) (rest : List ℕ) → most < 10 * high + (b - 48) → number_from most high (b ∷ rest) ≡ None
next_past most high b rest above =
    let none : number_from most (10 * high + (b - 48)) rest ≡ None = past most (10 * high + (b - 48)) rest above in grind (arith, nat_tests, none)

-- the next digit leads past the bound
pub too_many : (most high : ℕ) (digits : List ℕ) (i : ℕ) → i < length digits → most < 10 * high + (get_or digits i 0 - 48) → number_from most high (drop i digits) ≡ None
too_many most high digits i within above =
    ap (number_from most high) (drop_more digits i 0 within) ∙ next_past most high (get_or digits i 0) (drop (i + 1) digits) above

-- the value of digits behind others
abbrev value_from : ℕ → List ℕ → ℕ
value_from high digits = fold (λ high b. 10 * high + (b - 48)) high digits

-- reading digit by digit gives the value of all, where they are digits and it is within the bound
from_is : (most high : ℕ) (digits : List ℕ) → number_from most high digits ≡ (if list_all is_digit digits && nat_le (value_from high digits) most then Some (value_from high digits) else None)
from_is most high [] = refl
from_is most high (b ∷ digits) = step (is_digit b) (from_is most (10 * high + (b - 48)) digits)
  where
    step : (t : Bool) → number_from most (10 * high + (b - 48)) digits ≡ (if list_all is_digit digits && nat_le (value_from (10 * high + (b - 48)) digits) most then Some (value_from (10 * high + (b - 48)) digits) else None)
        → (if t then number_from most (10 * high + (b - 48)) digits else None) ≡ (if (t && list_all is_digit digits) && nat_le (value_from (10 * high + (b - 48)) digits) most then Some (value_from (10 * high + (b - 48)) digits) else None)
    step true h = h
    step false h = refl

pub number_of_some : (most : ℕ) (digits : List ℕ) → 0 < length digits → number_of most digits ≡ number_from most 0 digits
number_of_some most [] some = absurd (omega arith)
number_of_some most (b ∷ digits) some = sym (from_is most 0 (b ∷ digits))

-- behind the last digit
pub reached : (most high : ℕ) (digits : List ℕ) (i : ℕ) → length digits ≤ i → high ≤ most → number_from most high (drop i digits) ≡ Some high
reached most high digits i over within = ap (number_from most high) (drop_all i digits over) ∙ at_end
  where
    at_end : number_from most high [] ≡ Some high
    at_end = grind (arith, nat_tests)

pub passed : (most high : ℕ) (digits : List ℕ) (i : ℕ) → length digits ≤ i → most < high → number_from most high (drop i digits) ≡ None
passed most high digits i over above = ap (number_from most high) (drop_all i digits over) ∙ past most high [] above
