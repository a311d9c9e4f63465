-- Numbers that digits spell.
use Rattle.std.proofs.Common.{◌≡◌, ap, ℕ, ◌+◌, ◌-◌, ◌*◌, ◌<◌, ◌≤◌, List, [], ◌∷◌, length, drop, get_or, arith}
use Rattle.std.proofs.lemmas.List.{drop_more}
use Rattle.b_lex.specs.Bytes.{decimal_from, decimal}

-- more digits spell no less
pub grows : (high : ℕ) (digits : List ℕ) → high ≤ decimal_from high digits
grows high [] = omega arith
grows high (b ∷ digits) = let more : high * 10 + (b - 48) ≤ decimal_from (high * 10 + (b - 48)) digits = grows (high * 10 + (b - 48)) digits in omega arith

-- what the digits up to the next one spell is at most what all spell
pub next_fits : (digits : List ℕ) (i value : ℕ) → decimal_from value (drop i digits) ≡ decimal digits → i < length digits → value * 10 + (get_or digits i 0 - 48) ≤ decimal digits
next_fits digits i value is within =
    let step : decimal_from value (drop i digits) ≡ decimal_from (value * 10 + (get_or digits i 0 - 48)) (drop (i + 1) digits) = ap (decimal_from value) (drop_more digits i 0 within) in
    let more : value * 10 + (get_or digits i 0 - 48) ≤ decimal_from (value * 10 + (get_or digits i 0 - 48)) (drop (i + 1) digits) = grows (value * 10 + (get_or digits i 0 - 48)) (drop (i + 1) digits) in
    omega arith
