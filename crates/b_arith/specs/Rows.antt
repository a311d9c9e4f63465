-- What each operator on integers answers, a row each.
use Rattle.std.specs.Prelude.{ℕ, zero, suc, ◌%◌, ◌^◌, ◌-◌, Bool, ◌&&◌, ℤ, pos, negsuc, ◌+ℤ◌, ◌-ℤ◌, ◌*ℤ◌, neg_ℤ, Result, Ok, Err, if◌then◌else◌, int_lt, int_le, int_div}
use Rattle.std.specs.Ordering.{int_eq}
use Rattle.b_values.specs.declared.values.FaultKind.{FaultKind}
use Rattle.b_values.specs.declared.values.FaultKind.TheVariants.{IllDefined, Overflow}

-- the number lies from -2^127 to 2^127 - 1
abbrev pub fits : ℤ → Bool
fits n = int_le (negsuc (2 ^ 127 - 1)) n && int_lt n (pos (2 ^ 127))

-- the number where it fits, otherwise Overflow
abbrev pub kept : ℤ → Result ℤ FaultKind
kept n = if fits n then Ok n else Err Overflow

-- a + b
abbrev pub sum_of : ℤ → ℤ → Result ℤ FaultKind
sum_of a b = kept (a +ℤ b)

-- a - b
abbrev pub difference_of : ℤ → ℤ → Result ℤ FaultKind
difference_of a b = kept (a -ℤ b)

-- a * b
abbrev pub product_of : ℤ → ℤ → Result ℤ FaultKind
product_of a b = kept (a *ℤ b)

-- -a
abbrev pub negation_of : ℤ → Result ℤ FaultKind
negation_of a = kept (neg_ℤ a)

-- a / b, the quotient of the sizes with the sign of the product; nothing is divided by 0
abbrev pub quotient_of : ℤ → ℤ → Result ℤ FaultKind
quotient_of a b = if int_eq b (pos 0) then Err IllDefined else kept (int_div a b)

-- a mod b, where a is 0 or more and b is 1 or more
abbrev pub remainder_of : ℤ → ℤ → Result ℤ FaultKind
remainder_of (pos a) (pos (suc b)) = Ok (pos (a % suc b))
remainder_of (pos a) (pos zero) = Err IllDefined
remainder_of (pos a) (negsuc b) = Err IllDefined
remainder_of (negsuc a) b = Err IllDefined

-- the product of n factors a, which is 1 for none
unfoldable pub natural_power : ℤ → ℕ → ℤ
natural_power a zero = pos 1
natural_power a (suc n) = natural_power a n *ℤ a

-- a ** b, where b is 0 or more
abbrev pub power_of : ℤ → ℤ → Result ℤ FaultKind
power_of a (pos n) = kept (natural_power a n)
power_of a (negsuc n) = Err IllDefined
