-- What a quotient and a remainder are.
use Rattle.std.specs.Prelude.{◌≡◌, ◌⊎◌, ℤ, pos, ◌+ℤ◌, ◌*ℤ◌, ◌<◌, ◌≤ℤ◌, ◌<ℤ◌, unsigned_abs}
use Rattle.std.specs.Int.{is_negative}

-- q is a divided by b and rounded toward zero: what b times q leaves of a is smaller than b, and is 0 or has a's sign
pub record IsQuotient (a b q : ℤ) : Type 0 where
  pub rest : ℤ
  pub whole : a ≡ b *ℤ q +ℤ rest
  pub small : unsigned_abs rest < unsigned_abs b
  pub sign : (rest ≡ pos 0) ⊎ (is_negative rest ≡ is_negative a)

-- r is what some multiple of b leaves of a that is 0 or more, and is from 0 to b - 1
pub record IsRemainder (a b r : ℤ) : Type 0 where
  pub times : ℤ
  pub whole : a ≡ b *ℤ times +ℤ r
  pub dividend : pos 0 ≤ℤ a
  pub low : pos 0 ≤ℤ r
  pub high : r <ℤ b
