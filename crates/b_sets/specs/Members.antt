-- What the answers of the operators are, in terms of membership and of the order of values.
use Rattle.std.specs.Prelude.{◌≡◌, ℤ, ◌≤ℤ◌, List}
use Rattle.std.specs.declared.cmp.Ordering.TheVariants.{Less}
use Rattle.ascending.specs.Ascending.{In}
use Rattle.b_values.specs.Values.{value_cmp}
use Rattle.b_values.specs.declared.values.Value.{Value}
use Rattle.b_values.specs.declared.values.Value.TheVariants.{Int, Pair}

-- v is a member, and no member is below it
pub record IsLeast (v : Value) (xs : List Value) : Type 0 where
  pub member : In v xs
  pub bound : (x : Value) → In x xs → value_cmp x v ≡ Less → ⊥

-- v is a member, and it is below no member
pub record IsGreatest (v : Value) (xs : List Value) : Type 0 where
  pub member : In v xs
  pub bound : (x : Value) → In x xs → value_cmp v x ≡ Less → ⊥

-- a, b and x are integers, and x lies from a to b
pub record IsBetween (a b x : Value) : Type 0 where
  pub low : ℤ
  pub high : ℤ
  pub number : ℤ
  pub low_is : a ≡ Int low
  pub high_is : b ≡ Int high
  pub number_is : x ≡ Int number
  pub from_low : low ≤ℤ number
  pub to_high : number ≤ℤ high

-- x is a couple of a member of the first and a member of the second
pub record IsCoupleOf (xs ys : List Value) (x : Value) : Type 0 where
  pub first : Value
  pub second : Value
  pub first_in : In first xs
  pub second_in : In second ys
  pub is : x ≡ Pair first second
