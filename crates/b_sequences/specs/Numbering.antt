-- What the functions below the calls ensure: the couples of a sequence as they stand in its set.
use Rattle.std.specs.Prelude.{◌≡◌, ℕ, pos, Bool, false, List, Some}
use Rattle.std.specs.Ordering.{int_eq}
use Rattle.b_values.specs.Reading.{numbered}
use Rattle.b_values.specs.declared.values.Value.{Value, out-Value}
use Rattle.b_values.specs.declared.values.Value.TheOpen.{Value-F}
use Rattle.b_sequences.specs.Sequences.{seconds, as_sequence}

-- the layer is the number n
abbrev pub is_number : {X : Type 0} → ℕ → Value-F X → Bool
is_number n (Value-F.Int k) = int_eq k (pos n)
is_number n x = false

-- the layer is a couple whose first part is the number n
abbrev pub stands_at : ℕ → Value-F Value → Bool
stands_at n (Value-F.Pair a b) = is_number n (out-Value a)
stands_at n x = false

-- these are couples of 1, 2 and so on
abbrev pub AreNumbered : List Value → Type 0
AreNumbered cs = cs ≡ numbered 1 (seconds cs)

-- the value is a sequence, and these are its couples in order
pub record HasCouples (v : Value) (cs : List Value) : Type 0 where
  pub list : as_sequence v ≡ Some (seconds cs)
  pub couples : AreNumbered cs
