-- One step of a type.
use Rattle.std.proofs.Common.{◌≡◌, ℕ, zero, suc, ◌-◌, Bool, false, nat_eq, List, ap, sym, ◌∙◌, arith, length}
use Rattle.b_values.specs.declared.types.Ty.{Ty}
use Rattle.b_values.specs.declared.types.Ty.TheVariants.{Pair, Set}
use Rattle.type_table.specs.declared.rows.Row.{Row}
use Rattle.type_table.specs.declared.rows.Row.TheVariants as row
use Rattle.told_types.specs.Told.{row_of, row_type, type_within}

module _ (rows : List Row) (deep part : ℕ) (r : Row) (at : r ≡ row_of rows part) where
  pub within_some : nat_eq deep 0 ≡ false → row_type (type_within rows (deep - 1)) r ≡ type_within rows deep part
  within_some e = more deep e
    where
      more : (d : ℕ) → nat_eq d 0 ≡ false → row_type (type_within rows (d - 1)) r ≡ type_within rows d part
      more zero f = absurd cc
      more (suc n) f = ap (row_type (type_within rows (suc n - 1))) at ∙ ap (λ k. row_type (type_within rows k) (row_of rows part)) (omega arith)

  pub within_set : (j : ℕ) (t : Ty) → nat_eq deep 0 ≡ false → r ≡ row.Set j → t ≡ type_within rows (deep - 1) j → Set t ≡ type_within rows deep part
  within_set j t e is f = ap Set f ∙ sym (ap (row_type (type_within rows (deep - 1))) is) ∙ within_some e

  pub within_pair : (j k : ℕ) (t u : Ty) → nat_eq deep 0 ≡ false → r ≡ row.Pair j k → t ≡ type_within rows (deep - 1) j → u ≡ type_within rows (deep - 1) k → Pair t u ≡ type_within rows deep part
  within_pair j k t u e is f g = ap (λ x. Pair x u) f ∙ ap (Pair (type_within rows (deep - 1) j)) g ∙ sym (ap (row_type (type_within rows (deep - 1))) is) ∙ within_some e
