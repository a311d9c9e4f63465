-- What a table tells is the type that each of its typings has.
use Rattle.std.proofs.Common.{◌≡◌, ◌≤◌, ◌<◌, ◌+◌, ℕ, zero, suc, List, length, arith, refl, sym, ap, ◌∙◌, subst, inl, inr}
use Rattle.std.proofs.lemmas.Bool.{cases_lt}
use Rattle.std.proofs.lemmas.List.{get_or_past}
use Rattle.b_values.specs.declared.types.Ty.{Ty}
use Rattle.b_values.specs.declared.types.Ty.TheVariants.{Pair, Set}
use Rattle.type_table.specs.declared.rows.Row.{Row}
use Rattle.type_table.specs.declared.rows.Row.TheVariants as row
use Rattle.type_table.specs.Types.{type_nodes}
use Rattle.type_table.specs.TypeLaws.{nodes-Set, nodes-Pair, nodes_some}
use Rattle.type_table.specs.Tables.{row_at, IsRow, IsRoot, IsTable, Reads}
use Rattle.type_table.specs.TableLaws.{View, view}
use Rattle.type_count.specs.Typings.{never}
use Rattle.told_types.specs.Told.{past_link, row_within, row_of, row_type, type_within, type_at}

module _ (rows : List Row) (table : IsTable rows) where
  -- the row behind the links says the type too, and is no link
  abbrev Behind : ℕ → Ty → Row → Type 0
  Behind i t r = View rows never i t r × IsRoot r

  past : (n i : ℕ) (t : Ty) → i < suc n → ((j : ℕ) → j < n → Reads rows never j t → (k : ℕ) × Behind k t (row_within rows n j)) → (r : Row) → View rows never i t r → IsRow (length rows) i r → (k : ℕ) × Behind k t (past_link (row_within rows n) r)
  past n i t h go row.Open v f = (i, (v, tt))
  past n i t h go (row.Basic b) v f = (i, (v, tt))
  past n i t h go (row.Set j) v f = (i, (v, tt))
  past n i t h go (row.Pair j k) v f = (i, (v, tt))
  past n i t h go (row.Same j) v f = go j (omega arith) v

  behind : (n i : ℕ) (t : Ty) → i < n → Reads rows never i t → (k : ℕ) × Behind k t (row_within rows n i)
  unfolding IsTable
  behind zero i t h r = absurd (omega arith)
  behind (suc n) i t h r = past n i t h (λ j g q. behind n j t g q) (row_at rows i) (view rows never i t r) (table i)

  inside : (i : ℕ) (t : Ty) → Reads rows never i t → i < length rows
  inside i t r = elim (cases_lt i (length rows)) [
    | inl h ↦ h
    | inr h ↦ let v = subst (View rows never i t) (get_or_past rows i row.Open h) (view rows never i t r) in absurd cc
  ]

  by_row : (k i : ℕ) (t : Ty) → ((j : ℕ) (u : Ty) → Reads rows never j u → type_nodes u ≤ k → type_within rows k j ≡ u) → (r : Row) → Behind i t r → type_nodes t ≤ suc k → row_type (type_within rows k) r ≡ t
  by_row k i t go row.Open v h = let e = v.0 in absurd cc
  by_row k i t go (row.Basic b) v h = sym v.0
  by_row k i t go (row.Set j) v h =
      let n = ap type_nodes v.0.2 in
      let m = nodes-Set v.0.0 in
      ap Set (go j v.0.0 v.0.1 (omega arith)) ∙ sym v.0.2
  by_row k i t go (row.Pair j l) v h =
      let n = ap type_nodes v.0.4 in
      let m = nodes-Pair v.0.0 v.0.1 in
      ap (λ x. Pair x (type_within rows k l)) (go j v.0.0 v.0.2 (omega arith)) ∙ ap (Pair v.0.0) (go l v.0.1 v.0.3 (omega arith)) ∙ sym v.0.4
  by_row k i t go (row.Same j) v h = absurd v.1

  within_is : (k i : ℕ) (t : Ty) → Reads rows never i t → type_nodes t ≤ k → type_within rows k i ≡ t
  within_is zero i t r h = let n = nodes_some t in absurd (omega arith)
  within_is (suc k) i t r h =
      let b = behind (length rows) i t (inside i t r) r in
      by_row k b.0 t (λ j u q g. within_is k j u q g) (row_of rows i) b.1 h

  -- a type of at most 500 nodes is told
  pub told_is : (i : ℕ) (t : Ty) → Reads rows never i t → type_nodes t ≤ 500 → type_at rows i ≡ t
  unfolding type_at
  told_is i t r h = within_is 500 i t r h
