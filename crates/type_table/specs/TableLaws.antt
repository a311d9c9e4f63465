-- What a table says of its parts holds in each solution, and what it says with types for its open parts is one.
use Rattle.std.proofs.Common.{◌≡◌, ◌≤◌, ◌<◌, ℕ, List, length, arith, refl, sym, ap, ◌∙◌, subst, inl, inr, Option, Some}
use Rattle.std.proofs.lemmas.Bool.{cases_lt}
use Rattle.std.proofs.lemmas.List.{get_or_past}
use Rattle.b_values.specs.declared.types.Ty.{Ty}
use Rattle.b_values.specs.declared.types.Ty.TheVariants.{Pair, Set}
use Rattle.type_table.specs.declared.rows.Row.{Row}
use Rattle.type_table.specs.declared.rows.Row.TheVariants as row
use Rattle.type_table.specs.Types.{type_nodes, basic_type}
use Rattle.type_table.specs.TypeLaws.{nodes-Set, nodes-Pair, nodes-basic, nodes_some, set_same, pair_first, pair_second}
use Rattle.type_table.specs.Tables.{Typing, Fits, row_at, Solves, IsRow, IsTable, Reads, open_part, basic_part, set_part, pair_part, same_part, Occurs, here, in_set, in_first, in_second, in_same}

-- a reading, by the part's row
abbrev pub View : List Row → (ℕ → Option Ty) → ℕ → Ty → Row → Type 0
View rows d i t row.Open = d i ≡ Some t
View rows d i t (row.Basic b) = t ≡ basic_type b
View rows d i t (row.Set j) = (u : Ty) × Reads rows d j u × (t ≡ Set u)
View rows d i t (row.Pair j k) = (u v : Ty) × Reads rows d j u × Reads rows d k v × (t ≡ Pair u v)
View rows d i t (row.Same j) = Reads rows d j t

some_same : (t u : Ty) → Some t ≡ Some u → t ≡ u
some_same t u e = cc

module _ (rows : List Row) (d : ℕ → Option Ty) where
  pub view : (i : ℕ) (t : Ty) → Reads rows d i t → View rows d i t (row_at rows i)
  view i t (open_part u e f) = subst (View rows d i u) (sym e) f
  view i t (basic_part b e) = subst (View rows d i (basic_type b)) (sym e) refl
  view i t (set_part j u e p) = subst (View rows d i (Set u)) (sym e) (u, p, refl)
  view i t (pair_part j k u v e p q) = subst (View rows d i (Pair u v)) (sym e) (u, v, p, q, refl)
  view i t (same_part j u e p) = subst (View rows d i u) (sym e) p

  -- a part has one reading
  pub one_reading : (i : ℕ) (t u : Ty) → Reads rows d i t → Reads rows d i u → t ≡ u
  one_reading i t u (open_part v e f) q = some_same v u (sym f ∙ subst (View rows d i u) e (view i u q))
  one_reading i t u (basic_part b e) q = sym (subst (View rows d i u) e (view i u q))
  one_reading i t u (set_part j v e p) q =
      let w = subst (View rows d i u) e (view i u q) in
      ap Set (one_reading j v w.0 p w.1) ∙ sym w.2
  one_reading i t u (pair_part j k v w e p r) q =
      let x = subst (View rows d i u) e (view i u q) in
      ap (λ y. Pair y w) (one_reading j v x.0 p x.2) ∙ ap (Pair x.0) (one_reading k w x.1 r x.3) ∙ sym x.4
  one_reading i t u (same_part j v e p) q = one_reading j v u p (subst (View rows d i u) e (view i u q))

  fits_view : (s : Typing) → ((i : ℕ) → Reads rows d i (s i)) → (i : ℕ) (t : Ty) (r : Row) → View rows d i t r → Fits s t r
  fits_view s all i t row.Open v = tt
  fits_view s all i t (row.Basic b) v = v
  fits_view s all i t (row.Set j) v = v.2 ∙ ap Set (one_reading j v.0 (s j) v.1 (all j))
  fits_view s all i t (row.Pair j k) v = v.4 ∙ ap (λ y. Pair y v.1) (one_reading j v.0 (s j) v.2 (all j)) ∙ ap (Pair (s j)) (one_reading k v.1 (s k) v.3 (all k))
  fits_view s all i t (row.Same j) v = one_reading j t (s j) v (all j)

  -- readings of all parts are a solution
  pub readings_solve : (s : Typing) → ((i : ℕ) → Reads rows d i (s i)) → Solves s rows
  unfolding Solves
  readings_solve s all i = fits_view s all i (s i) (row_at rows i) (view i (s i) (all i))

-- where each open part that has a type is of that type in a solution, a reading is the part's type
pub reading_is : (rows : List Row) (d : ℕ → Option Ty) (s : Typing) → Solves s rows → ((k : ℕ) (t : Ty) → row_at rows k ≡ row.Open → d k ≡ Some t → s k ≡ t) → (i : ℕ) (t : Ty) → Reads rows d i t → s i ≡ t
unfolding Solves
reading_is rows d s sol opens i t (open_part u e f) = opens i u e f
reading_is rows d s sol opens i t (basic_part b e) = subst (Fits s (s i)) e (sol i)
reading_is rows d s sol opens i t (set_part j u e p) = subst (Fits s (s i)) e (sol i) ∙ ap Set (reading_is rows d s sol opens j u p)
reading_is rows d s sol opens i t (pair_part j k u v e p q) =
    subst (Fits s (s i)) e (sol i) ∙ ap (λ y. Pair y (s k)) (reading_is rows d s sol opens j u p) ∙ ap (Pair u) (reading_is rows d s sol opens k v q)
reading_is rows d s sol opens i t (same_part j u e p) = subst (Fits s (s i)) e (sol i) ∙ reading_is rows d s sol opens j u p

-- no solution has fewer nodes than a reading whose open parts have the least
pub least_nodes : (rows : List Row) (d : ℕ → Option Ty) → ((k : ℕ) (t : Ty) → d k ≡ Some t → type_nodes t ≡ 1) → (s : Typing) → Solves s rows → (i : ℕ) (t : Ty) → Reads rows d i t → type_nodes t ≤ type_nodes (s i)
unfolding Solves
least_nodes rows d h s sol i t (open_part u e f) = let p = nodes_some (s i) in let k = h i u f in omega arith
least_nodes rows d h s sol i t (basic_part b e) = let p = nodes_some (s i) in let k = nodes-basic b in omega arith
least_nodes rows d h s sol i t (set_part j u e p) =
    let f = least_nodes rows d h s sol j u p in
    let g = ap type_nodes (subst (Fits s (s i)) e (sol i)) in
    let a = nodes-Set u in
    let b = nodes-Set (s j) in
    omega arith
least_nodes rows d h s sol i t (pair_part j k u v e p q) =
    let f = least_nodes rows d h s sol j u p in
    let g = least_nodes rows d h s sol k v q in
    let c = ap type_nodes (subst (Fits s (s i)) e (sol i)) in
    let a = nodes-Pair u v in
    let b = nodes-Pair (s j) (s k) in
    omega arith
least_nodes rows d h s sol i t (same_part j u e p) = let f = least_nodes rows d h s sol j u p in let g = ap type_nodes (subst (Fits s (s i)) e (sol i)) in omega arith

-- where two solutions agree on a part, they agree on what stands in it
pub agree_inside : (rows : List Row) (s t : Typing) → Solves s rows → Solves t rows → (k i : ℕ) → Occurs rows k i → s i ≡ t i → s k ≡ t k
unfolding Solves
agree_inside rows s t a b k i here e = e
agree_inside rows s t a b k i (in_set j f o) e =
    agree_inside rows s t a b k j o (set_same (s j) (t j) (sym (subst (Fits s (s i)) f (a i)) ∙ e ∙ subst (Fits t (t i)) f (b i)))
agree_inside rows s t a b k i (in_first j l f o) e =
    agree_inside rows s t a b k j o (pair_first (s j) (s l) (t j) (t l) (sym (subst (Fits s (s i)) f (a i)) ∙ e ∙ subst (Fits t (t i)) f (b i)))
agree_inside rows s t a b k i (in_second j l f o) e =
    agree_inside rows s t a b k l o (pair_second (s j) (s l) (t j) (t l) (sym (subst (Fits s (s i)) f (a i)) ∙ e ∙ subst (Fits t (t i)) f (b i)))
agree_inside rows s t a b k i (in_same j f o) e =
    agree_inside rows s t a b k j o (sym (subst (Fits s (s i)) f (a i)) ∙ e ∙ subst (Fits t (t i)) f (b i))

-- ---- a solution is one of the rows alone

row_agrees : (count i : ℕ) (s t : Typing) (x : Ty) (r : Row) → ((j : ℕ) → j < count → t j ≡ s j) → i ≤ count → IsRow count i r → Fits s x r → Fits t x r
row_agrees count i s t x row.Open a h k f = tt
row_agrees count i s t x (row.Basic b) a h k f = f
row_agrees count i s t x (row.Set j) a h k f = f ∙ sym (ap Set (a j k))
row_agrees count i s t x (row.Pair j l) a h k f = f ∙ sym (ap (λ y. Pair y (t l)) (a j k.0) ∙ ap (Pair (s j)) (a l k.1))
row_agrees count i s t x (row.Same j) a h k f = f ∙ sym (a j (omega arith))

-- what a row says is the same for typings that agree on the rows before
pub fits_agree : (count : ℕ) (s t : Typing) (x : Ty) (r : Row) → ((j : ℕ) → j < count → t j ≡ s j) → IsRow count count r → Fits s x r → Fits t x r
fits_agree count s t x r a k f = row_agrees count count s t x r a (omega arith) k f

pub solves_agree : (rows : List Row) (s t : Typing) → IsTable rows → ((j : ℕ) → j < length rows → t j ≡ s j) → Solves s rows → Solves t rows
unfolding Solves IsTable
solves_agree rows s t table a f i = elim (cases_lt i (length rows)) [
  | inl h ↦ row_agrees (length rows) i s t (t i) (row_at rows i) a (omega arith) (table i) (subst (λ y. Fits s y (row_at rows i)) (sym (a i h)) (f i))
  | inr h ↦ subst (Fits t (t i)) (sym (get_or_past rows i row.Open h)) tt
]

-- ---- what a table's rows name

pub set_within : (rows : List Row) (i j : ℕ) → IsTable rows → row_at rows i ≡ row.Set j → j < length rows
unfolding IsTable
set_within rows i j t e = subst (IsRow (length rows) i) e (t i)

pub first_within : (rows : List Row) (i j k : ℕ) → IsTable rows → row_at rows i ≡ row.Pair j k → j < length rows
unfolding IsTable
first_within rows i j k t e = (subst (IsRow (length rows) i) e (t i)).0

pub second_within : (rows : List Row) (i j k : ℕ) → IsTable rows → row_at rows i ≡ row.Pair j k → k < length rows
unfolding IsTable
second_within rows i j k t e = (subst (IsRow (length rows) i) e (t i)).1
