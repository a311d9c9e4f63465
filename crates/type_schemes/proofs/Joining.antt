-- A small table behind a table: solutions of both make one of the whole.
use Rattle.std.proofs.Common.{◌≡◌, ◌≤◌, ◌<◌, ◌+◌, ◌-◌, ◌⊎◌, ◌↔◌, ℕ, zero, suc, List, [], ◌∷◌, ◌++◌, length, length-append, map, take, get_or, arith, refl, sym, ap, ◌∙◌, subst, inl, inr}
use Rattle.std.proofs.lemmas.Bool.{cases_lt}
use Rattle.std.proofs.lemmas.List.{get_or_past, length-map}
use Rattle.b_values.specs.declared.types.Ty.{Ty}
use Rattle.b_values.specs.declared.types.Ty.TheVariants.{Pair, Set}
use Rattle.type_table.specs.declared.rows.Row.{Row}
use Rattle.type_table.specs.declared.rows.Row.TheVariants as row
use Rattle.type_table.specs.Tables.{Typing, Fits, row_at, Solves, IsRow, IsTable}
use Rattle.type_schemes.specs.Schemes.{shift_row, with_scheme, IsShort}

shifted : (n : ℕ) (s : Typing) (t : Ty) (r : Row) → Fits s t (shift_row n r) ↔ Fits (λ k. s (n + k)) t r
shifted n s t row.Open = (λ h. h, λ h. h)
shifted n s t (row.Basic b) = (λ h. h, λ h. h)
shifted n s t (row.Set j) = (λ h. h, λ h. h)
shifted n s t (row.Pair j k) = (λ h. h, λ h. h)
shifted n s t (row.Same j) = (λ h. h, λ h. h)

at_front : (rows more : List Row) (i : ℕ) → i < length rows → row_at (rows ++ more) i ≡ row_at rows i
at_front [] more i h = absurd (omega arith)
at_front (r ∷ rows) more zero h = refl
at_front (r ∷ rows) more (suc i) h = at_front rows more i (omega arith)

at_back : (rows more : List Row) (i : ℕ) → row_at (rows ++ more) (length rows + i) ≡ row_at more i
at_back [] more i = ap (row_at more) (omega arith)
at_back (r ∷ rows) more i =
    let e : length (r ∷ rows) + i ≡ suc (length rows + i) = omega arith in
    ap (row_at (r ∷ (rows ++ more))) e ∙ at_back rows more i

at_shift : (n : ℕ) (scheme : List Row) (i : ℕ) → row_at (map (shift_row n) scheme) i ≡ shift_row n (row_at scheme i)
at_shift n [] i = refl
at_shift n (r ∷ rs) zero = refl
at_shift n (r ∷ rs) (suc i) = at_shift n rs i

pub with_length : (rows scheme : List Row) → length (with_scheme rows scheme) ≡ length rows + length scheme
with_length rows scheme = length-append rows (map (shift_row (length rows)) scheme) ∙ ap (λ n. length rows + n) (length-map scheme (shift_row (length rows)))

row_more : (c d i : ℕ) (r : Row) → c ≤ d → IsRow c i r → IsRow d i r
row_more c d i row.Open h k = tt
row_more c d i (row.Basic b) h k = tt
row_more c d i (row.Set j) h k = omega arith
row_more c d i (row.Pair j l) h k = let a = k.0 in let b = k.1 in (omega arith, omega arith)
row_more c d i (row.Same j) h k = k

row_shift : (n c i : ℕ) (r : Row) → IsRow c i r → IsRow (n + c) (n + i) (shift_row n r)
row_shift n c i row.Open k = tt
row_shift n c i (row.Basic b) k = tt
row_shift n c i (row.Set j) k = omega arith
row_shift n c i (row.Pair j l) k = let a = k.0 in let b = k.1 in (omega arith, omega arith)
row_shift n c i (row.Same j) k = omega arith

-- in a short table each row names rows below 20
pub short_row : (scheme : List Row) (i : ℕ) → IsShort scheme → i < length scheme → IsRow 20 20 (row_at scheme i)
unfolding IsTable
short_row scheme i short h = go (row_at scheme i) (short.table i)
  where
    go : (r : Row) → IsRow (length scheme) i r → IsRow 20 20 r
    go row.Open k = tt
    go (row.Basic b) k = tt
    go (row.Set j) k = let s = short.short in omega arith
    go (row.Pair j l) k = let s = short.short in let a = k.0 in let b = k.1 in (omega arith, omega arith)
    go (row.Same j) k = let s = short.short in omega arith

pub with_table : (rows scheme : List Row) → IsTable rows → IsTable scheme → IsTable (with_scheme rows scheme)
unfolding IsTable
with_table rows scheme f g i =
    let n = length rows in
    let more = map (shift_row n) scheme in
    subst (λ c. IsRow c i (row_at (with_scheme rows scheme) i)) (sym (with_length rows scheme))
    (elim (cases_lt i n) [
      | inl h ↦ subst (IsRow (n + length scheme) i) (sym (at_front rows more i h)) (row_more n (n + length scheme) i (row_at rows i) (omega arith) (f i))
      | inr h ↦
          let e : n + (i - n) ≡ i = omega arith in
          subst (λ k. IsRow (n + length scheme) k (row_at (with_scheme rows scheme) k)) e
          (subst (IsRow (n + length scheme) (n + (i - n))) (sym (at_back rows more (i - n) ∙ at_shift n scheme (i - n))) (row_shift n (length scheme) (i - n) (row_at scheme (i - n)) (g (i - n))))
    ])

pub scheme_forth : (rows scheme : List Row) (s : Typing) → Solves s (with_scheme rows scheme) → Solves s rows × Solves (λ k. s (length rows + k)) scheme
unfolding Solves
scheme_forth rows scheme s h = (
  λ i. elim (cases_lt i (length rows)) [
    | inl k ↦ subst (Fits s (s i)) (at_front rows (map (shift_row (length rows)) scheme) i k) (h i)
    | inr k ↦ subst (Fits s (s i)) (sym (get_or_past rows i row.Open k)) tt
  ],
  λ i. (shifted (length rows) s (s (length rows + i)) (row_at scheme i)).0
      (subst (Fits s (s (length rows + i))) (at_back rows (map (shift_row (length rows)) scheme) i ∙ at_shift (length rows) scheme i) (h (length rows + i))),
)

pub scheme_back : (rows scheme : List Row) (s : Typing) → Solves s rows → Solves (λ k. s (length rows + k)) scheme → Solves s (with_scheme rows scheme)
unfolding Solves
scheme_back rows scheme s g h i = elim (cases_lt i (length rows)) [
  | inl k ↦ subst (Fits s (s i)) (sym (at_front rows (map (shift_row (length rows)) scheme) i k)) (g i)
  | inr k ↦
      let e : length rows + (i - length rows) ≡ i = omega arith in
      subst (λ n. Fits s (s n) (row_at (with_scheme rows scheme) n)) e
      (subst (Fits s (s (length rows + (i - length rows)))) (sym (at_back rows (map (shift_row (length rows)) scheme) (i - length rows) ∙ at_shift (length rows) scheme (i - length rows)))
      ((shifted (length rows) s (s (length rows + (i - length rows))) (row_at scheme (i - length rows))).1 (h (i - length rows))))
]

-- the first n types of one, and behind them the other's
abbrev pub joined : ℕ → Typing → Typing → Typing
joined zero s g i = g i
joined (suc n) s g zero = s 0
joined (suc n) s g (suc i) = joined n (λ k. s (suc k)) g i

pub joined_front : (n : ℕ) (s g : Typing) (i : ℕ) → i < n → joined n s g i ≡ s i
joined_front zero s g i h = absurd (omega arith)
joined_front (suc n) s g zero h = refl
joined_front (suc n) s g (suc i) h = joined_front n (λ k. s (suc k)) g i (omega arith)

pub joined_back : (n : ℕ) (s g : Typing) (i : ℕ) → joined n s g (n + i) ≡ g i
joined_back zero s g i = ap g (omega arith)
joined_back (suc n) s g i =
    let e : suc n + i ≡ suc (n + i) = omega arith in
    ap (joined (suc n) s g) e ∙ joined_back n (λ k. s (suc k)) g i

-- typings that are equal at each part solve the same tables
pub solves_same : (rows : List Row) (s t : Typing) → ((i : ℕ) → t i ≡ s i) → Solves s rows → Solves t rows
unfolding Solves
solves_same rows s t a f i = go (row_at rows i) (f i)
  where
    go : (r : Row) → Fits s (s i) r → Fits t (t i) r
    go row.Open f = tt
    go (row.Basic b) f = a i ∙ f
    go (row.Set j) f = a i ∙ f ∙ sym (ap Set (a j))
    go (row.Pair j l) f = a i ∙ f ∙ sym (ap (λ y. Pair y (t l)) (a j) ∙ ap (Pair (s j)) (a l))
    go (row.Same j) f = a i ∙ f ∙ sym (a j)
