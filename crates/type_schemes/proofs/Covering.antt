-- Each row of a scheme stands in a part: no solution needs more nodes for it than for the parts.
use Rattle.std.proofs.Common.{◌≡◌, ◌≤◌, ◌<◌, ◌+◌, ◌⊎◌, ℕ, zero, suc, Bool, true, false, ◌&&◌, ◌||◌, List, [], ◌∷◌, length, arith, refl, sym, ap, ◌∙◌, subst, inl, inr}
use Rattle.std.specs.List.{AllByRecursion}
use Rattle.std.proofs.Math.Dec.{eqb, ltb}
use Rattle.std.proofs.lemmas.Bool.{eqb-true, ltb-true, and_parts, or_cases}
use Rattle.b_values.specs.declared.types.Ty.{Ty}
use Rattle.type_table.specs.declared.rows.Row.{Row}
use Rattle.type_table.specs.declared.rows.Row.TheVariants as row
use Rattle.type_table.specs.Types.{type_nodes}
use Rattle.type_table.specs.TypeLaws.{nodes-Set, nodes-Pair}
use Rattle.type_table.specs.Tables.{Typing, Fits}
use Rattle.type_schemes.specs.declared.rules.Rule.{Rule}
use Rattle.type_schemes.specs.declared.rules.Rule.TheVariants as rule
use Rattle.type_schemes.specs.Schemes.{scheme_of}
use Rattle.type_schemes.specs.SchemeLaws.{SolvesFrom}

abbrev mentions : Row → ℕ → Bool
mentions (row.Set j) k = eqb j k
mentions (row.Pair i j) k = eqb i k || eqb j k
mentions r k = false

abbrev any_mentions : List Row → ℕ → Bool
any_mentions [] k = false
any_mentions (r ∷ rs) k = mentions r k || any_mentions rs k

-- each row behind the first three is named by an earlier one
abbrev covers : List Row → ℕ → List Row → Bool
covers earlier k [] = true
covers earlier k (r ∷ rs) = (ltb k 3 || any_mentions earlier k) && covers (r ∷ earlier) (k + 1) rs

covers_scheme : (q : Rule) → covers [] 0 (scheme_of q) ≡ true
covers_scheme rule.Arithmetic = refl
covers_scheme rule.Interval = refl
covers_scheme rule.SameSets = refl
covers_scheme rule.Products = refl
covers_scheme rule.Couple = refl
covers_scheme rule.Concatenation = refl
covers_scheme rule.Prepend = refl
covers_scheme rule.Append = refl
covers_scheme rule.Cut = refl
covers_scheme rule.DomainPart = refl
covers_scheme rule.RangePart = refl
covers_scheme rule.Overriding = refl
covers_scheme rule.DirectProduct = refl
covers_scheme rule.ParallelProduct = refl
covers_scheme rule.Composition = refl
covers_scheme rule.Relations = refl
covers_scheme rule.Membership = refl
covers_scheme rule.Inclusion = refl
covers_scheme rule.Equality = refl
covers_scheme rule.NumberOrder = refl
covers_scheme rule.Connective = refl
covers_scheme rule.FirstProjection = refl
covers_scheme rule.SecondProjection = refl
covers_scheme rule.Iteration = refl
covers_scheme rule.Application = refl
covers_scheme rule.Image = refl
covers_scheme rule.Collected = refl
covers_scheme rule.Number = refl
covers_scheme rule.Subsets = refl
covers_scheme rule.Flattened = refl
covers_scheme rule.Domain = refl
covers_scheme rule.Range = refl
covers_scheme rule.Identity = refl
covers_scheme rule.Closure = refl
covers_scheme rule.Converse = refl
covers_scheme rule.Cardinality = refl
covers_scheme rule.Extreme = refl
covers_scheme rule.Sequences = refl
covers_scheme rule.Length = refl
covers_scheme rule.Element = refl
covers_scheme rule.SameSequence = refl
covers_scheme rule.JoinedSequence = refl
covers_scheme rule.Predicate = refl
covers_scheme rule.Singleton = refl
covers_scheme rule.SequenceOf = refl
covers_scheme rule.Alike = refl
covers_scheme rule.SetAlike = refl
covers_scheme rule.EmptySet = refl
covers_scheme rule.EmptySequence = refl
covers_scheme rule.Integer = refl
covers_scheme rule.Truth = refl
covers_scheme rule.Text = refl
covers_scheme rule.Integers = refl
covers_scheme rule.Truths = refl
covers_scheme rule.Texts = refl

module _ (g : Typing) (n : ℕ) where
  abbrev FitsSmall : Row → Type 0
  FitsSmall r = (t : Ty) × Fits g t r × (type_nodes t ≤ n)

  abbrev pub SmallFrom : ℕ → List Row → Type 0
  SmallFrom k [] = Unit {0}
  SmallFrom k (r ∷ rs) = (type_nodes (g k) ≤ n) × SmallFrom (k + 1) rs

  named : (j k : ℕ) → eqb j k ≡ true → type_nodes (g j) ≡ type_nodes (g k)
  named j k e = ap (λ i. type_nodes (g i)) (eqb-true j k e)

  mention_small : (r : Row) (k : ℕ) → mentions r k ≡ true → FitsSmall r → type_nodes (g k) ≤ n
  mention_small row.Open k e f = absurd cc
  mention_small (row.Basic b) k e f = absurd cc
  mention_small (row.Set j) k e f = let a = named j k e in let b = nodes-Set (g j) in let c = ap type_nodes f.1 in let d = f.2 in omega arith
  mention_small (row.Pair i j) k e f =
      let b = nodes-Pair (g i) (g j) in
      let c = ap type_nodes f.1 in
      let d = f.2 in
      elim (or_cases (eqb i k) (eqb j k) e) [
        | inl h ↦ (let a = named i k h in omega arith)
        | inr h ↦ (let a = named j k h in omega arith)
      ]
  mention_small (row.Same j) k e f = absurd cc

  any_small : (rows : List Row) (k : ℕ) → any_mentions rows k ≡ true → AllByRecursion FitsSmall rows → type_nodes (g k) ≤ n
  any_small [] k e f = absurd cc
  any_small (r ∷ rs) k e f = elim (or_cases (mentions r k) (any_mentions rs k) e) [
    | inl h ↦ mention_small r k h f.0
    | inr h ↦ any_small rs k h f.1
  ]

  module _ (first : (i : ℕ) → i < 3 → type_nodes (g i) ≤ n) where
    row_small : (earlier : List Row) (k : ℕ) → (ltb k 3 || any_mentions earlier k) ≡ true → AllByRecursion FitsSmall earlier → type_nodes (g k) ≤ n
    row_small earlier k e f = elim (or_cases (ltb k 3) (any_mentions earlier k) e) [
      | inl h ↦ first k (ltb-true k 3 h)
      | inr h ↦ any_small earlier k h f
    ]

    small_from : (earlier : List Row) (k : ℕ) (rows : List Row) → covers earlier k rows ≡ true → AllByRecursion FitsSmall earlier → SolvesFrom g k rows → SmallFrom k rows
    small_from earlier k [] e f h = tt
    small_from earlier k (r ∷ rs) e f h =
        let both = and_parts (ltb k 3 || any_mentions earlier k) (covers (r ∷ earlier) (k + 1) rs) e in
        let here = row_small earlier k both.0 f in
        (here, small_from (r ∷ earlier) (k + 1) rs both.1 ((g k, h.0, here), f) h.1)

small_at : (g : Typing) (n k : ℕ) (rows : List Row) → SmallFrom g n k rows → (i : ℕ) → i < length rows → type_nodes (g (k + i)) ≤ n
small_at g n k [] f i h = absurd (omega arith)
small_at g n k (r ∷ rs) f zero h = let e : k ≡ k + 0 = omega arith in subst (λ m. type_nodes (g m) ≤ n) e f.0
small_at g n k (r ∷ rs) f (suc i) h = let e : k + 1 + i ≡ k + (suc i) = omega arith in subst (λ m. type_nodes (g m) ≤ n) e (small_at g n (k + 1) rs f.1 i (omega arith))

-- where the three parts are small, each row of a rule's scheme is
pub scheme_small : (q : Rule) (g : Typing) (n : ℕ) → SolvesFrom g 0 (scheme_of q) → type_nodes (g 0) ≤ n → type_nodes (g 1) ≤ n → type_nodes (g 2) ≤ n → (i : ℕ) → i < length (scheme_of q) → type_nodes (g i) ≤ n
scheme_small q g n f a b c i h =
    let first = first_three in
    let all = small_from g n first [] 0 (scheme_of q) (covers_scheme q) tt f in
    let e : 0 + i ≡ i = omega arith in
    subst (λ m. type_nodes (g m) ≤ n) e (small_at g n 0 (scheme_of q) all i h)
  where
    first_three : (k : ℕ) → k < 3 → type_nodes (g k) ≤ n
    first_three zero l = a
    first_three (suc zero) l = b
    first_three (suc (suc zero)) l = c
    first_three (suc (suc (suc k))) l = absurd (omega arith)
