-- Each scheme is a short table.
use Rattle.std.proofs.Common.{◌≡◌, ◌≤◌, ◌<◌, ◌+◌, ◌⊎◌, ℕ, zero, suc, Bool, true, false, ◌&&◌, List, [], ◌∷◌, length, arith, refl, sym, subst}
use Rattle.std.proofs.Math.Dec.{ltb, leb}
use Rattle.std.proofs.lemmas.Bool.{ltb-true, leb-true, and_parts}
use Rattle.type_table.specs.declared.rows.Row.{Row}
use Rattle.type_table.specs.declared.rows.Row.TheVariants as row
use Rattle.type_table.specs.Tables.{IsRow, IsTable, row_at}
use Rattle.type_schemes.specs.declared.rules.Rule.{Rule}
use Rattle.type_schemes.specs.declared.rules.Rule.TheVariants as rule
use Rattle.type_schemes.specs.Schemes.{scheme_of, IsShort}

abbrev is_row : ℕ → ℕ → Row → Bool
is_row count i (row.Set j) = ltb j count
is_row count i (row.Pair j k) = ltb j count && ltb k count
is_row count i (row.Same j) = ltb j i
is_row count i r = true

abbrev are_rows : ℕ → ℕ → List Row → Bool
are_rows count i [] = true
are_rows count i (r ∷ rs) = is_row count i r && are_rows count (i + 1) rs

abbrev is_short : List Row → Bool
is_short rows = leb (length rows) 20 && are_rows (length rows) 0 rows

checked : (q : Rule) → is_short (scheme_of q) ≡ true
checked rule.Arithmetic = refl
checked rule.Interval = refl
checked rule.SameSets = refl
checked rule.Products = refl
checked rule.Couple = refl
checked rule.Concatenation = refl
checked rule.Prepend = refl
checked rule.Append = refl
checked rule.Cut = refl
checked rule.DomainPart = refl
checked rule.RangePart = refl
checked rule.Overriding = refl
checked rule.DirectProduct = refl
checked rule.ParallelProduct = refl
checked rule.Composition = refl
checked rule.Relations = refl
checked rule.Membership = refl
checked rule.Inclusion = refl
checked rule.Equality = refl
checked rule.NumberOrder = refl
checked rule.Connective = refl
checked rule.FirstProjection = refl
checked rule.SecondProjection = refl
checked rule.Iteration = refl
checked rule.Application = refl
checked rule.Image = refl
checked rule.Collected = refl
checked rule.Number = refl
checked rule.Subsets = refl
checked rule.Flattened = refl
checked rule.Domain = refl
checked rule.Range = refl
checked rule.Identity = refl
checked rule.Closure = refl
checked rule.Converse = refl
checked rule.Cardinality = refl
checked rule.Extreme = refl
checked rule.Sequences = refl
checked rule.Length = refl
checked rule.Element = refl
checked rule.SameSequence = refl
checked rule.JoinedSequence = refl
checked rule.Predicate = refl
checked rule.Singleton = refl
checked rule.SequenceOf = refl
checked rule.Alike = refl
checked rule.SetAlike = refl
checked rule.EmptySet = refl
checked rule.EmptySequence = refl
checked rule.Integer = refl
checked rule.Truth = refl
checked rule.Text = refl
checked rule.Integers = refl
checked rule.Truths = refl
checked rule.Texts = refl

row_sound : (count i : ℕ) (r : Row) → is_row count i r ≡ true → IsRow count i r
row_sound count i row.Open e = tt
row_sound count i (row.Basic b) e = tt
row_sound count i (row.Set j) e = ltb-true j count e
row_sound count i (row.Pair j k) e = let f = and_parts (ltb j count) (ltb k count) e in (ltb-true j count f.0, ltb-true k count f.1)
row_sound count i (row.Same j) e = ltb-true j i e

rows_sound : (count i : ℕ) (rows : List Row) → are_rows count i rows ≡ true → (k : ℕ) → IsRow count (i + k) (row_at rows k)
rows_sound count i [] e k = tt
rows_sound count i (r ∷ rs) e zero =
    let f = and_parts (is_row count i r) (are_rows count (i + 1) rs) e in
    let g : i ≡ i + 0 = omega arith in
    subst (λ n. IsRow count n r) g (row_sound count i r f.0)
rows_sound count i (r ∷ rs) e (suc k) =
    let f = and_parts (is_row count i r) (are_rows count (i + 1) rs) e in
    let g : i + 1 + k ≡ i + (suc k) = omega arith in
    subst (λ n. IsRow count n (row_at rs k)) g (rows_sound count (i + 1) rs f.1 k)

table_sound : (rows : List Row) → are_rows (length rows) 0 rows ≡ true → IsTable rows
unfolding IsTable
table_sound rows e k = let f : 0 + k ≡ k = omega arith in subst (λ n. IsRow (length rows) n (row_at rows k)) f (rows_sound (length rows) 0 rows e k)

pub scheme_short : (q : Rule) → IsShort (scheme_of q)
scheme_short q =
    let f = and_parts (leb (length (scheme_of q)) 20) (are_rows (length (scheme_of q)) 0 (scheme_of q)) (checked q) in
    record { table = table_sound (scheme_of q) f.1; short = leb-true (length (scheme_of q)) 20 f.0 }

-- a scheme has the rows of its three parts
pub scheme_three : (q : Rule) → 3 ≤ length (scheme_of q)
scheme_three q = leb-true 3 (length (scheme_of q)) (three q)
  where
    three : (q : Rule) → leb 3 (length (scheme_of q)) ≡ true
    three rule.Arithmetic = refl
    three rule.Interval = refl
    three rule.SameSets = refl
    three rule.Products = refl
    three rule.Couple = refl
    three rule.Concatenation = refl
    three rule.Prepend = refl
    three rule.Append = refl
    three rule.Cut = refl
    three rule.DomainPart = refl
    three rule.RangePart = refl
    three rule.Overriding = refl
    three rule.DirectProduct = refl
    three rule.ParallelProduct = refl
    three rule.Composition = refl
    three rule.Relations = refl
    three rule.Membership = refl
    three rule.Inclusion = refl
    three rule.Equality = refl
    three rule.NumberOrder = refl
    three rule.Connective = refl
    three rule.FirstProjection = refl
    three rule.SecondProjection = refl
    three rule.Iteration = refl
    three rule.Application = refl
    three rule.Image = refl
    three rule.Collected = refl
    three rule.Number = refl
    three rule.Subsets = refl
    three rule.Flattened = refl
    three rule.Domain = refl
    three rule.Range = refl
    three rule.Identity = refl
    three rule.Closure = refl
    three rule.Converse = refl
    three rule.Cardinality = refl
    three rule.Extreme = refl
    three rule.Sequences = refl
    three rule.Length = refl
    three rule.Element = refl
    three rule.SameSequence = refl
    three rule.JoinedSequence = refl
    three rule.Predicate = refl
    three rule.Singleton = refl
    three rule.SequenceOf = refl
    three rule.Alike = refl
    three rule.SetAlike = refl
    three rule.EmptySet = refl
    three rule.EmptySequence = refl
    three rule.Integer = refl
    three rule.Truth = refl
    three rule.Text = refl
    three rule.Integers = refl
    three rule.Truths = refl
    three rule.Texts = refl
