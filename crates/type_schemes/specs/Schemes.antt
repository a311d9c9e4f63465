-- The rules as small tables: the rows of the whole, of the left and of the right part, and then of their parts.
use Rattle.std.specs.Prelude.{◌≡◌, ◌≤◌, ◌<◌, ◌+◌, ℕ, List, [], ◌∷◌, ◌++◌, length, map}
use Rattle.type_table.specs.declared.rows.Basic.TheVariants as basic
use Rattle.type_table.specs.declared.rows.Row.{Row}
use Rattle.type_table.specs.declared.rows.Row.TheVariants as row
use Rattle.type_table.specs.Tables.{IsTable}
use Rattle.type_schemes.specs.declared.rules.Rule.{Rule}
use Rattle.type_schemes.specs.declared.rules.Rule.TheVariants as rule

abbrev pub int : Row
int = row.Basic basic.Int

abbrev pub truth : Row
truth = row.Basic basic.Truth

abbrev pub text : Row
text = row.Basic basic.Text

abbrev pub scheme_of : Rule → List Row
scheme_of rule.Arithmetic = int ∷ int ∷ int ∷ []
scheme_of rule.Interval = (row.Set 3) ∷ int ∷ int ∷ int ∷ []
scheme_of rule.SameSets = (row.Set 3) ∷ (row.Set 3) ∷ (row.Set 3) ∷ row.Open ∷ []
scheme_of rule.Products = (row.Set 3) ∷ (row.Set 4) ∷ (row.Set 5) ∷ (row.Pair 4 5) ∷ row.Open ∷ row.Open ∷ []
scheme_of rule.Couple = (row.Pair 1 2) ∷ row.Open ∷ row.Open ∷ []
scheme_of rule.Concatenation = (row.Set 3) ∷ (row.Set 3) ∷ (row.Set 3) ∷ (row.Pair 4 5) ∷ int ∷ row.Open ∷ []
scheme_of rule.Prepend = (row.Set 3) ∷ row.Open ∷ (row.Set 3) ∷ (row.Pair 4 1) ∷ int ∷ []
scheme_of rule.Append = (row.Set 3) ∷ (row.Set 3) ∷ row.Open ∷ (row.Pair 4 2) ∷ int ∷ []
scheme_of rule.Cut = (row.Set 3) ∷ (row.Set 3) ∷ int ∷ (row.Pair 4 5) ∷ int ∷ row.Open ∷ []
scheme_of rule.DomainPart = (row.Set 3) ∷ (row.Set 4) ∷ (row.Set 3) ∷ (row.Pair 4 5) ∷ row.Open ∷ row.Open ∷ []
scheme_of rule.RangePart = (row.Set 3) ∷ (row.Set 3) ∷ (row.Set 4) ∷ (row.Pair 5 4) ∷ row.Open ∷ row.Open ∷ []
scheme_of rule.Overriding = (row.Set 3) ∷ (row.Set 3) ∷ (row.Set 3) ∷ (row.Pair 4 5) ∷ row.Open ∷ row.Open ∷ []
scheme_of rule.DirectProduct = (row.Set 3) ∷ (row.Set 4) ∷ (row.Set 5) ∷ (row.Pair 6 7) ∷ (row.Pair 6 8) ∷ (row.Pair 6 9) ∷ row.Open ∷ (row.Pair 8 9) ∷ row.Open ∷ row.Open ∷ []
scheme_of rule.ParallelProduct = (row.Set 3) ∷ (row.Set 4) ∷ (row.Set 5) ∷ (row.Pair 6 7) ∷ (row.Pair 8 9) ∷ (row.Pair 10 11) ∷ (row.Pair 8 10) ∷ (row.Pair 9 11) ∷ row.Open ∷ row.Open ∷ row.Open ∷ row.Open ∷ []
scheme_of rule.Composition = (row.Set 3) ∷ (row.Set 4) ∷ (row.Set 5) ∷ (row.Pair 6 7) ∷ (row.Pair 6 8) ∷ (row.Pair 8 7) ∷ row.Open ∷ row.Open ∷ row.Open ∷ []
scheme_of rule.Relations = (row.Set 3) ∷ (row.Set 4) ∷ (row.Set 5) ∷ (row.Set 6) ∷ row.Open ∷ row.Open ∷ (row.Pair 4 5) ∷ []
scheme_of rule.Membership = truth ∷ row.Open ∷ (row.Set 1) ∷ []
scheme_of rule.Inclusion = truth ∷ (row.Set 3) ∷ (row.Set 3) ∷ row.Open ∷ []
scheme_of rule.Equality = truth ∷ row.Open ∷ (row.Same 1) ∷ []
scheme_of rule.NumberOrder = truth ∷ int ∷ int ∷ []
scheme_of rule.Connective = truth ∷ truth ∷ truth ∷ []
scheme_of rule.FirstProjection = (row.Set 3) ∷ (row.Set 4) ∷ (row.Set 5) ∷ (row.Pair 6 4) ∷ row.Open ∷ row.Open ∷ (row.Pair 4 5) ∷ []
scheme_of rule.SecondProjection = (row.Set 3) ∷ (row.Set 4) ∷ (row.Set 5) ∷ (row.Pair 6 5) ∷ row.Open ∷ row.Open ∷ (row.Pair 4 5) ∷ []
scheme_of rule.Iteration = (row.Set 3) ∷ (row.Set 3) ∷ int ∷ (row.Pair 4 4) ∷ row.Open ∷ []
scheme_of rule.Application = row.Open ∷ (row.Set 3) ∷ row.Open ∷ (row.Pair 2 0) ∷ []
scheme_of rule.Image = (row.Set 3) ∷ (row.Set 4) ∷ (row.Set 5) ∷ row.Open ∷ (row.Pair 5 3) ∷ row.Open ∷ []
scheme_of rule.Collected = (row.Set 3) ∷ row.Open ∷ row.Open ∷ (row.Pair 1 2) ∷ []
scheme_of rule.Number = int ∷ int ∷ row.Open ∷ []
scheme_of rule.Subsets = (row.Set 3) ∷ (row.Set 4) ∷ row.Open ∷ (row.Set 4) ∷ row.Open ∷ []
scheme_of rule.Flattened = (row.Set 3) ∷ (row.Set 4) ∷ row.Open ∷ row.Open ∷ (row.Set 3) ∷ []
scheme_of rule.Domain = (row.Set 3) ∷ (row.Set 4) ∷ row.Open ∷ row.Open ∷ (row.Pair 3 5) ∷ row.Open ∷ []
scheme_of rule.Range = (row.Set 3) ∷ (row.Set 4) ∷ row.Open ∷ row.Open ∷ (row.Pair 5 3) ∷ row.Open ∷ []
scheme_of rule.Identity = (row.Set 3) ∷ (row.Set 4) ∷ row.Open ∷ (row.Pair 4 4) ∷ row.Open ∷ []
scheme_of rule.Closure = (row.Set 3) ∷ (row.Set 3) ∷ row.Open ∷ (row.Pair 4 4) ∷ row.Open ∷ []
scheme_of rule.Converse = (row.Set 3) ∷ (row.Set 4) ∷ row.Open ∷ (row.Pair 5 6) ∷ (row.Pair 6 5) ∷ row.Open ∷ row.Open ∷ []
scheme_of rule.Cardinality = int ∷ (row.Set 3) ∷ row.Open ∷ row.Open ∷ []
scheme_of rule.Extreme = int ∷ (row.Set 3) ∷ row.Open ∷ int ∷ []
scheme_of rule.Sequences = (row.Set 3) ∷ (row.Set 4) ∷ row.Open ∷ (row.Set 5) ∷ row.Open ∷ (row.Pair 6 4) ∷ int ∷ []
scheme_of rule.Length = int ∷ (row.Set 3) ∷ row.Open ∷ (row.Pair 4 5) ∷ int ∷ row.Open ∷ []
scheme_of rule.Element = row.Open ∷ (row.Set 3) ∷ row.Open ∷ (row.Pair 4 0) ∷ int ∷ []
scheme_of rule.SameSequence = (row.Set 3) ∷ (row.Set 3) ∷ row.Open ∷ (row.Pair 4 5) ∷ int ∷ row.Open ∷ []
scheme_of rule.JoinedSequence = (row.Set 3) ∷ (row.Set 4) ∷ row.Open ∷ (row.Pair 5 6) ∷ (row.Pair 5 7) ∷ int ∷ row.Open ∷ (row.Set 3) ∷ []
scheme_of rule.Predicate = truth ∷ truth ∷ row.Open ∷ []
scheme_of rule.Singleton = (row.Set 1) ∷ row.Open ∷ row.Open ∷ []
scheme_of rule.SequenceOf = (row.Set 3) ∷ row.Open ∷ row.Open ∷ (row.Pair 4 1) ∷ int ∷ []
scheme_of rule.Alike = row.Open ∷ (row.Same 0) ∷ row.Open ∷ []
scheme_of rule.SetAlike = (row.Set 3) ∷ (row.Set 3) ∷ row.Open ∷ row.Open ∷ []
scheme_of rule.EmptySet = (row.Set 3) ∷ row.Open ∷ row.Open ∷ row.Open ∷ []
scheme_of rule.EmptySequence = (row.Set 3) ∷ row.Open ∷ row.Open ∷ (row.Pair 4 5) ∷ int ∷ row.Open ∷ []
scheme_of rule.Integer = int ∷ row.Open ∷ row.Open ∷ []
scheme_of rule.Truth = truth ∷ row.Open ∷ row.Open ∷ []
scheme_of rule.Text = text ∷ row.Open ∷ row.Open ∷ []
scheme_of rule.Integers = (row.Set 3) ∷ row.Open ∷ row.Open ∷ int ∷ []
scheme_of rule.Truths = (row.Set 3) ∷ row.Open ∷ row.Open ∷ truth ∷ []
scheme_of rule.Texts = (row.Set 3) ∷ row.Open ∷ row.Open ∷ text ∷ []

-- a row of a small table where that table begins n further on
abbrev pub shift_row : ℕ → Row → Row
shift_row n row.Open = row.Open
shift_row n (row.Basic b) = row.Basic b
shift_row n (row.Set j) = row.Set (n + j)
shift_row n (row.Pair j k) = row.Pair (n + j) (n + k)
shift_row n (row.Same j) = row.Same (n + j)

-- a table, and a small table behind it
abbrev pub with_scheme : List Row → List Row → List Row
with_scheme rows scheme = rows ++ map (shift_row (length rows)) scheme

-- a small table of at most 20 rows
pub record IsShort (scheme : List Row) : Type 0 where
  pub table : IsTable scheme
  pub short : length scheme ≤ 20
