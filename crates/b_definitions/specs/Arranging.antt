-- Tables in the order of use.
use Rattle.std.specs.Prelude.{◌≡◌, ℕ, ◌+◌, nat_lt, Bool, true, ◌&&◌, List, [], ◌∷◌, length, Result, Ok, Err}
use Rattle.std.specs.List.{list_all}
use Rattle.std.specs.List.Sorted.{IsPermutation}
use Rattle.b_ast.specs.declared.machine.Def.{Def}
use Rattle.b_ast.specs.declared.machine.DefTable.{DefTable}
use Rattle.b_definitions.specs.Uses.{all_uses, is_circle}
use Rattle.b_definitions.specs.Tables.{SameFirst}
use Rattle.b_definitions.specs.declared.arranging.Disorder.{Disorder}
use Rattle.b_definitions.specs.declared.arranging.Disorder.TheVariants.{Circle, Memory}

-- from a place on each definition uses only those before it
abbrev pub ordered_from : ℕ → List (List ℕ) → Bool
ordered_from i [] = true
ordered_from i (js ∷ rows) = list_all (λ j. nat_lt j i) js && ordered_from (i + 1) rows

-- each definition uses only those before it
abbrev pub is_ordered : List Def → Bool
is_ordered table = ordered_from 0 (all_uses table)

-- the same definitions in the order of use: each name has the same first definition
pub record IsArranged (old new : List Def) : Type 0 where
  pub same : IsPermutation old new
  pub first : SameFirst old new
  pub many : length new ≡ length old
  pub ordered : is_ordered new ≡ true

-- some definitions use one another in a circle
abbrev pub HasCircle : List Def → Type 0
HasCircle table = (circle : List ℕ) × (is_circle (all_uses table) circle ≡ true)

-- the definition at a place uses itself, be it through others
abbrev pub IsInCircle : List Def → ℕ → Type 0
IsInCircle table at = (rest : List ℕ) × (is_circle (all_uses table) (at ∷ rest) ≡ true)

-- no definition uses itself, be it through others
abbrev pub HasNoCircle : List Def → Type 0
HasNoCircle table = HasCircle table → ⊥

-- the table in the order of use, or a definition in a circle
abbrev pub Arranges : List Def → Result DefTable Disorder → Type 0
Arranges old (Ok t) = IsArranged old t.defs
Arranges old (Err (Circle at)) = IsInCircle old at
Arranges old (Err Memory) = Unit {0}

-- a circle among some uses, or want of memory
abbrev pub IsCircleIn : List (List ℕ) → Disorder → Type 0
IsCircleIn rows (Circle at) = (rest : List ℕ) × (is_circle rows (at ∷ rest) ≡ true)
IsCircleIn rows Memory = Unit {0}

-- the table, where it is in the order of use
abbrev pub IsChecked : DefTable → Result DefTable Disorder → Type 0
IsChecked table (Ok t) = (t ≡ table) × (is_ordered table.defs ≡ true)
IsChecked table (Err (Circle at)) = ⊥
IsChecked table (Err Memory) = Unit {0}
