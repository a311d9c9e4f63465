-- The limits of a text.
use Rattle.std.specs.Prelude.{ℕ, ◌≤◌, List, Option, Some, None}
use Rattle.b_ast.specs.declared.machine.Def.{Def}
use Rattle.b_ast.specs.declared.machine.Subst.{Subst}
use Rattle.b_summaries.specs.declared.summary.Size.{Size}
use Rattle.b_substitutions.specs.Expansion.{subst_expansion}
use Rattle.b_substitutions.specs.Sizes.{size_of_subst}

-- so many brackets at most, if any place is there
abbrev pub IsShallow : Option ℕ → Type 0
IsShallow None = Unit {0}
IsShallow (Some d) = d ≤ 100

-- at most 1,000,000 nodes and 100 open brackets
abbrev pub IsSmall : Size → Type 0
IsSmall z = (z.nodes ≤ 1000000) × IsShallow z.depth

abbrev pub IsWithin : Option Subst → Type 0
IsWithin None = ⊥
IsWithin (Some u) = IsSmall (size_of_subst u)

-- it stands for a substitution within the limits
pub record IsWithinLimits (table : List Def) (u : Subst) : Type 0 where
  pub within : IsWithin (subst_expansion table u)
