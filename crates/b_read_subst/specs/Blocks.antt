-- Substitutions in which so many more brackets may open, each by its form. Only private functions' clauses cite this.
use Rattle.std.specs.Prelude.{◌≡◌, ℕ, zero, suc, List, [], Option}
use Rattle.b_ast.specs.declared.Place.{Place}
use Rattle.b_ast.specs.declared.Bound.{Bound}
use Rattle.b_ast.specs.declared.Formula.{Formula}
use Rattle.b_ast.specs.declared.machine.Guard.{Guard}
use Rattle.b_ast.specs.declared.machine.Subst.{Subst}
use Rattle.b_ast.specs.declared.machine.Subst.TheVariants as subst
use Rattle.b_ast.specs.declared.machine.Branch.{Branch}
use Rattle.b_ast.specs.declared.machine.CaseBranch.{CaseBranch}
use Rattle.b_ast.specs.declared.machine.Step.{Step}
use Rattle.b_machine_grammar.specs.declared.words.Word.{Word}
use Rattle.b_machine_grammar.specs.declared.words.Word.TheVariants as word
use Rattle.b_machine_grammar.specs.declared.words.Separator.TheVariants as at
use Rattle.b_machine_grammar.specs.Cuts.{Stands, Next, cut, cut_at, IsNever, IsMade, IsEnded, IsEnclosed, IsBehindIf, IsFollowing, IsList, IsParted}
use Rattle.b_machine_grammar.specs.Grammar as grammar
use Rattle.b_machine_grammar.specs.Grammar.{IsSubst, IsWrittenList}

-- in one bracket less
unfoldable pub inside : ℕ → Stands Subst
inside zero = IsNever
inside (suc depth) = IsSubst depth

-- `skip` has nothing behind it
abbrev pub IsSkip : Place → Stands Subst
IsSkip p ts t = (ts ≡ []) × (t ≡ subst.Skip p)

abbrev pub IsPart : ℕ → Stands Subst
IsPart depth = grammar.IsPart (inside depth)

abbrev pub AreSteps : ℕ → Next → List Step → Type 0
AreSteps depth = IsFollowing (cut at.Joint) (grammar.IsStep (inside depth))

abbrev pub IsBlock : ℕ → Word → Place → Stands Subst
IsBlock depth = grammar.IsBlock (inside depth)

abbrev pub IsEndedBlock : ℕ → Word → Place → Stands Subst
IsEndedBlock depth w p = IsEnded (cut_at word.End) (IsBlock depth w p)

abbrev pub IsBegin : ℕ → Place → Stands Subst
IsBegin depth p = IsMade (subst.Block p) (inside depth)

abbrev pub IsGuarded : ℕ → Stands (Formula × Subst)
IsGuarded depth = grammar.IsGuarded (inside depth)

abbrev pub IsGuardedBy : ℕ → Place → Guard → Stands Subst
IsGuardedBy depth p g = IsMade (λ (x : Formula × Subst). subst.Guarded p g x.0 x.1) (IsGuarded depth)

abbrev pub AreBranches : ℕ → Word → Stands (List Branch)
AreBranches depth w = IsList (cut_at w) (grammar.IsBranch (inside depth))

abbrev pub IsOtherwise : ℕ → Next → Option Subst → Type 0
IsOtherwise depth = IsBehindIf (λ s. inside depth)

abbrev pub AreAllBranches : ℕ → Word → Stands (List Branch × Option Subst)
AreAllBranches depth = grammar.IsBranches (inside depth)

abbrev pub IsConditional : ℕ → Place → Stands Subst
IsConditional depth p = IsMade (λ (x : List Branch × Option Subst). subst.If p x.0 x.1) (AreAllBranches depth word.Elsif)

abbrev pub IsSelect : ℕ → Place → Stands Subst
IsSelect depth p = IsMade (λ (x : List Branch × Option Subst). subst.Select p x.0 x.1) (AreAllBranches depth word.When)

abbrev pub AreChoices : ℕ → Stands (List Subst)
AreChoices depth = IsList (cut_at word.Or) (inside depth)

abbrev pub IsChoice : ℕ → Place → Stands Subst
IsChoice depth p = IsMade (subst.Choice p) (AreChoices depth)

abbrev pub IsLabelled : ℕ → Stands (List Formula × Subst)
IsLabelled depth = IsParted (cut_at word.Then) IsWrittenList (λ s. inside depth)

abbrev pub AreCaseBranches : ℕ → Stands (List CaseBranch)
AreCaseBranches depth = IsList (cut_at word.Or) (grammar.IsCaseBranch (inside depth))

abbrev pub AreAllCaseBranches : ℕ → Stands (List CaseBranch × Option Subst)
AreAllCaseBranches depth = grammar.IsCaseBranches (inside depth)

abbrev pub AreAlternatives : ℕ → Stands (List CaseBranch × Option Subst)
AreAlternatives depth = IsEnclosed word.Either (cut_at word.End) (AreAllCaseBranches depth)

abbrev pub IsCase : ℕ → Place → Stands Subst
IsCase depth = grammar.IsCase (inside depth)

abbrev pub IsAny : ℕ → Place → Stands Subst
IsAny depth = grammar.IsAny (inside depth)

abbrev pub IsLet : ℕ → Place → Stands Subst
IsLet depth = grammar.IsLet (inside depth)
