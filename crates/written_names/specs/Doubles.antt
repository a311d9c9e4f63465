-- What is written twice at once.
use Rattle.std.specs.Prelude.{ℕ, Bool, List, [], ◌∷◌, ◌++◌, Option, Some, None}
use Rattle.std.specs.List.{list_any}
use Rattle.b_ast.specs.declared.Place.{Place}
use Rattle.b_ast.specs.declared.Bound.{Bound}
use Rattle.b_ast.specs.declared.machine.Joint.{Joint}
use Rattle.b_ast.specs.declared.machine.Joint.TheVariants as joint
use Rattle.b_ast.specs.declared.machine.Subst.{Subst, fold-Subst}
use Rattle.b_ast.specs.declared.machine.Subst.TheOpen.{Subst-F, Branch-F, CaseBranch-F, Step-F}
use Rattle.b_ast.specs.declared.machine.Branch.{Branch, fold-Branch}
use Rattle.b_ast.specs.declared.machine.CaseBranch.{CaseBranch, fold-CaseBranch}
use Rattle.b_ast.specs.declared.machine.Step.{Step, fold-Step}
use Rattle.written_names.specs.declared.doubles.Writing.{Writing}
use Rattle.written_names.specs.Names.{Which, none, either, among, names_of, or_else, at_if}

abbrev pub nothing : Writing
nothing = record { targets = []; double = None }

-- the first name of an assignment that is one of those before it
abbrev pub again : Which → List Bound → Option Place
again before [] = None
again before (x ∷ xs) = or_else (at_if (before x.name) x.at) (again (either (among (x.name ∷ [])) before) xs)

abbrev pub assigned : List Bound → Writing
assigned xs = record { targets = names_of xs; double = again none xs }

abbrev pub assigned_one : Bound → Writing
assigned_one x = record { targets = x.name ∷ []; double = None }

-- what stands on different branches isn't written at once
abbrev pub beside : Writing → Writing → Writing
beside w v = record { targets = w.targets ++ v.targets; double = or_else w.double v.double }

abbrev pub all_beside : Writing → List Writing → Writing
all_beside w [] = w
all_beside w (v ∷ vs) = all_beside (beside w v) vs

abbrev pub perhaps_beside : Writing → Option Writing → Writing
perhaps_beside w None = w
perhaps_beside w (Some v) = beside w v

-- a sign of a row with its right side
pub record Joined : Type 0 where
  pub sign : Joint
  pub at : Place
  pub right : Writing

-- the right side of `||` writes one of the names that are written before it in the row
abbrev pub clash : Joint → Place → Which → List (List ℕ) → Option Place
clash joint.Parallel at before xs = at_if (list_any before xs) at
clash joint.Sequence at before xs = None

-- what stands before in the row, and one more side
abbrev pub joined : Writing → Joined → Writing
joined w k = record {
  targets = w.targets ++ k.right.targets;
  double = or_else w.double (or_else (clash k.sign k.at (among w.targets) k.right.targets) k.right.double);
}

abbrev pub row : Writing → List Joined → Writing
row w [] = w
row w (k ∷ ks) = row (joined w k) ks

abbrev pub branch_step : Branch-F Writing Writing Writing Joined → Writing
branch_step b = b.body

abbrev pub case_step : CaseBranch-F Writing Writing Writing Joined → Writing
case_step b = b.body

abbrev pub joined_step : Step-F Writing Writing Writing Joined → Joined
joined_step k = record { sign = k.joint; at = k.at; right = k.body }

abbrev pub subst_step : Subst-F Writing Writing Writing Joined → Writing
subst_step (Subst-F.Skip at) = nothing
subst_step (Subst-F.Block at s) = s
subst_step (Subst-F.Assign at xs es) = assigned xs
subst_step (Subst-F.Update at f e v) = assigned_one f
subst_step (Subst-F.ChooseFrom at x e) = assigned_one x
subst_step (Subst-F.ChooseSuch at xs p) = assigned xs
subst_step (Subst-F.Guarded at g p s) = s
subst_step (Subst-F.If at bs o) = perhaps_beside (all_beside nothing bs) o
subst_step (Subst-F.Select at bs o) = perhaps_beside (all_beside nothing bs) o
subst_step (Subst-F.Choice at ss) = all_beside nothing ss
subst_step (Subst-F.Case at e bs o) = perhaps_beside (all_beside nothing bs) o
subst_step (Subst-F.Any at xs p s) = s
subst_step (Subst-F.Let at xs es s) = s
subst_step (Subst-F.Chain s ks) = row s ks
subst_step (Subst-F.Use at x es) = nothing

abbrev pub writing_of : Subst → Writing
writing_of = fold-Subst Writing Writing Writing Joined subst_step branch_step case_step joined_step

abbrev pub writing_of_branch : Branch → Writing
writing_of_branch = fold-Branch Writing Writing Writing Joined subst_step branch_step case_step joined_step

abbrev pub writing_of_case : CaseBranch → Writing
writing_of_case = fold-CaseBranch Writing Writing Writing Joined subst_step branch_step case_step joined_step

abbrev pub joined_of : Step → Joined
joined_of = fold-Step Writing Writing Writing Joined subst_step branch_step case_step joined_step
