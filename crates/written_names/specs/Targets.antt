-- Names that are written where they may not be.
use Rattle.std.specs.Prelude.{cond, List, [], ◌∷◌, Option, Some, None}
use Rattle.b_ast.specs.declared.Place.{Place}
use Rattle.b_ast.specs.declared.Bound.{Bound}
use Rattle.b_ast.specs.declared.machine.Subst.{Subst, fold-Subst}
use Rattle.b_ast.specs.declared.machine.Subst.TheOpen.{Subst-F, Branch-F, CaseBranch-F, Step-F}
use Rattle.b_ast.specs.declared.machine.Branch.{Branch, fold-Branch}
use Rattle.b_ast.specs.declared.machine.CaseBranch.{CaseBranch, fold-CaseBranch}
use Rattle.b_ast.specs.declared.machine.Step.{Step, fold-Step}
use Rattle.written_names.specs.Names.{Which, named, without, or_else, at_if, in_order, perhaps}

-- the first name in reading order that is written and isn't one of these, if there is one
abbrev pub Misplaces : Type 0
Misplaces = Which → Option Place

abbrev pub target : Bound → Misplaces
target x may = cond (may x.name) None (Some x.at)

abbrev pub targets : List Bound → Misplaces
targets [] may = None
targets (x ∷ xs) may = or_else (target x may) (targets xs may)

abbrev pub branch_step : Branch-F Misplaces Misplaces Misplaces Misplaces → Misplaces
branch_step b = b.body

abbrev pub case_step : CaseBranch-F Misplaces Misplaces Misplaces Misplaces → Misplaces
case_step b = b.body

abbrev pub joined_step : Step-F Misplaces Misplaces Misplaces Misplaces → Misplaces
joined_step k = k.body

-- where definitions are expanded there is no use of one; what it writes isn't known, so it is misplaced itself
abbrev pub subst_step : Subst-F Misplaces Misplaces Misplaces Misplaces → Misplaces
subst_step (Subst-F.Skip at) may = None
subst_step (Subst-F.Block at s) may = s may
subst_step (Subst-F.Assign at xs es) may = targets xs may
subst_step (Subst-F.Update at f e v) may = target f may
subst_step (Subst-F.ChooseFrom at x e) may = target x may
subst_step (Subst-F.ChooseSuch at xs p) may = targets xs may
subst_step (Subst-F.Guarded at g p s) may = s may
subst_step (Subst-F.If at bs o) may = or_else (in_order bs may) (perhaps o may)
subst_step (Subst-F.Select at bs o) may = or_else (in_order bs may) (perhaps o may)
subst_step (Subst-F.Choice at ss) may = in_order ss may
subst_step (Subst-F.Case at e bs o) may = or_else (in_order bs may) (perhaps o may)
subst_step (Subst-F.Any at xs p s) may = s (without (named xs) may)
subst_step (Subst-F.Let at xs es s) may = s (without (named xs) may)
subst_step (Subst-F.Chain s ks) may = or_else (s may) (in_order ks may)
subst_step (Subst-F.Use at x es) may = Some at

abbrev pub misplaced_in : Subst → Misplaces
misplaced_in = fold-Subst Misplaces Misplaces Misplaces Misplaces subst_step branch_step case_step joined_step

abbrev pub misplaced_in_branch : Branch → Misplaces
misplaced_in_branch = fold-Branch Misplaces Misplaces Misplaces Misplaces subst_step branch_step case_step joined_step

abbrev pub misplaced_in_case : CaseBranch → Misplaces
misplaced_in_case = fold-CaseBranch Misplaces Misplaces Misplaces Misplaces subst_step branch_step case_step joined_step

abbrev pub misplaced_in_step : Step → Misplaces
misplaced_in_step = fold-Step Misplaces Misplaces Misplaces Misplaces subst_step branch_step case_step joined_step
