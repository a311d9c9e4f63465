-- How wide and how deep a substitution is: its nodes and its places, added to those that stand before it.
use Rattle.std.specs.Prelude.{ℕ, List, [], ◌∷◌, Option, Some, None, option_map}
use Rattle.b_ast.specs.declared.Formula.{Formula}
use Rattle.b_ast.specs.declared.machine.Subst.{Subst, fold-Subst}
use Rattle.b_ast.specs.declared.machine.Subst.TheOpen.{Subst-F, Branch-F, CaseBranch-F, Step-F}
use Rattle.b_ast.specs.declared.machine.Branch.{Branch, fold-Branch}
use Rattle.b_ast.specs.declared.machine.CaseBranch.{CaseBranch, fold-CaseBranch}
use Rattle.b_ast.specs.declared.machine.Step.{Step, fold-Step}
use Rattle.b_expand.specs.Places.{names_depth}
use Rattle.b_summaries.specs.declared.summary.Size.{Size}
use Rattle.b_summaries.specs.Sizes.{plus, nothing, size_of}
use Rattle.b_summaries.specs.Making.{place_size}
use Rattle.b_summaries.specs.Summaries.{node}

abbrev pub Grows : Type 0
Grows = Size → Size

-- one more node with a place
abbrev pub with_node : ℕ → Grows
with_node d z = plus z (place_size 1 d)

abbrev pub with_formula : Formula → Grows
with_formula e z = plus z (size_of e)

abbrev pub with_formulas : List Formula → Grows
with_formulas [] z = z
with_formulas (e ∷ es) z = with_formulas es (with_formula e z)

abbrev pub with_all : List Grows → Grows
with_all [] z = z
with_all (f ∷ fs) z = with_all fs (f z)

abbrev pub with_perhaps : Option Grows → Grows
with_perhaps None z = z
with_perhaps (Some f) z = f z

abbrev pub branch_size : Branch-F Grows Grows Grows Grows → Grows
branch_size b z = b.body (with_formula b.guard z)

abbrev pub case_size : CaseBranch-F Grows Grows Grows Grows → Grows
case_size b z = b.body (with_formulas b.labels z)

-- `||` and `;` are no nodes, their chain is one
abbrev pub step_size : Step-F Grows Grows Grows Grows → Grows
step_size k z = k.body (plus z (place_size 0 k.at.depth))

-- one node for each form, none for bound names and for names that are written to
abbrev pub subst_size : Subst-F Grows Grows Grows Grows → Grows
subst_size (Subst-F.Skip at) z = with_node at.depth z
subst_size (Subst-F.Block at r) z = r (with_node at.depth z)
subst_size (Subst-F.Assign at xs es) z = with_formulas es (with_node (names_depth at xs) z)
subst_size (Subst-F.Update at x e f) z = with_formula f (with_formula e (with_node (names_depth at (x ∷ [])) z))
subst_size (Subst-F.ChooseFrom at x e) z = with_formula e (with_node (names_depth at (x ∷ [])) z)
subst_size (Subst-F.ChooseSuch at xs p) z = with_formula p (with_node (names_depth at xs) z)
subst_size (Subst-F.Guarded at g p r) z = r (with_formula p (with_node at.depth z))
subst_size (Subst-F.If at bs o) z = with_perhaps o (with_all bs (with_node at.depth z))
subst_size (Subst-F.Select at bs o) z = with_perhaps o (with_all bs (with_node at.depth z))
subst_size (Subst-F.Choice at rs) z = with_all rs (with_node at.depth z)
subst_size (Subst-F.Case at e bs o) z = with_perhaps o (with_all bs (with_formula e (with_node at.depth z)))
subst_size (Subst-F.Any at xs p r) z = r (with_formula p (with_node (names_depth at xs) z))
subst_size (Subst-F.Let at xs es r) z = r (with_formulas es (with_node (names_depth at xs) z))
subst_size (Subst-F.Chain r ks) z = with_all ks (r (plus z node))
subst_size (Subst-F.Use at x es) z = with_formulas es (with_node at.depth z)

-- with a substitution
abbrev pub with_subst : Subst → Grows
with_subst = fold-Subst Grows Grows Grows Grows subst_size branch_size case_size step_size

abbrev pub with_branch : Branch → Grows
with_branch = fold-Branch Grows Grows Grows Grows subst_size branch_size case_size step_size

abbrev pub with_case : CaseBranch → Grows
with_case = fold-CaseBranch Grows Grows Grows Grows subst_size branch_size case_size step_size

abbrev pub with_step : Step → Grows
with_step = fold-Step Grows Grows Grows Grows subst_size branch_size case_size step_size

-- a substitution alone
abbrev pub size_of_subst : Subst → Size
size_of_subst u = with_subst u nothing
