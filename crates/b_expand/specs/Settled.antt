-- Trees in which nothing is expanded: no name is a definition's, no comma stands between parts of a couple, and no more
-- brackets are counted than are told apart.
use Rattle.std.specs.Prelude.{nat_lt, Bool, true, ◌&&◌, not, List, [], ◌∷◌}
use Rattle.std.specs.List.{list_all}
use Rattle.b_ast.specs.declared.Place.{Place}
use Rattle.b_ast.specs.declared.Bound.{Bound}
use Rattle.b_ast.specs.declared.Formula.{Formula, fold-Formula}
use Rattle.b_ast.specs.declared.Link.{Link, fold-Link}
use Rattle.b_ast.specs.declared.After.{After, fold-After}
use Rattle.b_ast.specs.declared.After.TheOpen.{Formula-F, Link-F, After-F}
use Rattle.b_names.specs.declared.places.Index.{Index}
use Rattle.b_expand.specs.Expansion.{is_comma}
use Rattle.b_expand.specs.Using.{is_defined}

abbrev pub is_shallow : Place → Bool
is_shallow at = not (nat_lt 101 at.depth)

abbrev pub are_shallow : List Bound → Bool
are_shallow xs = list_all (λ x. is_shallow x.at) xs

abbrev pub all_true : List Bool → Bool
all_true [] = true
all_true (b ∷ bs) = b && all_true bs

abbrev pub after_settled : After-F Bool Bool Bool → Bool
after_settled (After-F.Converse at) = is_shallow at
after_settled (After-F.Apply at b) = is_shallow at && b
after_settled (After-F.Image at b) = is_shallow at && b

abbrev pub link_settled : Link-F Bool Bool Bool → Bool
link_settled l = not (is_comma l.operator) && (is_shallow l.at && l.operand)

abbrev pub formula_settled : Index → Formula-F Bool Bool Bool → Bool
formula_settled index (Formula-F.Number at n) = is_shallow at
formula_settled index (Formula-F.Text at x) = is_shallow at
formula_settled index (Formula-F.Name at x) = is_shallow at && not (is_defined index x)
formula_settled index (Formula-F.Old at x) = is_shallow at
formula_settled index (Formula-F.Constant at c) = is_shallow at
formula_settled index (Formula-F.Negative at b) = is_shallow at && b
formula_settled index (Formula-F.Chain b bs) = b && all_true bs
formula_settled index (Formula-F.Row b bs) = b && all_true bs
formula_settled index (Formula-F.Call at f bs) = is_shallow at && all_true bs
formula_settled index (Formula-F.Set at bs) = is_shallow at && all_true bs
formula_settled index (Formula-F.Sequence at bs) = is_shallow at && all_true bs
formula_settled index (Formula-F.Comprehension at xs b) = is_shallow at && (are_shallow xs && b)
formula_settled index (Formula-F.Quantified at q xs b) = is_shallow at && (are_shallow xs && b)
formula_settled index (Formula-F.Collected at c xs b d) = is_shallow at && (are_shallow xs && (b && d))
formula_settled index (Formula-F.If at b c d) = is_shallow at && (b && (c && d))

-- nothing in the tree is expanded
abbrev pub is_settled : Index → Formula → Bool
is_settled index = fold-Formula Bool Bool Bool after_settled (formula_settled index) link_settled

abbrev pub is_settled_link : Index → Link → Bool
is_settled_link index = fold-Link Bool Bool Bool after_settled (formula_settled index) link_settled

abbrev pub is_settled_form : Index → After → Bool
is_settled_form index = fold-After Bool Bool Bool after_settled (formula_settled index) link_settled
