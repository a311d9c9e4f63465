-- The set of all values of a type, its integers cut to MININT..MAXINT.
use Rattle.std.specs.Prelude.{ℕ, Bool, true, false, ◌||◌, List, [], ◌∷◌, slice_get, Option, Some, None}
use Rattle.b_values.specs.declared.types.Ty.{Ty, fold-Ty}
use Rattle.b_values.specs.declared.types.Ty.TheOpen.{Ty-F}
use Rattle.b_tree.specs.declared.Place.{Place}
use Rattle.b_tree.specs.declared.ExprTree.{ExprTree}
use Rattle.b_tree.specs.declared.ExprTree.TheVariants as expr
use Rattle.b_tree.specs.declared.Sides.{roll-Sides}
use Rattle.b_tree.specs.declared.operators.Family.TheVariants as family
use Rattle.b_tree.specs.declared.operators.SetOperator.TheVariants as between
use Rattle.b_tree.specs.declared.operators.Word.TheVariants as word
use Rattle.tree_parts.specs.declared.sets.Extents.{Extents}
use Rattle.tree_parts.specs.Constants.{interval}

abbrev pub or_none : Option ℕ → ℕ
or_none None = 0
or_none (Some n) = n

-- how many elements a set of the machine has
abbrev pub size_of : Extents → ℕ → ℕ
size_of x set = or_none (slice_get x.sizes.now set)

abbrev pub product : Place → ExprTree → ExprTree → ExprTree
product at e f = expr.Between between.Product at (roll-Sides (record { left = e; right = f }))

-- the couples of two sets, where both are there
abbrev pub product_of : Place → Option ExprTree → Option ExprTree → Option ExprTree
product_of at (Some e) (Some f) = Some (product at e f)
product_of at e f = None

abbrev pub subsets_of : Place → Option ExprTree → Option ExprTree
subsets_of at None = None
subsets_of at (Some e) = Some (expr.Over family.Subsets at e)

-- strings have no such set
abbrev pub set_step : Extents → Place → Ty-F (Option ExprTree) → Option ExprTree
set_step x at Ty-F.Int = Some (interval at x.minint x.maxint)
set_step x at Ty-F.Truth = Some (expr.Word at word.Bool)
set_step x at Ty-F.Text = None
set_step x at (Ty-F.Elem set) = Some (expr.Given at set (size_of x set))
set_step x at (Ty-F.Pair a b) = product_of at a b
set_step x at (Ty-F.Set a) = subsets_of at a

abbrev pub type_set : Extents → Place → Ty → Option ExprTree
type_set x at = fold-Ty (Option ExprTree) (set_step x at)

-- integers are among a type's parts, so that the set of its values is cut
abbrev pub number_step : Ty-F Bool → Bool
number_step Ty-F.Int = true
number_step Ty-F.Truth = false
number_step Ty-F.Text = false
number_step (Ty-F.Elem set) = false
number_step (Ty-F.Pair a b) = a || b
number_step (Ty-F.Set a) = a

abbrev pub has_numbers : Ty → Bool
has_numbers = fold-Ty Bool number_step
