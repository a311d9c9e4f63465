-- Places, and words that are values.
use Rattle.std.specs.Prelude.{ℤ, pos, Bool, true, false}
use Rattle.b_ast.specs.declared.Place as written
use Rattle.b_ast.specs.declared.Constant.{Constant}
use Rattle.b_ast.specs.declared.Constant.TheVariants as word
use Rattle.b_values.specs.declared.values.Text.{Text}
use Rattle.b_values.specs.declared.values.Text.TheVariants as text
use Rattle.b_tree.specs.declared.Place.{Place}
use Rattle.b_tree.specs.declared.ExprTree.{ExprTree}
use Rattle.b_tree.specs.declared.ExprTree.TheVariants as expr
use Rattle.b_tree.specs.declared.Sides.{roll-Sides}
use Rattle.b_tree.specs.declared.operators.SetOperator.TheVariants as between
use Rattle.b_tree.specs.declared.operators.Word.TheVariants as sets

-- in the machine's text, or in a formula's own
abbrev pub text_of : Bool → Text
text_of true = text.Machine
text_of false = text.Formula

abbrev pub place : written.Place → Place
place p = record { text = text_of p.machine; at = p.at }

-- the numbers between two
abbrev pub interval : Place → ℤ → ℤ → ExprTree
interval at least most = expr.Between between.Interval at (roll-Sides (record { left = expr.Number least; right = expr.Number most }))

-- a word, where MININT and MAXINT are these
abbrev pub constant : Constant → Place → ℤ → ℤ → ExprTree
constant word.Integer at minint maxint = expr.Word at sets.Integer
constant word.Natural at minint maxint = expr.Word at sets.Natural
constant word.Natural1 at minint maxint = expr.Word at sets.Natural1
constant word.Int at minint maxint = interval at minint maxint
constant word.Nat at minint maxint = interval at (pos 0) maxint
constant word.Nat1 at minint maxint = interval at (pos 1) maxint
constant word.String at minint maxint = expr.Word at sets.String
constant word.Bool at minint maxint = expr.Word at sets.Bool
constant word.True at minint maxint = expr.Truth true
constant word.False at minint maxint = expr.Truth false
constant word.MinInt at minint maxint = expr.Number minint
constant word.MaxInt at minint maxint = expr.Number maxint
