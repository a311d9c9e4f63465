-- Rows of operands as the descent sees them. Only private functions' clauses cite this.
use Rattle.std.specs.Prelude.{ℕ, Bool, ◌==◌, List, Option, map, reverse}
use Rattle.b_ast.specs.declared.Formula.{Formula}
use Rattle.b_grammar.specs.Grammar as grammar
use Rattle.b_grammar.specs.Grammar.{priority}
use Rattle.b_grammar.specs.Descent as descent
use Rattle.b_read_expr.specs.declared.grouping.Part.{Part}
use Rattle.b_read_expr.specs.declared.grouping.Row.{Row}
use Rattle.b_read_expr.specs.declared.grouping.Gathered.{Gathered}

abbrev pub as_part : Part → grammar.Part
as_part p = (p.operator, p.at, p.operand)

abbrev pub parts_of : List Part → List grammar.Part
parts_of ps = map as_part ps

-- parts that stand from the last on
abbrev pub from_last : List Part → List grammar.Part
from_last ps = parts_of (reverse ps)

abbrev pub lists : Gathered → descent.Gathered
lists g = (from_last g.run, from_last g.rest)

abbrev pub row_of : Row → descent.Row
row_of r = (r.first, parts_of r.parts)

abbrev pub is_at : ℕ → Part → Bool
is_at level p = priority p.operator == level

-- the tree of a row
abbrev pub tree : List ℕ → Formula → List Part → Option Formula
tree levels t ps = descent.if_some (descent.grouped levels (t, parts_of ps)) descent.alone
