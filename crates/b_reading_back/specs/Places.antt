-- Trees apart from places.
use Rattle.std.specs.Prelude.{◌≡◌, false, List, map}
use Rattle.b_ast.specs.declared.Place.{Place}
use Rattle.b_ast.specs.declared.Bound.{Bound}
use Rattle.b_ast.specs.declared.Formula.{Formula, fold-Formula}
use Rattle.b_ast.specs.declared.Formula.TheVariants as formula
use Rattle.b_ast.specs.declared.Link.{Link, fold-Link, roll-Link}
use Rattle.b_ast.specs.declared.After.{After, fold-After}
use Rattle.b_ast.specs.declared.After.TheVariants as after
use Rattle.b_ast.specs.declared.After.TheOpen.{Formula-F, Link-F, After-F}

-- one place for all
abbrev pub nowhere : Place
nowhere = record { machine = false; at = 0; depth = 0 }

abbrev pub bare_bound : Bound → Bound
bare_bound b = record { name = b.name; at = nowhere }

abbrev pub bare_bounds : List Bound → List Bound
bare_bounds = map bare_bound

abbrev pub after_step : After-F After Formula Link → After
after_step (After-F.Converse at) = after.Converse nowhere
after_step (After-F.Apply at e) = after.Apply nowhere e
after_step (After-F.Image at e) = after.Image nowhere e

abbrev pub link_step : Link-F After Formula Link → Link
link_step l = roll-Link (record { operator = l.operator; at = nowhere; operand = l.operand })

abbrev pub formula_step : Formula-F After Formula Link → Formula
formula_step (Formula-F.Number at n) = formula.Number nowhere n
formula_step (Formula-F.Text at s) = formula.Text nowhere s
formula_step (Formula-F.Name at x) = formula.Name nowhere x
formula_step (Formula-F.Old at x) = formula.Old nowhere x
formula_step (Formula-F.Constant at c) = formula.Constant nowhere c
formula_step (Formula-F.Negative at e) = formula.Negative nowhere e
formula_step (Formula-F.Chain e ls) = formula.Chain e ls
formula_step (Formula-F.Row e fs) = formula.Row e fs
formula_step (Formula-F.Call at f us) = formula.Call nowhere f us
formula_step (Formula-F.Set at us) = formula.Set nowhere us
formula_step (Formula-F.Sequence at us) = formula.Sequence nowhere us
formula_step (Formula-F.Comprehension at ns p) = formula.Comprehension nowhere (bare_bounds ns) p
formula_step (Formula-F.Quantified at q ns p) = formula.Quantified nowhere q (bare_bounds ns) p
formula_step (Formula-F.Collected at c ns p e) = formula.Collected nowhere c (bare_bounds ns) p e
formula_step (Formula-F.If at p e f) = formula.If nowhere p e f

-- the tree with one place for all
abbrev pub bare : Formula → Formula
bare = fold-Formula After Formula Link after_step formula_step link_step

abbrev pub bare_link : Link → Link
bare_link = fold-Link After Formula Link after_step formula_step link_step

abbrev pub bare_after : After → After
bare_after = fold-After After Formula Link after_step formula_step link_step

-- two trees are the same apart from places
abbrev pub IsSameApartFromPlaces : Formula → Formula → Type 0
IsSameApartFromPlaces t u = bare t ≡ bare u
