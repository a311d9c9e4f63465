-- Names that a formula reads.
use Rattle.std.specs.Prelude.{List, [], ◌∷◌, Option, Some, None}
use Rattle.b_ast.specs.declared.Place.{Place}
use Rattle.b_ast.specs.declared.Bound.{Bound}
use Rattle.b_ast.specs.declared.Formula.{Formula, fold-Formula}
use Rattle.b_ast.specs.declared.Link.{Link, fold-Link}
use Rattle.b_ast.specs.declared.After.{After, fold-After}
use Rattle.b_ast.specs.declared.After.TheOpen.{Formula-F, Link-F, After-F}
use Rattle.written_names.specs.Names.{Which, named, without, or_else, at_if}

-- the first place in reading order at which one of the first names stands, or one of the second ones with `$0`, if there is one;
-- a bound name is none of either
abbrev pub Reads : Type 0
Reads = Which → Which → Option Place

abbrev pub nowhere : Reads
nowhere these olds = None

abbrev pub both_read : Reads → Reads → Reads
both_read f g these olds = or_else (f these olds) (g these olds)

abbrev pub all_read : List Reads → Reads
all_read [] these olds = None
all_read (f ∷ fs) these olds = or_else (f these olds) (all_read fs these olds)

-- inside a binder of some names
abbrev pub inside : List Bound → Reads → Reads
inside xs f these olds = f (without (named xs) these) (without (named xs) olds)

abbrev pub after_step : After-F Reads Reads Reads → Reads
after_step (After-F.Converse at) = nowhere
after_step (After-F.Apply at e) = e
after_step (After-F.Image at e) = e

abbrev pub link_step : Link-F Reads Reads Reads → Reads
link_step l = l.operand

abbrev pub formula_step : Formula-F Reads Reads Reads → Reads
formula_step (Formula-F.Number at n) these olds = None
formula_step (Formula-F.Text at x) these olds = None
formula_step (Formula-F.Name at x) these olds = at_if (these x) at
formula_step (Formula-F.Old at x) these olds = at_if (olds x) at
formula_step (Formula-F.Constant at c) these olds = None
formula_step (Formula-F.Negative at e) these olds = e these olds
formula_step (Formula-F.Chain e ls) these olds = or_else (e these olds) (all_read ls these olds)
formula_step (Formula-F.Row e fs) these olds = or_else (e these olds) (all_read fs these olds)
formula_step (Formula-F.Call at f es) these olds = all_read es these olds
formula_step (Formula-F.Set at es) these olds = all_read es these olds
formula_step (Formula-F.Sequence at es) these olds = all_read es these olds
formula_step (Formula-F.Comprehension at xs p) these olds = inside xs p these olds
formula_step (Formula-F.Quantified at q xs p) these olds = inside xs p these olds
formula_step (Formula-F.Collected at c xs p e) these olds = inside xs (both_read p e) these olds
formula_step (Formula-F.If at p e f) these olds = or_else (p these olds) (or_else (e these olds) (f these olds))

abbrev pub read_in : Formula → Reads
read_in = fold-Formula Reads Reads Reads after_step formula_step link_step

abbrev pub read_in_link : Link → Reads
read_in_link = fold-Link Reads Reads Reads after_step formula_step link_step

abbrev pub read_in_form : After → Reads
read_in_form = fold-After Reads Reads Reads after_step formula_step link_step
