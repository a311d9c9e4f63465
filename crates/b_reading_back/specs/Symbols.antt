-- The symbols of a formula's canonical text.
use Rattle.std.specs.Prelude.{ℕ, nat_le, List, [], ◌∷◌, ◌++◌, if◌then◌else◌}
use Rattle.b_ast.specs.declared.Bound.{Bound}
use Rattle.b_ast.specs.declared.Operator.{Operator}
use Rattle.b_ast.specs.declared.Operator.TheVariants.{Minus}
use Rattle.b_ast.specs.declared.Collector.{Collector}
use Rattle.b_ast.specs.declared.Collector.TheVariants.{Lambda}
use Rattle.b_ast.specs.declared.Formula.{Formula, fold-Formula}
use Rattle.b_ast.specs.declared.Link.{Link, fold-Link}
use Rattle.b_ast.specs.declared.After.{After, fold-After}
use Rattle.b_ast.specs.declared.After.TheOpen.{Formula-F, Link-F, After-F}
use Rattle.b_grammar.specs.declared.Mark.{Mark}
use Rattle.b_grammar.specs.declared.Mark.TheVariants.{RoundOpen, RoundClose, CurlyOpen, CurlyClose, SquareOpen, SquareClose, Comma, Dot, Bar, Converse, Old, If, Then, Else, End}
use Rattle.b_grammar.specs.declared.Symbol.{Symbol}
use Rattle.b_grammar.specs.declared.Symbol.TheVariants as symbol
use Rattle.b_print.specs.Spellings.{priority, inside, alone, sign, forms}

-- the symbols of a tree beside a neighbour that binds so tight
abbrev pub Row : Type 0
Row = List Symbol

abbrev pub Written : Type 0
Written = ℕ → Row

-- with a mark at the end
abbrev pub ended : Row → Mark → Row
ended ss m = ss ++ symbol.Mark m ∷ []

-- in round brackets
abbrev pub round : Row → Row
round ss = symbol.Mark RoundOpen ∷ ended ss RoundClose

-- what binds no tighter than its neighbour stands in round brackets
abbrev pub guarded : ℕ → Row → Written
guarded own ss neighbour = if nat_le own neighbour then round ss else ss

-- formulas directly inside brackets, each with a comma before it, and with commas between them
abbrev pub comma_each : List Written → Row
comma_each [] = []
comma_each (u ∷ us) = (symbol.Mark Comma ∷ u inside) ++ comma_each us

abbrev pub commas : List Written → Row
commas [] = []
commas (u ∷ us) = u inside ++ comma_each us

-- names with commas between them and a mark at the end
abbrev pub names_to : Mark → List Bound → Row
names_to m [] = []
names_to m (b ∷ []) = symbol.Name b.name ∷ symbol.Mark m ∷ []
names_to m (b ∷ c ∷ cs) = symbol.Name b.name ∷ symbol.Mark Comma ∷ names_to m (c ∷ cs)

abbrev pub dot : Row
dot = symbol.Mark Dot ∷ symbol.Mark RoundOpen ∷ []

-- the names of a binder in round brackets, or one bare name; with the dot and the bracket behind them
abbrev pub bracketed_names : List Bound → Row
bracketed_names bs = symbol.Mark RoundOpen ∷ (names_to RoundClose bs ++ dot)

abbrev pub binder_names : List Bound → Row
binder_names [] = bracketed_names []
binder_names (b ∷ []) = symbol.Name b.name ∷ dot
binder_names (b ∷ c ∷ cs) = bracketed_names (b ∷ c ∷ cs)

-- SIGMA, PI, UNION and INTER have brackets round one name too
abbrev pub collector_names : Collector → List Bound → Row
collector_names Lambda bs = binder_names bs
collector_names c bs = bracketed_names bs

-- an operator with its right operand
abbrev pub Joined : Type 0
Joined = Operator × Row

abbrev pub links : List Joined → Row
links [] = []
links (l ∷ ls) = (symbol.Operator l.0 ∷ l.1) ++ links ls

-- a chain binds as tight as its first operator, and its first operand stands beside that
abbrev pub chain_binds : List Joined → ℕ
chain_binds [] = inside
chain_binds (l ∷ ls) = priority l.0

abbrev pub chain : Written → List Joined → Written
chain e ls = guarded (chain_binds ls) (e (chain_binds ls) ++ links ls)

abbrev pub afters : List Row → Row
afters [] = []
afters (f ∷ fs) = f ++ afters fs

abbrev pub after_step : After-F Row Written Joined → Row
after_step (After-F.Converse at) = symbol.Mark Converse ∷ []
after_step (After-F.Apply at e) = symbol.Mark RoundOpen ∷ ended (e inside) RoundClose
after_step (After-F.Image at e) = symbol.Mark SquareOpen ∷ ended (e inside) SquareClose

abbrev pub link_step : Link-F Row Written Joined → Joined
link_step l = (l.operator, l.operand (priority l.operator))

-- a layer of a tree, with the symbols of its parts
abbrev pub formula_step : Formula-F Row Written Joined → Written
formula_step (Formula-F.Number at n) neighbour = symbol.Number n ∷ []
formula_step (Formula-F.Text at s) neighbour = symbol.Text s ∷ []
formula_step (Formula-F.Name at x) neighbour = symbol.Name x ∷ []
formula_step (Formula-F.Old at x) neighbour = symbol.Name x ∷ symbol.Mark Old ∷ []
formula_step (Formula-F.Constant at c) neighbour = symbol.Constant c ∷ []
formula_step (Formula-F.Negative at e) neighbour = guarded sign (symbol.Operator Minus ∷ e sign) neighbour
formula_step (Formula-F.Chain e ls) neighbour = chain e ls neighbour
formula_step (Formula-F.Row e fs) neighbour = guarded forms (e forms ++ afters fs) neighbour
formula_step (Formula-F.Call at f us) neighbour = symbol.Function f ∷ symbol.Mark RoundOpen ∷ ended (commas us) RoundClose
formula_step (Formula-F.Set at us) neighbour = symbol.Mark CurlyOpen ∷ ended (commas us) CurlyClose
formula_step (Formula-F.Sequence at us) neighbour = symbol.Mark SquareOpen ∷ ended (commas us) SquareClose
formula_step (Formula-F.Comprehension at ns p) neighbour = symbol.Mark CurlyOpen ∷ (names_to Bar ns ++ ended (p inside) CurlyClose)
formula_step (Formula-F.Quantified at q ns p) neighbour = symbol.Quantifier q ∷ (binder_names ns ++ ended (p inside) RoundClose)
formula_step (Formula-F.Collected at c ns p e) neighbour =
    symbol.Collector c ∷ (collector_names c ns ++ (ended (p inside) Bar ++ ended (e inside) RoundClose))
formula_step (Formula-F.If at p e f) neighbour = symbol.Mark If ∷ (ended (p alone) Then ++ (ended (e alone) Else ++ ended (f alone) End))

-- the symbols of a tree beside a neighbour that binds so tight
abbrev pub symbols_at : Formula → Written
symbols_at = fold-Formula Row Written Joined after_step formula_step link_step

abbrev pub link_symbols : Link → Joined
link_symbols = fold-Link Row Written Joined after_step formula_step link_step

abbrev pub after_symbols : After → Row
after_symbols = fold-After Row Written Joined after_step formula_step link_step

-- the symbols of a formula's canonical text
abbrev pub symbols_of : Formula → Row
symbols_of t = symbols_at t alone
