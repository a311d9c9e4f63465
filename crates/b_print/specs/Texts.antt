-- The canonical text of a formula.
use Rattle.std.specs.Prelude.{◌==◌, ℕ, nat_le, List, [], ◌∷◌, ◌++◌, codes, decimal, if◌then◌else◌, flat_map}
use Rattle.b_ast.specs.declared.Bound.{Bound}
use Rattle.b_ast.specs.declared.Operator.{Operator}
use Rattle.b_ast.specs.declared.Quantifier.{Quantifier}
use Rattle.b_ast.specs.declared.Collector.{Collector}
use Rattle.b_ast.specs.declared.Collector.TheVariants.{Lambda}
use Rattle.b_ast.specs.declared.Formula.{Formula, fold-Formula}
use Rattle.b_ast.specs.declared.Link.{Link, fold-Link}
use Rattle.b_ast.specs.declared.After.{After, fold-After}
use Rattle.b_ast.specs.declared.After.TheOpen.{Formula-F, Link-F, After-F}
use Rattle.b_print.specs.Spellings.{sign_of, function_word, constant_word, quantifier_sign, collector_word, priority, inside, alone, sign, forms}

-- the text of a tree beside a neighbour that binds so tight
abbrev pub Written : Type 0
Written = ℕ → List ℕ

-- in round brackets
abbrev pub round : List ℕ → List ℕ
round text = 40 ∷ (text ++ 41 ∷ [])

-- what binds no tighter than its neighbour stands in round brackets
abbrev pub opening : ℕ → Written
opening own neighbour = if nat_le own neighbour then codes "(" else []

abbrev pub closing : ℕ → Written
closing own neighbour = if nat_le own neighbour then codes ")" else []

abbrev pub guarded : ℕ → List ℕ → Written
guarded own text neighbour = opening own neighbour ++ text ++ closing own neighbour

-- how a byte of a string is written: a quote, a backslash, LF and tab by an escape
abbrev pub spelling_of : ℕ → List ℕ
spelling_of b =
    if b == 34 then codes "\\\""
    else (if b == 92 then codes "\\\\" else (if b == 10 then codes "\\n" else (if b == 9 then codes "\\t" else b ∷ [])))

-- a string in quotes
abbrev pub quoted : List ℕ → List ℕ
quoted s = 34 ∷ (flat_map spelling_of s ++ 34 ∷ [])

-- formulas directly inside brackets, each with a comma before it, and with commas between them
abbrev pub comma_each : List Written → List ℕ
comma_each [] = []
comma_each (u ∷ us) = 44 ∷ (u inside ++ comma_each us)

abbrev pub commas : List Written → List ℕ
commas [] = []
commas (u ∷ us) = u inside ++ comma_each us

-- names, each with a comma before it, and with commas between them
abbrev pub comma_names : List Bound → List ℕ
comma_names [] = []
comma_names (b ∷ bs) = 44 ∷ (b.name ++ comma_names bs)

abbrev pub names : List Bound → List ℕ
names [] = []
names (b ∷ bs) = b.name ++ comma_names bs

-- the names of a binder: one bare name, or names in brackets
abbrev pub binder_names : List Bound → List ℕ
binder_names (b ∷ []) = b.name
binder_names bs = round (names bs)

-- SIGMA, PI, UNION and INTER have brackets round one name too
abbrev pub collector_names : Collector → List Bound → List ℕ
collector_names Lambda bs = binder_names bs
collector_names c bs = round (names bs)

-- what stands before the parts of a binder: `{x,y | `, `#x.(`, `SIGMA(x).(`
abbrev pub comprehension_front : List Bound → List ℕ
comprehension_front ns = 123 ∷ (names ns ++ codes " | ")

abbrev pub quantified_front : Quantifier → List Bound → List ℕ
quantified_front q ns = quantifier_sign q ++ binder_names ns ++ codes ".("

abbrev pub collected_front : Collector → List Bound → List ℕ
collected_front c ns = collector_word c ++ collector_names c ns ++ codes ".("

-- an operator with its right operand
abbrev pub Joined : Type 0
Joined = Operator × List ℕ

-- operators with their right operands, one after another
abbrev pub links : List Joined → List ℕ
links [] = []
links (l ∷ ls) = l.1 ++ links ls

-- a chain binds as tight as its first operator, and its first operand stands beside that
abbrev pub chain_binds : List Joined → ℕ
chain_binds [] = inside
chain_binds (l ∷ ls) = priority l.0

abbrev pub chain : Written → List Joined → Written
chain e ls = guarded (chain_binds ls) (e (chain_binds ls) ++ links ls)

-- forms after an operand, one after another
abbrev pub afters : List (List ℕ) → List ℕ
afters [] = []
afters (f ∷ fs) = f ++ afters fs

-- `~`, `(E)` and `[E]`
abbrev pub after_step : After-F (List ℕ) Written Joined → List ℕ
after_step (After-F.Converse at) = codes "~"
after_step (After-F.Apply at e) = round (e inside)
after_step (After-F.Image at e) = 91 ∷ (e inside ++ 93 ∷ [])

-- one space on both sides of an operator
abbrev pub operator_text : Operator → List ℕ
operator_text o = 32 ∷ (sign_of o ++ 32 ∷ [])

-- the right operand stands beside its operator
abbrev pub link_step : Link-F (List ℕ) Written Joined → Joined
link_step l = (l.operator, operator_text l.operator ++ l.operand (priority l.operator))

-- a layer of a tree, with the texts of its parts
abbrev pub formula_step : Formula-F (List ℕ) Written Joined → Written
formula_step (Formula-F.Number at n) neighbour = decimal n
formula_step (Formula-F.Text at s) neighbour = quoted s
formula_step (Formula-F.Name at x) neighbour = x
formula_step (Formula-F.Old at x) neighbour = x ++ codes "$0"
formula_step (Formula-F.Constant at c) neighbour = constant_word c
formula_step (Formula-F.Negative at e) neighbour = guarded sign (45 ∷ e sign) neighbour
formula_step (Formula-F.Chain e ls) neighbour = chain e ls neighbour
formula_step (Formula-F.Row e fs) neighbour = guarded forms (e forms ++ afters fs) neighbour
formula_step (Formula-F.Call at f us) neighbour = function_word f ++ round (commas us)
formula_step (Formula-F.Set at us) neighbour = 123 ∷ (commas us ++ 125 ∷ [])
formula_step (Formula-F.Sequence at us) neighbour = 91 ∷ (commas us ++ 93 ∷ [])
formula_step (Formula-F.Comprehension at ns p) neighbour = comprehension_front ns ++ p inside ++ codes "}"
formula_step (Formula-F.Quantified at q ns p) neighbour = quantified_front q ns ++ p inside ++ codes ")"
formula_step (Formula-F.Collected at c ns p e) neighbour = collected_front c ns ++ p inside ++ codes " | " ++ e inside ++ codes ")"
formula_step (Formula-F.If at p e f) neighbour =
    codes "IF " ++ p alone ++ codes " THEN " ++ e alone ++ codes " ELSE " ++ f alone ++ codes " END"

-- the text of a tree beside a neighbour that binds so tight
abbrev pub text_at : Formula → Written
text_at = fold-Formula (List ℕ) Written Joined after_step formula_step link_step

abbrev pub link_text : Link → Joined
link_text = fold-Link (List ℕ) Written Joined after_step formula_step link_step

abbrev pub after_text : After → List ℕ
after_text = fold-After (List ℕ) Written Joined after_step formula_step link_step

-- the canonical text of a formula
abbrev pub text_of : Formula → List ℕ
text_of t = text_at t alone
