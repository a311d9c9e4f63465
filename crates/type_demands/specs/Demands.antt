-- What a formula demands of the types of its parts, form by form. A part is numbered where its sign stands in the text: a
-- name, a number or a word where it is, an operator at its sign, and what is in brackets at the first of them.
use Rattle.std.specs.Prelude.{◌≡◌, ℕ, ◌+◌, Bool, true, false, List, [], ◌∷◌, ◌++◌, length, drop, Option, Some, None}
use Rattle.b_ast.specs.declared.Bound.{Bound}
use Rattle.b_ast.specs.declared.Collector.{Collector}
use Rattle.b_ast.specs.declared.Collector.TheVariants as collector
use Rattle.b_ast.specs.declared.Formula.{Formula, fold-Formula}
use Rattle.b_ast.specs.declared.Link.{Link, fold-Link}
use Rattle.b_ast.specs.declared.After.{After, fold-After}
use Rattle.b_ast.specs.declared.After.TheOpen.{Formula-F, Link-F, After-F}
use Rattle.type_schemes.specs.declared.rules.Rule.{Rule}
use Rattle.type_schemes.specs.declared.rules.Rule.TheVariants as rule
use Rattle.type_schemes.specs.declared.rules.Reading.{Reading}
use Rattle.type_schemes.specs.declared.rules.Reading.TheVariants as reading
use Rattle.type_schemes.specs.Rules.{reading_of, function_rule, constant_rule}
use Rattle.type_schemes.specs.declared.forms.Form.{Form}
use Rattle.type_demands.specs.declared.demands.Meaning.{Meaning}
use Rattle.type_demands.specs.declared.demands.Demand.{Demand}
use Rattle.type_demands.specs.declared.demands.Demand.TheVariants.{Keep, Unknown, Twice}
use Rattle.type_demands.specs.Scopes.{Scope, bind, names_of, all_differ}

-- where a tree's parts begin at n: how many there are, which one is the whole, and what is demanded of them
pub record Said : Type 0 where
  pub parts : ℕ
  pub whole : ℕ → ℕ
  pub demands : Scope → ℕ → List Demand

-- an operator with its right operand, or a form after an operand; the new whole is the first of its parts, and the
-- demands are told of the part before it too
pub record Step : Type 0 where
  pub parts : ℕ
  pub demands : Scope → ℕ → ℕ → List Demand

-- the left part, the right part and the whole have types by the rule
abbrev pub keeping : Reading → ℕ → ℕ → ℕ → Demand
keeping r left right whole = Keep (record { reading = r; left = left; right = right; whole = whole })

abbrev pub obeying : Rule → ℕ → ℕ → ℕ → Demand
obeying q left right whole = keeping (reading.One q) left right whole

-- a form without operands
abbrev pub alone : Rule → Said
alone q = record { parts = 1; whole = λ n. n; demands = λ scope n. obeying q n n n ∷ [] }

-- a name has the type of the part that it means
abbrev pub named : Option Meaning → ℕ → Demand
named None n = Unknown
named (Some m) n = obeying rule.Alike m.part m.part n

-- `x$0` has it too, where it may stand
abbrev pub old_part : Bool → ℕ → ℕ → Demand
old_part true part n = obeying rule.Alike part part n
old_part false part n = Unknown

abbrev pub old_named : Option Meaning → ℕ → Demand
old_named None n = Unknown
old_named (Some m) n = old_part m.has_old m.part n

-- a form with one operand
abbrev pub over : Rule → Said → Said
over q e = record {
  parts = 1 + e.parts;
  whole = λ n. n;
  demands = λ scope n. e.demands scope (n + 1) ++ obeying q (e.whole (n + 1)) (e.whole (n + 1)) n ∷ [];
}

-- a form with two operands
abbrev pub over_two : Rule → Said → Said → Said
over_two q e f = record {
  parts = 1 + e.parts + f.parts;
  whole = λ n. n;
  demands = λ scope n.
      e.demands scope (n + 1) ++ f.demands scope (n + 1 + e.parts) ++ obeying q (e.whole (n + 1)) (f.whole (n + 1 + e.parts)) n ∷ [];
}

-- a word with another number of operands means nothing; the grammar has none
abbrev pub called : Rule → List Said → Said
called q (e ∷ []) = over q e
called q (e ∷ f ∷ []) = over_two q e f
called q es = record { parts = 1; whole = λ n. n; demands = λ scope n. Unknown ∷ [] }

-- steps one after another, from the part l; their parts begin at n
abbrev pub steps_parts : List Step → ℕ
steps_parts [] = 0
steps_parts (k ∷ ks) = k.parts + steps_parts ks

abbrev pub steps_whole : ℕ → ℕ → List Step → ℕ
steps_whole l n [] = l
steps_whole l n (k ∷ ks) = steps_whole n (n + k.parts) ks

abbrev pub steps_demands : Scope → ℕ → ℕ → List Step → List Demand
steps_demands scope l n [] = []
steps_demands scope l n (k ∷ ks) = k.demands scope l n ++ steps_demands scope n (n + k.parts) ks

abbrev pub stepped : Said → List Step → Said
stepped e ks = record {
  parts = e.parts + steps_parts ks;
  whole = λ n. steps_whole (e.whole n) (n + e.parts) ks;
  demands = λ scope n. e.demands scope n ++ steps_demands scope (e.whole n) (n + e.parts) ks;
}

abbrev pub step : Reading → Said → Step
step r e = record {
  parts = 1 + e.parts;
  demands = λ scope l n. e.demands scope (n + 1) ++ keeping r l (e.whole (n + 1)) n ∷ [];
}

-- each element has the one type that the whole asks for
abbrev pub each_parts : List Said → ℕ
each_parts [] = 0
each_parts (e ∷ es) = e.parts + each_parts es

abbrev pub each_demands : Rule → Scope → ℕ → ℕ → List Said → List Demand
each_demands q scope whole n [] = []
each_demands q scope whole n (e ∷ es) = e.demands scope n ++ obeying q (e.whole n) (e.whole n) whole ∷ each_demands q scope whole (n + e.parts) es

-- what a list without elements has to be
abbrev pub if_empty : Rule → ℕ → List Said → List Demand
if_empty q n [] = obeying q n n n ∷ []
if_empty q n (e ∷ es) = []

abbrev pub listed : Rule → Rule → List Said → Said
listed empty q es = record {
  parts = 1 + each_parts es;
  whole = λ n. n;
  demands = λ scope n. if_empty empty n es ++ each_demands q scope n (n + 1) es;
}

-- two names of one binder are equal
abbrev pub twice_if : Bool → List Demand
twice_if true = []
twice_if false = Twice ∷ []

abbrev pub twice : List Bound → List Demand
twice ns = twice_if (all_differ (names_of ns))

-- the couple of a binder's names, from the left: the part l so far, the next name's part r, and the next couple at n
abbrev pub couple_whole : ℕ → ℕ → List Bound → ℕ
couple_whole l n [] = l
couple_whole l n (b ∷ bs) = couple_whole n (n + 1) bs

abbrev pub couple_demands : ℕ → ℕ → ℕ → List Bound → List Demand
couple_demands l r n [] = []
couple_demands l r n (b ∷ bs) = obeying rule.Couple l r n ∷ couple_demands n (r + 1) (n + 1) bs

-- the couple of names whose parts begin at n
abbrev pub tuple_parts : List Bound → ℕ
tuple_parts ns = length ns + length (drop 1 ns)

abbrev pub tuple_whole : List Bound → ℕ → ℕ
tuple_whole ns n = couple_whole n (n + length ns) (drop 1 ns)

abbrev pub tuple_demands : List Bound → ℕ → List Demand
tuple_demands ns n = couple_demands n (n + 1) (n + length ns) (drop 1 ns)

-- a predicate
abbrev pub true_or_false : Said → Scope → ℕ → List Demand
true_or_false p scope n = p.demands scope n ++ obeying rule.Truth (p.whole n) (p.whole n) (p.whole n) ∷ []

-- `{x | P}`
abbrev pub comprehension : List Bound → Said → Said
comprehension ns p = record {
  parts = 1 + tuple_parts ns + p.parts;
  whole = λ n. n;
  demands = λ scope n.
      twice ns ++ tuple_demands ns (n + 1) ++ true_or_false p (bind (names_of ns) (n + 1) scope) (n + 1 + tuple_parts ns)
      ++ obeying rule.Singleton (tuple_whole ns (n + 1)) (tuple_whole ns (n + 1)) n ∷ [];
}

-- `#x.(P)` and `!x.(P)`
abbrev pub quantified : List Bound → Said → Said
quantified ns p = record {
  parts = 1 + length ns + p.parts;
  whole = λ n. n;
  demands = λ scope n.
      twice ns ++ p.demands (bind (names_of ns) (n + 1) scope) (n + 1 + length ns)
      ++ obeying rule.Predicate (p.whole (n + 1 + length ns)) (p.whole (n + 1 + length ns)) n ∷ [];
}

-- the names of a binder, with the couple of them or without: how many parts, which one is the couple, what is demanded
abbrev pub bound_parts : Bool → List Bound → ℕ
bound_parts true ns = tuple_parts ns
bound_parts false ns = length ns

abbrev pub bound_whole : Bool → List Bound → ℕ → ℕ
bound_whole true ns n = tuple_whole ns n
bound_whole false ns n = n

abbrev pub bound_demands : Bool → List Bound → ℕ → List Demand
bound_demands true ns n = tuple_demands ns n
bound_demands false ns n = []

-- of the collectors, `%` alone makes couples of its names
abbrev pub is_coupled : Collector → Bool
is_coupled collector.Lambda = true
is_coupled c = false

-- `%x.(P | E)` has couples of the names and E; SIGMA and PI are numbers, UNION and INTER sets of the type of E
abbrev pub collected_as : Collector → ℕ → ℕ → ℕ → Demand
collected_as collector.Lambda tuple e n = obeying rule.Collected tuple e n
collected_as collector.Sum tuple e n = obeying rule.Number e e n
collected_as collector.Product tuple e n = obeying rule.Number e e n
collected_as collector.Union tuple e n = obeying rule.SetAlike e e n
collected_as collector.Inter tuple e n = obeying rule.SetAlike e e n

abbrev pub collected : Collector → List Bound → Said → Said → Said
collected c ns p e = record {
  parts = 1 + bound_parts (is_coupled c) ns + p.parts + e.parts;
  whole = λ n. n;
  demands = λ scope n.
      twice ns ++ bound_demands (is_coupled c) ns (n + 1) ++ true_or_false p (bind (names_of ns) (n + 1) scope) (n + 1 + bound_parts (is_coupled c) ns)
      ++ e.demands (bind (names_of ns) (n + 1) scope) (n + 1 + bound_parts (is_coupled c) ns + p.parts)
      ++ collected_as c (bound_whole (is_coupled c) ns (n + 1)) (e.whole (n + 1 + bound_parts (is_coupled c) ns + p.parts)) n ∷ [];
}

-- both branches are of the type of the whole
abbrev pub either_branch : Said → Said → Said → Said
either_branch p e f = record {
  parts = 1 + p.parts + e.parts + f.parts;
  whole = λ n. n;
  demands = λ scope n.
      true_or_false p scope (n + 1)
      ++ e.demands scope (n + 1 + p.parts) ++ obeying rule.Alike (e.whole (n + 1 + p.parts)) (e.whole (n + 1 + p.parts)) n
      ∷ (f.demands scope (n + 1 + p.parts + e.parts) ++ obeying rule.Alike (f.whole (n + 1 + p.parts + e.parts)) (f.whole (n + 1 + p.parts + e.parts)) n ∷ []);
}

abbrev pub after_step : After-F Step Said Step → Step
after_step (After-F.Converse at) = record { parts = 1; demands = λ scope l n. obeying rule.Converse l l n ∷ [] }
after_step (After-F.Apply at e) = step (reading.One rule.Application) e
after_step (After-F.Image at e) = step (reading.One rule.Image) e

abbrev pub link_step : Link-F Step Said Step → Step
link_step l = step (reading_of l.operator) l.operand

abbrev pub formula_step : Formula-F Step Said Step → Said
formula_step (Formula-F.Number at k) = alone rule.Integer
formula_step (Formula-F.Text at s) = alone rule.Text
formula_step (Formula-F.Name at x) = record { parts = 1; whole = λ n. n; demands = λ scope n. named (scope x) n ∷ [] }
formula_step (Formula-F.Old at x) = record { parts = 1; whole = λ n. n; demands = λ scope n. old_named (scope x) n ∷ [] }
formula_step (Formula-F.Constant at c) = alone (constant_rule c)
formula_step (Formula-F.Negative at e) = over rule.Number e
formula_step (Formula-F.Chain e ks) = stepped e ks
formula_step (Formula-F.Row e ks) = stepped e ks
formula_step (Formula-F.Call at f es) = called (function_rule f) es
formula_step (Formula-F.Set at es) = listed rule.EmptySet rule.Singleton es
formula_step (Formula-F.Sequence at es) = listed rule.EmptySequence rule.SequenceOf es
formula_step (Formula-F.Comprehension at ns p) = comprehension ns p
formula_step (Formula-F.Quantified at q ns p) = quantified ns p
formula_step (Formula-F.Collected at c ns p e) = collected c ns p e
formula_step (Formula-F.If at p e f) = either_branch p e f

-- what a tree demands
abbrev pub said : Formula → Said
said = fold-Formula Step Said Step after_step formula_step link_step

abbrev pub link_said : Link → Step
link_said = fold-Link Step Said Step after_step formula_step link_step

abbrev pub after_said : After → Step
after_said = fold-After Step Said Step after_step formula_step link_step
