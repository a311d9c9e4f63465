-- Worked readings: small texts with the trees that they stand for, and texts that stand for none. The place of each
-- symbol is its number in the text.
use Rattle.std.specs.Prelude.{ℕ, suc, false, List, [], ◌∷◌, codes}
use Rattle.b_ast.specs.declared.Place.{Place}
use Rattle.b_ast.specs.declared.Bound.{Bound}
use Rattle.b_ast.specs.declared.Operator.{Operator}
use Rattle.b_ast.specs.declared.Operator.TheVariants as operator
use Rattle.b_ast.specs.declared.Function.TheVariants.{Card}
use Rattle.b_ast.specs.declared.Quantifier.TheVariants as quantifier
use Rattle.b_ast.specs.declared.Collector.TheVariants as collector
use Rattle.b_ast.specs.declared.Formula.{Formula}
use Rattle.b_ast.specs.declared.Formula.TheVariants as formula
use Rattle.b_ast.specs.declared.Link.{Link}
use Rattle.b_ast.specs.declared.After.TheVariants as after
use Rattle.b_grammar.specs.declared.Mark.{Mark}
use Rattle.b_grammar.specs.declared.Mark.TheVariants as sign
use Rattle.b_grammar.specs.declared.Symbol.{Symbol}
use Rattle.b_grammar.specs.declared.Symbol.TheVariants as symbol
use Rattle.b_grammar.specs.declared.Lexeme.{Lexeme}
use Rattle.b_grammar.specs.Grammar.{IsFormula, plain, link}

abbrev pub place : ℕ → Place
place n = record { machine = false; at = n; depth = 0 }

-- the symbols with their numbers as places
abbrev pub placed : ℕ → List Symbol → List Lexeme
placed n [] = []
placed n (s ∷ ss) = record { symbol = s; at = place n } ∷ placed (suc n) ss

abbrev pub StandsFor : List Symbol → Formula → Type 0
StandsFor ss t = IsFormula 100 plain (placed 0 ss) t

abbrev pub StandsForNothing : List Symbol → Type 0
StandsForNothing ss = (t : Formula) → IsFormula 100 plain (placed 0 ss) t → ⊥

-- ---- shorthands

abbrev pub n : ℕ → Symbol
n k = symbol.Number k

abbrev pub o : Operator → Symbol
o k = symbol.Operator k

abbrev pub m : Mark → Symbol
m k = symbol.Mark k

abbrev pub name : List ℕ → Symbol
name x = symbol.Name x

abbrev pub number_at : ℕ → ℕ → Formula
number_at p k = formula.Number (place p) k

abbrev pub name_at : ℕ → List ℕ → Formula
name_at p x = formula.Name (place p) x

abbrev pub bound_at : ℕ → List ℕ → Bound
bound_at p x = record { name = x; at = place p }

-- an operator at a place and its right operand
abbrev pub l : Operator → ℕ → Formula → Link
l k p t = link (k, place p, t)

-- x = k, with the places of its three symbols
abbrev pub equal_at : ℕ → List ℕ → ℕ → Formula
equal_at p x k = formula.Chain (name_at p x) (l operator.Equal (suc p) (number_at (suc (suc p)) k) ∷ [])

-- ---- the readings

pub record AreReadings : Type 0 where
  -- 1 - 2 - 3
  pub minus_is_a_chain :
      StandsFor
      (n 1 ∷ o operator.Minus ∷ n 2 ∷ o operator.Minus ∷ n 3 ∷ [])
      (formula.Chain (number_at 0 1) (l operator.Minus 1 (number_at 2 2) ∷ l operator.Minus 3 (number_at 4 3) ∷ []))
  -- (1 - 2) - 3 is another tree
  pub brackets_make_a_chain_of_chains :
      StandsFor
      (m sign.RoundOpen ∷ n 1 ∷ o operator.Minus ∷ n 2 ∷ m sign.RoundClose ∷ o operator.Minus ∷ n 3 ∷ [])
      (formula.Chain (formula.Chain (number_at 1 1) (l operator.Minus 2 (number_at 3 2) ∷ [])) (l operator.Minus 5 (number_at 6 3) ∷ []))
  -- -2 ** 2 is (-2) ** 2
  pub minus_binds_tighter_than_power :
      StandsFor
      (o operator.Minus ∷ n 2 ∷ o operator.Power ∷ n 2 ∷ [])
      (formula.Chain (formula.Negative (place 0) (number_at 1 2)) (l operator.Power 2 (number_at 3 2) ∷ []))
  -- 2 - -3
  pub minus_after_a_minus :
      StandsFor
      (n 2 ∷ o operator.Minus ∷ o operator.Minus ∷ n 3 ∷ [])
      (formula.Chain (number_at 0 2) (l operator.Minus 1 (formula.Negative (place 2) (number_at 3 3)) ∷ []))
  -- 2 ** 3 ** 2
  pub power_is_a_chain :
      StandsFor
      (n 2 ∷ o operator.Power ∷ n 3 ∷ o operator.Power ∷ n 2 ∷ [])
      (formula.Chain (number_at 0 2) (l operator.Power 1 (number_at 2 3) ∷ l operator.Power 3 (number_at 4 2) ∷ []))
  -- x = 1 or x = 2 & x = 3
  pub or_and_and_have_one_priority :
      StandsFor
      (name (codes "x") ∷ o operator.Equal ∷ n 1 ∷ o operator.Or ∷ name (codes "x") ∷ o operator.Equal ∷ n 2 ∷ o operator.And ∷ name (codes "x") ∷ o operator.Equal ∷ n 3 ∷ [])
      (formula.Chain (equal_at 0 (codes "x") 1) (l operator.Or 3 (equal_at 4 (codes "x") 2) ∷ l operator.And 7 (equal_at 8 (codes "x") 3) ∷ []))
  -- f(1)(2)
  pub applications_are_a_row :
      StandsFor
      (name (codes "f") ∷ m sign.RoundOpen ∷ n 1 ∷ m sign.RoundClose ∷ m sign.RoundOpen ∷ n 2 ∷ m sign.RoundClose ∷ [])
      (formula.Row (name_at 0 (codes "f")) (after.Apply (place 1) (number_at 2 1) ∷ after.Apply (place 4) (number_at 5 2) ∷ []))
  -- (d)(1), as d(1): brackets are no nodes
  pub brackets_are_no_nodes :
      StandsFor
      (m sign.RoundOpen ∷ name (codes "d") ∷ m sign.RoundClose ∷ m sign.RoundOpen ∷ n 1 ∷ m sign.RoundClose ∷ [])
      (formula.Row (name_at 1 (codes "d")) (after.Apply (place 3) (number_at 4 1) ∷ []))
  pub bare_application :
      StandsFor
      (name (codes "d") ∷ m sign.RoundOpen ∷ n 1 ∷ m sign.RoundClose ∷ [])
      (formula.Row (name_at 0 (codes "d")) (after.Apply (place 1) (number_at 2 1) ∷ []))
  -- f(1,2)
  pub arguments_keep_their_comma :
      StandsFor
      (name (codes "f") ∷ m sign.RoundOpen ∷ n 1 ∷ m sign.Comma ∷ n 2 ∷ m sign.RoundClose ∷ [])
      (formula.Row (name_at 0 (codes "f")) (after.Apply (place 1) (formula.Chain (number_at 2 1) (l operator.Comma 3 (number_at 4 2) ∷ [])) ∷ []))
  -- r~[S]
  pub converse_and_image_are_a_row :
      StandsFor
      (name (codes "r") ∷ m sign.Converse ∷ m sign.SquareOpen ∷ name (codes "S") ∷ m sign.SquareClose ∷ [])
      (formula.Row (name_at 0 (codes "r")) (after.Converse (place 1) ∷ after.Image (place 2) (name_at 3 (codes "S")) ∷ []))
  -- x$0 + 1
  pub the_old_value :
      StandsFor (name (codes "x") ∷ m sign.Old ∷ o operator.Plus ∷ n 1 ∷ []) (formula.Chain (formula.Old (place 0) (codes "x")) (l operator.Plus 2 (number_at 3 1) ∷ []))
  -- !x.(x = 1 => x = 2)
  pub for_all :
      StandsFor
      (symbol.Quantifier quantifier.ForAll ∷ name (codes "x") ∷ m sign.Dot ∷ m sign.RoundOpen ∷ name (codes "x") ∷ o operator.Equal ∷ n 1 ∷ o operator.Implication ∷ name (codes "x") ∷ o operator.Equal ∷ n 2 ∷ m sign.RoundClose ∷ [])
      (formula.Quantified (place 0) quantifier.ForAll (bound_at 1 (codes "x") ∷ []) (formula.Chain (equal_at 4 (codes "x") 1) (l operator.Implication 7 (equal_at 8 (codes "x") 2) ∷ [])))
  -- {x,y | x = 1}
  pub comprehension :
      StandsFor
      (m sign.CurlyOpen ∷ name (codes "x") ∷ m sign.Comma ∷ name (codes "y") ∷ m sign.Bar ∷ name (codes "x") ∷ o operator.Equal ∷ n 1 ∷ m sign.CurlyClose ∷ [])
      (formula.Comprehension (place 0) (bound_at 1 (codes "x") ∷ bound_at 3 (codes "y") ∷ []) (equal_at 5 (codes "x") 1))
  -- {x,y}
  pub listed_set :
      StandsFor
      (m sign.CurlyOpen ∷ name (codes "x") ∷ m sign.Comma ∷ name (codes "y") ∷ m sign.CurlyClose ∷ [])
      (formula.Set (place 0) (name_at 1 (codes "x") ∷ name_at 3 (codes "y") ∷ []))
  -- {}, [] and <>
  pub empty_set : StandsFor (m sign.CurlyOpen ∷ m sign.CurlyClose ∷ []) (formula.Set (place 0) [])
  pub empty_sequence : StandsFor (m sign.SquareOpen ∷ m sign.SquareClose ∷ []) (formula.Sequence (place 0) [])
  pub empty_sequence_sign : StandsFor (m sign.Empty ∷ []) (formula.Sequence (place 0) [])
  -- %(x).(x : 1..2 | x)
  pub lambda :
      StandsFor
      (
      symbol.Collector collector.Lambda
      ∷ m sign.RoundOpen
      ∷ name (codes "x")
      ∷ m sign.RoundClose
      ∷ m sign.Dot
      ∷ m sign.RoundOpen
      ∷ name (codes "x")
      ∷ o operator.Member
      ∷ n 1
      ∷ o operator.Interval
      ∷ n 2
      ∷ m sign.Bar
      ∷ name (codes "x")
      ∷ m sign.RoundClose
      ∷ []
      )
      (formula.Collected
      (place 0)
      collector.Lambda
      (bound_at 2 (codes "x") ∷ [])
      (formula.Chain (name_at 6 (codes "x")) (l operator.Member 7 (formula.Chain (number_at 8 1) (l operator.Interval 9 (number_at 10 2) ∷ [])) ∷ []))
      (name_at 12 (codes "x")))
  -- 1 |-> 2 |-> 3
  pub maplets_are_a_chain :
      StandsFor
      (n 1 ∷ o operator.Maplet ∷ n 2 ∷ o operator.Maplet ∷ n 3 ∷ [])
      (formula.Chain (number_at 0 1) (l operator.Maplet 1 (number_at 2 2) ∷ l operator.Maplet 3 (number_at 4 3) ∷ []))
  -- (1,2,3) is that chain
  pub couples_are_maplets :
      StandsFor
      (m sign.RoundOpen ∷ n 1 ∷ m sign.Comma ∷ n 2 ∷ m sign.Comma ∷ n 3 ∷ m sign.RoundClose ∷ [])
      (formula.Chain (number_at 1 1) (l operator.Maplet 2 (number_at 3 2) ∷ l operator.Maplet 4 (number_at 5 3) ∷ []))
  -- card(r ; s)
  pub composition_in_brackets :
      StandsFor
      (symbol.Function Card ∷ m sign.RoundOpen ∷ name (codes "r") ∷ o operator.Composition ∷ name (codes "s") ∷ m sign.RoundClose ∷ [])
      (formula.Call (place 0) Card (formula.Chain (name_at 2 (codes "r")) (l operator.Composition 3 (name_at 4 (codes "s")) ∷ []) ∷ []))
  -- IF x = 1 THEN 2 ELSE 3 END - 1
  pub minus_after_end :
      StandsFor
      (m sign.If ∷ name (codes "x") ∷ o operator.Equal ∷ n 1 ∷ m sign.Then ∷ n 2 ∷ m sign.Else ∷ n 3 ∷ m sign.End ∷ o operator.Minus ∷ n 1 ∷ [])
      (formula.Chain (formula.If (place 0) (equal_at 1 (codes "x") 1) (number_at 5 2) (number_at 7 3)) (l operator.Minus 9 (number_at 10 1) ∷ []))
  -- - - 1
  pub no_two_minuses : StandsForNothing (o operator.Minus ∷ o operator.Minus ∷ n 1 ∷ [])
  -- 1 = 2 = 3
  pub no_two_comparisons : StandsForNothing (n 1 ∷ o operator.Equal ∷ n 2 ∷ o operator.Equal ∷ n 3 ∷ [])
  -- r ; s
  pub no_composition_without_brackets : StandsForNothing (name (codes "r") ∷ o operator.Composition ∷ name (codes "s") ∷ [])
  -- (IF p THEN r ; s ELSE t END)
  pub no_composition_in_if :
      StandsForNothing
      (m sign.RoundOpen ∷ m sign.If ∷ name (codes "p") ∷ m sign.Then ∷ name (codes "r") ∷ o operator.Composition ∷ name (codes "s") ∷ m sign.Else ∷ name (codes "t") ∷ m sign.End ∷ m sign.RoundClose ∷ [])
  -- r[1,2]
  pub one_argument_of_an_image : StandsForNothing (name (codes "r") ∷ m sign.SquareOpen ∷ n 1 ∷ m sign.Comma ∷ n 2 ∷ m sign.SquareClose ∷ [])
  -- card(1,2)
  pub one_argument_of_card : StandsForNothing (symbol.Function Card ∷ m sign.RoundOpen ∷ n 1 ∷ m sign.Comma ∷ n 2 ∷ m sign.RoundClose ∷ [])
  -- {(x) | x = 1}
  pub bare_names_of_a_comprehension :
      StandsForNothing
      (m sign.CurlyOpen ∷ m sign.RoundOpen ∷ name (codes "x") ∷ m sign.RoundClose ∷ m sign.Bar ∷ name (codes "x") ∷ o operator.Equal ∷ n 1 ∷ m sign.CurlyClose ∷ [])
