-- The grammar of formulas, as a relation between lists of lexemes and trees. A formula is cut at all operators of the
-- loosest priority that stands outside its brackets, and each piece is a formula of the tighter priorities. A piece
-- without an operator is an operand, with a minus before it and forms after it.
use Rattle.std.specs.Prelude.{ℕ, zero, suc, Bool, true, false, not, List, [], ◌∷◌, Option, Some, None, map, length, ◌==◌}
use Rattle.b_ast.specs.declared.Place.{Place}
use Rattle.b_ast.specs.declared.Bound.{Bound}
use Rattle.b_ast.specs.declared.Operator.{Operator}
use Rattle.b_ast.specs.declared.Operator.TheVariants as operator
pub use Rattle.b_ast.specs.Priorities.{priority}
use Rattle.b_ast.specs.declared.Function.{Function}
use Rattle.b_ast.specs.declared.Function.TheVariants.{Prj1, Prj2, Iterate}
use Rattle.b_ast.specs.declared.Formula.{Formula}
use Rattle.b_ast.specs.declared.Formula.TheVariants as formula
use Rattle.b_ast.specs.declared.Link.{Link, roll-Link}
use Rattle.b_ast.specs.declared.After.{After}
use Rattle.b_ast.specs.declared.After.TheVariants as after
use Rattle.b_grammar.specs.declared.Mark.{Mark}
use Rattle.b_grammar.specs.declared.Mark.TheVariants as sign
use Rattle.b_grammar.specs.declared.Symbol.{Symbol}
use Rattle.b_grammar.specs.declared.Symbol.TheVariants as symbol
use Rattle.b_grammar.specs.declared.Lexeme.{Lexeme}
use Rattle.b_grammar.specs.Cuts.{Stands, IsNever, IsDone, IsHeaded, IsEnded, IsPair, IsEach, IsMade, IsSuch, IsEither}

-- the priorities of a formula, the loosest first
abbrev pub plain : List ℕ
plain = 30 ∷ 40 ∷ 50 ∷ 60 ∷ 125 ∷ 160 ∷ 170 ∷ 180 ∷ 190 ∷ 200 ∷ []

-- directly inside round, curly and square brackets `;` and `||` are operators too
abbrev pub bracketed : List ℕ
bracketed = 20 ∷ plain

-- two comparisons don't stand in one chain
abbrev pub may_chain : {A : Type 0} → ℕ → List A → Bool
may_chain p [] = true
may_chain p (l ∷ []) = true
may_chain p (l ∷ m ∷ ms) = not (p == 60)

-- prj1, prj2 and iterate have two arguments, the other function words one
abbrev pub arity : Function → ℕ
arity Prj1 = 2
arity Prj2 = 2
arity Iterate = 2
arity f = 1

-- ---- trees

-- an operator, its place and its right operand
abbrev pub Part : Type 0
Part = Operator × Place × Formula

abbrev pub link : Part → Link
link l = roll-Link (record { operator = l.0; at = l.1; operand = l.2 })

-- one piece stands for itself, several are one node
abbrev pub chain : Formula × List Part → Formula
chain p = chain_of p.0 p.1
  where
    chain_of : Formula → List Part → Formula
    chain_of t [] = t
    chain_of t (l ∷ ls) = formula.Chain t (map link (l ∷ ls))

-- an operand without forms after it stands for itself
abbrev pub row : Formula × List After → Formula
row p = row_of p.0 p.1
  where
    row_of : Formula → List After → Formula
    row_of t [] = t
    row_of t (f ∷ fs) = formula.Row t (f ∷ fs)

-- formulas with commas between them, each comma with its place
abbrev pub Listed : Type 0
Listed = Formula × List (Place × Formula)

abbrev pub items : Listed → List Formula
items us = us.0 ∷ map (λ (u : Place × Formula). u.1) us.1

-- formulas with commas as one formula: a couple, from the left
abbrev pub joined : Operator → Listed → Formula
joined o us = chain (us.0, map (λ (u : Place × Formula). (o, u.0, u.1)) us.1)

-- ---- bound names

abbrev pub with_name : {A : Type 0} → Lexeme → (Bound → Option A) → Option A
with_name {A} s go = of s.symbol
  where
    of : Symbol → Option A
    of (symbol.Name n) = go (record { name = n; at = s.at })
    of x = None

-- which mark it is, if it is one
abbrev pub mark_of : Symbol → Option Mark
mark_of (symbol.Mark m) = Some m
mark_of x = None

-- names and what stands after them
abbrev pub Names : Type 0
Names = Option (List Bound × List Lexeme)

abbrev pub and_name : Bound → Names → Names
and_name b None = None
and_name b (Some p) = Some (b ∷ p.0, p.1)

-- after a name: a bar ends the names, a comma goes on
abbrev pub to_bar_after : Bound → Option Mark → List Lexeme → Names → Names
to_bar_after b (Some sign.Bar) ts more = Some (b ∷ [], ts)
to_bar_after b (Some sign.Comma) ts more = and_name b more
to_bar_after b x ts more = None

-- names with commas between them and a bar: the front of `{x,y | P}` after its bracket
abbrev pub names_to_bar : List Lexeme → Names
names_to_bar [] = None
names_to_bar (n ∷ []) = None
names_to_bar (n ∷ s ∷ ts) = let more = names_to_bar ts in with_name n (λ b. to_bar_after b (mark_of s.symbol) ts more)

-- a dot and an opening round bracket
abbrev pub after_dot : List Lexeme → Option (List Lexeme)
after_dot [] = None
after_dot (s ∷ []) = None
after_dot (s ∷ u ∷ ts) = both (mark_of s.symbol) (mark_of u.symbol)
  where
    both : Option Mark → Option Mark → Option (List Lexeme)
    both (Some sign.Dot) (Some sign.RoundOpen) = Some ts
    both x y = None

abbrev pub named : Bound → Option (List Lexeme) → Names
named b None = None
named b (Some ts) = Some (b ∷ [], ts)

abbrev pub to_dot_after : Bound → Option Mark → List Lexeme → Names → Names
to_dot_after b (Some sign.RoundClose) ts more = named b (after_dot ts)
to_dot_after b (Some sign.Comma) ts more = and_name b more
to_dot_after b x ts more = None

-- names with commas between them, a closing bracket, a dot and an opening bracket
abbrev pub names_to_dot : List Lexeme → Names
names_to_dot [] = None
names_to_dot (n ∷ []) = None
names_to_dot (n ∷ s ∷ ts) = let more = names_to_dot ts in with_name n (λ b. to_dot_after b (mark_of s.symbol) ts more)

-- one bare name, or names in round brackets; then a dot and an opening round bracket
abbrev pub bound_names : List Lexeme → Names
bound_names [] = None
bound_names (s ∷ ts) = by_mark (mark_of s.symbol)
  where
    by_mark : Option Mark → Names
    by_mark (Some sign.RoundOpen) = names_to_dot ts
    by_mark x = with_name s (λ b. named b (after_dot ts))

-- what follows the names, if there are names
abbrev pub IsAfterNames : Names → (List Bound → Stands Formula) → Formula → Type 0
IsAfterNames None F t = ⊥
IsAfterNames (Some p) F t = F p.0 p.1 t

-- ---- pieces

-- an operator of this priority and the piece after it
abbrev pub IsPart : ℕ → Stands Formula → Lexeme → Stands Part
IsPart p R s = of s.symbol
  where
    of : Symbol → Stands Part
    of (symbol.Operator o) = IsSuch (λ l. priority l.0 == p) (IsMade (λ t. (o, s.at, t)) R)
    of x = IsNever

-- pieces with the operators of one priority between them
abbrev pub IsChain : ℕ → Stands Formula → Stands Formula
IsChain p R = IsMade chain (IsSuch (λ c. may_chain p c.1) (IsPair R (IsEach (IsHeaded (IsPart p R)))))

-- a formula whose operators outside brackets have these priorities
abbrev pub IsCutAt : List ℕ → Stands Formula → Stands Formula
IsCutAt [] R = R
IsCutAt (p ∷ ps) R = IsChain p (IsCutAt ps R)

-- a comma and the piece after it
abbrev pub IsNext : Stands Formula → Lexeme → Stands (Place × Formula)
IsNext R s = of (mark_of s.symbol)
  where
    of : Option Mark → Stands (Place × Formula)
    of (Some sign.Comma) = IsMade (λ t. (s.at, t)) R
    of x = IsNever

-- formulas with commas between them
abbrev pub IsList : Stands Formula → Stands Listed
IsList R = IsPair R (IsEach (IsHeaded (IsNext R)))

-- which lexeme ends an operand: a minus behind it is binary, and a bracket behind it is an application or an image
abbrev pub ends_operand : Symbol → Bool
ends_operand (symbol.Number k) = true
ends_operand (symbol.Text x) = true
ends_operand (symbol.Name x) = true
ends_operand (symbol.Constant c) = true
ends_operand (symbol.Mark m) = of m
  where
    of : Mark → Bool
    of sign.Empty = true
    of sign.Old = true
    of sign.Converse = true
    of sign.RoundClose = true
    of sign.SquareClose = true
    of sign.CurlyClose = true
    of sign.End = true
    of m = false
ends_operand y = false

abbrev pub is_minus : Symbol → Bool
is_minus (symbol.Operator o) = of o
  where
    of : Operator → Bool
    of operator.Minus = true
    of x = false
is_minus x = false

-- ---- operands; P says what formulas with operators of given priorities are, with one bracket less

module _ (P : List ℕ → Stands Formula) where
  -- directly inside brackets
  abbrev pub IsInner : Stands Formula
  IsInner = P bracketed

  -- `(E)` or a couple `(E,F,..)`
  abbrev pub IsRound : Stands Formula
  IsRound = IsMade (joined operator.Maplet) (IsEnded sign.RoundClose (IsList IsInner))

  -- `{}`, `{E,F,..}`; `[]`, `[E,F,..]`
  abbrev pub IsListing : Mark → (List Formula → Formula) → Stands Formula
  IsListing close node = IsEither (IsMade (λ us. node (items us)) (IsEnded close (IsList IsInner))) (IsEnded close (IsDone (node [])))

  -- `{x,y | P}` where names and a bar stand after the bracket, a list elsewhere
  abbrev pub IsCurlyBy : Place → Names → Stands Formula
  IsCurlyBy at None ts t = IsListing sign.CurlyClose (formula.Set at) ts t
  IsCurlyBy at (Some p) ts t = IsMade (formula.Comprehension at p.0) (IsEnded sign.CurlyClose IsInner) p.1 t

  abbrev pub IsCurly : Place → Stands Formula
  IsCurly at ts t = IsCurlyBy at (names_to_bar ts) ts t

  -- `P THEN E ELSE F END`
  abbrev pub IsConditional : Place → Stands Formula
  IsConditional at =
      IsMade
      (λ (x : Formula × (Formula × Formula)). formula.If at x.0 x.1.0 x.1.1)
      (IsPair (IsEnded sign.Then (P plain)) (IsPair (IsEnded sign.Else (P plain)) (IsEnded sign.End (P plain))))

  -- what begins with a bracket, `<>` or IF
  abbrev pub IsMarked : Mark → Place → Stands Formula
  IsMarked sign.RoundOpen at = IsRound
  IsMarked sign.CurlyOpen at = IsCurly at
  IsMarked sign.SquareOpen at = IsListing sign.SquareClose (formula.Sequence at)
  IsMarked sign.Empty at = IsDone (formula.Sequence at [])
  IsMarked sign.If at = IsConditional at
  IsMarked m at = IsNever

  -- the arguments of a function word in round brackets
  abbrev pub IsCall : Function → Place → Lexeme → Stands Formula
  IsCall f at s = of (mark_of s.symbol)
    where
      of : Option Mark → Stands Formula
      of (Some sign.RoundOpen) = IsMade (λ us. formula.Call at f us) (IsSuch (λ us. length us == arity f) (IsMade items (IsEnded sign.RoundClose (IsList IsInner))))
      of x = IsNever

  -- `$0` after a name
  abbrev pub IsOld : List ℕ → Place → Lexeme → Stands Formula
  IsOld n at s = of (mark_of s.symbol)
    where
      of : Option Mark → Stands Formula
      of (Some sign.Old) = IsDone (formula.Old at n)
      of x = IsNever

  -- an operand by its first lexeme
  abbrev pub IsForm : Lexeme → Stands Formula
  IsForm s = of s.symbol s.at
    where
      of : Symbol → Place → Stands Formula
      of (symbol.Number n) at = IsDone (formula.Number at n)
      of (symbol.Text x) at = IsDone (formula.Text at x)
      of (symbol.Constant c) at = IsDone (formula.Constant at c)
      of (symbol.Name n) at = IsEither (IsDone (formula.Name at n)) (IsHeaded (IsOld n at))
      of (symbol.Function f) at = IsHeaded (IsCall f at)
      of (symbol.Quantifier q) at = λ ts. IsAfterNames (bound_names ts) (λ ns. IsMade (formula.Quantified at q ns) (IsEnded sign.RoundClose IsInner))
      of (symbol.Collector c) at =
          λ ts.
          IsAfterNames
          (bound_names ts)
          (λ ns. IsMade (λ (x : Formula × Formula). formula.Collected at c ns x.0 x.1) (IsPair (IsEnded sign.Bar IsInner) (IsEnded sign.RoundClose IsInner)))
      of (symbol.Mark m) at = IsMarked m at
      of (symbol.Operator o) at = IsNever
      of symbol.Other at = IsNever

  -- a form after an operand: `~`, `(E)` or `[E]`
  abbrev pub IsAfter : Lexeme → Stands After
  IsAfter s = of (mark_of s.symbol)
    where
      of : Option Mark → Stands After
      of (Some sign.Converse) = IsDone (after.Converse s.at)
      of (Some sign.RoundOpen) = IsMade (λ us. after.Apply s.at (joined operator.Comma us)) (IsEnded sign.RoundClose (IsList IsInner))
      of (Some sign.SquareOpen) = IsMade (after.Image s.at) (IsEnded sign.SquareClose IsInner)
      of x = IsNever

  -- an operand with the forms after it
  abbrev pub IsRow : Stands Formula
  IsRow = IsMade row (IsPair (IsHeaded IsForm) (IsEach (IsHeaded IsAfter)))

  -- a minus before an operand, or an operand alone
  abbrev pub IsSigned : Lexeme → Bool → Stands Formula
  IsSigned s true ts t = IsMade (formula.Negative s.at) IsRow ts t
  IsSigned s false ts t = IsRow (s ∷ ts) t

  -- a piece without a binary operator
  abbrev pub IsOperand : Stands Formula
  IsOperand = IsHeaded (λ s. IsSigned s (is_minus s.symbol))

-- ---- formulas

-- a formula with operators of these priorities, in which at most this many brackets are open at one place
unfoldable pub IsFormula : ℕ → List ℕ → Stands Formula
IsFormula zero levels = IsCutAt levels (IsOperand (λ ps. IsNever))
IsFormula (suc depth) levels = IsCutAt levels (IsOperand (IsFormula depth))

-- a formula, however many brackets are open in it
abbrev pub IsFormulaText : Stands Formula
IsFormulaText ts t = (depth : ℕ) × IsFormula depth plain ts t
