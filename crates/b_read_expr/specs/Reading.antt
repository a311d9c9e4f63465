-- What the reading functions read: the pieces of the descent, each by its name. Only private functions' clauses cite
-- this.
use Rattle.std.specs.Prelude.{◌≡◌, ◌≤◌, ◌<◌, ◌==◌, ℕ, zero, suc, Bool, true, false, List, [], ◌∷◌, Option, Some, None, Result, Ok, Err, length}
use denote.Ref.{Bor}
use Rattle.b_ast.specs.declared.Place.{Place}
use Rattle.b_ast.specs.declared.Bound.{Bound}
use Rattle.b_ast.specs.declared.Operator.{Operator}
use Rattle.b_ast.specs.declared.Operator.TheVariants as operator
use Rattle.b_ast.specs.declared.Function.{Function}
use Rattle.b_ast.specs.declared.Quantifier.{Quantifier}
use Rattle.b_ast.specs.declared.Collector.{Collector}
use Rattle.b_ast.specs.declared.Formula.{Formula}
use Rattle.b_ast.specs.declared.Formula.TheVariants as formula
use Rattle.b_ast.specs.declared.Link.{Link}
use Rattle.b_ast.specs.declared.After.{After}
use Rattle.b_ast.specs.declared.After.TheVariants as after
use Rattle.b_grammar.specs.declared.Mark.{Mark}
use Rattle.b_grammar.specs.declared.Mark.TheVariants as sign
use Rattle.b_grammar.specs.declared.Symbol.{Symbol}
use Rattle.b_grammar.specs.declared.Symbol.TheVariants as symbol
use Rattle.b_grammar.specs.declared.Lexeme.{Lexeme}
use Rattle.b_grammar.specs.Grammar.{priority, plain, bracketed, arity, link, joined, mark_of, with_name, bound_names}
use Rattle.b_grammar.specs.Grammar as grammar
use Rattle.b_grammar.specs.Descent as descent
use Rattle.b_grammar.specs.Descent.{Found, Read, with_found, never, done, headed, shut, ended, pair, each, made, such, or_else, cut_at, is_among, is_operator, listed, is_comma, next, begins_after, after_names, is_mark, starts, reads_formula}
use Rattle.b_read_expr.specs.declared.Unread.{Unread}
use Rattle.b_read_expr.specs.declared.Unread.TheVariants as unread
use Rattle.b_read_expr.specs.declared.grouping.Part.{Part}
use Rattle.b_read_expr.specs.declared.reading.Content.{Content}
use Rattle.b_read_expr.specs.declared.reading.Content.TheVariants as content
use Rattle.b_read_expr.specs.declared.reading.Opener.{Opener}
use Rattle.b_read_expr.specs.declared.reading.Opener.TheVariants as opener
use Rattle.b_read_expr.specs.declared.reading.Bracket.{Bracket}
use Rattle.b_read_expr.specs.declared.reading.Bracket.TheVariants as bracket

-- ---- what a function answers

-- nothing is there, unless memory ran out
abbrev pub Stops : {A : Type 0} → Unread → Option A → Type 0
Stops (unread.NoTree left) q = q ≡ None
Stops unread.Memory q = Unit {0}

abbrev pub IsNoTree : Unread → Type 0
IsNoTree (unread.NoTree left) = Unit {0}
IsNoTree unread.Memory = ⊥

-- what stands at the front of a list, and what is left
abbrev pub Reads : {A : Type 0} → Read A → List Lexeme → Result (A × Bor (List Lexeme)) Unread → Type 0
Reads read ts (Ok p) = (read ts ≡ Some (p.0, p.1.now)) × (length p.1.now ≤ length ts)
Reads read ts (Err e) = Stops e (read ts)

-- ---- formulas in which so many more brackets may open

-- in one bracket less
unfoldable pub inside : ℕ → List ℕ → Read Formula
inside zero levels = never
inside (suc depth) levels = reads_formula depth levels

unfoldable pub piece : ℕ → List ℕ → Read Formula
piece depth levels = cut_at levels (descent.operand (inside depth))

unfoldable pub operand : ℕ → Read Formula
operand depth = descent.operand (inside depth)

unfoldable pub whole_row : ℕ → Read Formula
whole_row depth = descent.whole_row (inside depth)

unfoldable pub form : ℕ → Read Formula
form depth = headed (descent.form (inside depth))

unfoldable pub afters : ℕ → Read (List After)
afters depth = each begins_after (descent.one_after (inside depth))

-- ---- operators

abbrev pub operator_if : Bool → Operator → Option Operator
operator_if true o = Some o
operator_if false o = None

-- an operator of one of these priorities
abbrev pub operator_of : List ℕ → Symbol → Option Operator
operator_of levels (symbol.Operator o) = operator_if (is_among levels false (priority o)) o
operator_of levels y = None

abbrev pub part_of : Operator → Place → Formula → Part
part_of o at t = record { operator = o; at = at; operand = t }

-- an operator and the operand behind it
abbrev pub part : Read Formula → Lexeme → Read Part
part r s = of s.symbol
  where
    of : Symbol → Read Part
    of (symbol.Operator o) = made (part_of o s.at) r
    of x = never

unfoldable pub parts : ℕ → List ℕ → Read (List Part)
parts depth levels = each (is_operator levels) (part (operand depth))

-- ---- commas

abbrev pub comma_link : Operator → Read Formula → Lexeme → Read Link
comma_link o r s = of (mark_of s.symbol)
  where
    of : Option Mark → Read Link
    of (Some sign.Comma) = made (λ t. link (o, s.at, t)) r
    of x = never

unfoldable pub links : ℕ → Operator → Read (List Link)
links depth o = each is_comma (comma_link o (piece depth bracketed))

-- one piece stands for itself
abbrev pub node : Formula → List Link → Formula
node t [] = t
node t (l ∷ ls) = formula.Chain t (l ∷ ls)

unfoldable pub list : ℕ → Operator → Read Formula
list depth o = made (joined o) (listed (piece depth bracketed))

-- ---- brackets

-- what stands in a bracket, without its end
unfoldable pub contents : ℕ → Content → Read Formula
contents depth content.Inner = inside depth bracketed
contents depth content.Part = inside depth plain
contents depth (content.List o) = made (joined o) (listed (inside depth bracketed))

unfoldable pub enclosed : ℕ → Content → Mark → Read Formula
enclosed depth c close = ended close (contents depth c)

abbrev pub close_of : Bracket → Mark
close_of bracket.Round = sign.RoundClose
close_of bracket.Curly = sign.CurlyClose
close_of bracket.Square = sign.SquareClose

-- formulas with commas between them, perhaps none
unfoldable pub listing : ℕ → Bracket → Read (List Formula)
listing depth b = or_else (made grammar.items (ended (close_of b) (listed (inside depth bracketed)))) (ended (close_of b) (done []))

-- formulas with commas between them, at least one
unfoldable pub items : ℕ → Read (List Formula)
items depth = made grammar.items (listed (inside depth bracketed))

-- ---- forms

-- after an operand, by what begins the form
unfoldable pub one_after : ℕ → Opener → Place → Read After
one_after depth opener.Converse at = done (after.Converse at)
one_after depth opener.Application at = made (after.Apply at) (enclosed depth (content.List operator.Comma) sign.RoundClose)
one_after depth opener.Image at = made (after.Image at) (enclosed depth content.Inner sign.SquareClose)

abbrev pub call_if : Bool → Formula → Option Formula
call_if true t = Some t
call_if false t = None

-- a function word with as many arguments as it has
abbrev pub call_node : Place → Function → List Formula → Option Formula
call_node at f xs = call_if (length xs == arity f) (formula.Call at f xs)

unfoldable pub marked : ℕ → Mark → Place → Read Formula
marked depth m at = descent.marked (inside depth) m at

unfoldable pub curly : ℕ → Place → Read Formula
curly depth at = descent.curly (inside depth) at

unfoldable pub conditional : ℕ → Place → Read Formula
conditional depth at = descent.conditional (inside depth) at

unfoldable pub call : ℕ → Function → Place → Read Formula
call depth f at = headed (descent.call (inside depth) f at)

unfoldable pub named : List ℕ → Place → Read Formula
named n at = or_else (headed (descent.old (λ levels. never) n at)) (done (formula.Name at n))

unfoldable pub quantified : ℕ → Quantifier → Place → Read Formula
quantified depth q at ts = after_names (bound_names ts) (λ ns. made (formula.Quantified at q ns) (ended sign.RoundClose (inside depth bracketed)))

unfoldable pub collected : ℕ → Collector → Place → Read Formula
collected depth c at ts =
    after_names
    (bound_names ts)
    (λ ns. made (λ (x : Formula × Formula). formula.Collected at c ns x.0 x.1) (pair (ended sign.Bar (inside depth bracketed)) (ended sign.RoundClose (inside depth bracketed))))

-- ---- what stands first

abbrev pub IsFirst : List Lexeme → Result (Bor Lexeme × Bor (List Lexeme)) Unread → Type 0
IsFirst ts (Ok p) = ts ≡ p.0.now ∷ p.1.now
IsFirst ts (Err e) = ts ≡ []

-- what stands behind the front of a list, if that is as it must be
abbrev pub Leaves : (List Lexeme → Option (List Lexeme)) → List Lexeme → Result (Bor (List Lexeme)) Unread → Type 0
Leaves f ts (Ok rest) = (f ts ≡ Some rest.now) × (length rest.now < length ts)
Leaves f ts (Err e) = f ts ≡ None

abbrev pub behind_if : Bool → List Lexeme → Option (List Lexeme)
behind_if true ts = Some ts
behind_if false ts = None

-- behind this mark
abbrev pub behind : Mark → List Lexeme → Option (List Lexeme)
behind m [] = None
behind m (s ∷ ts) = behind_if (is_mark m (mark_of s.symbol)) ts

-- what begins a form after an operand
abbrev pub opener_of : Symbol → Option Opener
opener_of (symbol.Mark sign.Converse) = Some opener.Converse
opener_of (symbol.Mark sign.RoundOpen) = Some opener.Application
opener_of (symbol.Mark sign.SquareOpen) = Some opener.Image
opener_of y = None

abbrev pub BeginsAfter : List Lexeme → Option (Opener × Place × Bor (List Lexeme)) → Type 0
BeginsAfter ts None = starts begins_after ts ≡ false
BeginsAfter ts (Some p) = (s : Lexeme) × (ts ≡ s ∷ p.2.now) × (s.at ≡ p.1) × (opener_of s.symbol ≡ Some p.0)

abbrev pub AfterComma : List Lexeme → Option (Bor (List Lexeme)) → Type 0
AfterComma ts None = behind sign.Comma ts ≡ None
AfterComma ts (Some rest) = (behind sign.Comma ts ≡ Some rest.now) × (length rest.now < length ts)

-- the operator that a list begins with
abbrev pub BeginsWith : List ℕ → List Lexeme → Option (Operator × Place × Bor (List Lexeme)) → Type 0
BeginsWith levels ts None = starts (is_operator levels) ts ≡ false
BeginsWith levels ts (Some p) = (s : Lexeme) × (ts ≡ s ∷ p.2.now) × (s.at ≡ p.1) × (operator_of levels s.symbol ≡ Some p.0)

-- the comma that a list begins with
abbrev pub BeginsWithComma : List Lexeme → Option (Place × Bor (List Lexeme)) → Type 0
BeginsWithComma ts None = starts is_comma ts ≡ false
BeginsWithComma ts (Some p) = (s : Lexeme) × (ts ≡ s ∷ p.1.now) × (s.at ≡ p.0) × (is_comma s ≡ true)

abbrev pub and_mark : Bound → Option Mark → List Lexeme → Option (Bound × Mark × List Lexeme)
and_mark b None ts = None
and_mark b (Some m) ts = Some (b, m, ts)

-- a name and a mark behind it
abbrev pub name_and_mark : List Lexeme → Option (Bound × Mark × List Lexeme)
name_and_mark [] = None
name_and_mark (n ∷ []) = None
name_and_mark (n ∷ s ∷ ts) = with_name n (λ b. and_mark b (mark_of s.symbol) ts)

abbrev pub IsNameAndMark : List Lexeme → Result (Bound × Mark × Bor (List Lexeme)) Unread → Type 0
IsNameAndMark ts (Ok p) = (name_and_mark ts ≡ Some (p.0, p.1, p.2.now)) × (length p.2.now < length ts)
IsNameAndMark ts (Err e) = Stops e (name_and_mark ts)
