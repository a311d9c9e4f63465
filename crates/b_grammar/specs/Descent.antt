-- Reading by descent: what stands at the front of a list of lexemes, and what is left. Only private functions' clauses
-- cite this; what it has to do with the grammar is proved.
use Rattle.std.specs.Prelude.{ℕ, zero, suc, Bool, true, false, ◌||◌, List, [], ◌∷◌, Option, Some, None, length, ◌==◌}
use denote.Enum.Bare.{sameb}
use Rattle.b_ast.specs.declared.Place.{Place}
use Rattle.b_ast.specs.declared.Bound.{Bound}
use Rattle.b_ast.specs.declared.Operator.TheVariants as operator
use Rattle.b_ast.specs.declared.Function.{Function}
use Rattle.b_ast.specs.declared.Formula.{Formula}
use Rattle.b_ast.specs.declared.Formula.TheVariants as formula
use Rattle.b_ast.specs.declared.After.{After}
use Rattle.b_ast.specs.declared.After.TheVariants as after
use Rattle.b_grammar.specs.contracts.Mark as mark_type
use Rattle.b_grammar.specs.declared.Mark.{Mark}
use Rattle.b_grammar.specs.declared.Mark.TheVariants as sign
use Rattle.b_grammar.specs.declared.Symbol.{Symbol}
use Rattle.b_grammar.specs.declared.Symbol.TheVariants as symbol
use Rattle.b_grammar.specs.declared.Lexeme.{Lexeme}
use Rattle.b_grammar.specs.Grammar.{priority, plain, bracketed, may_chain, arity, Part, chain, row, Listed, items, joined, mark_of, Names, names_to_bar, bound_names, is_minus}

-- ---- ways to read

-- what stands at the front, and what is left
abbrev pub Found : Type 0 → Type 0
Found A = Option (A × List Lexeme)

abbrev pub Read : Type 0 → Type 0
Read A = List Lexeme → Found A

abbrev pub with_found : {A B : Type 0} → Found A → (A → List Lexeme → Found B) → Found B
with_found None go = None
with_found (Some p) go = go p.0 p.1

abbrev pub never : {A : Type 0} → Read A
never ts = None

abbrev pub done : {A : Type 0} → A → Read A
done a ts = Some (a, ts)

abbrev pub headed : {A : Type 0} → (Lexeme → Read A) → Read A
headed f [] = None
headed f (s ∷ ts) = f s ts

abbrev pub is_mark : Mark → Option Mark → Bool
is_mark m None = false
is_mark m (Some n) = sameb mark_type.the_type n m

abbrev pub closed : {A : Type 0} → A → Bool → List Lexeme → Found A
closed x true ts = Some (x, ts)
closed x false ts = None

-- a mark must follow
abbrev pub shut : {A : Type 0} → Mark → A → List Lexeme → Found A
shut m x [] = None
shut m x (s ∷ ts) = closed x (is_mark m (mark_of s.symbol)) ts

abbrev pub ended : {A : Type 0} → Mark → Read A → Read A
ended m r ts = with_found (r ts) (shut m)

abbrev pub and_also : {A B : Type 0} → A → Found B → Found (A × B)
and_also x q = with_found q (λ y rest. Some ((x, y), rest))

abbrev pub pair : {A B : Type 0} → Read A → Read B → Read (A × B)
pair r s ts = with_found (r ts) (λ x rest. and_also x (s rest))

abbrev pub starts : (Lexeme → Bool) → List Lexeme → Bool
starts begins [] = false
starts begins (s ∷ ts) = begins s

abbrev pub and_first : {A : Type 0} → A → Found (List A) → Found (List A)
and_first x q = with_found q (λ xs rest. Some (x ∷ xs, rest))

abbrev pub one_more : {A : Type 0} → Bool → Read A → Read (List A) → Read (List A)
one_more false r more ts = Some ([], ts)
one_more true r more ts = with_found (r ts) (λ x rest. and_first x (more rest))

-- fewer than n parts, each of which begins so
abbrev pub many : {A : Type 0} → (Lexeme → Bool) → Read A → ℕ → Read (List A)
many begins r zero ts = None
many begins r (suc n) ts = one_more (starts begins ts) r (many begins r n) ts

abbrev pub each : {A : Type 0} → (Lexeme → Bool) → (Lexeme → Read A) → Read (List A)
each begins f ts = many begins (headed f) (suc (length ts)) ts

abbrev pub made : {A B : Type 0} → (A → B) → Read A → Read B
made f r ts = with_found (r ts) (λ x rest. Some (f x, rest))

abbrev pub such : {A : Type 0} → (A → Bool) → Read A → Read A
such test r ts = with_found (r ts) (λ x rest. closed x (test x) rest)

abbrev pub otherwise : {A : Type 0} → Found A → Found A → Found A
otherwise None q = q
otherwise (Some p) q = Some p

abbrev pub or_else : {A : Type 0} → Read A → Read A → Read A
or_else r s ts = otherwise (r ts) (s ts)

-- ---- operators: a row of operands is read at once, and then its parts are gathered, the tightest priority first

-- whether a priority is one of these, or was found before
abbrev pub is_among : List ℕ → Bool → ℕ → Bool
is_among [] found q = found
is_among (p ∷ ps) found q = is_among ps ((q == p) || found) q

-- an operator of one of these priorities
abbrev pub is_operator : List ℕ → Lexeme → Bool
is_operator levels s = of s.symbol
  where
    of : Symbol → Bool
    of (symbol.Operator o) = is_among levels false (priority o)
    of x = false

-- an operator and the operand after it
abbrev pub part : Read Formula → Lexeme → Read Part
part r s = of s.symbol
  where
    of : Symbol → Read Part
    of (symbol.Operator o) = made (λ t. (o, s.at, t)) r
    of x = never

-- an operand and parts after it
abbrev pub Row : Type 0
Row = Formula × List Part

abbrev pub operands : List ℕ → Read Formula → Read Row
operands levels r = pair r (each (is_operator levels) (part r))

abbrev pub if_some : {A B : Type 0} → Option A → (A → Option B) → Option B
if_some None f = None
if_some (Some x) f = f x

-- pieces as a chain, if they may stand in one
abbrev pub chain_if : Bool → Formula → List Part → Option Formula
chain_if true t ls = Some (chain (t, ls))
chain_if false t ls = None

abbrev pub chain_at : ℕ → Formula → List Part → Option Formula
chain_at p t ls = chain_if (may_chain p ls) t ls

-- the parts of the first chain, and the other parts with their chains
abbrev pub Gathered : Type 0
Gathered = List Part × List Part

-- a part before gathered ones goes on the first chain, or that chain is the part's operand
abbrev pub before_by : Bool → ℕ → Part → Gathered → Option Gathered
before_by true p l g = Some (l ∷ g.0, g.1)
before_by false p l g = if_some (chain_at p l.2 g.0) (λ t. Some ([], (l.0, l.1, t) ∷ g.1))

abbrev pub before : ℕ → Part → Gathered → Option Gathered
before p l g = before_by (priority l.0 == p) p l g

-- the chains of one priority
abbrev pub gathered : ℕ → List Part → Option Gathered
gathered p [] = Some ([], [])
gathered p (l ∷ ls) = if_some (gathered p ls) (before p l)

abbrev pub row_of : ℕ → Formula → Gathered → Option Row
row_of p t g = if_some (chain_at p t g.0) (λ u. Some (u, g.1))

abbrev pub merged : ℕ → Row → Option Row
merged p x = if_some (gathered p x.1) (row_of p x.0)

-- the chains of these priorities, the loosest first
unfoldable pub grouped : List ℕ → Row → Option Row
grouped [] x = Some x
grouped (p ∷ ps) x = if_some (grouped ps x) (merged p)

-- an operand with no part after it
abbrev pub alone : Row → Option Formula
alone x = of x.1
  where
    of : List Part → Option Formula
    of [] = Some x.0
    of (l ∷ ls) = None

abbrev pub and_left : {A : Type 0} → List Lexeme → Option A → Found A
and_left rest None = None
and_left rest (Some x) = Some (x, rest)

abbrev pub cut_at : List ℕ → Read Formula → Read Formula
cut_at levels r ts = with_found (operands levels r ts) (λ x rest. and_left rest (if_some (grouped levels x) alone))

-- ---- commas

abbrev pub is_comma : Lexeme → Bool
is_comma s = is_mark sign.Comma (mark_of s.symbol)

abbrev pub next : Read Formula → Lexeme → Read (Place × Formula)
next r s = of (mark_of s.symbol)
  where
    of : Option Mark → Read (Place × Formula)
    of (Some sign.Comma) = made (λ t. (s.at, t)) r
    of x = never

abbrev pub listed : Read Formula → Read Listed
listed r = pair r (each is_comma (next r))

-- ---- operands

abbrev pub after_names : Names → (List Bound → Read Formula) → Found Formula
after_names None f = None
after_names (Some q) f = f q.0 q.1

abbrev pub begins_after : Lexeme → Bool
begins_after s = of (mark_of s.symbol)
  where
    of : Option Mark → Bool
    of (Some sign.Converse) = true
    of (Some sign.RoundOpen) = true
    of (Some sign.SquareOpen) = true
    of x = false

module _ (p : List ℕ → Read Formula) where
  abbrev pub inner : Read Formula
  inner = p bracketed

  abbrev pub round : Read Formula
  round = made (joined operator.Maplet) (ended sign.RoundClose (listed inner))

  abbrev pub listing : Mark → (List Formula → Formula) → Read Formula
  listing close node = or_else (made (λ us. node (items us)) (ended close (listed inner))) (ended close (done (node [])))

  abbrev pub curly_by : Place → Names → Read Formula
  curly_by at None ts = listing sign.CurlyClose (formula.Set at) ts
  curly_by at (Some q) ts = made (formula.Comprehension at q.0) (ended sign.CurlyClose inner) q.1

  abbrev pub curly : Place → Read Formula
  curly at ts = curly_by at (names_to_bar ts) ts

  abbrev pub conditional : Place → Read Formula
  conditional at =
      made
      (λ (x : Formula × (Formula × Formula)). formula.If at x.0 x.1.0 x.1.1)
      (pair (ended sign.Then (p plain)) (pair (ended sign.Else (p plain)) (ended sign.End (p plain))))

  abbrev pub marked : Mark → Place → Read Formula
  marked sign.RoundOpen at = round
  marked sign.CurlyOpen at = curly at
  marked sign.SquareOpen at = listing sign.SquareClose (formula.Sequence at)
  marked sign.Empty at = done (formula.Sequence at [])
  marked sign.If at = conditional at
  marked m at = never

  abbrev pub call : Function → Place → Lexeme → Read Formula
  call f at s = of (mark_of s.symbol)
    where
      of : Option Mark → Read Formula
      of (Some sign.RoundOpen) = made (λ us. formula.Call at f us) (such (λ us. length us == arity f) (made items (ended sign.RoundClose (listed inner))))
      of x = never

  abbrev pub old : List ℕ → Place → Lexeme → Read Formula
  old n at s = of (mark_of s.symbol)
    where
      of : Option Mark → Read Formula
      of (Some sign.Old) = done (formula.Old at n)
      of x = never

  abbrev pub form : Lexeme → Read Formula
  form s = of s.symbol s.at
    where
      of : Symbol → Place → Read Formula
      of (symbol.Number n) at = done (formula.Number at n)
      of (symbol.Text x) at = done (formula.Text at x)
      of (symbol.Constant c) at = done (formula.Constant at c)
      of (symbol.Name n) at = or_else (headed (old n at)) (done (formula.Name at n))
      of (symbol.Function f) at = headed (call f at)
      of (symbol.Quantifier q) at = λ ts. after_names (bound_names ts) (λ ns. made (formula.Quantified at q ns) (ended sign.RoundClose inner))
      of (symbol.Collector c) at =
          λ ts.
          after_names
          (bound_names ts)
          (λ ns. made (λ (x : Formula × Formula). formula.Collected at c ns x.0 x.1) (pair (ended sign.Bar inner) (ended sign.RoundClose inner)))
      of (symbol.Mark m) at = marked m at
      of (symbol.Operator o) at = never
      of symbol.Other at = never

  abbrev pub one_after : Lexeme → Read After
  one_after s = of (mark_of s.symbol)
    where
      of : Option Mark → Read After
      of (Some sign.Converse) = done (after.Converse s.at)
      of (Some sign.RoundOpen) = made (λ us. after.Apply s.at (joined operator.Comma us)) (ended sign.RoundClose (listed inner))
      of (Some sign.SquareOpen) = made (after.Image s.at) (ended sign.SquareClose inner)
      of x = never

  abbrev pub whole_row : Read Formula
  whole_row = made row (pair (headed form) (each begins_after one_after))

  abbrev pub signed : Lexeme → Bool → Read Formula
  signed s true ts = made (formula.Negative s.at) whole_row ts
  signed s false ts = whole_row (s ∷ ts)

  abbrev pub operand : Read Formula
  operand = headed (λ s. signed s (is_minus s.symbol))

-- ---- formulas

unfoldable pub reads_formula : ℕ → List ℕ → Read Formula
reads_formula zero levels = cut_at levels (operand (λ ps. never))
reads_formula (suc depth) levels = cut_at levels (operand (reads_formula depth))
