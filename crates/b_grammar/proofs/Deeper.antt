-- A formula is one too where more brackets may be open. So a list of lexemes stands for at most one tree, whatever the
-- number of brackets.
use Rattle.std.proofs.Common.{◌≡◌, inl, inr, ◌+◌, ◌==◌, ℕ, zero, suc, Bool, true, false, List, [], ◌∷◌, length, Some, None, arith, subst}
use Rattle.b_ast.specs.declared.Place.{Place}
use Rattle.b_ast.specs.declared.Bound.{Bound}
use Rattle.b_ast.specs.declared.Function.{Function}
use Rattle.b_ast.specs.declared.Operator.TheVariants as operator
use Rattle.b_ast.specs.declared.Formula.{Formula}
use Rattle.b_ast.specs.declared.Formula.TheVariants as formula
use Rattle.b_ast.specs.declared.After.TheVariants as after
use Rattle.b_grammar.specs.declared.Mark.{Mark}
use Rattle.b_grammar.specs.declared.Mark.TheVariants as sign
use Rattle.b_grammar.specs.declared.Symbol.{Symbol}
use Rattle.b_grammar.specs.declared.Symbol.TheVariants as symbol
use Rattle.b_grammar.specs.declared.Lexeme.{Lexeme}
use Rattle.b_grammar.specs.Cuts.{Stands, IsNever, IsDone, IsHeaded, IsEnded, IsPair, IsEach, IsMade, IsSuch, IsEither}
use Rattle.b_grammar.specs.Grammar.{priority, plain, bracketed, may_chain, arity, chain, row, items, joined, Names, names_to_bar, bound_names, is_minus, IsAfterNames, IsPart, IsChain, IsCutAt, IsNext, IsList, IsListing, IsCurlyBy, IsConditional, IsMarked, IsCall, IsOld, IsForm, IsAfter, IsRow, IsSigned, IsOperand, IsFormula, IsFormulaText}
use Rattle.b_grammar.proofs.Descent as descent

-- what one relation says, the other says too
abbrev IsWithin : {A : Type 0} → Stands A → Stands A → Type 0
IsWithin {A} R S = (ts : List Lexeme) (x : A) → R ts x → S ts x

headed : {A : Type 0} (F G : Lexeme → Stands A) → ((s : Lexeme) → IsWithin (F s) (G s)) → IsWithin (IsHeaded F) (IsHeaded G)
headed F G f [] x c = absurd c
headed F G f (s ∷ ts) x c = f s ts x c

ended : {A : Type 0} (m : Mark) (R S : Stands A) → IsWithin R S → IsWithin (IsEnded m R) (IsEnded m S)
ended m R S f ts x c = (c.0, c.1, c.2, f c.0 x c.3)

pair : {A B : Type 0} (R S : Stands A) (T U : Stands B) → IsWithin R S → IsWithin T U → IsWithin (IsPair R T) (IsPair S U)
pair R S T U f g ts x c = (c.0, c.1, c.2, f c.0 x.0 c.3, g c.1 x.1 c.4)

each : {A : Type 0} (R S : Stands A) → IsWithin R S → (xs : List A) (ts : List Lexeme) → IsEach R ts xs → IsEach S ts xs
each R S f [] ts c = c
each R S f (x ∷ xs) ts c = (c.0, c.1, c.2, f c.0 x c.3, each R S f xs c.1 c.4)

made : {A B : Type 0} (h : A → B) (R S : Stands A) → IsWithin R S → IsWithin (IsMade h R) (IsMade h S)
made h R S f ts x c = (c.0, f ts c.0 c.1, c.2)

such : {A : Type 0} (test : A → Bool) (R S : Stands A) → IsWithin R S → IsWithin (IsSuch test R) (IsSuch test S)
such test R S f ts x c = (f ts x c.0, c.1)

-- ---- pieces

module _ (p : ℕ) (R S : Stands Formula) (f : IsWithin R S) where
  part : (s : Lexeme) → IsWithin (IsPart p R s) (IsPart p S s)
  part s = go s.symbol s.at
    where
      go : (y : Symbol) (at : Place) → IsWithin (IsPart p R (record { symbol = y; at = at })) (IsPart p S (record { symbol = y; at = at }))
      go (symbol.Operator o) at = such (λ l. priority l.0 == p) (IsMade (λ t. (o, at, t)) R) (IsMade (λ t. (o, at, t)) S) (made (λ t. (o, at, t)) R S f)
      go y at = λ ts x c. absurd c

  chains : IsWithin (IsChain p R) (IsChain p S)
  chains =
      made
      chain
      (IsSuch (λ c. may_chain p c.1) (IsPair R (IsEach (IsHeaded (IsPart p R)))))
      (IsSuch (λ c. may_chain p c.1) (IsPair S (IsEach (IsHeaded (IsPart p S)))))
      (such
      (λ c. may_chain p c.1)
      (IsPair R (IsEach (IsHeaded (IsPart p R))))
      (IsPair S (IsEach (IsHeaded (IsPart p S))))
      (pair R S (IsEach (IsHeaded (IsPart p R))) (IsEach (IsHeaded (IsPart p S))) f (λ ts xs c. each (IsHeaded (IsPart p R)) (IsHeaded (IsPart p S)) (headed (IsPart p R) (IsPart p S) part) xs ts c)))

cut : (levels : List ℕ) (R S : Stands Formula) → IsWithin R S → IsWithin (IsCutAt levels R) (IsCutAt levels S)
cut [] R S f = f
cut (p ∷ ps) R S f = chains p (IsCutAt ps R) (IsCutAt ps S) (cut ps R S f)

next : (R S : Stands Formula) → IsWithin R S → (s : Lexeme) → IsWithin (IsNext R s) (IsNext S s)
next R S f s = go s.symbol s.at
  where
    go : (y : Symbol) (at : Place) → IsWithin (IsNext R (record { symbol = y; at = at })) (IsNext S (record { symbol = y; at = at }))
    go (symbol.Mark sign.Comma) at = made (λ t. (at, t)) R S f
    go y at = λ ts x c. absurd c

list : (R S : Stands Formula) → IsWithin R S → IsWithin (IsList R) (IsList S)
list R S f = pair R S (IsEach (IsHeaded (IsNext R))) (IsEach (IsHeaded (IsNext S))) f (λ ts xs c. each (IsHeaded (IsNext R)) (IsHeaded (IsNext S)) (headed (IsNext R) (IsNext S) (next R S f)) xs ts c)

-- ---- operands

module _ (P Q : List ℕ → Stands Formula) (f : (levels : List ℕ) → IsWithin (P levels) (Q levels)) where
  ended_list : (m : Mark) → IsWithin (IsEnded m (IsList (P bracketed))) (IsEnded m (IsList (Q bracketed)))
  ended_list m = ended m (IsList (P bracketed)) (IsList (Q bracketed)) (list (P bracketed) (Q bracketed) (f bracketed))

  ended_at : (m : Mark) (levels : List ℕ) → IsWithin (IsEnded m (P levels)) (IsEnded m (Q levels))
  ended_at m levels = ended m (P levels) (Q levels) (f levels)

  listing : (close : Mark) (node : List Formula → Formula) → IsWithin (IsListing P close node) (IsListing Q close node)
  listing close node ts t (inl c) = inl (made (λ us. node (items us)) (IsEnded close (IsList (P bracketed))) (IsEnded close (IsList (Q bracketed))) (ended_list close) ts t c)
  listing close node ts t (inr c) = inr c

  curly_by : (at : Place) (q : Names) → IsWithin (IsCurlyBy P at q) (IsCurlyBy Q at q)
  curly_by at None = listing sign.CurlyClose (formula.Set at)
  curly_by at (Some p) = λ ts t c. made (formula.Comprehension at p.0) (IsEnded sign.CurlyClose (P bracketed)) (IsEnded sign.CurlyClose (Q bracketed)) (ended_at sign.CurlyClose bracketed) p.1 t c

  conditional : (at : Place) → IsWithin (IsConditional P at) (IsConditional Q at)
  conditional at =
      made
      (λ (x : Formula × (Formula × Formula)). formula.If at x.0 x.1.0 x.1.1)
      (IsPair (IsEnded sign.Then (P plain)) (IsPair (IsEnded sign.Else (P plain)) (IsEnded sign.End (P plain))))
      (IsPair (IsEnded sign.Then (Q plain)) (IsPair (IsEnded sign.Else (Q plain)) (IsEnded sign.End (Q plain))))
      (pair
      (IsEnded sign.Then (P plain))
      (IsEnded sign.Then (Q plain))
      (IsPair (IsEnded sign.Else (P plain)) (IsEnded sign.End (P plain)))
      (IsPair (IsEnded sign.Else (Q plain)) (IsEnded sign.End (Q plain)))
      (ended_at sign.Then plain)
      (pair (IsEnded sign.Else (P plain)) (IsEnded sign.Else (Q plain)) (IsEnded sign.End (P plain)) (IsEnded sign.End (Q plain)) (ended_at sign.Else plain) (ended_at sign.End plain)))

  marked : (m : Mark) (at : Place) → IsWithin (IsMarked P m at) (IsMarked Q m at)
  marked sign.RoundOpen at = made (joined operator.Maplet) (IsEnded sign.RoundClose (IsList (P bracketed))) (IsEnded sign.RoundClose (IsList (Q bracketed))) (ended_list sign.RoundClose)
  marked sign.CurlyOpen at = λ ts t c. curly_by at (names_to_bar ts) ts t c
  marked sign.SquareOpen at = listing sign.SquareClose (formula.Sequence at)
  marked sign.Empty at = λ ts t c. c
  marked sign.If at = conditional at
  marked m at = λ ts t c. absurd c

  call : (g : Function) (at : Place) (s : Lexeme) → IsWithin (IsCall P g at s) (IsCall Q g at s)
  call g at s = go s.symbol s.at
    where
      go : (y : Symbol) (to : Place) → IsWithin (IsCall P g at (record { symbol = y; at = to })) (IsCall Q g at (record { symbol = y; at = to }))
      go (symbol.Mark sign.RoundOpen) to =
          made
          (λ us. formula.Call at g us)
          (IsSuch (λ us. length us == arity g) (IsMade items (IsEnded sign.RoundClose (IsList (P bracketed)))))
          (IsSuch (λ us. length us == arity g) (IsMade items (IsEnded sign.RoundClose (IsList (Q bracketed)))))
          (such
          (λ us. length us == arity g)
          (IsMade items (IsEnded sign.RoundClose (IsList (P bracketed))))
          (IsMade items (IsEnded sign.RoundClose (IsList (Q bracketed))))
          (made items (IsEnded sign.RoundClose (IsList (P bracketed))) (IsEnded sign.RoundClose (IsList (Q bracketed))) (ended_list sign.RoundClose)))
      go y to = λ ts t c. absurd c

  old : (n : List ℕ) (at : Place) (s : Lexeme) → IsWithin (IsOld P n at s) (IsOld Q n at s)
  old n at s = go s.symbol s.at
    where
      go : (y : Symbol) (to : Place) → IsWithin (IsOld P n at (record { symbol = y; at = to })) (IsOld Q n at (record { symbol = y; at = to }))
      go (symbol.Mark sign.Old) to = λ ts t c. c
      go y to = λ ts t c. absurd c

  after_names : (F G : List Bound → Stands Formula) → ((ns : List Bound) → IsWithin (F ns) (G ns)) → (q : Names) (t : Formula) → IsAfterNames q F t → IsAfterNames q G t
  after_names F G h None t c = c
  after_names F G h (Some p) t c = h p.0 p.1 t c

  form : (s : Lexeme) → IsWithin (IsForm P s) (IsForm Q s)
  form s = go s.symbol s.at
    where
      named : (n : List ℕ) (at : Place) (ts : List Lexeme) (t : Formula) → IsEither (IsDone (formula.Name at n)) (IsHeaded (IsOld P n at)) ts t → IsEither (IsDone (formula.Name at n)) (IsHeaded (IsOld Q n at)) ts t
      named n at ts t (inl c) = inl c
      named n at ts t (inr c) = inr (headed (IsOld P n at) (IsOld Q n at) (old n at) ts t c)

      go : (y : Symbol) (at : Place) → IsWithin (IsForm P (record { symbol = y; at = at })) (IsForm Q (record { symbol = y; at = at }))
      go (symbol.Number n) at = λ ts t c. c
      go (symbol.Text x) at = λ ts t c. c
      go (symbol.Constant k) at = λ ts t c. c
      go (symbol.Name n) at = named n at
      go (symbol.Function g) at = headed (IsCall P g at) (IsCall Q g at) (call g at)
      go (symbol.Quantifier q) at =
          λ ts t c.
          after_names
          (λ ns. IsMade (formula.Quantified at q ns) (IsEnded sign.RoundClose (P bracketed)))
          (λ ns. IsMade (formula.Quantified at q ns) (IsEnded sign.RoundClose (Q bracketed)))
          (λ ns. made (formula.Quantified at q ns) (IsEnded sign.RoundClose (P bracketed)) (IsEnded sign.RoundClose (Q bracketed)) (ended_at sign.RoundClose bracketed))
          (bound_names ts)
          t
          c
      go (symbol.Collector k) at =
          λ ts t c.
          after_names
          (λ ns. IsMade (λ (x : Formula × Formula). formula.Collected at k ns x.0 x.1) (IsPair (IsEnded sign.Bar (P bracketed)) (IsEnded sign.RoundClose (P bracketed))))
          (λ ns. IsMade (λ (x : Formula × Formula). formula.Collected at k ns x.0 x.1) (IsPair (IsEnded sign.Bar (Q bracketed)) (IsEnded sign.RoundClose (Q bracketed))))
          (λ ns.
          made
          (λ (x : Formula × Formula). formula.Collected at k ns x.0 x.1)
          (IsPair (IsEnded sign.Bar (P bracketed)) (IsEnded sign.RoundClose (P bracketed)))
          (IsPair (IsEnded sign.Bar (Q bracketed)) (IsEnded sign.RoundClose (Q bracketed)))
          (pair (IsEnded sign.Bar (P bracketed)) (IsEnded sign.Bar (Q bracketed)) (IsEnded sign.RoundClose (P bracketed)) (IsEnded sign.RoundClose (Q bracketed)) (ended_at sign.Bar bracketed) (ended_at sign.RoundClose bracketed)))
          (bound_names ts)
          t
          c
      go (symbol.Mark m) at = marked m at
      go (symbol.Operator o) at = λ ts t c. absurd c
      go symbol.Other at = λ ts t c. absurd c

  one_after : (s : Lexeme) → IsWithin (IsAfter P s) (IsAfter Q s)
  one_after s = go s.symbol s.at
    where
      go : (y : Symbol) (at : Place) → IsWithin (IsAfter P (record { symbol = y; at = at })) (IsAfter Q (record { symbol = y; at = at }))
      go (symbol.Mark sign.Converse) at = λ ts x c. c
      go (symbol.Mark sign.RoundOpen) at =
          made (λ us. after.Apply at (joined operator.Comma us)) (IsEnded sign.RoundClose (IsList (P bracketed))) (IsEnded sign.RoundClose (IsList (Q bracketed))) (ended_list sign.RoundClose)
      go (symbol.Mark sign.SquareOpen) at = made (after.Image at) (IsEnded sign.SquareClose (P bracketed)) (IsEnded sign.SquareClose (Q bracketed)) (ended_at sign.SquareClose bracketed)
      go y at = λ ts x c. absurd c

  rows : IsWithin (IsRow P) (IsRow Q)
  rows =
      made
      row
      (IsPair (IsHeaded (IsForm P)) (IsEach (IsHeaded (IsAfter P))))
      (IsPair (IsHeaded (IsForm Q)) (IsEach (IsHeaded (IsAfter Q))))
      (pair
      (IsHeaded (IsForm P))
      (IsHeaded (IsForm Q))
      (IsEach (IsHeaded (IsAfter P)))
      (IsEach (IsHeaded (IsAfter Q)))
      (headed (IsForm P) (IsForm Q) form)
      (λ ts xs c. each (IsHeaded (IsAfter P)) (IsHeaded (IsAfter Q)) (headed (IsAfter P) (IsAfter Q) one_after) xs ts c))

  operand : IsWithin (IsOperand P) (IsOperand Q)
  operand = headed (λ s. IsSigned P s (is_minus s.symbol)) (λ s. IsSigned Q s (is_minus s.symbol)) (λ s. signed s (is_minus s.symbol))
    where
      signed : (s : Lexeme) (b : Bool) → IsWithin (IsSigned P s b) (IsSigned Q s b)
      signed s true = made (formula.Negative s.at) (IsRow P) (IsRow Q) rows
      signed s false = λ ts t c. rows (s ∷ ts) t c

-- ---- formulas

one_deeper : (depth : ℕ) (levels : List ℕ) → IsWithin (IsFormula depth levels) (IsFormula (suc depth) levels)
unfolding IsFormula
one_deeper zero levels = cut levels (IsOperand (λ ps. IsNever)) (IsOperand (IsFormula zero)) (operand (λ ps. IsNever) (IsFormula zero) (λ ps ts t c. absurd c))
one_deeper (suc depth) levels = cut levels (IsOperand (IsFormula depth)) (IsOperand (IsFormula (suc depth))) (operand (IsFormula depth) (IsFormula (suc depth)) (one_deeper depth))

abbrev deeper : ℕ → ℕ → ℕ
deeper zero depth = depth
deeper (suc k) depth = suc (deeper k depth)

deeper_is : (k depth : ℕ) → deeper k depth ≡ k + depth
deeper_is zero depth = omega arith
deeper_is (suc k) depth = let e : deeper k depth ≡ k + depth = deeper_is k depth in omega arith

much_deeper : (k depth : ℕ) (levels : List ℕ) → IsWithin (IsFormula depth levels) (IsFormula (deeper k depth) levels)
much_deeper zero depth levels ts t c = c
much_deeper (suc k) depth levels ts t c = one_deeper (deeper k depth) levels ts t (much_deeper k depth levels ts t c)

-- a list of lexemes stands for at most one tree
pub one_text : (ts : List Lexeme) (t u : Formula) → IsFormulaText ts t → IsFormulaText ts u → t ≡ u
one_text ts t u c d =
    let same : deeper d.0 c.0 ≡ deeper c.0 d.0 = omega (arith, deeper_is d.0 c.0, deeper_is c.0 d.0) in
    let e : IsFormula (deeper c.0 d.0) plain ts t = subst (λ k. IsFormula k plain ts t) same (much_deeper d.0 c.0 plain ts t c.1) in
    descent.one_tree (deeper c.0 d.0) ts t u e (much_deeper c.0 d.0 plain ts u d.1)
