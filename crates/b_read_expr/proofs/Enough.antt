-- No more brackets are open in a formula than it has lexemes.
use Rattle.std.proofs.Common.{◌≡◌, inl, inr, ◌+◌, ◌==◌, ◌≤◌, ℕ, zero, suc, Bool, true, false, List, [], ◌∷◌, ◌++◌, length, Some, None, arith, refl, ap, ◌∙◌, length-append}
use Rattle.b_ast.specs.declared.Place.{Place}
use Rattle.b_ast.specs.declared.Bound.{Bound}
use Rattle.b_ast.specs.declared.Function.{Function}
use Rattle.b_ast.specs.declared.Operator.TheVariants as operator
use Rattle.b_ast.specs.declared.Formula.{Formula}
use Rattle.b_ast.specs.declared.Formula.TheVariants as formula
use Rattle.b_ast.specs.declared.After.TheVariants as after
use Rattle.b_grammar.specs.declared.Mark.{Mark}
use Rattle.b_grammar.specs.declared.Mark.TheVariants as sign
use Rattle.b_grammar.specs.declared.Symbol.{Symbol}
use Rattle.b_grammar.specs.declared.Symbol.TheVariants as symbol
use Rattle.b_grammar.specs.declared.Lexeme.{Lexeme}
use Rattle.b_grammar.specs.Cuts.{Stands, mark, IsNever, IsDone, IsHeaded, IsEnded, IsPair, IsEach, IsMade, IsSuch, IsEither}
use Rattle.b_grammar.specs.Grammar.{priority, plain, bracketed, may_chain, arity, chain, row, items, joined, Names, names_to_bar, bound_names, is_minus, IsAfterNames, IsPart, IsChain, IsCutAt, IsNext, IsList, IsListing, IsCurlyBy, IsConditional, IsMarked, IsCall, IsOld, IsForm, IsAfter, IsRow, IsSigned, IsOperand, IsFormula, IsFormulaText}
use Rattle.b_grammar.proofs.BoundNames.{bar_front, bound_front}

-- what one relation says of a list of at most n lexemes, the other says too
abbrev IsWithin : {A : Type 0} → ℕ → Stands A → Stands A → Type 0
IsWithin {A} n R S = (ts : List Lexeme) (x : A) → length ts ≤ n → R ts x → S ts x

front_short : (ts front back : List Lexeme) (n : ℕ) → ts ≡ front ++ back → length ts ≤ n → length front ≤ n
front_short ts front back n e h = let long : length ts ≡ length front + length back = ap length e ∙ length-append front back in omega arith

back_short : (ts front back : List Lexeme) (n : ℕ) → ts ≡ front ++ back → length ts ≤ n → length back ≤ n
back_short ts front back n e h = let long : length ts ≡ length front + length back = ap length e ∙ length-append front back in omega arith

headed : {A : Type 0} (n : ℕ) (F G : Lexeme → Stands A) → ((s : Lexeme) → IsWithin n (F s) (G s)) → IsWithin (suc n) (IsHeaded F) (IsHeaded G)
headed n F G f [] x h c = absurd c
headed n F G f (s ∷ ts) x h c = let short : length ts ≤ n = omega arith in f s ts x short c

-- nor where the first lexeme counts too
kept : {A : Type 0} (n : ℕ) (F G : Lexeme → Stands A) → ((s : Lexeme) → IsWithin n (F s) (G s)) → IsWithin n (IsHeaded F) (IsHeaded G)
kept n F G f [] x h c = absurd c
kept n F G f (s ∷ ts) x h c = let short : length ts ≤ n = omega arith in f s ts x short c

ended : {A : Type 0} (n : ℕ) (m : Mark) (R S : Stands A) → IsWithin n R S → IsWithin n (IsEnded m R) (IsEnded m S)
ended n m R S f ts x h c = (c.0, c.1, c.2, f c.0 x (front_short ts c.0 (mark m c.1 ∷ []) n c.2 h) c.3)

pair : {A B : Type 0} (n : ℕ) (R S : Stands A) (T U : Stands B) → IsWithin n R S → IsWithin n T U → IsWithin n (IsPair R T) (IsPair S U)
pair n R S T U f g ts x h c = (c.0, c.1, c.2, f c.0 x.0 (front_short ts c.0 c.1 n c.2 h) c.3, g c.1 x.1 (back_short ts c.0 c.1 n c.2 h) c.4)

each : {A : Type 0} (n : ℕ) (R S : Stands A) → IsWithin n R S → (xs : List A) (ts : List Lexeme) → length ts ≤ n → IsEach R ts xs → IsEach S ts xs
each n R S f [] ts h c = c
each n R S f (x ∷ xs) ts h c = (c.0, c.1, c.2, f c.0 x (front_short ts c.0 c.1 n c.2 h) c.3, each n R S f xs c.1 (back_short ts c.0 c.1 n c.2 h) c.4)

made : {A B : Type 0} (n : ℕ) (k : A → B) (R S : Stands A) → IsWithin n R S → IsWithin n (IsMade k R) (IsMade k S)
made n k R S f ts x h c = (c.0, f ts c.0 h c.1, c.2)

such : {A : Type 0} (n : ℕ) (test : A → Bool) (R S : Stands A) → IsWithin n R S → IsWithin n (IsSuch test R) (IsSuch test S)
such n test R S f ts x h c = (f ts x h c.0, c.1)

-- ---- pieces

module _ (n : ℕ) (p : ℕ) (R S : Stands Formula) (f : IsWithin n R S) where
  part : (s : Lexeme) → IsWithin n (IsPart p R s) (IsPart p S s)
  part s = go s.symbol s.at
    where
      go : (y : Symbol) (at : Place) → IsWithin n (IsPart p R (record { symbol = y; at = at })) (IsPart p S (record { symbol = y; at = at }))
      go (symbol.Operator o) at = such n (λ l. priority l.0 == p) (IsMade (λ t. (o, at, t)) R) (IsMade (λ t. (o, at, t)) S) (made n (λ t. (o, at, t)) R S f)
      go y at = λ ts x h c. absurd c

  chains : IsWithin n (IsChain p R) (IsChain p S)
  chains =
      made
      n
      chain
      (IsSuch (λ c. may_chain p c.1) (IsPair R (IsEach (IsHeaded (IsPart p R)))))
      (IsSuch (λ c. may_chain p c.1) (IsPair S (IsEach (IsHeaded (IsPart p S)))))
      (such
      n
      (λ c. may_chain p c.1)
      (IsPair R (IsEach (IsHeaded (IsPart p R))))
      (IsPair S (IsEach (IsHeaded (IsPart p S))))
      (pair n R S (IsEach (IsHeaded (IsPart p R))) (IsEach (IsHeaded (IsPart p S))) f (λ ts xs h c. each n (IsHeaded (IsPart p R)) (IsHeaded (IsPart p S)) (kept n (IsPart p R) (IsPart p S) part) xs ts h c)))

cut : (n : ℕ) (levels : List ℕ) (R S : Stands Formula) → IsWithin n R S → IsWithin n (IsCutAt levels R) (IsCutAt levels S)
cut n [] R S f = f
cut n (p ∷ ps) R S f = chains n p (IsCutAt ps R) (IsCutAt ps S) (cut n ps R S f)

next : (n : ℕ) (R S : Stands Formula) → IsWithin n R S → (s : Lexeme) → IsWithin n (IsNext R s) (IsNext S s)
next n R S f s = go s.symbol s.at
  where
    go : (y : Symbol) (at : Place) → IsWithin n (IsNext R (record { symbol = y; at = at })) (IsNext S (record { symbol = y; at = at }))
    go (symbol.Mark sign.Comma) at = made n (λ t. (at, t)) R S f
    go y at = λ ts x h c. absurd c

list : (n : ℕ) (R S : Stands Formula) → IsWithin n R S → IsWithin n (IsList R) (IsList S)
list n R S f = pair n R S (IsEach (IsHeaded (IsNext R))) (IsEach (IsHeaded (IsNext S))) f (λ ts xs h c. each n (IsHeaded (IsNext R)) (IsHeaded (IsNext S)) (kept n (IsNext R) (IsNext S) (next n R S f)) xs ts h c)

-- ---- operands

module _ (n : ℕ) (P Q : List ℕ → Stands Formula) (f : (levels : List ℕ) → IsWithin n (P levels) (Q levels)) where
  ended_list : (m : Mark) → IsWithin n (IsEnded m (IsList (P bracketed))) (IsEnded m (IsList (Q bracketed)))
  ended_list m = ended n m (IsList (P bracketed)) (IsList (Q bracketed)) (list n (P bracketed) (Q bracketed) (f bracketed))

  ended_at : (m : Mark) (levels : List ℕ) → IsWithin n (IsEnded m (P levels)) (IsEnded m (Q levels))
  ended_at m levels = ended n m (P levels) (Q levels) (f levels)

  listing : (close : Mark) (node : List Formula → Formula) → IsWithin n (IsListing P close node) (IsListing Q close node)
  listing close node ts t h (inl c) = inl (made n (λ us. node (items us)) (IsEnded close (IsList (P bracketed))) (IsEnded close (IsList (Q bracketed))) (ended_list close) ts t h c)
  listing close node ts t h (inr c) = inr c

  curly : (at : Place) → IsWithin n (λ ts t. IsCurlyBy P at (names_to_bar ts) ts t) (λ ts t. IsCurlyBy Q at (names_to_bar ts) ts t)
  curly at ts t h c = go (names_to_bar ts) refl c
    where
      go : (q : Names) → names_to_bar ts ≡ q → IsCurlyBy P at q ts t → IsCurlyBy Q at q ts t
      go None e c = listing sign.CurlyClose (formula.Set at) ts t h c
      go (Some p) e c =
          let d = bar_front ts p.0 p.1 e in
          made n (formula.Comprehension at p.0) (IsEnded sign.CurlyClose (P bracketed)) (IsEnded sign.CurlyClose (Q bracketed)) (ended_at sign.CurlyClose bracketed) p.1 t (back_short ts d.0 p.1 n d.1 h) c

  conditional : (at : Place) → IsWithin n (IsConditional P at) (IsConditional Q at)
  conditional at =
      made
      n
      (λ (x : Formula × (Formula × Formula)). formula.If at x.0 x.1.0 x.1.1)
      (IsPair (IsEnded sign.Then (P plain)) (IsPair (IsEnded sign.Else (P plain)) (IsEnded sign.End (P plain))))
      (IsPair (IsEnded sign.Then (Q plain)) (IsPair (IsEnded sign.Else (Q plain)) (IsEnded sign.End (Q plain))))
      (pair
      n
      (IsEnded sign.Then (P plain))
      (IsEnded sign.Then (Q plain))
      (IsPair (IsEnded sign.Else (P plain)) (IsEnded sign.End (P plain)))
      (IsPair (IsEnded sign.Else (Q plain)) (IsEnded sign.End (Q plain)))
      (ended_at sign.Then plain)
      (pair n (IsEnded sign.Else (P plain)) (IsEnded sign.Else (Q plain)) (IsEnded sign.End (P plain)) (IsEnded sign.End (Q plain)) (ended_at sign.Else plain) (ended_at sign.End plain)))

  marked : (m : Mark) (at : Place) → IsWithin n (IsMarked P m at) (IsMarked Q m at)
  marked sign.RoundOpen at = made n (joined operator.Maplet) (IsEnded sign.RoundClose (IsList (P bracketed))) (IsEnded sign.RoundClose (IsList (Q bracketed))) (ended_list sign.RoundClose)
  marked sign.CurlyOpen at = curly at
  marked sign.SquareOpen at = listing sign.SquareClose (formula.Sequence at)
  marked sign.Empty at = λ ts t h c. c
  marked sign.If at = conditional at
  marked m at = λ ts t h c. absurd c

  call : (g : Function) (at : Place) (s : Lexeme) → IsWithin n (IsCall P g at s) (IsCall Q g at s)
  call g at s = go s.symbol s.at
    where
      go : (y : Symbol) (to : Place) → IsWithin n (IsCall P g at (record { symbol = y; at = to })) (IsCall Q g at (record { symbol = y; at = to }))
      go (symbol.Mark sign.RoundOpen) to =
          made
          n
          (λ us. formula.Call at g us)
          (IsSuch (λ us. length us == arity g) (IsMade items (IsEnded sign.RoundClose (IsList (P bracketed)))))
          (IsSuch (λ us. length us == arity g) (IsMade items (IsEnded sign.RoundClose (IsList (Q bracketed)))))
          (such
          n
          (λ us. length us == arity g)
          (IsMade items (IsEnded sign.RoundClose (IsList (P bracketed))))
          (IsMade items (IsEnded sign.RoundClose (IsList (Q bracketed))))
          (made n items (IsEnded sign.RoundClose (IsList (P bracketed))) (IsEnded sign.RoundClose (IsList (Q bracketed))) (ended_list sign.RoundClose)))
      go y to = λ ts t h c. absurd c

  old : (k : List ℕ) (at : Place) (s : Lexeme) → IsWithin n (IsOld P k at s) (IsOld Q k at s)
  old k at s = go s.symbol s.at
    where
      go : (y : Symbol) (to : Place) → IsWithin n (IsOld P k at (record { symbol = y; at = to })) (IsOld Q k at (record { symbol = y; at = to }))
      go (symbol.Mark sign.Old) to = λ ts t h c. c
      go y to = λ ts t h c. absurd c

  after_names : (F G : List Bound → Stands Formula) → ((ns : List Bound) → IsWithin n (F ns) (G ns)) → IsWithin n (λ ts t. IsAfterNames (bound_names ts) F t) (λ ts t. IsAfterNames (bound_names ts) G t)
  after_names F G k ts t h c = go (bound_names ts) refl c
    where
      go : (q : Names) → bound_names ts ≡ q → IsAfterNames q F t → IsAfterNames q G t
      go None e c = c
      go (Some p) e c = let d = bound_front ts p.0 p.1 e in k p.0 p.1 t (back_short ts d.0 p.1 n d.1 h) c

  form : (s : Lexeme) → IsWithin n (IsForm P s) (IsForm Q s)
  form s = go s.symbol s.at
    where
      named : (k : List ℕ) (at : Place) (ts : List Lexeme) (t : Formula) → length ts ≤ n → IsEither (IsDone (formula.Name at k)) (IsHeaded (IsOld P k at)) ts t → IsEither (IsDone (formula.Name at k)) (IsHeaded (IsOld Q k at)) ts t
      named k at ts t h (inl c) = inl c
      named k at ts t h (inr c) = inr (kept n (IsOld P k at) (IsOld Q k at) (old k at) ts t h c)

      go : (y : Symbol) (at : Place) → IsWithin n (IsForm P (record { symbol = y; at = at })) (IsForm Q (record { symbol = y; at = at }))
      go (symbol.Number k) at = λ ts t h c. c
      go (symbol.Text x) at = λ ts t h c. c
      go (symbol.Constant k) at = λ ts t h c. c
      go (symbol.Name k) at = named k at
      go (symbol.Function g) at = kept n (IsCall P g at) (IsCall Q g at) (call g at)
      go (symbol.Quantifier q) at =
          after_names
          (λ ns. IsMade (formula.Quantified at q ns) (IsEnded sign.RoundClose (P bracketed)))
          (λ ns. IsMade (formula.Quantified at q ns) (IsEnded sign.RoundClose (Q bracketed)))
          (λ ns. made n (formula.Quantified at q ns) (IsEnded sign.RoundClose (P bracketed)) (IsEnded sign.RoundClose (Q bracketed)) (ended_at sign.RoundClose bracketed))
      go (symbol.Collector k) at =
          after_names
          (λ ns. IsMade (λ (x : Formula × Formula). formula.Collected at k ns x.0 x.1) (IsPair (IsEnded sign.Bar (P bracketed)) (IsEnded sign.RoundClose (P bracketed))))
          (λ ns. IsMade (λ (x : Formula × Formula). formula.Collected at k ns x.0 x.1) (IsPair (IsEnded sign.Bar (Q bracketed)) (IsEnded sign.RoundClose (Q bracketed))))
          (λ ns.
          made
          n
          (λ (x : Formula × Formula). formula.Collected at k ns x.0 x.1)
          (IsPair (IsEnded sign.Bar (P bracketed)) (IsEnded sign.RoundClose (P bracketed)))
          (IsPair (IsEnded sign.Bar (Q bracketed)) (IsEnded sign.RoundClose (Q bracketed)))
          (pair n (IsEnded sign.Bar (P bracketed)) (IsEnded sign.Bar (Q bracketed)) (IsEnded sign.RoundClose (P bracketed)) (IsEnded sign.RoundClose (Q bracketed)) (ended_at sign.Bar bracketed) (ended_at sign.RoundClose bracketed)))
      go (symbol.Mark m) at = marked m at
      go (symbol.Operator o) at = λ ts t h c. absurd c
      go symbol.Other at = λ ts t h c. absurd c

  one_after : (s : Lexeme) → IsWithin n (IsAfter P s) (IsAfter Q s)
  one_after s = go s.symbol s.at
    where
      go : (y : Symbol) (at : Place) → IsWithin n (IsAfter P (record { symbol = y; at = at })) (IsAfter Q (record { symbol = y; at = at }))
      go (symbol.Mark sign.Converse) at = λ ts x h c. c
      go (symbol.Mark sign.RoundOpen) at =
          made n (λ us. after.Apply at (joined operator.Comma us)) (IsEnded sign.RoundClose (IsList (P bracketed))) (IsEnded sign.RoundClose (IsList (Q bracketed))) (ended_list sign.RoundClose)
      go (symbol.Mark sign.SquareOpen) at = made n (after.Image at) (IsEnded sign.SquareClose (P bracketed)) (IsEnded sign.SquareClose (Q bracketed)) (ended_at sign.SquareClose bracketed)
      go y at = λ ts x h c. absurd c

  rows : IsWithin (suc n) (IsRow P) (IsRow Q)
  rows =
      made
      (suc n)
      row
      (IsPair (IsHeaded (IsForm P)) (IsEach (IsHeaded (IsAfter P))))
      (IsPair (IsHeaded (IsForm Q)) (IsEach (IsHeaded (IsAfter Q))))
      (pair
      (suc n)
      (IsHeaded (IsForm P))
      (IsHeaded (IsForm Q))
      (IsEach (IsHeaded (IsAfter P)))
      (IsEach (IsHeaded (IsAfter Q)))
      (headed n (IsForm P) (IsForm Q) form)
      (λ ts xs h c. each (suc n) (IsHeaded (IsAfter P)) (IsHeaded (IsAfter Q)) (headed n (IsAfter P) (IsAfter Q) one_after) xs ts h c))

  operand : IsWithin (suc n) (IsOperand P) (IsOperand Q)
  operand [] t h c = absurd c
  operand (s ∷ ts) t h c = go (is_minus s.symbol) c
    where
      go : (b : Bool) → IsSigned P s b ts t → IsSigned Q s b ts t
      go true c = let short : length ts ≤ suc n = omega arith in made (suc n) (formula.Negative s.at) (IsRow P) (IsRow Q) rows ts t short c
      go false c = rows (s ∷ ts) t h c

-- ---- formulas

-- no lexeme is left behind a bracket
nothing : (P Q : List ℕ → Stands Formula) → IsWithin zero (IsOperand P) (IsOperand Q)
nothing P Q [] t h c = absurd c
nothing P Q (s ∷ ts) t h c = absurd (omega arith)

enough : (n depth : ℕ) (levels : List ℕ) → IsWithin n (IsFormula depth levels) (IsFormula n levels)
unfolding IsFormula
enough zero zero levels = λ ts t h c. c
enough zero (suc depth) levels = cut zero levels (IsOperand (IsFormula depth)) (IsOperand (λ ps. IsNever)) (nothing (IsFormula depth) (λ ps. IsNever))
enough (suc n) zero levels = cut (suc n) levels (IsOperand (λ ps. IsNever)) (IsOperand (IsFormula n)) (operand n (λ ps. IsNever) (IsFormula n) (λ ps ts t h c. absurd c))
enough (suc n) (suc depth) levels = cut (suc n) levels (IsOperand (IsFormula depth)) (IsOperand (IsFormula n)) (operand n (IsFormula depth) (IsFormula n) (enough n depth))

-- a formula is one in which at most as many brackets are open as it has lexemes
pub few_open : (ts : List Lexeme) (t : Formula) → IsFormulaText ts t → IsFormula (length ts) plain ts t
few_open ts t c = enough (length ts) c.0 plain ts t (omega arith) c.1
