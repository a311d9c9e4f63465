-- The pieces of a canonical text are read as the parts of its tree.
use Rattle.std.proofs.Common.{◌≡◌, ◌≢◌, ◌==◌, ℕ, List, [], ◌∷◌, ◌++◌, length, map, None, refl, sym, ap, ◌∙◌, subst, eq-eqb}
use Rattle.std.specs.List.{AllByRecursion}
use Rattle.b_ast.specs.declared.Place.{Place}
use Rattle.b_ast.specs.declared.Bound.{Bound}
use Rattle.b_ast.specs.declared.Constant.{Constant}
use Rattle.b_ast.specs.declared.Function.{Function}
use Rattle.b_ast.specs.declared.Function.TheVariants as function
use Rattle.b_ast.specs.declared.Quantifier.{Quantifier}
use Rattle.b_ast.specs.declared.Collector.{Collector}
use Rattle.b_ast.specs.declared.Operator.{Operator}
use Rattle.b_ast.specs.declared.Operator.TheVariants as operator
use Rattle.b_ast.specs.declared.Formula.{Formula}
use Rattle.b_ast.specs.declared.Formula.TheVariants as formula
use Rattle.b_ast.specs.declared.After.{After}
use Rattle.b_ast.specs.declared.After.TheVariants as after
use Rattle.b_grammar.specs.declared.Mark.{Mark}
use Rattle.b_grammar.specs.declared.Mark.TheVariants as sign
use Rattle.b_grammar.specs.declared.Symbol.{Symbol}
use Rattle.b_grammar.specs.declared.Symbol.TheVariants as symbol
use Rattle.b_grammar.specs.declared.Lexeme.{Lexeme}
use Rattle.b_grammar.specs.Cuts.{Stands, IsDone, IsHeaded, IsEnded, IsPair, IsEach, IsMade, IsSuch}
use Rattle.b_grammar.specs.Grammar.{Listed, Names, row, items, joined, plain, bracketed, arity, names_to_bar, bound_names, is_minus, IsAfterNames, IsNext, IsList, IsListing, IsCurly, IsCurlyBy, IsCall, IsOld, IsForm, IsAfter, IsRow, IsSigned, IsOperand}
use Rattle.b_reading_back.specs.Laws.{symbols}
use Rattle.b_reading_back.specs.Places.{nowhere, bare, bare_after, bare_bounds}
use Rattle.b_reading_back.specs.Symbols.{ended, round, commas, comma_each, names_to, binder_names, collector_names, afters, symbols_at, after_symbols}
use Rattle.b_reading_back.proofs.Ways.{IsRead, done_as, headed, closed, pair, no_more, one_more, made, such, first, second, first_alone}
use Rattle.b_reading_back.proofs.Bare.{bare-Number, bare-Text, bare-Name, bare-Old, bare-Constant, bare-Negative, bare-Row, bare-Call, bare-Set, bare-Sequence, bare-Comprehension, bare-Quantified, bare-Collected, bare-If, bare-Converse, bare-Apply, bare-Image}
use Rattle.b_reading_back.proofs.BinderNames.{bars, bar_names, by_binder, by_collector, no_bar, listed_bars}

-- ---- lists

abbrev pub next_look : Place × Formula → Formula
next_look u = bare u.1

abbrev pub list_look : Listed → Formula × List Formula
list_look p = (bare p.0, map next_look p.1)

first_is : (x : Listed) (b : Formula) (bs : List Formula) → ◌≡◌ {A = Formula × List Formula} (list_look x) (b, bs) → bare x.0 ≡ b
first_is x b bs e = ap (λ (p : Formula × List Formula). p.0) e

rest_is : (x : Listed) (b : Formula) (bs : List Formula) → ◌≡◌ {A = Formula × List Formula} (list_look x) (b, bs) → map next_look x.1 ≡ bs
rest_is x b bs e = ap (λ (p : Formula × List Formula). p.1) e

seconds : (us : List (Place × Formula)) → map bare (map (λ (u : Place × Formula). u.1) us) ≡ map next_look us
seconds [] = refl
seconds (u ∷ us) = ap (λ (l : List Formula). bare u.1 ∷ l) (seconds us)

items_look : (x : Listed) (b : Formula) (bs : List Formula) → ◌≡◌ {A = Formula × List Formula} (list_look x) (b, bs) → map bare (items x) ≡ b ∷ bs
items_look x b bs e =
    ap (λ (l : List Formula). bare x.0 ∷ l) (seconds x.1 ∙ rest_is x b bs e) ∙ ap (λ (f : Formula). f ∷ bs) (first_is x b bs e)

joined_one : (o : Operator) (x : Listed) (b : Formula) → ◌≡◌ {A = Formula × List Formula} (list_look x) (b, []) → bare (joined o x) ≡ b
joined_one o x b e = go x.1 (rest_is x b [] e)
  where
    go : (us : List (Place × Formula)) → map next_look us ≡ [] → bare (joined o (x.0, us)) ≡ b
    go [] i = first_is x b [] e
    go (u ∷ us) i = absurd (cc)

same_length : (xs ys : List Formula) → map bare xs ≡ map bare ys → length xs ≡ length ys
same_length [] [] e = refl
same_length [] (y ∷ ys) e = absurd (cc)
same_length (x ∷ xs) [] e = absurd (cc)
same_length (x ∷ xs) (y ∷ ys) e =
    let tail : map bare xs ≡ map bare ys = cc in
    let k : length xs ≡ length ys = same_length xs ys tail in
    cc

next_each : (R : Stands Formula) (us : List Formula) → AllByRecursion (λ u. IsRead R bare (symbols_at u 0) (bare u)) us → IsRead (IsEach (IsHeaded (IsNext R))) (map next_look) (comma_each (map symbols_at us)) (map bare us)
next_each R [] h = no_more (IsHeaded (IsNext R)) next_look
next_each R (u ∷ us) h =
    one_more (IsHeaded (IsNext R)) next_look (symbol.Mark sign.Comma ∷ symbols_at u 0) (comma_each (map symbols_at us)) (bare u) (map bare us)
    (headed (IsNext R) next_look (symbol.Mark sign.Comma) (symbols_at u 0) (bare u) (λ at. made (λ t. (at, t)) R bare (symbols_at u 0) (bare u) next_look (bare u) h.0 (λ x e. e)))
    (next_each R us h.1)

pub several : (R : Stands Formula) (u : Formula) (us : List Formula) → AllByRecursion (λ u. IsRead R bare (symbols_at u 0) (bare u)) (u ∷ us)
    → IsRead {B = Formula × List Formula} (IsList R) list_look (commas (map symbols_at (u ∷ us))) (bare u, map bare us)
several R u us h = pair R (IsEach (IsHeaded (IsNext R))) bare (map next_look) (symbols_at u 0) (comma_each (map symbols_at us)) (bare u) (map bare us) h.0 (next_each R us h.1)

pub single : (R : Stands Formula) (ss : List Symbol) (b : Formula) → IsRead R bare ss b → IsRead {B = Formula × List Formula} (IsList R) list_look ss (b, [])
single R ss b r = first_alone R (IsEach (IsHeaded (IsNext R))) bare (map next_look) ss b [] r (no_more (IsHeaded (IsNext R)) next_look)

-- ---- operands

module _ (P : List ℕ → Stands Formula) where
  abbrev pub FormIs : List Symbol → Formula → Type 0
  FormIs ss b = IsRead (IsHeaded (IsForm P)) bare ss b

  pub number : (n : ℕ) → FormIs (symbol.Number n ∷ []) (formula.Number nowhere n)
  number n = headed (IsForm P) bare (symbol.Number n) [] (formula.Number nowhere n) (λ at. done_as (formula.Number at n) bare (formula.Number nowhere n) (bare-Number at n))

  pub text : (s : List ℕ) → FormIs (symbol.Text s ∷ []) (formula.Text nowhere s)
  text s = headed (IsForm P) bare (symbol.Text s) [] (formula.Text nowhere s) (λ at. done_as (formula.Text at s) bare (formula.Text nowhere s) (bare-Text at s))

  pub constant : (c : Constant) → FormIs (symbol.Constant c ∷ []) (formula.Constant nowhere c)
  constant c = headed (IsForm P) bare (symbol.Constant c) [] (formula.Constant nowhere c) (λ at. done_as (formula.Constant at c) bare (formula.Constant nowhere c) (bare-Constant at c))

  pub name : (x : List ℕ) → FormIs (symbol.Name x ∷ []) (formula.Name nowhere x)
  name x =
      headed (IsForm P) bare (symbol.Name x) [] (formula.Name nowhere x)
      (λ at. first (IsDone (formula.Name at x)) (IsHeaded (IsOld P x at)) bare [] (formula.Name nowhere x) (done_as (formula.Name at x) bare (formula.Name nowhere x) (bare-Name at x)))

  pub old : (x : List ℕ) → FormIs (symbol.Name x ∷ symbol.Mark sign.Old ∷ []) (formula.Old nowhere x)
  old x =
      headed (IsForm P) bare (symbol.Name x) (symbol.Mark sign.Old ∷ []) (formula.Old nowhere x)
      (λ at.
      second (IsDone (formula.Name at x)) (IsHeaded (IsOld P x at)) bare (symbol.Mark sign.Old ∷ []) (formula.Old nowhere x)
      (headed (IsOld P x at) bare (symbol.Mark sign.Old) [] (formula.Old nowhere x) (λ to. done_as (formula.Old at x) bare (formula.Old nowhere x) (bare-Old at x))))

  -- ---- in brackets

  pub in_round : (ss : List Symbol) (b : Formula) → IsRead (P bracketed) bare ss b → FormIs (round ss) b
  in_round ss b r =
      headed (IsForm P) bare (symbol.Mark sign.RoundOpen) (ended ss sign.RoundClose) b
      (λ at.
      made {C = Formula × List Formula} (joined operator.Maplet) (IsEnded sign.RoundClose (IsList (P bracketed))) list_look (ended ss sign.RoundClose) (b, []) bare b
      (closed {B = Formula × List Formula} sign.RoundClose (IsList (P bracketed)) list_look ss (b, []) (single (P bracketed) ss b r))
      (λ x e. joined_one operator.Maplet x b e))

  abbrev pub AreInner : List Formula → Type 0
  AreInner us = AllByRecursion (λ u. IsRead (P bracketed) bare (symbols_at u 0) (bare u)) us

  listing : (m : Mark) (node : List Formula → Formula) (us : List Formula) (b : Formula) → AreInner us → ((x : List Formula) → map bare x ≡ map bare us → bare (node x) ≡ b)
      → IsRead (IsListing P m node) bare (ended (commas (map symbols_at us)) m) b
  listing m node [] b h f =
      second (IsMade (λ us. node (items us)) (IsEnded m (IsList (P bracketed)))) (IsEnded m (IsDone (node []))) bare (ended [] m) b
      (closed m (IsDone (node [])) bare [] b (done_as (node []) bare b (f [] refl)))
  listing m node (u ∷ us) b h f =
      first (IsMade (λ us. node (items us)) (IsEnded m (IsList (P bracketed)))) (IsEnded m (IsDone (node []))) bare (ended (commas (map symbols_at (u ∷ us))) m) b
      (made {C = Formula × List Formula} (λ us. node (items us)) (IsEnded m (IsList (P bracketed))) list_look (ended (commas (map symbols_at (u ∷ us))) m) (bare u, map bare us) bare b
      (closed {B = Formula × List Formula} m (IsList (P bracketed)) list_look (commas (map symbols_at (u ∷ us))) (bare u, map bare us) (several (P bracketed) u us h))
      (λ x e. f (items x) (items_look x (bare u) (map bare us) e)))

  pub sequence : (us : List Formula) → AreInner us → FormIs (symbol.Mark sign.SquareOpen ∷ ended (commas (map symbols_at us)) sign.SquareClose) (formula.Sequence nowhere (map bare us))
  sequence us h =
      headed (IsForm P) bare (symbol.Mark sign.SquareOpen) (ended (commas (map symbols_at us)) sign.SquareClose) (formula.Sequence nowhere (map bare us))
      (λ at. listing sign.SquareClose (formula.Sequence at) us (formula.Sequence nowhere (map bare us)) h (λ x e. bare-Sequence at x ∙ ap (λ l. formula.Sequence nowhere l) e))

  pub set : (us : List Formula) → AreInner us → FormIs (symbol.Mark sign.CurlyOpen ∷ ended (commas (map symbols_at us)) sign.CurlyClose) (formula.Set nowhere (map bare us))
  set us h = headed (IsForm P) bare (symbol.Mark sign.CurlyOpen) (ended (commas (map symbols_at us)) sign.CurlyClose) (formula.Set nowhere (map bare us)) (λ at. curly at)
    where
      listed : (at : Place) → IsRead (IsListing P sign.CurlyClose (formula.Set at)) bare (ended (commas (map symbols_at us)) sign.CurlyClose) (formula.Set nowhere (map bare us))
      listed at = listing sign.CurlyClose (formula.Set at) us (formula.Set nowhere (map bare us)) h (λ x e. bare-Set at x ∙ ap (λ l. formula.Set nowhere l) e)

      curly : (at : Place) → IsRead (IsCurly P at) bare (ended (commas (map symbols_at us)) sign.CurlyClose) (formula.Set nowhere (map bare us))
      curly at = record { read = go }
        where
          go : (ts : List Lexeme) → symbols ts ≡ ended (commas (map symbols_at us)) sign.CurlyClose → (t : Formula) × IsCurly P at ts t × (bare t ≡ formula.Set nowhere (map bare us))
          go ts e =
              let x = (listed at).read ts e in
              let none : ◌≡◌ {A = Names} (names_to_bar ts) None = no_bar ts (ap (λ l. bars l) e ∙ listed_bars us) in
              (x.0, subst (λ (q : Names). IsCurlyBy P at q ts x.0) (sym none) x.1, x.2)

  pub comprehension : (ns : List Bound) (ss : List Symbol) (b : Formula) → ns ≢ [] → IsRead (P bracketed) bare ss b
      → FormIs (symbol.Mark sign.CurlyOpen ∷ (names_to sign.Bar ns ++ ended ss sign.CurlyClose)) (formula.Comprehension nowhere (bare_bounds ns) b)
  comprehension ns ss b ne r = headed (IsForm P) bare (symbol.Mark sign.CurlyOpen) (names_to sign.Bar ns ++ ended ss sign.CurlyClose) (formula.Comprehension nowhere (bare_bounds ns) b) (λ at. record { read = go at })
    where
      go : (at : Place) (ts : List Lexeme) → symbols ts ≡ names_to sign.Bar ns ++ ended ss sign.CurlyClose → (t : Formula) × IsCurly P at ts t × (bare t ≡ formula.Comprehension nowhere (bare_bounds ns) b)
      go at ts e =
          let n = bar_names ns (ended ss sign.CurlyClose) ts ne e in
          let x = (closed sign.CurlyClose (P bracketed) bare ss b r).read n.rest n.left in (
            formula.Comprehension at n.bounds x.0,
            subst (λ (q : Names). IsCurlyBy P at q ts (formula.Comprehension at n.bounds x.0)) (sym n.is) (x.0, x.1, refl),
            bare-Comprehension at n.bounds x.0 ∙ ap (λ l. formula.Comprehension nowhere l (bare x.0)) n.same ∙ ap (λ f. formula.Comprehension nowhere (bare_bounds ns) f) x.2,
          )

  pub quantified : (q : Quantifier) (ns : List Bound) (ss : List Symbol) (b : Formula) → ns ≢ [] → IsRead (P bracketed) bare ss b
      → FormIs (symbol.Quantifier q ∷ (binder_names ns ++ ended ss sign.RoundClose)) (formula.Quantified nowhere q (bare_bounds ns) b)
  quantified q ns ss b ne r = headed (IsForm P) bare (symbol.Quantifier q) (binder_names ns ++ ended ss sign.RoundClose) (formula.Quantified nowhere q (bare_bounds ns) b) (λ at. record { read = go at })
    where
      go : (at : Place) (ts : List Lexeme) → symbols ts ≡ binder_names ns ++ ended ss sign.RoundClose
          → (t : Formula) × IsAfterNames (bound_names ts) (λ bs. IsMade (formula.Quantified at q bs) (IsEnded sign.RoundClose (P bracketed))) t × (bare t ≡ formula.Quantified nowhere q (bare_bounds ns) b)
      go at ts e =
          let n = by_binder ns (ended ss sign.RoundClose) ts ne e in
          let x = (closed sign.RoundClose (P bracketed) bare ss b r).read n.rest n.left in (
            formula.Quantified at q n.bounds x.0,
            subst (λ (k : Names). IsAfterNames k (λ bs. IsMade (formula.Quantified at q bs) (IsEnded sign.RoundClose (P bracketed))) (formula.Quantified at q n.bounds x.0)) (sym n.is) (x.0, x.1, refl),
            bare-Quantified at q n.bounds x.0 ∙ ap (λ l. formula.Quantified nowhere q l (bare x.0)) n.same ∙ ap (λ f. formula.Quantified nowhere q (bare_bounds ns) f) x.2,
          )

  pub collected : (c : Collector) (ns : List Bound) (ss rs : List Symbol) (b d : Formula) → ns ≢ [] → IsRead (P bracketed) bare ss b → IsRead (P bracketed) bare rs d
      → FormIs (symbol.Collector c ∷ (collector_names c ns ++ (ended ss sign.Bar ++ ended rs sign.RoundClose))) (formula.Collected nowhere c (bare_bounds ns) b d)
  collected c ns ss rs b d ne r k =
      headed (IsForm P) bare (symbol.Collector c) (collector_names c ns ++ (ended ss sign.Bar ++ ended rs sign.RoundClose)) (formula.Collected nowhere c (bare_bounds ns) b d) (λ at. record { read = go at })
    where
      go : (at : Place) (ts : List Lexeme) → symbols ts ≡ collector_names c ns ++ (ended ss sign.Bar ++ ended rs sign.RoundClose)
          → (t : Formula)
          × IsAfterNames (bound_names ts) (λ bs. IsMade (λ (x : Formula × Formula). formula.Collected at c bs x.0 x.1) (IsPair (IsEnded sign.Bar (P bracketed)) (IsEnded sign.RoundClose (P bracketed)))) t
          × (bare t ≡ formula.Collected nowhere c (bare_bounds ns) b d)
      go at ts e =
          let n = by_collector c ns (ended ss sign.Bar ++ ended rs sign.RoundClose) ts ne e in
          let y = pair (IsEnded sign.Bar (P bracketed)) (IsEnded sign.RoundClose (P bracketed)) bare bare (ended ss sign.Bar) (ended rs sign.RoundClose) b d (closed sign.Bar (P bracketed) bare ss b r) (closed sign.RoundClose (P bracketed) bare rs d k) in
          let x = y.read n.rest n.left in
          let first_same : bare x.0.0 ≡ b = ap (λ (p : Formula × Formula). p.0) x.2 in
          let second_same : bare x.0.1 ≡ d = ap (λ (p : Formula × Formula). p.1) x.2 in (
            formula.Collected at c n.bounds x.0.0 x.0.1,
            subst (λ (q : Names). IsAfterNames q (λ bs. IsMade (λ (x : Formula × Formula). formula.Collected at c bs x.0 x.1) (IsPair (IsEnded sign.Bar (P bracketed)) (IsEnded sign.RoundClose (P bracketed)))) (formula.Collected at c n.bounds x.0.0 x.0.1)) (sym n.is) (x.0, x.1, refl),
            bare-Collected at c n.bounds x.0.0 x.0.1 ∙ ap (λ l. formula.Collected nowhere c l (bare x.0.0) (bare x.0.1)) n.same
                ∙ ap (λ f. formula.Collected nowhere c (bare_bounds ns) f (bare x.0.1)) first_same ∙ ap (λ f. formula.Collected nowhere c (bare_bounds ns) b f) second_same,
          )

  pub conditional : (ss rs us : List Symbol) (b d f : Formula) → IsRead (P plain) bare ss b → IsRead (P plain) bare rs d → IsRead (P plain) bare us f
      → FormIs (symbol.Mark sign.If ∷ (ended ss sign.Then ++ (ended rs sign.Else ++ ended us sign.End))) (formula.If nowhere b d f)
  conditional ss rs us b d f r k m =
      headed (IsForm P) bare (symbol.Mark sign.If) (ended ss sign.Then ++ (ended rs sign.Else ++ ended us sign.End)) (formula.If nowhere b d f)
      (λ at.
      made {C = Formula × (Formula × Formula)} (λ (x : Formula × (Formula × Formula)). formula.If at x.0 x.1.0 x.1.1)
      (IsPair (IsEnded sign.Then (P plain)) (IsPair (IsEnded sign.Else (P plain)) (IsEnded sign.End (P plain))))
      (λ (x : Formula × (Formula × Formula)). (bare x.0, (bare x.1.0, bare x.1.1)))
      (ended ss sign.Then ++ (ended rs sign.Else ++ ended us sign.End)) (b, (d, f)) bare (formula.If nowhere b d f)
      (pair {D = Formula × Formula} (IsEnded sign.Then (P plain)) (IsPair (IsEnded sign.Else (P plain)) (IsEnded sign.End (P plain))) bare (λ (x : Formula × Formula). (bare x.0, bare x.1)) (ended ss sign.Then) (ended rs sign.Else ++ ended us sign.End) b (d, f)
      (closed sign.Then (P plain) bare ss b r)
      (pair (IsEnded sign.Else (P plain)) (IsEnded sign.End (P plain)) bare bare (ended rs sign.Else) (ended us sign.End) d f (closed sign.Else (P plain) bare rs d k) (closed sign.End (P plain) bare us f m)))
      (λ x e. look at x e))
    where
      look : (at : Place) (x : Formula × (Formula × Formula)) → ◌≡◌ {A = Formula × (Formula × Formula)} (bare x.0, (bare x.1.0, bare x.1.1)) (b, (d, f)) → bare (formula.If at x.0 x.1.0 x.1.1) ≡ formula.If nowhere b d f
      look at x e =
          let p : bare x.0 ≡ b = ap (λ (y : Formula × (Formula × Formula)). y.0) e in
          let q : bare x.1.0 ≡ d = ap (λ (y : Formula × (Formula × Formula)). y.1.0) e in
          let s : bare x.1.1 ≡ f = ap (λ (y : Formula × (Formula × Formula)). y.1.1) e in
          bare-If at x.0 x.1.0 x.1.1 ∙ ap (λ z. formula.If nowhere z (bare x.1.0) (bare x.1.1)) p ∙ ap (λ z. formula.If nowhere b z (bare x.1.1)) q ∙ ap (λ z. formula.If nowhere b d z) s

  has_arguments : (f : Function) → arity f ≡ 0 → ⊥
  has_arguments function.Prj1 e = absurd (cc)
  has_arguments f e = absurd (cc)

  pub call : (f : Function) (us : List Formula) → length us ≡ arity f → AreInner us
      → FormIs (symbol.Function f ∷ symbol.Mark sign.RoundOpen ∷ ended (commas (map symbols_at us)) sign.RoundClose) (formula.Call nowhere f (map bare us))
  call f [] e h = absurd (has_arguments f (sym e))
  call f (u ∷ us) e h =
      let ss = ended (commas (map symbols_at (u ∷ us))) sign.RoundClose in
      let b = formula.Call nowhere f (map bare (u ∷ us)) in
      headed (IsForm P) bare (symbol.Function f) (symbol.Mark sign.RoundOpen ∷ ss) b
      (λ at.
      headed (IsCall P f at) bare (symbol.Mark sign.RoundOpen) ss b
      (λ to.
      made (λ us. formula.Call at f us) (IsSuch (λ us. length us == arity f) (IsMade items (IsEnded sign.RoundClose (IsList (P bracketed))))) (map bare) ss (map bare (u ∷ us)) bare b
      (such (λ us. length us == arity f) (IsMade items (IsEnded sign.RoundClose (IsList (P bracketed)))) (map bare) ss (map bare (u ∷ us))
      (made {C = Formula × List Formula} items (IsEnded sign.RoundClose (IsList (P bracketed))) list_look ss (bare u, map bare us) (map bare) (map bare (u ∷ us))
      (closed {B = Formula × List Formula} sign.RoundClose (IsList (P bracketed)) list_look (commas (map symbols_at (u ∷ us))) (bare u, map bare us) (several (P bracketed) u us h))
      (λ x i. items_look x (bare u) (map bare us) i))
      (λ x i. eq-eqb (length x) (arity f) (same_length x (u ∷ us) i ∙ e)))
      (λ x i. bare-Call at f x ∙ ap (λ l. formula.Call nowhere f l) i)))

  -- ---- forms after an operand

  abbrev pub AfterIs : List Symbol → After → Type 0
  AfterIs ss a = IsRead (IsHeaded (IsAfter P)) bare_after ss a

  pub converse : AfterIs (symbol.Mark sign.Converse ∷ []) (after.Converse nowhere)
  converse = headed (IsAfter P) bare_after (symbol.Mark sign.Converse) [] (after.Converse nowhere) (λ at. done_as (after.Converse at) bare_after (after.Converse nowhere) (bare-Converse at))

  pub apply : (ss : List Symbol) (b : Formula) → IsRead (P bracketed) bare ss b → AfterIs (symbol.Mark sign.RoundOpen ∷ ended ss sign.RoundClose) (after.Apply nowhere b)
  apply ss b r =
      headed (IsAfter P) bare_after (symbol.Mark sign.RoundOpen) (ended ss sign.RoundClose) (after.Apply nowhere b)
      (λ at.
      made {C = Formula × List Formula} (λ us. after.Apply at (joined operator.Comma us)) (IsEnded sign.RoundClose (IsList (P bracketed))) list_look (ended ss sign.RoundClose) (b, []) bare_after (after.Apply nowhere b)
      (closed {B = Formula × List Formula} sign.RoundClose (IsList (P bracketed)) list_look ss (b, []) (single (P bracketed) ss b r))
      (λ x e. bare-Apply at (joined operator.Comma x) ∙ ap (λ f. after.Apply nowhere f) (joined_one operator.Comma x b e)))

  pub image : (ss : List Symbol) (b : Formula) → IsRead (P bracketed) bare ss b → AfterIs (symbol.Mark sign.SquareOpen ∷ ended ss sign.SquareClose) (after.Image nowhere b)
  image ss b r =
      headed (IsAfter P) bare_after (symbol.Mark sign.SquareOpen) (ended ss sign.SquareClose) (after.Image nowhere b)
      (λ at.
      made (after.Image at) (IsEnded sign.SquareClose (P bracketed)) bare (ended ss sign.SquareClose) b bare_after (after.Image nowhere b) (closed sign.SquareClose (P bracketed) bare ss b r)
      (λ x e. bare-Image at x ∙ ap (λ f. after.Image nowhere f) e))

  afters_read : (fs : List After) → AllByRecursion (λ a. AfterIs (after_symbols a) (bare_after a)) fs → IsRead (IsEach (IsHeaded (IsAfter P))) (map bare_after) (afters (map after_symbols fs)) (map bare_after fs)
  afters_read [] h = no_more (IsHeaded (IsAfter P)) bare_after
  afters_read (f ∷ fs) h = one_more (IsHeaded (IsAfter P)) bare_after (after_symbols f) (afters (map after_symbols fs)) (bare_after f) (map bare_after fs) h.0 (afters_read fs h.1)

  pub with_forms : (ss : List Symbol) (b : Formula) (fs : List After) → fs ≢ [] → FormIs ss b → AllByRecursion (λ a. AfterIs (after_symbols a) (bare_after a)) fs
      → IsRead (IsRow P) bare (ss ++ afters (map after_symbols fs)) (formula.Row b (map bare_after fs))
  with_forms ss b fs ne r h =
      made {C = Formula × List After} row (IsPair (IsHeaded (IsForm P)) (IsEach (IsHeaded (IsAfter P)))) (λ (x : Formula × List After). (bare x.0, map bare_after x.1)) (ss ++ afters (map after_symbols fs)) (b, map bare_after fs) bare (formula.Row b (map bare_after fs))
      (pair (IsHeaded (IsForm P)) (IsEach (IsHeaded (IsAfter P))) bare (map bare_after) ss (afters (map after_symbols fs)) b (map bare_after fs) r (afters_read fs h))
      (λ x e. look x.0 x.1 (ap (λ (p : Formula × List After). p.0) e) (ap (λ (p : Formula × List After). p.1) e))
    where
      none : (gs : List After) → [] ≡ map bare_after gs → gs ≡ []
      none [] e = refl
      none (g ∷ gs) e = absurd (cc)

      look : (t : Formula) (gs : List After) → bare t ≡ b → map bare_after gs ≡ map bare_after fs → bare (row (t, gs)) ≡ formula.Row b (map bare_after fs)
      look t [] i e = absurd (ne (none fs e))
      look t (g ∷ gs) i e = bare-Row t (g ∷ gs) ∙ ap (λ f. formula.Row f (map bare_after (g ∷ gs))) i ∙ ap (λ l. formula.Row b l) e

  pub negative : (ss : List Symbol) (b : Formula) → IsRead (IsRow P) bare ss b → IsRead (IsOperand P) bare (symbol.Operator operator.Minus ∷ ss) (formula.Negative nowhere b)
  negative ss b r =
      headed (λ s. IsSigned P s (is_minus s.symbol)) bare (symbol.Operator operator.Minus) ss (formula.Negative nowhere b)
      (λ at. made (formula.Negative at) (IsRow P) bare ss b bare (formula.Negative nowhere b) r (λ x e. bare-Negative at x ∙ ap (λ f. formula.Negative nowhere f) e))
