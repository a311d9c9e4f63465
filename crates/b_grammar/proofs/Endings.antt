-- The last lexeme of a formula ends an operand.
use Rattle.std.proofs.Common.{◌≡◌, ◌⊎◌, inl, inr, ℕ, zero, suc, Bool, true, false, List, [], ◌∷◌, ◌++◌, Some, None, refl, sym, ap, ◌∙◌, subst, append_assoc, append-nil}
use Rattle.b_ast.specs.declared.Place.{Place}
use Rattle.b_ast.specs.declared.Bound.{Bound}
use Rattle.b_ast.specs.declared.Function.{Function}
use Rattle.b_ast.specs.declared.Formula.{Formula}
use Rattle.b_ast.specs.declared.Formula.TheVariants as formula
use Rattle.b_ast.specs.declared.After.{After}
use Rattle.b_grammar.specs.declared.Mark.{Mark}
use Rattle.b_grammar.specs.declared.Mark.TheVariants as sign
use Rattle.b_grammar.specs.declared.Symbol.{Symbol}
use Rattle.b_grammar.specs.declared.Symbol.TheVariants as symbol
use Rattle.b_grammar.specs.declared.Lexeme.{Lexeme}
use Rattle.b_grammar.specs.Cuts.{Stands, mark, IsNever, IsDone, IsHeaded, IsEnded, IsPair, IsEach, IsMade, IsEither}
use Rattle.b_grammar.specs.Grammar.{Part, Names, names_to_bar, bound_names, is_minus, ends_operand, IsAfterNames, IsPart, IsCutAt, IsListing, IsCurlyBy, IsConditional, IsMarked, IsCall, IsOld, IsForm, IsAfter, IsRow, IsSigned, IsOperand, IsFormula, bracketed}
use Rattle.b_grammar.specs.Laws.{IsEnding}
use Rattle.b_grammar.proofs.BoundNames.{bar_front, bound_front}

-- what stands in front of the last lexemes is free
behind : (front ts : List Lexeme) → IsEnding ts → IsEnding (front ++ ts)
behind front ts e = (front ++ e.0, e.1, ap (λ l. front ++ l) e.2 ∙ sym (append_assoc front e.0 (e.1 ∷ [])), e.3)

alone : (s : Lexeme) (ts : List Lexeme) → ts ≡ [] → ends_operand s.symbol ≡ true → IsEnding (s ∷ ts)
alone s ts e h = ([], s, ap (λ l. s ∷ l) e, h)

ended : {A : Type 0} (m : Mark) (R : Stands A) (ts : List Lexeme) (x : A) → ends_operand (symbol.Mark m) ≡ true → IsEnded m R ts x → IsEnding ts
ended m R ts x h e = (e.0, mark m e.1, e.2, h)

-- parts that each end so leave nothing or an ending
parts : {A : Type 0} (F : Lexeme → Stands A) → ((s : Lexeme) (ts : List Lexeme) (x : A) → F s ts x → IsEnding (s ∷ ts)) → (xs : List A) (ts : List Lexeme) → IsEach (IsHeaded F) ts xs → (ts ≡ []) ⊎ IsEnding ts
parts F ends [] ts e = inl e
parts F ends (x ∷ xs) ts e = go e.0 e.2 e.3 (parts F ends xs e.1 e.4)
  where
    go : (front : List Lexeme) → ts ≡ front ++ e.1 → IsHeaded F front x → (e.1 ≡ []) ⊎ IsEnding e.1 → (ts ≡ []) ⊎ IsEnding ts
    go [] i h rest = absurd h
    go (s ∷ front) i h (inl none) = inr (subst IsEnding (sym (i ∙ ap (λ l. (s ∷ front) ++ l) none ∙ append-nil (s ∷ front))) (ends s front x h))
    go (s ∷ front) i h (inr last) = inr (subst IsEnding (sym i) (behind (s ∷ front) e.1 last))

-- a first part and then such parts
first_and_parts : (first ts back : List Lexeme) → ts ≡ first ++ back → IsEnding first → (back ≡ []) ⊎ IsEnding back → IsEnding ts
first_and_parts first ts back i e (inl none) = subst IsEnding (sym (i ∙ ap (λ l. first ++ l) none ∙ append-nil first)) e
first_and_parts first ts back i e (inr last) = subst IsEnding (sym i) (behind first back last)

module _ (P : List ℕ → Stands Formula) where
  listing : (close : Mark) (node : List Formula → Formula) (ts : List Lexeme) (t : Formula) → ends_operand (symbol.Mark close) ≡ true → IsListing P close node ts t → IsEnding ts
  listing close node ts t h (inl e) = (e.1.0, mark close e.1.1, e.1.2, h)
  listing close node ts t h (inr e) = (e.0, mark close e.1, e.2, h)

  curly : (at : Place) (q : Names) (ts : List Lexeme) (t : Formula) → names_to_bar ts ≡ q → IsCurlyBy P at q ts t → IsEnding ts
  curly at None ts t f e = listing sign.CurlyClose (formula.Set at) ts t refl e
  curly at (Some p) ts t f e =
      let c = bar_front ts p.0 p.1 f in
      let last : IsEnding p.1 = (e.1.0, mark sign.CurlyClose e.1.1, e.1.2, refl) in
      subst IsEnding (sym c.1) (behind c.0 p.1 last)

  conditional : (at : Place) (ts : List Lexeme) (t : Formula) → IsConditional P at ts t → IsEnding ts
  conditional at ts t e =
      let outer = e.1 in
      let inner = outer.4 in
      let close = inner.4 in
      let last : IsEnding inner.1 = (close.0, mark sign.End close.1, close.2, refl) in
      let more : IsEnding outer.1 = subst IsEnding (sym inner.2) (behind inner.0 inner.1 last) in
      subst IsEnding (sym outer.2) (behind outer.0 outer.1 more)

  marked : (m : Mark) (at to : Place) (ts : List Lexeme) (t : Formula) → IsMarked P m at ts t → IsEnding (mark m to ∷ ts)
  marked sign.RoundOpen at to ts t e = behind (mark sign.RoundOpen to ∷ []) ts (e.1.0, mark sign.RoundClose e.1.1, e.1.2, refl)
  marked sign.CurlyOpen at to ts t e = behind (mark sign.CurlyOpen to ∷ []) ts (curly at (names_to_bar ts) ts t refl e)
  marked sign.SquareOpen at to ts t e = behind (mark sign.SquareOpen to ∷ []) ts (listing sign.SquareClose (formula.Sequence at) ts t refl e)
  marked sign.Empty at to ts t e = alone (mark sign.Empty to) ts e.0 refl
  marked sign.If at to ts t e = behind (mark sign.If to ∷ []) ts (conditional at ts t e)
  marked m at to ts t e = absurd e

  call : (f : Function) (at : Place) (s : Lexeme) (ts : List Lexeme) (t : Formula) → IsCall P f at s ts t → IsEnding ts
  call f at s ts t e = go s.symbol s.at e
    where
      go : (y : Symbol) (to : Place) → IsCall P f at (record { symbol = y; at = to }) ts t → IsEnding ts
      go (symbol.Mark sign.RoundOpen) to e = let c = e.1.0.1 in (c.0, mark sign.RoundClose c.1, c.2, refl)
      go y to e = absurd e

  old : (n : List ℕ) (at : Place) (s : Lexeme) (ts : List Lexeme) (t : Formula) → IsOld P n at s ts t → IsEnding (s ∷ ts)
  old n at s ts t e = go s.symbol s.at e
    where
      go : (y : Symbol) (to : Place) → IsOld P n at (record { symbol = y; at = to }) ts t → IsEnding (record { symbol = y; at = to } ∷ ts)
      go (symbol.Mark sign.Old) to e = alone (mark sign.Old to) ts e.0 refl
      go y to e = absurd e

  after_names : (F : List Bound → Stands Formula) → ((ns : List Bound) (ts : List Lexeme) (t : Formula) → F ns ts t → IsEnding ts) → (ts : List Lexeme) (t : Formula) → IsAfterNames (bound_names ts) F t → IsEnding ts
  after_names F ends ts t e = go (bound_names ts) refl e
    where
      go : (q : Names) → bound_names ts ≡ q → IsAfterNames q F t → IsEnding ts
      go None f e = absurd e
      go (Some p) f e = let c = bound_front ts p.0 p.1 f in subst IsEnding (sym c.1) (behind c.0 p.1 (ends p.0 p.1 t e))

  form : (s : Lexeme) (ts : List Lexeme) (t : Formula) → IsForm P s ts t → IsEnding (s ∷ ts)
  form s ts t e = go s.symbol s.at e
    where
      named : (n : List ℕ) (at : Place) (back : List Lexeme) → IsEither (IsDone (formula.Name at n)) (IsHeaded (IsOld P n at)) back t → IsEnding (record { symbol = symbol.Name n; at = at } ∷ back)
      named n at back (inl e) = alone (record { symbol = symbol.Name n; at = at }) back e.0 refl
      named n at [] (inr e) = absurd e
      named n at (u ∷ us) (inr e) = behind (record { symbol = symbol.Name n; at = at } ∷ []) (u ∷ us) (old n at u us t e)

      called : (f : Function) (at : Place) (back : List Lexeme) → IsHeaded (IsCall P f at) back t → IsEnding back
      called f at [] e = absurd e
      called f at (u ∷ us) e = behind (u ∷ []) us (call f at u us t e)

      go : (y : Symbol) (at : Place) → IsForm P (record { symbol = y; at = at }) ts t → IsEnding (record { symbol = y; at = at } ∷ ts)
      go (symbol.Number n) at e = alone (record { symbol = symbol.Number n; at = at }) ts e.0 refl
      go (symbol.Text x) at e = alone (record { symbol = symbol.Text x; at = at }) ts e.0 refl
      go (symbol.Constant c) at e = alone (record { symbol = symbol.Constant c; at = at }) ts e.0 refl
      go (symbol.Name n) at e = named n at ts e
      go (symbol.Function f) at e = behind (record { symbol = symbol.Function f; at = at } ∷ []) ts (called f at ts e)
      go (symbol.Quantifier q) at e =
          behind (record { symbol = symbol.Quantifier q; at = at } ∷ []) ts
          (after_names (λ ns. IsMade (formula.Quantified at q ns) (IsEnded sign.RoundClose (P bracketed))) (λ ns us u e. (e.1.0, mark sign.RoundClose e.1.1, e.1.2, refl)) ts t e)
      go (symbol.Collector c) at e =
          behind (record { symbol = symbol.Collector c; at = at } ∷ []) ts
          (after_names (λ ns. IsMade (λ (x : Formula × Formula). formula.Collected at c ns x.0 x.1) (IsPair (IsEnded sign.Bar (P bracketed)) (IsEnded sign.RoundClose (P bracketed)))) collected ts t e)
        where
          collected : (ns : List Bound) (us : List Lexeme) (u : Formula) → IsMade (λ (x : Formula × Formula). formula.Collected at c ns x.0 x.1) (IsPair (IsEnded sign.Bar (P bracketed)) (IsEnded sign.RoundClose (P bracketed))) us u → IsEnding us
          collected ns us u e =
              let p = e.1 in
              let close = p.4 in
              let last : IsEnding p.1 = (close.0, mark sign.RoundClose close.1, close.2, refl) in
              subst IsEnding (sym p.2) (behind p.0 p.1 last)
      go (symbol.Mark m) at e = marked m at at ts t e
      go (symbol.Operator o) at e = absurd e
      go symbol.Other at e = absurd e

  one_after : (s : Lexeme) (ts : List Lexeme) (f : After) → IsAfter P s ts f → IsEnding (s ∷ ts)
  one_after s ts f e = go s.symbol s.at e
    where
      go : (y : Symbol) (at : Place) → IsAfter P (record { symbol = y; at = at }) ts f → IsEnding (record { symbol = y; at = at } ∷ ts)
      go (symbol.Mark sign.Converse) at e = alone (mark sign.Converse at) ts e.0 refl
      go (symbol.Mark sign.RoundOpen) at e = behind (mark sign.RoundOpen at ∷ []) ts (e.1.0, mark sign.RoundClose e.1.1, e.1.2, refl)
      go (symbol.Mark sign.SquareOpen) at e = behind (mark sign.SquareOpen at ∷ []) ts (e.1.0, mark sign.SquareClose e.1.1, e.1.2, refl)
      go y at e = absurd e

  row : (ts : List Lexeme) (t : Formula) → IsRow P ts t → IsEnding ts
  row ts t e = first_and_parts e.1.0 ts e.1.1 e.1.2 (first e.1.0 e.1.3) (parts (IsAfter P) one_after e.0.1 e.1.1 e.1.4)
    where
      first : (us : List Lexeme) → IsHeaded (IsForm P) us e.0.0 → IsEnding us
      first [] h = absurd h
      first (s ∷ us) h = form s us e.0.0 h

  operand : (ts : List Lexeme) (t : Formula) → IsOperand P ts t → IsEnding ts
  operand [] t e = absurd e
  operand (s ∷ ts) t e = go (is_minus s.symbol) e
    where
      go : (b : Bool) → IsSigned P s b ts t → IsEnding (s ∷ ts)
      go true e = behind (s ∷ []) ts (row ts e.0 e.1)
      go false e = row (s ∷ ts) t e

part : (p : ℕ) (R : Stands Formula) → ((ts : List Lexeme) (t : Formula) → R ts t → IsEnding ts) → (s : Lexeme) (ts : List Lexeme) (x : Part) → IsPart p R s ts x → IsEnding (s ∷ ts)
part p R ends s ts x e = go s.symbol s.at e
  where
    go : (y : Symbol) (at : Place) → IsPart p R (record { symbol = y; at = at }) ts x → IsEnding (record { symbol = y; at = at } ∷ ts)
    go (symbol.Operator o) at e = behind (record { symbol = symbol.Operator o; at = at } ∷ []) ts (ends ts e.0.0 e.0.1)
    go y at e = absurd e

cut : (levels : List ℕ) (R : Stands Formula) → ((ts : List Lexeme) (t : Formula) → R ts t → IsEnding ts) → (ts : List Lexeme) (t : Formula) → IsCutAt levels R ts t → IsEnding ts
cut [] R ends ts t e = ends ts t e
cut (p ∷ ps) R ends ts t e =
    let c = e.1.0 in
    first_and_parts c.0 ts c.1 c.2 (cut ps R ends c.0 e.0.0 c.3) (parts (IsPart p (IsCutAt ps R)) (part p (IsCutAt ps R) (cut ps R ends)) e.0.1 c.1 c.4)

pub formula_ends : (depth : ℕ) (levels : List ℕ) (ts : List Lexeme) (t : Formula) → IsFormula depth levels ts t → IsEnding ts
unfolding IsFormula
formula_ends zero levels ts t e = cut levels (IsOperand (λ ps. IsNever)) (operand (λ ps. IsNever)) ts t e
formula_ends (suc depth) levels ts t e = cut levels (IsOperand (IsFormula depth)) (operand (IsFormula depth)) ts t e
