-- Descent reads exactly the texts of the grammar.
use Rattle.std.proofs.Common.{◌≡◌, ◌⊎◌, inl, inr, ◌==◌, ℕ, zero, suc, Bool, true, false, List, [], ◌∷◌, ◌++◌, length, Option, Some, None, refl, sym, ap, ◌∙◌, subst, append_assoc, append-nil}
use Rattle.b_ast.specs.declared.Place.{Place}
use Rattle.b_ast.specs.declared.Bound.{Bound}
use Rattle.b_ast.specs.declared.Function.{Function}
use Rattle.b_ast.specs.declared.Operator.TheVariants as operator
use Rattle.b_ast.specs.declared.Formula.{Formula}
use Rattle.b_ast.specs.declared.Formula.TheVariants as formula
use Rattle.b_ast.specs.declared.After.{After}
use Rattle.b_ast.specs.declared.After.TheVariants as after
use Rattle.b_grammar.specs.declared.Mark.{Mark}
use Rattle.b_grammar.specs.declared.Mark.TheVariants as sign
use Rattle.b_grammar.specs.declared.Symbol.{Symbol}
use Rattle.b_grammar.specs.declared.Symbol.TheVariants as symbol
use Rattle.b_grammar.specs.declared.Lexeme.{Lexeme}
use Rattle.b_grammar.specs.Cuts.{Stands, mark, IsNever, IsDone, IsHeaded, IsEnded, IsPair, IsEach, IsMade, IsSuch}
use Rattle.b_grammar.specs.Grammar.{plain, bracketed, arity, Part, row, items, joined, mark_of, Names, names_to_bar, bound_names, is_minus, IsAfterNames, IsCutAt, IsNext, IsList, IsListing, IsCurlyBy, IsCurly, IsConditional, IsMarked, IsCall, IsOld, IsForm, IsAfter, IsRow, IsSigned, IsOperand, IsFormula}
use Rattle.b_grammar.specs.Descent as spec
use Rattle.b_grammar.specs.Descent.{Found, Read, starts, with_found, is_operator, part, Row, operands, if_some, grouped, alone, and_left, cut_at, is_comma, next, listed, after_names, begins_after, reads_formula, never, done, headed, ended, pair, each, made, such, or_else}
use Rattle.b_grammar.proofs.BoundNames.{bar_front, bar_stops, bound_front, front_more}
use Rattle.b_grammar.proofs.Grouping.{IsLink, IsOperands, IsTested, IsFree, tree_sound, tree_complete}
use Rattle.b_grammar.proofs.Ways.{same_found, found_from, mark_named, IsSound, IsComplete, Anything, never_sound, never_complete, done_sound, done_complete, headed_sound, headed_complete, ended_sound, ended_complete, pair_sound, pair_complete, each_sound, each_complete, next_ends, made_sound, made_complete, such_sound, such_complete, either_sound, either_complete}

-- ---- what may follow a formula with operators of these priorities

abbrev pub is_old : Lexeme → Bool
is_old s = of (mark_of s.symbol)
  where
    of : Option Mark → Bool
    of (Some sign.Old) = true
    of x = false

-- no form of an operand goes on
abbrev pub EndsOperand : List Lexeme → Type 0
EndsOperand rest = (starts is_old rest ≡ false) × (starts begins_after rest ≡ false)

abbrev pub EndsAt : List ℕ → List Lexeme → Type 0
EndsAt levels rest = EndsOperand rest × (starts (is_operator levels) rest ≡ false)

-- a mark that begins no form after an operand ends a formula
stop_ends : (levels : List ℕ) (m : Mark) (at : Place) (rest : List Lexeme) → begins_after (mark m at) ≡ false → is_old (mark m at) ≡ false → EndsAt levels (mark m at ∷ rest)
stop_ends levels m at rest g h = ((h, g), refl)

nothing_ends : (levels : List ℕ) → EndsAt levels []
nothing_ends levels = ((refl, refl), refl)

operator_ends : (levels : List ℕ) (s : Lexeme) (ts : List Lexeme) → is_operator levels s ≡ true → EndsOperand (s ∷ ts)
operator_ends levels s ts e = go s.symbol s.at e
  where
    go : (y : Symbol) (at : Place) → is_operator levels (record { symbol = y; at = at }) ≡ true → EndsOperand (record { symbol = y; at = at } ∷ ts)
    go (symbol.Operator o) at e = (refl, refl)
    go y at e = absurd (cc)

-- ---- rows of operands

module _ (levels : List ℕ) (r : Read Formula) (R : Stands Formula) where
  part_sound : IsSound r R → (s : Lexeme) → IsSound (part r s) (IsLink R s)
  part_sound sound s = go s.symbol s.at
    where
      go : (y : Symbol) (at : Place) → IsSound (part r (record { symbol = y; at = at })) (IsLink R (record { symbol = y; at = at }))
      go (symbol.Operator o) at = made_sound (λ t. (o, at, t)) r R sound
      go y at = never_sound

  operands_sound : IsSound r R → IsSound (operands levels r) (IsOperands R)
  operands_sound sound = pair_sound r R (each (is_operator levels) (part r)) (IsEach (IsHeaded (IsLink R))) sound (each_sound (is_operator levels) (part r) (IsLink R) (part_sound sound))

  tested_complete : IsComplete r R EndsOperand → (s : Lexeme) → IsComplete (part r s) (IsTested levels R s) EndsOperand
  tested_complete complete s = go s.symbol s.at
    where
      go : (y : Symbol) (at : Place) → IsComplete (part r (record { symbol = y; at = at })) (IsTested levels R (record { symbol = y; at = at })) EndsOperand
      go (symbol.Operator o) at = λ front l rest c k. made_complete (λ t. (o, at, t)) r R EndsOperand complete front l rest c.0 k
      go y at = never_complete EndsOperand

  tested_opens : (s : Lexeme) (ts : List Lexeme) (l : Part) → IsTested levels R s ts l → is_operator levels s ≡ true
  tested_opens s ts l c = go s.symbol s.at c
    where
      go : (y : Symbol) (at : Place) → IsTested levels R (record { symbol = y; at = at }) ts l → is_operator levels (record { symbol = y; at = at }) ≡ true
      go (symbol.Operator o) at c = c.1
      go y at c = absurd c

  operands_complete : IsComplete r R EndsOperand → IsComplete (operands levels r) (IsPair R (IsEach (IsHeaded (IsTested levels R)))) (EndsAt levels)
  operands_complete complete =
      pair_complete
      r
      R
      (each (is_operator levels) (part r))
      (IsEach (IsHeaded (IsTested levels R)))
      EndsOperand
      (EndsAt levels)
      complete
      (each_complete (is_operator levels) (part r) (IsTested levels R) EndsOperand (tested_complete complete) tested_opens (operator_ends levels))
      (λ ts ys rest c k. next_ends (is_operator levels) (part r) (IsTested levels R) EndsOperand (tested_complete complete) tested_opens (operator_ends levels) ys ts rest c k.0)

  cut_sound : IsSound r R → IsSound (cut_at levels r) (IsCutAt levels R)
  cut_sound sound ts t rest e =
      let q = found_from (operands levels r ts) (λ x rest. and_left rest (if_some (grouped levels x) alone)) (t, rest) e in
      let d = operands_sound sound ts q.0 q.1 q.2 in
      go q.0 q.1 d q.3
    where
      left_is : (left : List Lexeme) (o : Option Formula) → and_left left o ≡ Some (t, rest) → (o ≡ Some t) × (left ≡ rest)
      left_is left None e = absurd (cc)
      left_is left (Some u) e = let s = same_found u t left rest e in (ap (λ u. Some u) s.0, s.1)

      go : (x : Row) (left : List Lexeme) → ((front : List Lexeme) × (ts ≡ front ++ left) × IsOperands R front x) → and_left left (if_some (grouped levels x) alone) ≡ Some (t, rest)
          → (front : List Lexeme) × (ts ≡ front ++ rest) × IsCutAt levels R front t
      go x left d e =
          let s = left_is left (if_some (grouped levels x) alone) e in
          (d.0, d.1 ∙ ap (λ l. d.0 ++ l) s.1, tree_sound levels R x d.0 t d.2 s.0)

  cut_complete : IsFree levels (λ q. false) → IsComplete r R EndsOperand → IsComplete (cut_at levels r) (IsCutAt levels R) (EndsAt levels)
  cut_complete free complete front t rest c k =
      let d = tree_complete levels R front t free c in
      ap (λ q. with_found q (λ x rest. and_left rest (if_some (grouped levels x) alone))) (operands_complete complete front d.0 rest d.1 k)
      ∙ ap (λ o. and_left rest (if_some o alone)) d.2

-- ---- commas

module _ (r : Read Formula) (R : Stands Formula) where
  next_sound : IsSound r R → (s : Lexeme) → IsSound (next r s) (IsNext R s)
  next_sound sound s = go s.symbol s.at
    where
      go : (y : Symbol) (at : Place) → IsSound (next r (record { symbol = y; at = at })) (IsNext R (record { symbol = y; at = at }))
      go (symbol.Mark sign.Comma) at = made_sound (λ t. (at, t)) r R sound
      go y at = never_sound

  next_complete : (Ends : List Lexeme → Type 0) → IsComplete r R Ends → (s : Lexeme) → IsComplete (next r s) (IsNext R s) Ends
  next_complete Ends complete s = go s.symbol s.at
    where
      go : (y : Symbol) (at : Place) → IsComplete (next r (record { symbol = y; at = at })) (IsNext R (record { symbol = y; at = at })) Ends
      go (symbol.Mark sign.Comma) at = made_complete (λ t. (at, t)) r R Ends complete
      go y at = never_complete Ends

  next_opens : (s : Lexeme) (ts : List Lexeme) (x : Place × Formula) → IsNext R s ts x → is_comma s ≡ true
  next_opens s ts x c = go s.symbol s.at c
    where
      go : (y : Symbol) (at : Place) → IsNext R (record { symbol = y; at = at }) ts x → is_comma (record { symbol = y; at = at }) ≡ true
      go (symbol.Mark sign.Comma) at c = refl
      go y at c = absurd c

  list_sound : IsSound r R → IsSound (listed r) (IsList R)
  list_sound sound = pair_sound r R (each is_comma (next r)) (IsEach (IsHeaded (IsNext R))) sound (each_sound is_comma (next r) (IsNext R) (next_sound sound))

  list_complete : (levels : List ℕ) → IsComplete r R (EndsAt levels) → IsComplete (listed r) (IsList R) (λ rest. EndsAt levels rest × (starts is_comma rest ≡ false))
  list_complete levels complete =
      pair_complete
      r
      R
      (each is_comma (next r))
      (IsEach (IsHeaded (IsNext R)))
      (EndsAt levels)
      (λ rest. EndsAt levels rest × (starts is_comma rest ≡ false))
      complete
      (each_complete is_comma (next r) (IsNext R) (EndsAt levels) (next_complete (EndsAt levels) complete) next_opens follow)
      (λ ts ys rest c k. next_ends is_comma (next r) (IsNext R) (EndsAt levels) (next_complete (EndsAt levels) complete) next_opens follow ys ts rest c k.0)
    where
      follow : (s : Lexeme) (ts : List Lexeme) → is_comma s ≡ true → EndsAt levels (s ∷ ts)
      follow s ts e = subst (λ (z : Symbol). EndsAt levels (record { symbol = z; at = s.at } ∷ ts)) (sym (mark_named sign.Comma s.symbol e)) (stop_ends levels sign.Comma s.at ts refl refl)

-- ---- operands

swapped : {A B : Type 0} → A ⊎ B → B ⊎ A
swapped (inl x) = inr x
swapped (inr x) = inl x

-- what is read when anything may follow is read before a given end too
any : {A : Type 0} (read : Read A) (R : Stands A) (Ends : List Lexeme → Type 0) → IsComplete read R Anything → IsComplete read R Ends
any read R Ends complete front x rest r k = complete front x rest r tt

abbrev NotOld : List Lexeme → Type 0
NotOld rest = starts is_old rest ≡ false

module _ (p : List ℕ → Read Formula) (P : List ℕ → Stands Formula) (sound : (levels : List ℕ) → IsSound (p levels) (P levels)) where
  ended_list_sound : (m : Mark) → IsSound (ended m (listed (p bracketed))) (IsEnded m (IsList (P bracketed)))
  ended_list_sound m = ended_sound m (listed (p bracketed)) (IsList (P bracketed)) (list_sound (p bracketed) (P bracketed) (sound bracketed))

  ended_inner_sound : (m : Mark) (levels : List ℕ) → IsSound (ended m (p levels)) (IsEnded m (P levels))
  ended_inner_sound m levels = ended_sound m (p levels) (P levels) (sound levels)

  listing_sound : (close : Mark) (node : List Formula → Formula) → IsSound (spec.listing p close node) (IsListing P close node)
  listing_sound close node =
      either_sound
      (made (λ us. node (items us)) (ended close (listed (p bracketed))))
      (IsMade (λ us. node (items us)) (IsEnded close (IsList (P bracketed))))
      (ended close (done (node [])))
      (IsEnded close (IsDone (node [])))
      (made_sound (λ us. node (items us)) (ended close (listed (p bracketed))) (IsEnded close (IsList (P bracketed))) (ended_list_sound close))
      (ended_sound close (done (node [])) (IsDone (node [])) (done_sound (node [])))

  curly_sound : (at : Place) → IsSound (spec.curly p at) (IsCurly P at)
  curly_sound at ts t rest e = go (names_to_bar ts) refl e
    where
      node : List Bound → Formula → Formula
      node ns = formula.Comprehension at ns

      still_none : (front : List Lexeme) → ts ≡ front ++ rest → names_to_bar ts ≡ None → (q : Names) → names_to_bar front ≡ q → names_to_bar front ≡ None
      still_none front i f None g = g
      still_none front i f (Some q) g =
          let more = front_more names_to_bar front q.0 q.1 rest (bar_front front q.0 q.1 g) in
          absurd (let no : ◌≡◌ {A = Names} None (Some (q.0, q.1 ++ rest)) = sym f ∙ ap names_to_bar i ∙ more in cc)

      go : (q : Names) → names_to_bar ts ≡ q → spec.curly_by p at q ts ≡ Some (t, rest) → (front : List Lexeme) × (ts ≡ front ++ rest) × IsCurly P at front t
      go None f e =
          let d = listing_sound sign.CurlyClose (formula.Set at) ts t rest e in
          (d.0, d.1, subst (λ (q : Names). IsCurlyBy P at q d.0 t) (sym (still_none d.0 d.1 f (names_to_bar d.0) refl)) d.2)
      go (Some q) f e =
          let c = bar_front ts q.0 q.1 f in
          let d = made_sound (formula.Comprehension at q.0) (ended sign.CurlyClose (p bracketed)) (IsEnded sign.CurlyClose (P bracketed)) (ended_inner_sound sign.CurlyClose bracketed) q.1 t rest e in (
            c.0 ++ d.0,
            c.1 ∙ ap (λ l. c.0 ++ l) d.1 ∙ sym (append_assoc c.0 d.0 rest),
            subst (λ (q : Names). IsCurlyBy P at q (c.0 ++ d.0) t) (sym (c.2 d.0)) d.2,
          )

  conditional_sound : (at : Place) → IsSound (spec.conditional p at) (IsConditional P at)
  conditional_sound at =
      made_sound
      (λ (x : Formula × (Formula × Formula)). formula.If at x.0 x.1.0 x.1.1)
      (pair (ended sign.Then (p plain)) (pair (ended sign.Else (p plain)) (ended sign.End (p plain))))
      (IsPair (IsEnded sign.Then (P plain)) (IsPair (IsEnded sign.Else (P plain)) (IsEnded sign.End (P plain))))
      (pair_sound
      (ended sign.Then (p plain))
      (IsEnded sign.Then (P plain))
      (pair (ended sign.Else (p plain)) (ended sign.End (p plain)))
      (IsPair (IsEnded sign.Else (P plain)) (IsEnded sign.End (P plain)))
      (ended_inner_sound sign.Then plain)
      (pair_sound
      (ended sign.Else (p plain))
      (IsEnded sign.Else (P plain))
      (ended sign.End (p plain))
      (IsEnded sign.End (P plain))
      (ended_inner_sound sign.Else plain)
      (ended_inner_sound sign.End plain)))

  marked_sound : (m : Mark) (at : Place) → IsSound (spec.marked p m at) (IsMarked P m at)
  marked_sound sign.RoundOpen at =
      made_sound (joined operator.Maplet) (ended sign.RoundClose (listed (p bracketed))) (IsEnded sign.RoundClose (IsList (P bracketed))) (ended_list_sound sign.RoundClose)
  marked_sound sign.CurlyOpen at = curly_sound at
  marked_sound sign.SquareOpen at = listing_sound sign.SquareClose (formula.Sequence at)
  marked_sound sign.Empty at = done_sound (formula.Sequence at [])
  marked_sound sign.If at = conditional_sound at
  marked_sound m at = never_sound

  call_sound : (f : Function) (at : Place) (s : Lexeme) → IsSound (spec.call p f at s) (IsCall P f at s)
  call_sound f at s = go s.symbol s.at
    where
      go : (y : Symbol) (to : Place) → IsSound (spec.call p f at (record { symbol = y; at = to })) (IsCall P f at (record { symbol = y; at = to }))
      go (symbol.Mark sign.RoundOpen) to =
          made_sound
          (λ us. formula.Call at f us)
          (such (λ us. length us == arity f) (made items (ended sign.RoundClose (listed (p bracketed)))))
          (IsSuch (λ us. length us == arity f) (IsMade items (IsEnded sign.RoundClose (IsList (P bracketed)))))
          (such_sound
          (λ us. length us == arity f)
          (made items (ended sign.RoundClose (listed (p bracketed))))
          (IsMade items (IsEnded sign.RoundClose (IsList (P bracketed))))
          (made_sound items (ended sign.RoundClose (listed (p bracketed))) (IsEnded sign.RoundClose (IsList (P bracketed))) (ended_list_sound sign.RoundClose)))
      go y to = never_sound

  old_sound : (n : List ℕ) (at : Place) (s : Lexeme) → IsSound (spec.old p n at s) (IsOld P n at s)
  old_sound n at s = go s.symbol s.at
    where
      go : (y : Symbol) (to : Place) → IsSound (spec.old p n at (record { symbol = y; at = to })) (IsOld P n at (record { symbol = y; at = to }))
      go (symbol.Mark sign.Old) to = done_sound (formula.Old at n)
      go y to = never_sound

  after_names_sound : (f : List Bound → Read Formula) (F : List Bound → Stands Formula) → ((ns : List Bound) → IsSound (f ns) (F ns)) → IsSound (λ ts. after_names (bound_names ts) f) (λ ts. IsAfterNames (bound_names ts) F)
  after_names_sound f F each_one ts t rest e = go (bound_names ts) refl e
    where
      go : (q : Names) → bound_names ts ≡ q → after_names q f ≡ Some (t, rest) → (front : List Lexeme) × (ts ≡ front ++ rest) × IsAfterNames (bound_names front) F t
      go None g e = absurd (cc)
      go (Some q) g e =
          let c = bound_front ts q.0 q.1 g in
          let d = each_one q.0 q.1 t rest e in (
            c.0 ++ d.0,
            c.1 ∙ ap (λ l. c.0 ++ l) d.1 ∙ sym (append_assoc c.0 d.0 rest),
            subst (λ (q : Names). IsAfterNames q F t) (sym (c.2 d.0)) d.2,
          )

  form_sound : (s : Lexeme) → IsSound (spec.form p s) (IsForm P s)
  form_sound s = go s.symbol s.at
    where
      go : (y : Symbol) (at : Place) → IsSound (spec.form p (record { symbol = y; at = at })) (IsForm P (record { symbol = y; at = at }))
      go (symbol.Number n) at = done_sound (formula.Number at n)
      go (symbol.Text x) at = done_sound (formula.Text at x)
      go (symbol.Constant c) at = done_sound (formula.Constant at c)
      go (symbol.Name n) at =
          λ ts t rest e.
          let d = either_sound (headed (spec.old p n at)) (IsHeaded (IsOld P n at)) (done (formula.Name at n)) (IsDone (formula.Name at n)) (headed_sound (spec.old p n at) (IsOld P n at) (old_sound n at)) (done_sound (formula.Name at n)) ts t rest e in
          (d.0, d.1, swapped d.2)
      go (symbol.Function f) at = headed_sound (spec.call p f at) (IsCall P f at) (call_sound f at)
      go (symbol.Quantifier q) at =
          after_names_sound
          (λ ns. made (formula.Quantified at q ns) (ended sign.RoundClose (p bracketed)))
          (λ ns. IsMade (formula.Quantified at q ns) (IsEnded sign.RoundClose (P bracketed)))
          (λ ns. made_sound (formula.Quantified at q ns) (ended sign.RoundClose (p bracketed)) (IsEnded sign.RoundClose (P bracketed)) (ended_inner_sound sign.RoundClose bracketed))
      go (symbol.Collector c) at =
          after_names_sound
          (λ ns. made (λ (x : Formula × Formula). formula.Collected at c ns x.0 x.1) (pair (ended sign.Bar (p bracketed)) (ended sign.RoundClose (p bracketed))))
          (λ ns. IsMade (λ (x : Formula × Formula). formula.Collected at c ns x.0 x.1) (IsPair (IsEnded sign.Bar (P bracketed)) (IsEnded sign.RoundClose (P bracketed))))
          (λ ns.
          made_sound
          (λ (x : Formula × Formula). formula.Collected at c ns x.0 x.1)
          (pair (ended sign.Bar (p bracketed)) (ended sign.RoundClose (p bracketed)))
          (IsPair (IsEnded sign.Bar (P bracketed)) (IsEnded sign.RoundClose (P bracketed)))
          (pair_sound (ended sign.Bar (p bracketed)) (IsEnded sign.Bar (P bracketed)) (ended sign.RoundClose (p bracketed)) (IsEnded sign.RoundClose (P bracketed)) (ended_inner_sound sign.Bar bracketed) (ended_inner_sound sign.RoundClose bracketed)))
      go (symbol.Mark m) at = marked_sound m at
      go (symbol.Operator o) at = never_sound
      go symbol.Other at = never_sound

  after_sound : (s : Lexeme) → IsSound (spec.one_after p s) (IsAfter P s)
  after_sound s = go s.symbol s.at
    where
      go : (y : Symbol) (at : Place) → IsSound (spec.one_after p (record { symbol = y; at = at })) (IsAfter P (record { symbol = y; at = at }))
      go (symbol.Mark sign.Converse) at = done_sound (after.Converse at)
      go (symbol.Mark sign.RoundOpen) at =
          made_sound (λ us. after.Apply at (joined operator.Comma us)) (ended sign.RoundClose (listed (p bracketed))) (IsEnded sign.RoundClose (IsList (P bracketed))) (ended_list_sound sign.RoundClose)
      go (symbol.Mark sign.SquareOpen) at = made_sound (after.Image at) (ended sign.SquareClose (p bracketed)) (IsEnded sign.SquareClose (P bracketed)) (ended_inner_sound sign.SquareClose bracketed)
      go y at = never_sound

  row_sound : IsSound (spec.whole_row p) (IsRow P)
  row_sound =
      made_sound
      row
      (pair (headed (spec.form p)) (each begins_after (spec.one_after p)))
      (IsPair (IsHeaded (IsForm P)) (IsEach (IsHeaded (IsAfter P))))
      (pair_sound
      (headed (spec.form p))
      (IsHeaded (IsForm P))
      (each begins_after (spec.one_after p))
      (IsEach (IsHeaded (IsAfter P)))
      (headed_sound (spec.form p) (IsForm P) form_sound)
      (each_sound begins_after (spec.one_after p) (IsAfter P) after_sound))

  -- an operand with the forms after it begins with no minus
  row_first : (front : List Lexeme) (t : Formula) → IsRow P front t → (s : Lexeme) × (ts : List Lexeme) × (front ≡ s ∷ ts) × (is_minus s.symbol ≡ false)
  row_first front t c = go c.1.0 c.1.2 c.1.3
    where
      no_minus : (s : Lexeme) (ts : List Lexeme) (x : Formula) → IsForm P s ts x → is_minus s.symbol ≡ false
      no_minus s ts x c = of s.symbol s.at c
        where
          of : (y : Symbol) (at : Place) → IsForm P (record { symbol = y; at = at }) ts x → is_minus y ≡ false
          of (symbol.Operator o) at c = absurd c
          of y at c = refl

      go : (first : List Lexeme) → front ≡ first ++ c.1.1 → IsHeaded (IsForm P) first c.0.0 → (s : Lexeme) × (ts : List Lexeme) × (front ≡ s ∷ ts) × (is_minus s.symbol ≡ false)
      go [] i h = absurd h
      go (s ∷ ts) i h = (s, ts ++ c.1.1, i, no_minus s ts c.0.0 h)

  operand_sound : IsSound (spec.operand p) (IsOperand P)
  operand_sound [] t rest e = absurd (cc)
  operand_sound (s ∷ ts) t rest e = go (is_minus s.symbol) refl e
    where
      go : (b : Bool) → is_minus s.symbol ≡ b → spec.signed p s b ts ≡ Some (t, rest) → (front : List Lexeme) × (s ∷ ts ≡ front ++ rest) × IsOperand P front t
      go true f e =
          let d = made_sound (formula.Negative s.at) (spec.whole_row p) (IsRow P) row_sound ts t rest e in
          (s ∷ d.0, ap (λ l. s ∷ l) d.1, subst (λ b. IsSigned P s b d.0 t) (sym f) d.2)
      go false f e =
          let d = row_sound (s ∷ ts) t rest e in
          let r = row_first d.0 t d.2 in
          let row : IsRow P (r.0 ∷ r.1) t = subst (λ l. IsRow P l t) r.2 d.2 in
          let whole : IsOperand P (r.0 ∷ r.1) t = subst (λ b. IsSigned P r.0 b r.1 t) (sym r.3) row in
          (d.0, d.1, subst (λ l. IsOperand P l t) (sym r.2) whole)

-- ---- operands are read whatever follows that may

-- a mark that ends a formula and a list of them
abbrev Stops : Mark → Type 0
Stops m = (at : Place) → (begins_after (mark m at) ≡ false) × (is_old (mark m at) ≡ false) × (is_comma (mark m at) ≡ false)

abbrev is_closing : Mark → Bool
is_closing sign.RoundClose = true
is_closing sign.CurlyClose = true
is_closing sign.SquareClose = true
is_closing m = false

module _ (p : List ℕ → Read Formula) (P : List ℕ → Stands Formula) (inner_complete : IsComplete (p bracketed) (P bracketed) (EndsAt bracketed)) (plain_complete : IsComplete (p plain) (P plain) (EndsAt plain))
    (none : (m : Mark) (at : Place) (rest : List Lexeme) → is_closing m ≡ true → p bracketed (mark m at ∷ rest) ≡ None) where
  ended_list_complete : (m : Mark) → Stops m → IsComplete (ended m (listed (p bracketed))) (IsEnded m (IsList (P bracketed))) Anything
  ended_list_complete m stops =
      ended_complete
      m
      (listed (p bracketed))
      (IsList (P bracketed))
      (λ rest. EndsAt bracketed rest × (starts is_comma rest ≡ false))
      (list_complete (p bracketed) (P bracketed) bracketed inner_complete)
      (λ at rest. (stop_ends bracketed m at rest (stops at).0 (stops at).1, (stops at).2))

  ended_inner_complete : (m : Mark) → Stops m → IsComplete (ended m (p bracketed)) (IsEnded m (P bracketed)) Anything
  ended_inner_complete m stops = ended_complete m (p bracketed) (P bracketed) (EndsAt bracketed) inner_complete (λ at rest. stop_ends bracketed m at rest (stops at).0 (stops at).1)

  ended_plain_complete : (m : Mark) → Stops m → IsComplete (ended m (p plain)) (IsEnded m (P plain)) Anything
  ended_plain_complete m stops = ended_complete m (p plain) (P plain) (EndsAt plain) plain_complete (λ at rest. stop_ends plain m at rest (stops at).0 (stops at).1)

  listing_complete : (close : Mark) → is_closing close ≡ true → Stops close → (node : List Formula → Formula) → IsComplete (spec.listing p close node) (IsListing P close node) Anything
  listing_complete close closing stops node =
      either_complete
      (made (λ us. node (items us)) (ended close (listed (p bracketed))))
      (IsMade (λ us. node (items us)) (IsEnded close (IsList (P bracketed))))
      (ended close (done (node [])))
      (IsEnded close (IsDone (node [])))
      Anything
      (made_complete (λ us. node (items us)) (ended close (listed (p bracketed))) (IsEnded close (IsList (P bracketed))) Anything (ended_list_complete close stops))
      (ended_complete close (done (node [])) (IsDone (node [])) Anything (done_complete (node []) Anything) (λ at rest. tt))
      differ
    where
      differ : (ts : List Lexeme) (x : Formula) (rest : List Lexeme) → IsEnded close (IsDone (node [])) ts x → Anything rest → made (λ us. node (items us)) (ended close (listed (p bracketed))) (ts ++ rest) ≡ None
      differ ts x rest s k =
          ap (λ l. made (λ us. node (items us)) (ended close (listed (p bracketed))) (l ++ rest)) (s.2 ∙ ap (λ l. l ++ mark close s.1 ∷ []) s.3.0)
          ∙ ap (λ q. with_found (with_found (with_found q (λ x rest. spec.and_also x (each is_comma (next (p bracketed)) rest))) (spec.shut close)) (λ us rest. Some (node (items us), rest))) (none close s.1 rest closing)

  curly_complete : (at : Place) → IsComplete (spec.curly p at) (IsCurly P at) Anything
  curly_complete at front t rest c k = go (names_to_bar front) refl c
    where
      last : IsListing P sign.CurlyClose (formula.Set at) front t → (fr : List Lexeme) × (to : Place) × (front ≡ fr ++ mark sign.CurlyClose to ∷ [])
      last (inl c) = (c.1.0, c.1.1, c.1.2)
      last (inr c) = (c.0, c.1, c.2)

      go : (q : Names) → names_to_bar front ≡ q → IsCurlyBy P at q front t → spec.curly p at (front ++ rest) ≡ Some (t, rest)
      go None f c =
          let l = last c in
          let no : names_to_bar (front ++ rest) ≡ None =
          ap names_to_bar (ap (λ l. l ++ rest) l.2 ∙ append_assoc l.0 (mark sign.CurlyClose l.1 ∷ []) rest) ∙ bar_stops l.0 rest l.1 (ap names_to_bar (sym l.2) ∙ f) in
          ap (λ q. spec.curly_by p at q (front ++ rest)) no ∙ listing_complete sign.CurlyClose refl (λ at. (refl, refl, refl)) (formula.Set at) front t rest c tt
      go (Some q) f c =
          ap (λ q. spec.curly_by p at q (front ++ rest)) (front_more names_to_bar front q.0 q.1 rest (bar_front front q.0 q.1 f))
          ∙ made_complete
          (formula.Comprehension at q.0)
          (ended sign.CurlyClose (p bracketed))
          (IsEnded sign.CurlyClose (P bracketed))
          Anything
          (ended_inner_complete sign.CurlyClose (λ at. (refl, refl, refl)))
          q.1
          t
          rest
          c
          tt

  conditional_complete : (at : Place) → IsComplete (spec.conditional p at) (IsConditional P at) Anything
  conditional_complete at =
      made_complete
      (λ (x : Formula × (Formula × Formula)). formula.If at x.0 x.1.0 x.1.1)
      (pair (ended sign.Then (p plain)) (pair (ended sign.Else (p plain)) (ended sign.End (p plain))))
      (IsPair (IsEnded sign.Then (P plain)) (IsPair (IsEnded sign.Else (P plain)) (IsEnded sign.End (P plain))))
      Anything
      (pair_complete
      (ended sign.Then (p plain))
      (IsEnded sign.Then (P plain))
      (pair (ended sign.Else (p plain)) (ended sign.End (p plain)))
      (IsPair (IsEnded sign.Else (P plain)) (IsEnded sign.End (P plain)))
      Anything
      Anything
      (ended_plain_complete sign.Then (λ at. (refl, refl, refl)))
      (pair_complete
      (ended sign.Else (p plain))
      (IsEnded sign.Else (P plain))
      (ended sign.End (p plain))
      (IsEnded sign.End (P plain))
      Anything
      Anything
      (ended_plain_complete sign.Else (λ at. (refl, refl, refl)))
      (ended_plain_complete sign.End (λ at. (refl, refl, refl)))
      (λ ts y rest s k. tt))
      (λ ts y rest s k. tt))

  marked_complete : (m : Mark) (at : Place) → IsComplete (spec.marked p m at) (IsMarked P m at) Anything
  marked_complete sign.RoundOpen at =
      made_complete
      (joined operator.Maplet)
      (ended sign.RoundClose (listed (p bracketed)))
      (IsEnded sign.RoundClose (IsList (P bracketed)))
      Anything
      (ended_list_complete sign.RoundClose (λ at. (refl, refl, refl)))
  marked_complete sign.CurlyOpen at = curly_complete at
  marked_complete sign.SquareOpen at = listing_complete sign.SquareClose refl (λ at. (refl, refl, refl)) (formula.Sequence at)
  marked_complete sign.Empty at = done_complete (formula.Sequence at []) Anything
  marked_complete sign.If at = conditional_complete at
  marked_complete m at = never_complete Anything

  call_complete : (f : Function) (at : Place) (s : Lexeme) → IsComplete (spec.call p f at s) (IsCall P f at s) Anything
  call_complete f at s = go s.symbol s.at
    where
      go : (y : Symbol) (to : Place) → IsComplete (spec.call p f at (record { symbol = y; at = to })) (IsCall P f at (record { symbol = y; at = to })) Anything
      go (symbol.Mark sign.RoundOpen) to =
          made_complete
          (λ us. formula.Call at f us)
          (such (λ us. length us == arity f) (made items (ended sign.RoundClose (listed (p bracketed)))))
          (IsSuch (λ us. length us == arity f) (IsMade items (IsEnded sign.RoundClose (IsList (P bracketed)))))
          Anything
          (such_complete
          (λ us. length us == arity f)
          (made items (ended sign.RoundClose (listed (p bracketed))))
          (IsMade items (IsEnded sign.RoundClose (IsList (P bracketed))))
          Anything
          (made_complete items (ended sign.RoundClose (listed (p bracketed))) (IsEnded sign.RoundClose (IsList (P bracketed))) Anything (ended_list_complete sign.RoundClose (λ at. (refl, refl, refl)))))
      go y to = never_complete Anything

  old_complete : (n : List ℕ) (at : Place) (s : Lexeme) → IsComplete (spec.old p n at s) (IsOld P n at s) NotOld
  old_complete n at s = go s.symbol s.at
    where
      go : (y : Symbol) (to : Place) → IsComplete (spec.old p n at (record { symbol = y; at = to })) (IsOld P n at (record { symbol = y; at = to })) NotOld
      go (symbol.Mark sign.Old) to = done_complete (formula.Old at n) NotOld
      go y to = never_complete NotOld

  after_names_complete : (f : List Bound → Read Formula) (F : List Bound → Stands Formula) → ((ns : List Bound) → IsComplete (f ns) (F ns) Anything)
      → IsComplete (λ ts. after_names (bound_names ts) f) (λ ts. IsAfterNames (bound_names ts) F) Anything
  after_names_complete f F each_one front t rest c k = go (bound_names front) refl c
    where
      go : (q : Names) → bound_names front ≡ q → IsAfterNames q F t → after_names (bound_names (front ++ rest)) f ≡ Some (t, rest)
      go None g c = absurd c
      go (Some q) g c = ap (λ q. after_names q f) (front_more bound_names front q.0 q.1 rest (bound_front front q.0 q.1 g)) ∙ each_one q.0 q.1 t rest c tt

  form_complete : (s : Lexeme) → IsComplete (spec.form p s) (IsForm P s) NotOld
  form_complete s = go s.symbol s.at
    where
      not_old : (n : List ℕ) (at : Place) (rest : List Lexeme) → starts is_old rest ≡ false → headed (spec.old p n at) rest ≡ None
      not_old n at [] h = refl
      not_old n at (s ∷ ts) h = of s.symbol s.at h
        where
          of : (y : Symbol) (to : Place) → is_old (record { symbol = y; at = to }) ≡ false → spec.old p n at (record { symbol = y; at = to }) ts ≡ None
          of (symbol.Mark sign.Old) to h = absurd (cc)
          of y to h = refl

      go : (y : Symbol) (at : Place) → IsComplete (spec.form p (record { symbol = y; at = at })) (IsForm P (record { symbol = y; at = at })) NotOld
      go (symbol.Number n) at = done_complete (formula.Number at n) NotOld
      go (symbol.Text x) at = done_complete (formula.Text at x) NotOld
      go (symbol.Constant c) at = done_complete (formula.Constant at c) NotOld
      go (symbol.Name n) at =
          λ front t rest c k.
          either_complete
          (headed (spec.old p n at))
          (IsHeaded (IsOld P n at))
          (done (formula.Name at n))
          (IsDone (formula.Name at n))
          NotOld
          (headed_complete (spec.old p n at) (IsOld P n at) NotOld (old_complete n at))
          (done_complete (formula.Name at n) NotOld)
          (λ ts x rest s k. ap (λ l. headed (spec.old p n at) (l ++ rest)) s.0 ∙ not_old n at rest k)
          front
          t
          rest
          (swapped c)
          k
      go (symbol.Function f) at = any (headed (spec.call p f at)) (IsHeaded (IsCall P f at)) NotOld (headed_complete (spec.call p f at) (IsCall P f at) Anything (call_complete f at))
      go (symbol.Quantifier q) at =
          any
          (λ ts. after_names (bound_names ts) (λ ns. made (formula.Quantified at q ns) (ended sign.RoundClose (p bracketed))))
          (λ ts. IsAfterNames (bound_names ts) (λ ns. IsMade (formula.Quantified at q ns) (IsEnded sign.RoundClose (P bracketed))))
          NotOld
          (after_names_complete
          (λ ns. made (formula.Quantified at q ns) (ended sign.RoundClose (p bracketed)))
          (λ ns. IsMade (formula.Quantified at q ns) (IsEnded sign.RoundClose (P bracketed)))
          (λ ns. made_complete (formula.Quantified at q ns) (ended sign.RoundClose (p bracketed)) (IsEnded sign.RoundClose (P bracketed)) Anything (ended_inner_complete sign.RoundClose (λ at. (refl, refl, refl)))))
      go (symbol.Collector c) at =
          any
          (λ ts. after_names (bound_names ts) (λ ns. made (λ (x : Formula × Formula). formula.Collected at c ns x.0 x.1) (pair (ended sign.Bar (p bracketed)) (ended sign.RoundClose (p bracketed)))))
          (λ ts. IsAfterNames (bound_names ts) (λ ns. IsMade (λ (x : Formula × Formula). formula.Collected at c ns x.0 x.1) (IsPair (IsEnded sign.Bar (P bracketed)) (IsEnded sign.RoundClose (P bracketed)))))
          NotOld
          (after_names_complete
          (λ ns. made (λ (x : Formula × Formula). formula.Collected at c ns x.0 x.1) (pair (ended sign.Bar (p bracketed)) (ended sign.RoundClose (p bracketed))))
          (λ ns. IsMade (λ (x : Formula × Formula). formula.Collected at c ns x.0 x.1) (IsPair (IsEnded sign.Bar (P bracketed)) (IsEnded sign.RoundClose (P bracketed))))
          (λ ns.
          made_complete
          (λ (x : Formula × Formula). formula.Collected at c ns x.0 x.1)
          (pair (ended sign.Bar (p bracketed)) (ended sign.RoundClose (p bracketed)))
          (IsPair (IsEnded sign.Bar (P bracketed)) (IsEnded sign.RoundClose (P bracketed)))
          Anything
          (pair_complete
          (ended sign.Bar (p bracketed))
          (IsEnded sign.Bar (P bracketed))
          (ended sign.RoundClose (p bracketed))
          (IsEnded sign.RoundClose (P bracketed))
          Anything
          Anything
          (ended_inner_complete sign.Bar (λ at. (refl, refl, refl)))
          (ended_inner_complete sign.RoundClose (λ at. (refl, refl, refl)))
          (λ ts y rest s k. tt))))
      go (symbol.Mark m) at = any (spec.marked p m at) (IsMarked P m at) NotOld (marked_complete m at)
      go (symbol.Operator o) at = never_complete NotOld
      go symbol.Other at = never_complete NotOld

  after_complete : (s : Lexeme) → IsComplete (spec.one_after p s) (IsAfter P s) NotOld
  after_complete s = go s.symbol s.at
    where
      go : (y : Symbol) (at : Place) → IsComplete (spec.one_after p (record { symbol = y; at = at })) (IsAfter P (record { symbol = y; at = at })) NotOld
      go (symbol.Mark sign.Converse) at = done_complete (after.Converse at) NotOld
      go (symbol.Mark sign.RoundOpen) at =
          any
          (made (λ us. after.Apply at (joined operator.Comma us)) (ended sign.RoundClose (listed (p bracketed))))
          (IsMade (λ us. after.Apply at (joined operator.Comma us)) (IsEnded sign.RoundClose (IsList (P bracketed))))
          NotOld
          (made_complete
          (λ us. after.Apply at (joined operator.Comma us))
          (ended sign.RoundClose (listed (p bracketed)))
          (IsEnded sign.RoundClose (IsList (P bracketed)))
          Anything
          (ended_list_complete sign.RoundClose (λ at. (refl, refl, refl))))
      go (symbol.Mark sign.SquareOpen) at =
          any
          (made (after.Image at) (ended sign.SquareClose (p bracketed)))
          (IsMade (after.Image at) (IsEnded sign.SquareClose (P bracketed)))
          NotOld
          (made_complete (after.Image at) (ended sign.SquareClose (p bracketed)) (IsEnded sign.SquareClose (P bracketed)) Anything (ended_inner_complete sign.SquareClose (λ at. (refl, refl, refl))))
      go y at = never_complete NotOld

  after_opens : (s : Lexeme) (ts : List Lexeme) (x : After) → IsAfter P s ts x → begins_after s ≡ true
  after_opens s ts x c = go s.symbol s.at c
    where
      go : (y : Symbol) (at : Place) → IsAfter P (record { symbol = y; at = at }) ts x → begins_after (record { symbol = y; at = at }) ≡ true
      go (symbol.Mark sign.Converse) at c = refl
      go (symbol.Mark sign.RoundOpen) at c = refl
      go (symbol.Mark sign.SquareOpen) at c = refl
      go y at c = absurd c

  after_follows : (s : Lexeme) (ts : List Lexeme) → begins_after s ≡ true → NotOld (s ∷ ts)
  after_follows s ts e = go s.symbol s.at e
    where
      go : (y : Symbol) (at : Place) → begins_after (record { symbol = y; at = at }) ≡ true → is_old (record { symbol = y; at = at }) ≡ false
      go (symbol.Mark sign.Converse) at e = refl
      go (symbol.Mark sign.RoundOpen) at e = refl
      go (symbol.Mark sign.SquareOpen) at e = refl
      go y at e = absurd (cc)

  row_complete : IsComplete (spec.whole_row p) (IsRow P) EndsOperand
  row_complete =
      made_complete
      row
      (pair (headed (spec.form p)) (each begins_after (spec.one_after p)))
      (IsPair (IsHeaded (IsForm P)) (IsEach (IsHeaded (IsAfter P))))
      EndsOperand
      (pair_complete
      (headed (spec.form p))
      (IsHeaded (IsForm P))
      (each begins_after (spec.one_after p))
      (IsEach (IsHeaded (IsAfter P)))
      NotOld
      EndsOperand
      (headed_complete (spec.form p) (IsForm P) NotOld form_complete)
      (each_complete begins_after (spec.one_after p) (IsAfter P) NotOld after_complete after_opens after_follows)
      (λ ts fs rest c k. next_ends begins_after (spec.one_after p) (IsAfter P) NotOld after_complete after_opens after_follows fs ts rest c k.0))

  operand_complete : IsComplete (spec.operand p) (IsOperand P) EndsOperand
  operand_complete [] t rest c k = absurd c
  operand_complete (s ∷ ts) t rest c k = go (is_minus s.symbol) refl c
    where
      go : (b : Bool) → is_minus s.symbol ≡ b → IsSigned P s b ts t → spec.operand p ((s ∷ ts) ++ rest) ≡ Some (t, rest)
      go true f c = ap (λ b. spec.signed p s b (ts ++ rest)) f ∙ made_complete (formula.Negative s.at) (spec.whole_row p) (IsRow P) EndsOperand row_complete ts t rest c k
      go false f c = ap (λ b. spec.signed p s b (ts ++ rest)) f ∙ row_complete (s ∷ ts) t rest c k

-- ---- formulas

-- the priorities of the table differ

pub plain_free : IsFree plain (λ q. false)
plain_free = (refl, (refl, (refl, (refl, (refl, (refl, (refl, (refl, (refl, (refl, tt))))))))))

pub bracketed_free : IsFree bracketed (λ q. false)
bracketed_free = (refl, (refl, (refl, (refl, (refl, (refl, (refl, (refl, (refl, (refl, (refl, tt)))))))))))

-- nothing begins with a closing bracket

cut_none : (levels : List ℕ) (r : Read Formula) (ts : List Lexeme) → r ts ≡ None → cut_at levels r ts ≡ None
cut_none levels r ts e =
    ap (λ q. with_found (with_found q (λ x rest. spec.and_also x (each (is_operator levels) (part r) rest))) (λ x rest. and_left rest (if_some (grouped levels x) alone))) e

operand_none : (p : List ℕ → Read Formula) (m : Mark) (at : Place) (rest : List Lexeme) → is_closing m ≡ true → spec.operand p (mark m at ∷ rest) ≡ None
operand_none p sign.RoundClose at rest e = refl
operand_none p sign.CurlyClose at rest e = refl
operand_none p sign.SquareClose at rest e = refl
operand_none p m at rest e = absurd (cc)

pub formula_none : (depth : ℕ) (levels : List ℕ) (m : Mark) (at : Place) (rest : List Lexeme) → is_closing m ≡ true → reads_formula depth levels (mark m at ∷ rest) ≡ None
unfolding reads_formula
formula_none zero levels m at rest e = cut_none levels (spec.operand (λ ps. never)) (mark m at ∷ rest) (operand_none (λ ps. never) m at rest e)
formula_none (suc depth) levels m at rest e = cut_none levels (spec.operand (reads_formula depth)) (mark m at ∷ rest) (operand_none (reads_formula depth) m at rest e)

pub formula_sound : (depth : ℕ) (levels : List ℕ) → IsSound (reads_formula depth levels) (IsFormula depth levels)
unfolding reads_formula IsFormula
formula_sound zero levels = cut_sound levels (spec.operand (λ ps. never)) (IsOperand (λ ps. IsNever)) (operand_sound (λ ps. never) (λ ps. IsNever) (λ ps. never_sound))
formula_sound (suc depth) levels = cut_sound levels (spec.operand (reads_formula depth)) (IsOperand (IsFormula depth)) (operand_sound (reads_formula depth) (IsFormula depth) (formula_sound depth))

pub formula_complete : (depth : ℕ) (levels : List ℕ) → IsFree levels (λ q. false) → IsComplete (reads_formula depth levels) (IsFormula depth levels) (EndsAt levels)
unfolding reads_formula IsFormula
formula_complete zero levels free =
    cut_complete
    levels
    (spec.operand (λ ps. never))
    (IsOperand (λ ps. IsNever))
    free
    (operand_complete (λ ps. never) (λ ps. IsNever) (never_complete (EndsAt bracketed)) (never_complete (EndsAt plain)) (λ m at rest e. refl))
formula_complete (suc depth) levels free =
    cut_complete
    levels
    (spec.operand (reads_formula depth))
    (IsOperand (IsFormula depth))
    free
    (operand_complete (reads_formula depth) (IsFormula depth) (formula_complete depth bracketed bracketed_free) (formula_complete depth plain plain_free) (formula_none depth bracketed))

-- all of the lexemes are read exactly where they are a formula
pub all_read : (depth : ℕ) (ts : List Lexeme) (t : Formula) → reads_formula depth plain ts ≡ Some (t, []) → IsFormula depth plain ts t
all_read depth ts t e = let s = formula_sound depth plain ts t [] e in subst (λ (l : List Lexeme). IsFormula depth plain l t) (sym (s.1 ∙ append-nil s.0)) s.2

pub is_read : (depth : ℕ) (ts : List Lexeme) (t : Formula) → IsFormula depth plain ts t → reads_formula depth plain ts ≡ Some (t, [])
is_read depth ts t c = ap (reads_formula depth plain) (sym (append-nil ts)) ∙ formula_complete depth plain plain_free ts t [] c (nothing_ends plain)

-- a list of lexemes stands for at most one tree
pub one_tree : (depth : ℕ) (ts : List Lexeme) (t u : Formula) → IsFormula depth plain ts t → IsFormula depth plain ts u → t ≡ u
one_tree depth ts t u c d = (same_found t u [] [] (sym (is_read depth ts t c) ∙ is_read depth ts u d)).0
