-- What is answered for substitutions without words, from what is answered for their parts.
use Rattle.std.proofs.Common.{◌≡◌, ◌≢◌, ◌≤◌, ℕ, zero, suc, Bool, true, false, List, [], ◌∷◌, Option, Some, None, Result, Ok, Err, length, map, take, arith, refl, sym, ap, ◌∙◌, subst}
use Rattle.b_ast.specs.declared.Place.{Place}
use Rattle.b_ast.specs.declared.Bound.{Bound}
use Rattle.b_ast.specs.declared.Formula.{Formula}
use Rattle.b_ast.specs.declared.machine.Subst.{Subst}
use Rattle.b_ast.specs.declared.machine.Subst.TheVariants as tree
use Rattle.b_grammar.specs.declared.Lexeme.{Lexeme}
use Rattle.b_machine_grammar.specs.declared.words.Word.{Word}
use Rattle.b_machine_grammar.specs.declared.words.Word.TheVariants as word
use Rattle.b_machine_grammar.specs.declared.words.Separator.TheVariants as at
use Rattle.b_machine_grammar.specs.Cuts.{Piece, cut, cut_at}
use Rattle.b_machine_grammar.specs.Grammar.{IsName, IsNames, IsLeftSide, IsRightSide, IsWritten, IsWrittenList, Applied, applied_in, is_applied, IsApplied, IsAssignment, IsUpdate, IsChoiceFrom, IsWriting, is_bracketed, IsBracketed, IsChoiceSuch, IsUse, IsSimple, IsEquations, place, same_names}
use Rattle.b_machine_grammar.proofs.Unique.{names_unique, written_unique, written_list_unique, left_unique}
use Rattle.b_machine_grammar.proofs.Cuts.{list_unique}
use Rattle.b_stretches.specs.declared.Unread.{Unread}
use Rattle.b_stretches.specs.Stretches.{zipped, IsNoMachine, Answers}
use Rattle.b_stretches.proofs.Reading.{fails, nothing, answers_same}
use Rattle.b_read_expr.specs.declared.Unread as expr
use Rattle.b_read_expr.specs.declared.Unread.TheVariants as unread
use Rattle.b_read_expr.specs.Answers.{IsTreeOf}
use Rattle.b_grammar.specs.Grammar.{IsFormulaText}
use Rattle.b_read_parts.specs.Parts.{lexemes_in, AreLeftSides, AreRightSides, AreFixed, IsUseOrChoice}

-- the lexemes of a stretch are those of its pieces
pub lexemes_of : (ws : List Word) (ls : List Lexeme) → map (λ (p : Piece). p.1) (zipped ws ls) ≡ take (length (zipped ws ls)) ls
lexemes_of [] ls = refl
lexemes_of (w ∷ ws) [] = refl
lexemes_of (w ∷ ws) (l ∷ ls) = ap (λ r. l ∷ r) (lexemes_of ws ls)

pub fits_lexemes : (ws : List Word) (ls : List Lexeme) → length (zipped ws ls) ≤ length ls
fits_lexemes [] ls = omega arith
fits_lexemes (w ∷ ws) [] = omega arith
fits_lexemes (w ∷ ws) (l ∷ ls) = let more : length (zipped ws ls) ≤ length ls = fits_lexemes ws ls in omega arith

never_both : (b : Bool) → b ≡ true → b ≡ false → ⊥
never_both b e f = absurd (cc)

-- ---- applications

module _ (ts : List Piece) where
  pub applied_unread : (e : Unread) → Answers (IsWritten ts) (Err e) → Answers (IsApplied ts) (Err e)
  applied_unread e k = fails (IsWritten ts) (IsApplied ts) e (λ y q. (q.0, q.1)) k

  pub not_applied : (e : Unread) (t : Formula) → IsNoMachine e → IsWritten ts t → applied_in t ≡ None → Answers (IsApplied ts) (Err e)
  not_applied e t i k n = nothing (IsApplied ts) e i (λ y q. differ y q.0 (written_unique ts q.0 t q.1 k) q.2)
    where
      differ : (y : Applied) (u : Formula) → u ≡ t → applied_in u ≡ Some y → ⊥
      differ y u same f = absurd (let g : applied_in u ≡ None = ap applied_in same ∙ n in cc)

-- ---- assignments

module _ (p : Place) (front back : List Piece) where
  pub assigns : (xs : List Bound) (es : List Formula) → IsNames front xs → IsWrittenList back es → length xs ≡ length es → IsAssignment p front back (tree.Assign p xs es)
  assigns xs es a b c = ((xs, es), a, b, c, refl)

  pub assigns_no_names : (e : Unread) → Answers (IsNames front) (Err e) → Answers (IsAssignment p front back) (Err e)
  assigns_no_names e k = fails (IsNames front) (IsAssignment p front back) e (λ y q. (q.0.0, q.1)) k

  pub assigns_no_values : (e : Unread) → Answers (IsWrittenList back) (Err e) → Answers (IsAssignment p front back) (Err e)
  assigns_no_values e k = fails (IsWrittenList back) (IsAssignment p front back) e (λ y q. (q.0.1, q.2)) k

  pub assigns_unequal : (e : Unread) (xs : List Bound) (es : List Formula) → IsNoMachine e → IsNames front xs → IsWrittenList back es → (length xs ≡ length es → ⊥) → Answers (IsAssignment p front back) (Err e)
  assigns_unequal e xs es i a b n =
      nothing (IsAssignment p front back) e i
      (λ y q.
      let xs_same : xs ≡ q.0.0 = names_unique front xs q.0.0 a q.1 in
      let es_same : es ≡ q.0.1 = written_list_unique back es q.0.1 b q.2 in
      n (ap length xs_same ∙ q.3 ∙ ap length (sym es_same)))

  pub chooses_from : (x : Bound) (t : Formula) → IsName front x → IsWritten back t → IsChoiceFrom p front back (tree.ChooseFrom p x t)
  chooses_from x t a b = ((x, t), a, b, refl)

  pub chooses_no_name : (e : Unread) → Answers (IsName front) (Err e) → Answers (IsChoiceFrom p front back) (Err e)
  chooses_no_name e k = fails (IsName front) (IsChoiceFrom p front back) e (λ y q. (q.0.0, q.1)) k

  pub chooses_no_set : (e : Unread) → Answers (IsWritten back) (Err e) → Answers (IsChoiceFrom p front back) (Err e)
  chooses_no_set e k = fails (IsWritten back) (IsChoiceFrom p front back) e (λ y q. (q.0.1, q.2)) k

  pub chooses_such : (xs : List Bound) (t : Formula) → IsNames front xs → IsBracketed back t → IsChoiceSuch p front back (tree.ChooseSuch p xs t)
  chooses_such xs t a b = ((xs, t), a, b, refl)

  pub such_no_names : (e : Unread) → Answers (IsNames front) (Err e) → Answers (IsChoiceSuch p front back) (Err e)
  such_no_names e k = fails (IsNames front) (IsChoiceSuch p front back) e (λ y q. (q.0.0, q.1)) k

  pub such_no_condition : (e : Unread) → Answers (IsBracketed back) (Err e) → Answers (IsChoiceSuch p front back) (Err e)
  such_no_condition e k = fails (IsBracketed back) (IsChoiceSuch p front back) e (λ y q. (q.0.1, q.2)) k

module _ (front back : List Piece) where
  pub updates : (a : Applied) (t : Formula) → IsApplied front a → IsWritten back t → IsUpdate front back (tree.Update a.1 a.0 a.2 t)
  updates a t k l = ((a, t), k, l, refl)

  pub updates_nothing : (e : Unread) → Answers (IsApplied front) (Err e) → Answers (IsUpdate front back) (Err e)
  updates_nothing e k = fails (IsApplied front) (IsUpdate front back) e (λ y q. (q.0.0, q.1)) k

  pub updates_no_value : (e : Unread) → Answers (IsWritten back) (Err e) → Answers (IsUpdate front back) (Err e)
  updates_no_value e k = fails (IsWritten back) (IsUpdate front back) e (λ y q. (q.0.1, q.2)) k

  pub writes_at : (w : Word) (p : Place) (r : Result Subst Unread) → w ≡ word.Becomes → is_applied front ≡ true → Answers (IsUpdate front back) r → Answers (IsWriting w p front back) r
  writes_at w p r f e k = subst (λ (v : Word). Answers (IsWriting v p front back) r) (sym f) (answers_same (IsUpdate front back) (IsWriting word.Becomes p front back) r (λ x h. rw e h) (λ x q. rw e at q) k)

  pub writes_to : (w : Word) (p : Place) (r : Result Subst Unread) → w ≡ word.Becomes → is_applied front ≡ false → Answers (IsAssignment p front back) r → Answers (IsWriting w p front back) r
  writes_to w p r f e k = subst (λ (v : Word). Answers (IsWriting v p front back) r) (sym f) (answers_same (IsAssignment p front back) (IsWriting word.Becomes p front back) r (λ x h. rw e h) (λ x q. rw e at q) k)

  pub writes_else : (w : Word) (p : Place) (r : Result Subst Unread) → w ≢ word.Becomes → Answers (IsChoiceFrom p front back) r → Answers (IsWriting w p front back) r
  writes_else word.Becomes p r n k = absurd (n refl)
  writes_else w p r n k = k

-- ---- the sign that is there

module _ (ts : List Piece) (r : Result Subst Unread) where
  pub without_none : (cut_at word.Member ts).1 ≡ None → Answers (IsUse ts) r → Answers (IsUseOrChoice ts) r
  without_none e k = answers_same (IsUse ts) (IsUseOrChoice ts) r (λ x h. rw e h) (λ x q. rw e at q) k

  pub without_some : (front : List Piece) (p : Piece × List Piece) → front ≡ (cut_at word.Member ts).0 → (cut_at word.Member ts).1 ≡ Some p → Answers (IsChoiceSuch (place p.0) front p.1) r → Answers (IsUseOrChoice ts) r
  without_some front p f e k = answers_same (IsChoiceSuch (place p.0) front p.1) (IsUseOrChoice ts) r (λ x h. rw e (rw f at h)) (λ x q. rw f (rw e at q)) k

  pub simple_none : (cut at.Becoming ts).1 ≡ None → Answers (IsUseOrChoice ts) r → Answers (IsSimple ts) r
  simple_none e k = answers_same (IsUseOrChoice ts) (IsSimple ts) r (λ x h. rw e h) (λ x q. rw e at q) k

  pub simple_some : (front : List Piece) (p : Piece × List Piece) → front ≡ (cut at.Becoming ts).0 → (cut at.Becoming ts).1 ≡ Some p → Answers (IsWriting p.0.0 (place p.0) front p.1) r → Answers (IsSimple ts) r
  simple_some front p f e k = answers_same (IsWriting p.0.0 (place p.0) front p.1) (IsSimple ts) r (λ x h. rw e (rw f at h)) (λ x q. rw f (rw e at q)) k

-- ---- formulas

pub unread_none : (ts : List Piece) (ls : List Lexeme) (r : Result Formula expr.Unread) (v : expr.Unread) (n : ℕ) (u : Unread) → ls ≡ lexemes_in ts → r ≡ Err v → v ≡ unread.NoTree n → IsTreeOf ls r → IsNoMachine u → Answers (IsWritten ts) (Err u)
unread_none ts ls r v n u e f g k i = nothing (IsWritten ts) u i (none e (subst (IsTreeOf ls) (f ∙ ap Err g) k))
  where
    none : ls ≡ lexemes_in ts → ((t : Formula) → IsFormulaText ls t → ⊥) → (t : Formula) → IsWritten ts t → ⊥
    none e h t q = h t (rw e q)

-- ---- brackets and uses

module _ (ts : List Piece) where
  pub in_brackets : (r : Result Formula Unread) → is_bracketed ts ≡ true → Answers (IsWritten ts) r → Answers (IsBracketed ts) r
  in_brackets r e k = answers_same (IsWritten ts) (IsBracketed ts) r (λ x h. (e, h)) (λ x q. q.1) k

  pub no_brackets : (e : Unread) → IsNoMachine e → is_bracketed ts ≡ false → Answers (IsBracketed ts) (Err e)
  no_brackets e i f = nothing (IsBracketed ts) e i (λ y q. never_both (is_bracketed ts) q.0 f)

  pub uses_with : (a : Applied) → is_applied ts ≡ true → IsApplied ts a → IsUse ts (tree.Use a.0.at a.0.name (a.2 ∷ []))
  uses_with a e k = rw e (a, k, refl)

  pub uses_alone : (b : Bound) → is_applied ts ≡ false → IsName ts b → IsUse ts (tree.Use b.at b.name [])
  uses_alone b e k = rw e (b, k, refl)

  pub no_use_with : (e : Unread) → is_applied ts ≡ true → Answers (IsApplied ts) (Err e) → Answers (IsUse ts) (Err e)
  no_use_with e f k = fails (IsApplied ts) (IsUse ts) e (λ y q. let h = rw f at q in (h.0, h.1)) k

  pub no_use_alone : (e : Unread) → is_applied ts ≡ false → Answers (IsName ts) (Err e) → Answers (IsUse ts) (Err e)
  no_use_alone e f k = fails (IsName ts) (IsUse ts) e (λ y q. let h = rw f at q in (h.0, h.1)) k

-- ---- the equations of LET

pub right_on : (ts : List Piece) (p : Piece × List Piece) (r : Result Formula Unread) → (cut_at word.Equal ts).1 ≡ Some p → Answers (IsWritten p.1) r → Answers (IsRightSide ts) r
right_on ts p r e k = answers_same (IsWritten p.1) (IsRightSide ts) r (λ x h. rw e h) (λ x q. rw e at q) k

module _ (front back : List Piece) where
  pub fixed_no_names : (e : Unread) → Answers (IsNames front) (Err e) → Answers (AreFixed front back) (Err e)
  fixed_no_names e k = fails (IsNames front) (AreFixed front back) e (λ y q. (y.0, q.1)) k

  pub fixed_no_left : (e : Unread) → Answers (AreLeftSides back) (Err e) → Answers (AreFixed front back) (Err e)
  fixed_no_left e k = fails (AreLeftSides back) (AreFixed front back) e (λ y q. (q.0, q.2.0)) k

  pub fixed_no_right : (e : Unread) → Answers (AreRightSides back) (Err e) → Answers (AreFixed front back) (Err e)
  fixed_no_right e k = fails (AreRightSides back) (AreFixed front back) e (λ y q. (y.1, q.2.1)) k

  pub fixed_unlike : (e : Unread) (bs ls : List Bound) → IsNoMachine e → IsNames front bs → AreLeftSides back ls → same_names bs ls ≡ false → Answers (AreFixed front back) (Err e)
  fixed_unlike e bs ls i a b n =
      nothing (AreFixed front back) e i
      (λ y q.
      let bs_same : bs ≡ y.0 = names_unique front bs y.0 a q.1 in
      let ls_same : ls ≡ q.0 = list_unique (cut_at word.And) IsLeftSide left_unique back ls q.0 b q.2.0 in
      let like : same_names bs ls ≡ true = ap (λ z. same_names z ls) bs_same ∙ ap (same_names y.0) ls_same ∙ q.3 in
      never_both (same_names bs ls) like n)

  pub fixed_found : (bs ls : List Bound) (es : List Formula) → IsNames front bs → AreLeftSides back ls → AreRightSides back es → same_names bs ls ≡ true → AreFixed front back (bs, es)
  fixed_found bs ls es a b c n = (ls, a, (b, c), n)
