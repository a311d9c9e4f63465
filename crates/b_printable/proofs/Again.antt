-- What the parser gives is printable, and its canonical text is parsed to it again.
use Rattle.std.proofs.Common.{◌≡◌, ◌≤◌, ◌⊎◌, inl, inr, ℕ, Bool, true, false, List, [], Option, Some, None, Result, Ok, Err, refl, sym, ap, ◌∙◌, subst, append-nil, arith}
use Rattle.std.specs.Prelude.{nat_lt, if◌then◌else◌, MatchBool}
use Rattle.b_ast.specs.declared.Formula.{Formula}
use Rattle.b_ast.specs.declared.FormulaText.{FormulaText}
use Rattle.b_ast.specs.declared.Sort.{Sort}
use Rattle.b_ast.specs.declared.Sort.TheVariants as sort
use Rattle.b_ast.specs.declared.machine.Def.{Def}
use Rattle.b_ast.specs.Sorts.{sort_of}
use Rattle.b_lex.specs.declared.tokens.Token.{Token}
use Rattle.b_lex.specs.Reading.{AreTokens}
use Rattle.b_grammar.specs.declared.Lexeme.{Lexeme}
use Rattle.b_grammar.specs.Symbols.{lexemes}
use Rattle.b_grammar.specs.Grammar.{IsFormulaText}
use Rattle.b_expand.specs.Places.{deepest, node_total}
use Rattle.b_expand.specs.Expansion.{expansion}
use Rattle.b_expand.specs.Answers as answers
use Rattle.b_expand.specs.Answers.{judged, sorted_text, limited}
use Rattle.b_expand.specs.declared.faults.Unfit.{Unfit}
use Rattle.b_expand.specs.declared.faults.Unfit.TheVariants as unfit
use Rattle.b_expand.specs.declared.faults.ParseFault.{ParseFault}
use Rattle.b_expand.specs.declared.faults.ParseFault.TheVariants as fault
use Rattle.b_parse_expr.specs.Parsing.{is_deep}
use Rattle.b_parse_expr.specs.Verdicts.{IsJudged, IsNoSentence, Parses}
use Rattle.b_print.specs.Texts.{text_of}
use Rattle.b_reading_back.specs.Places.{IsSameApartFromPlaces}
use Rattle.b_reading_back.specs.Printable.{IsPrintable}
use Rattle.b_reading_back.specs.Laws.{IsPrintedAgain}
use Rattle.b_reading_back.proofs.Back.{has_symbols}
use Rattle.b_reading_back.proofs.Again.{parsed_again}
use Rattle.b_printable.specs.Written.{AreWritten}
use Rattle.b_printable.specs.Laws.{IsReadAsWritten, IsParsedPrintable, IsReadBackWhole, tree_in, IsSameFormula, IsAgain}
use Rattle.b_printable.proofs.Expanding.{expanded_printable}

-- ---- what the parser gives

-- a formula within the limits is the expansion of a tree of the lexemes
record IsExpanded (ls : List Lexeme) (ds : List Def) (f : FormulaText) : Type 0 where
  pub tree : Formula
  pub stands : IsFormulaText ls tree
  pub gives : Formula
  pub expands : expansion ds tree ≡ Some gives
  pub sort : Sort
  pub sorted : sort_of gives ≡ Some sort
  pub few : node_total gives ≤ 1000000
  pub is : f ≡ answers.text_of sort gives

-- the judgement of a tree is the formula: it is of a sort and has few nodes
record IsSentence (e : Formula) (f : FormulaText) : Type 0 where
  pub sort : Sort
  pub sorted : sort_of e ≡ Some sort
  pub few : node_total e ≤ 1000000
  pub is : f ≡ answers.text_of sort e

-- no more than a million nodes
not_wide : (n : ℕ) → nat_lt 1000000 n ≡ false → n ≤ 1000000
not_wide n h = grind arith

-- a tree that is not too wide is the formula
narrow : (e : Formula) (s : Sort) (f : FormulaText) (b : Bool) → nat_lt 1000000 (node_total e) ≡ b
    → ◌≡◌ {A = Result FormulaText Unfit} (if b then Err unfit.TooWide else Ok (answers.text_of s e)) (Ok f) → (node_total e ≤ 1000000) × (f ≡ answers.text_of s e)
narrow e s f true w h = absurd (cc)
narrow e s f false w h = let is : f ≡ answers.text_of s e = cc in (not_wide (node_total e) w, is)

-- a tree that is not too deep either
within : (e : Formula) (s : Sort) (f : FormulaText) (b : Bool)
    → ◌≡◌ {A = Result FormulaText Unfit} (if b then Err unfit.TooDeep else if nat_lt 1000000 (node_total e) then Err unfit.TooWide else Ok (answers.text_of s e)) (Ok f) → (node_total e ≤ 1000000) × (f ≡ answers.text_of s e)
within e s f true h = absurd (cc)
within e s f false h = narrow e s f (nat_lt 1000000 (node_total e)) refl h

-- a tree of a sort
of_a_sort : (e : Formula) (f : FormulaText) (o : Option Sort) → sort_of e ≡ o → sorted_text e o ≡ Ok f → IsSentence e f
of_a_sort e f None so h = absurd (cc)
of_a_sort e f (Some s) so h = let r = within e s f (nat_lt 100 (deepest e)) h in record { sort = s; sorted = so; few = r.0; is = r.1 }

-- a tree whose judgement is the formula
judged_formula : (f : FormulaText) (o : Option Formula) → judged o ≡ Ok f → (e : Formula) × (o ≡ Some e) × IsSentence e f
judged_formula f None h = absurd (cc)
judged_formula f (Some e) h = (e, refl, of_a_sort e f (sort_of e) refl h)

-- from the judgement
from_judged : (ls : List Lexeme) (ds : List Def) (f : FormulaText) → IsJudged ls ds (Ok f) → IsExpanded ls ds f
from_judged ls ds f j =
    let r = judged_formula f (expansion ds j.0) j.2 in
    record { tree = j.0; stands = j.1; gives = r.0; expands = r.1; sort = r.2.sort; sorted = r.2.sorted; few = r.2.few; is = r.2.is }

-- from the verdict
from_verdict : (ls : List Lexeme) (ds : List Def) (f : FormulaText) (b : Bool)
    → MatchBool b (◌≡◌ {A = Result FormulaText Unfit} (Ok f) (Err unfit.TooDeep)) (IsJudged ls ds (Ok f) ⊎ (IsNoSentence ls × (◌≡◌ {A = Result FormulaText Unfit} (Ok f) (Err unfit.NotASentence)))) → IsExpanded ls ds f
from_verdict ls ds f true v = absurd (cc)
from_verdict ls ds f false (inl j) = from_judged ls ds f j
from_verdict ls ds f false (inr n) = let wrong : ◌≡◌ {A = Result FormulaText Unfit} (Ok f) (Err unfit.NotASentence) = n.1 in absurd (cc)

-- from the answer
expanded_of : (text : List ℕ) (tokens : List Token) (ds : List Def) (f : FormulaText) → Parses text tokens ds (Ok f) → IsExpanded (lexemes false text tokens) ds f
expanded_of text tokens ds f p = from_verdict (lexemes false text tokens) ds f (is_deep (lexemes false text tokens)) p

-- ---- it is printable

-- the tree in the text of a sort
tree_of_text : (s : Sort) (e : Formula) → tree_in (answers.text_of s e) ≡ e
tree_of_text sort.Expression e = refl
tree_of_text sort.Predicate e = refl
tree_of_text sort.Implication e = refl

-- the tree in the formula
tree_is : (f : FormulaText) (s : Sort) (e : Formula) → f ≡ answers.text_of s e → tree_in f ≡ e
tree_is f s e is = ap tree_in is ∙ tree_of_text s e

module _ (as_written : IsReadAsWritten) where
  -- the expansion is printable
  gives_printable : (text : List ℕ) (tokens : List Token) (ds : List Def) (f : FormulaText) → AreTokens text tokens → AreWritten ds → (x : IsExpanded (lexemes false text tokens) ds f) → IsPrintable x.gives
  gives_printable text tokens ds f are written x =
      expanded_printable ds x.tree x.gives written (as_written false text tokens are [] (lexemes false text tokens) [] (append-nil (lexemes false text tokens)) x.tree x.stands) x.expands

  -- what the parser gives is printable
  pub parsed_printable : IsParsedPrintable
  parsed_printable text tokens ds f are written p =
      let x = expanded_of text tokens ds f p in
      subst IsPrintable (sym (tree_is f x.sort x.gives x.is)) (gives_printable text tokens ds f are written x)

  -- ---- it is read back

  -- texts of one sort
  same_formula : (s : Sort) (u e : Formula) → IsSameApartFromPlaces u e → IsSameFormula (answers.text_of s u) (answers.text_of s e)
  same_formula sort.Expression u e same = same
  same_formula sort.Predicate u e same = same
  same_formula sort.Implication u e same = same

  -- what is printed again is this formula
  again_of : (f : FormulaText) (s : Sort) (e : Formula) → f ≡ answers.text_of s e → (result : Result FormulaText ParseFault) → IsPrintedAgain e s result → IsAgain f result
  again_of f s e is (Ok g) a =
      subst (λ (h : FormulaText). IsSameFormula h f) (sym a.1) (subst (λ (h : FormulaText). IsSameFormula (answers.text_of s a.0) h) (sym is) (same_formula s a.0 e a.2))
  again_of f s e is (Err (fault.Refused k at)) a = absurd a
  again_of f s e is (Err fault.Memory) a = tt

  -- the same of the tree in the formula
  abbrev IsReadBackFrom : FormulaText → Formula → Type 0
  IsReadBackFrom f t =
      ((again : List Token) × AreTokens (text_of t) again)
      × ((again : List Token) → AreTokens (text_of t) again → is_deep (lexemes false (text_of t) again) ≡ false → (result : Result FormulaText ParseFault) → Parses (text_of t) again [] result → IsAgain f result)

  -- of a printable tree within the limits
  read_back_from : (f : FormulaText) (s : Sort) (e : Formula) → IsPrintable e → sort_of e ≡ Some s → node_total e ≤ 1000000 → f ≡ answers.text_of s e → IsReadBackFrom f e
  read_back_from f s e h so few is =
      let r = has_symbols e h in
      ((r.0, r.1), λ again are calm result parses. again_of f s e is result (parsed_again e s h so few again are calm result parses))

  -- what the parser gives is read back
  pub read_back_whole : IsReadBackWhole
  read_back_whole text tokens ds f are written p =
      let x = expanded_of text tokens ds f p in
      subst (IsReadBackFrom f) (sym (tree_is f x.sort x.gives x.is)) (read_back_from f x.sort x.gives (gives_printable text tokens ds f are written x) x.sorted x.few x.is)
