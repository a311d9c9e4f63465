-- What is printed is parsed again.
use Rattle.std.proofs.Common.{◌≡◌, ◌≤◌, ◌⊎◌, inl, inr, ℕ, Bool, true, false, List, [], Some, Result, Ok, Err, arith, sym, ap, ◌∙◌, subst}
use Rattle.std.specs.Prelude.{nat_lt, if◌then◌else◌, MatchBool}
use Rattle.b_ast.specs.declared.Formula.{Formula}
use Rattle.b_ast.specs.declared.FormulaText.{FormulaText}
use Rattle.b_ast.specs.declared.Sort.{Sort}
use Rattle.b_ast.specs.Sorts.{sort_of}
use Rattle.b_grammar.specs.declared.Lexeme.{Lexeme}
use Rattle.b_grammar.specs.Symbols.{lexemes}
use Rattle.b_grammar.specs.Grammar.{IsFormulaText}
use Rattle.b_grammar.proofs.Deeper.{one_text}
use Rattle.b_expand.specs.Places.{deepest, node_total}
use Rattle.b_expand.specs.Expansion.{expansion}
use Rattle.b_expand.specs.Answers as answers
use Rattle.b_expand.specs.Answers.{judged, sorted_text}
use Rattle.b_expand.specs.declared.faults.Unfit.{Unfit}
use Rattle.b_expand.specs.declared.faults.Unfit.TheVariants as unfit
use Rattle.b_expand.specs.declared.faults.ParseFault.{ParseFault}
use Rattle.b_expand.specs.declared.faults.ParseFault.TheVariants as fault
use Rattle.b_parse_expr.specs.Parsing.{is_deep}
use Rattle.b_parse_expr.specs.Verdicts.{IsJudged, IsNoSentence, IsVerdict, Parses}
use Rattle.b_print.specs.Texts.{text_of}
use Rattle.b_reading_back.specs.Places.{bare}
use Rattle.b_reading_back.specs.Laws.{IsPrintedAgain, IsParsedAgain}
use Rattle.b_reading_back.proofs.Back.{read_back}
use Rattle.b_reading_back.proofs.Shallow.{shallow_lexemes, shallow_tree}
use Rattle.b_reading_back.proofs.Blind.{same_sort}
use Rattle.b_reading_back.proofs.Apart.{is_free, same_nodes, same_free}
use Rattle.b_reading_back.proofs.Free.{printable_free}
use Rattle.b_reading_back.proofs.Alone.{stands_alone}

not_above : (m n : ℕ) → n ≤ m → nat_lt m n ≡ false
not_above m n h = grind arith

abbrev Verdict : Type 0
Verdict = Result FormulaText Unfit

module _ (u : Formula) (s : Sort) (free : is_free u ≡ true) (shallow : deepest u ≤ 100) (so : sort_of u ≡ Some s) (few : node_total u ≤ 1000000) where
  -- within the limits, and of a sort
  in_order : judged (Some u) ≡ Ok (answers.text_of s u)
  in_order =
      ap (sorted_text u) so
      ∙ ap (λ (b : Bool). if b then Err unfit.TooDeep else if nat_lt 1000000 (node_total u) then Err unfit.TooWide else Ok (answers.text_of s u)) (not_above 100 (deepest u) shallow)
      ∙ ap (λ (b : Bool). if b then Err unfit.TooWide else Ok (answers.text_of s u)) (not_above 1000000 (node_total u) few)

  alone_in_order : judged (expansion [] u) ≡ Ok (answers.text_of s u)
  alone_in_order = ap judged (stands_alone u free shallow) ∙ in_order

  -- the verdict on lexemes that stand for the tree
  pub verdict_is : (ls : List Lexeme) (v : Verdict) → is_deep ls ≡ false → IsFormulaText ls u → IsVerdict ls [] v → v ≡ Ok (answers.text_of s u)
  verdict_is ls v calm stands verdict = go (subst (λ (b : Bool). MatchBool b (v ≡ Err unfit.TooDeep) (IsJudged ls [] v ⊎ (IsNoSentence ls × (v ≡ Err unfit.NotASentence)))) calm verdict)
    where
      go : IsJudged ls [] v ⊎ (IsNoSentence ls × (v ≡ Err unfit.NotASentence)) → v ≡ Ok (answers.text_of s u)
      go (inl j) = sym j.2 ∙ ap (λ (w : Formula). judged (expansion [] w)) (one_text ls j.0 u j.1 stands) ∙ alone_in_order
      go (inr n) = absurd (n.0 u stands)

pub parsed_again : IsParsedAgain
parsed_again t s h so few tokens are calm result parses =
    let r = read_back t h false tokens are in
    let u : Formula = r.0 in
    let same : bare u ≡ bare t = r.2 in
    let free : is_free u ≡ true = same_free u t same ∙ printable_free t h in
    let sorted : sort_of u ≡ Some s = same_sort u t same ∙ so in
    let nodes : node_total u ≡ node_total t = same_nodes u t same in
    let small : node_total u ≤ 1000000 = subst (λ (n : ℕ). n ≤ 1000000) (sym nodes) few in
    let shallow : deepest u ≤ 100 = shallow_tree (lexemes false (text_of t) tokens) u (shallow_lexemes (lexemes false (text_of t) tokens) calm) r.1 in
    answer u free sorted small shallow r.1 same result parses
  where
    answer : (u : Formula) → is_free u ≡ true → sort_of u ≡ Some s → node_total u ≤ 1000000 → deepest u ≤ 100 → IsFormulaText (lexemes false (text_of t) tokens) u → bare u ≡ bare t
        → (result : Result FormulaText ParseFault) → Parses (text_of t) tokens [] result → IsPrintedAgain t s result
    answer u free sorted small shallow stands same (Ok f) p =
        let v = verdict_is u s free shallow sorted small (lexemes false (text_of t) tokens) (Ok f) calm stands p in
        let is : f ≡ answers.text_of s u = cc in
        (u, is, same)
    answer u free sorted small shallow stands same (Err (fault.Refused k at)) p =
        let v = verdict_is u s free shallow sorted small (lexemes false (text_of t) tokens) (Err p.0) calm stands p.2 in
        absurd (cc)
    answer u free sorted small shallow stands same (Err fault.Memory) p = tt
