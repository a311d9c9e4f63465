-- The verdict on a tree from what is known of it.
use borrow.Author.Tests.{ltb-false}
use Rattle.std.proofs.Common.{◌≡◌, ◌≤◌, ℕ, rules, Bool, true, false, cond, List, [], length, Option, Some, None, refl, sym, ap, ◌∙◌, subst, arith}
use Rattle.std.specs.Prelude.{nat_lt, take, Result, Ok, Err, IsSome, option_map, option_and_then}
use Rattle.std.proofs.lemmas.Bool.Decides.{nat_tests}
use Rattle.b_ast.specs.declared.Sort.{Sort}
use Rattle.b_ast.specs.declared.machine.Def.{Def}
use Rattle.b_ast.specs.declared.Formula.{Formula}
use Rattle.b_ast.specs.declared.FormulaText.{FormulaText}
use Rattle.b_ast.specs.Sorts.{sort_of}
use Rattle.b_expand.specs.Places.{node_total, deepest}
use Rattle.b_expand.specs.Expansion.{expansion}
use Rattle.b_expand.specs.Filling.{filled}
use Rattle.b_expand.proofs.Putting.{filled_is_expanded}
use Rattle.b_expand.specs.Answers.{Answers, judged, sorted_text, text_of}
use Rattle.b_expand.specs.declared.faults.Unfit.{Unfit}
use Rattle.b_expand.specs.declared.faults.Unfit.TheVariants.{TooDeep, TooWide}
use Rattle.b_expand.specs.declared.faults.Unexpanded.{Unexpanded}
use Rattle.b_expand.specs.declared.faults.Unexpanded.TheVariants.{Refused, Memory}
use Rattle.b_expand.specs.Using.{IsToldAt}
use Rattle.b_names.specs.declared.places.Index.{Index}
use Rattle.b_summaries.specs.declared.summary.Facts.{Facts}
use Rattle.b_summaries.specs.declared.summary.Summary.{Summary}
use Rattle.b_summaries.specs.declared.summary.Told.{Told}
use Rattle.b_summaries.specs.Sizes.{counted, size_of, known}
use Rattle.b_summaries.specs.Values.{facts_from, summary_value}
use Rattle.b_summaries.specs.Summaries.{summary, meanings}
use Rattle.b_summaries.specs.Standing.{verdict_of, text_by, judged_by, IsNoRefusal}
use Rattle.b_summaries.proofs.Naming.{take_all}
use Rattle.b_summaries.proofs.Telling.{formula_says}

-- more than a million nodes are more than a million also where they are counted up to one more
wide : (n : ℕ) → nat_lt 1000000 (counted n) ≡ nat_lt 1000000 n
wide n = grind (arith, nat_tests)

limits : (e : Formula) (s : Sort) (b c : Bool) → cond b (Err TooDeep) (cond c (Err TooWide) (Ok (text_of s e))) ≡ judged_by (cond b (Err TooDeep) (cond c (Err TooWide) (Ok s))) (Some e)
limits e s true c = refl
limits e s false true = refl
limits e s false false = refl

sorted_verdict : (e : Formula) (o : Option Sort) → sorted_text e o ≡ judged_by (verdict_of (option_map (λ s. facts_from s (size_of e)) o)) (Some e)
sorted_verdict e None = refl
sorted_verdict e (Some s) =
    limits e s (nat_lt 100 (deepest e)) (nat_lt 1000000 (node_total e))
    ∙ ap (λ (c : Bool). judged_by (cond (nat_lt 100 (deepest e)) (Err TooDeep) (cond c (Err TooWide) (Ok s))) (Some e)) (sym (wide (node_total e)))

-- the verdict on a tree is that on what is known of it
verdict_tells : (o : Option Formula) → judged o ≡ judged_by (verdict_of (known o)) o
verdict_tells None = refl
verdict_tells (Some e) = sorted_verdict e (sort_of e)

module _ (table : List Def) (t : Formula) (facts : Option Facts) (h : facts ≡ known (expansion table t)) where
  judged_known : (v : Result Sort Unfit) → v ≡ verdict_of facts → judged (expansion table t) ≡ judged_by v (expansion table t)
  judged_known v e = verdict_tells (expansion table t) ∙ ap (λ (v : Result Sort Unfit). judged_by v (expansion table t)) (sym (e ∙ ap verdict_of h))

  -- where what is known has a sort within the limits, the expanded tree is the text
  pub answers_built : (s : Sort) → Ok s ≡ verdict_of facts → (r : Result FormulaText Unexpanded) → Answers (text_by s (expansion table t)) r → Answers (judged (expansion table t)) r
  answers_built s e r a = subst (λ (w : Result FormulaText Unfit). Answers w r) (sym (judged_known (Ok s) e)) a

  -- where what is known is refused, so is the expanded tree
  pub answers_refused : (why : Unfit) → Err why ≡ verdict_of facts → judged (expansion table t) ≡ Err why
  answers_refused why e = judged_known (Err why) e

  -- where what is known has a sort, there is an expanded tree
  pub is_there : (s : Sort) → Ok s ≡ verdict_of facts → IsSome (expansion table t)
  is_there s e = go (expansion table t) (e ∙ ap verdict_of h)
    where
      go : (o : Option Formula) → Ok s ≡ verdict_of (known o) → IsSome o
      go None k = absurd (cc)
      go (Some w) k = search rules

  within : (s : Sort) (w : Formula) (r : Result Sort Unfit) (b : Bool) → nat_lt 100 (deepest w) ≡ b → Ok s ≡ cond b (Err TooDeep) r → deepest w ≤ 100
  within s w r true e v = absurd (cc)
  within s w r false e v = ltb-false 100 (deepest w) e

  sorted_shallow : (s : Sort) (w : Formula) (o : Option Sort) → Ok s ≡ verdict_of (option_map (λ s. facts_from s (size_of w)) o) → deepest w ≤ 100
  sorted_shallow s w None v = absurd (cc)
  sorted_shallow s w (Some k) v = within s w (cond (nat_lt 1000000 (counted (node_total w))) (Err TooWide) (Ok k)) (nat_lt 100 (deepest w)) refl v

  -- and it is as deep as a text may be
  pub is_shallow : (s : Sort) → Ok s ≡ verdict_of facts → deepest (filled table t) ≤ 100
  is_shallow s e = go (expansion table t) refl (e ∙ ap verdict_of h)
    where
      go : (o : Option Formula) → expansion table t ≡ o → Ok s ≡ verdict_of (known o) → deepest (filled table t) ≤ 100
      go None k v = absurd (cc)
      go (Some w) k v = subst (λ (z : Formula). deepest z ≤ 100) (sym (filled_is_expanded table t w k)) (sorted_shallow s w (sort_of w) v)

-- the summary of a formula under a table of which each definition is told
summary_there : (ds table : List Def) → table ≡ ds → (t : Formula) (ps : List (List ℕ)) → ps ≡ [] → (n : ℕ) → n ≡ length ds → summary table ps (meanings table (take n table)) t ≡ summary ds [] (meanings ds ds) t
summary_there ds table same t ps p n many =
    ap (λ (table : List Def). summary table ps (meanings table (take n table)) t) same
    ∙ (ap (λ (ps : List (List ℕ)). summary ds ps (meanings ds (take n ds)) t) p
    ∙ (ap (λ (n : ℕ). summary ds [] (meanings ds (take n ds)) t) many
    ∙ ap (λ (es : List Def). summary ds [] (meanings ds es) t) (take_all ds)))

-- what the summary of a formula says is known of the tree that it stands for
pub summary_known : (ds table : List Def) → table ≡ ds → (t : Formula) (ps : List (List ℕ)) → ps ≡ [] → (known_before known_now : List (Option Told)) → known_now ≡ known_before → length known_before ≡ length ds
    → (u : Option Summary) → u ≡ summary table ps (meanings table (take (length known_now) table)) t
    → (facts : Option Facts) → facts ≡ option_and_then (λ u. summary_value u 0 []) u → facts ≡ known (expansion ds t)
summary_known ds table same t ps p before now k many u h facts e =
    e ∙ (ap (option_and_then (λ u. summary_value u 0 [])) (h ∙ summary_there ds table same t ps p (length now) (ap length k ∙ many)) ∙ formula_says ds t)

-- what is no refusal is told nowhere
pub told_anyway : (index : Index) (t : Formula) (r : Result FormulaText Unexpanded) → IsNoRefusal r → IsToldAt index t r
told_anyway index t (Ok f) h = tt
told_anyway index t (Err (Refused why at)) h = absurd h
told_anyway index t (Err Memory) h = tt
