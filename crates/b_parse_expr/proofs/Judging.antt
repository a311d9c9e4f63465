-- Each answer is the verdict.
use Rattle.std.proofs.Common.{◌≡◌, ◌≤◌, ◌⊎◌, inl, inr, ℕ, min, Bool, true, false, Option, Result, Ok, Err, List, refl, sym, subst, MatchBool, arith}
use Rattle.b_ast.specs.declared.Formula.{Formula}
use Rattle.b_ast.specs.declared.FormulaText.{FormulaText}
use Rattle.b_grammar.specs.declared.Lexeme.{Lexeme}
use Rattle.b_expand.specs.declared.faults.Unfit.{Unfit}
use Rattle.b_expand.specs.declared.faults.Unfit.TheVariants as unfit
use Rattle.b_expand.specs.declared.faults.Unexpanded.{Unexpanded}
use Rattle.b_expand.specs.declared.faults.Unexpanded.TheVariants as unexpanded
use Rattle.b_expand.specs.declared.faults.ParseKind.{ParseKind}
use Rattle.b_expand.specs.declared.faults.ParseKind.TheVariants as kind
use Rattle.b_expand.specs.declared.faults.ParseFault.{ParseFault}
use Rattle.b_expand.specs.declared.faults.ParseFault.TheVariants as fault
use Rattle.b_expand.specs.Answers.{judged, Answers}
use Rattle.b_read_expr.specs.declared.Unread.{Unread}
use Rattle.b_read_expr.specs.declared.Unread.TheVariants as unread
use Rattle.b_read_expr.specs.Answers.{IsTreeOf}
use Rattle.b_parse_expr.specs.Parsing.{is_deep, IsCheckedTree, FaultFits}
use Rattle.b_parse_expr.specs.Verdicts.{IsJudgedBy, IsNoSentence, IsVerdictBy, kind_of, passed_on, GivesBy}

at_true : (b : Bool) (P Q : Type 0) → b ≡ true → P → MatchBool b P Q
at_true true P Q e p = p
at_true false P Q e p = absurd (cc)

at_false : (b : Bool) (P Q : Type 0) → b ≡ false → Q → MatchBool b P Q
at_false true P Q e q = absurd (cc)
at_false false P Q e q = q

module _ (stands : Formula → Option Formula) (ls : List Lexeme) (end : ℕ) where
  verdict_deep : is_deep ls ≡ true → IsVerdictBy stands ls (Err unfit.TooDeep)
  verdict_deep e = at_true (is_deep ls) (◌≡◌ {A = Result FormulaText Unfit} (Err unfit.TooDeep) (Err unfit.TooDeep)) (IsJudgedBy stands ls (Err unfit.TooDeep) ⊎ (IsNoSentence ls × (◌≡◌ {A = Result FormulaText Unfit} (Err unfit.TooDeep) (Err unfit.NotASentence)))) e refl

  verdict_none : is_deep ls ≡ false → IsNoSentence ls → IsVerdictBy stands ls (Err unfit.NotASentence)
  verdict_none e n = at_false (is_deep ls) (◌≡◌ {A = Result FormulaText Unfit} (Err unfit.NotASentence) (Err unfit.TooDeep)) (IsJudgedBy stands ls (Err unfit.NotASentence) ⊎ (IsNoSentence ls × (◌≡◌ {A = Result FormulaText Unfit} (Err unfit.NotASentence) (Err unfit.NotASentence)))) e (inr (n, refl))

  verdict_judged : (v : Result FormulaText Unfit) → is_deep ls ≡ false → IsJudgedBy stands ls v → IsVerdictBy stands ls v
  verdict_judged v e j = at_false (is_deep ls) (v ≡ Err unfit.TooDeep) (IsJudgedBy stands ls v ⊎ (IsNoSentence ls × (v ≡ Err unfit.NotASentence))) e (inl j)

  -- without a tree
  pub gives_fault : (e : ParseFault) → IsCheckedTree ls end (Err e) → GivesBy stands ls end (Err e)
  gives_fault (fault.Refused kind.TooDeep at) c = (unfit.TooDeep, refl, verdict_deep c.0, c.1)
  gives_fault (fault.Refused kind.NotASentence at) c = (unfit.NotASentence, refl, verdict_none c.0 c.1, c.2)
  gives_fault (fault.Refused k at) c = absurd c
  gives_fault fault.Memory c = tt

  -- with a tree
  given : (t : Formula) → IsCheckedTree ls end (Ok t) → (a : Result FormulaText Unexpanded) → Answers (judged (stands t)) a → GivesBy stands ls end (passed_on a end)
  given t c (Ok f) a = verdict_judged (Ok f) c.0 (t, c.1, a)
  given t c (Err (unexpanded.Refused why at)) a = (why, refl, verdict_judged (Err why) c.0 (t, c.1, a), omega arith)
  given t c (Err unexpanded.Memory) a = tt

  pub gives_answer : (t : Formula) → IsCheckedTree ls end (Ok t) → (a : Result FormulaText Unexpanded) → Answers (judged (stands t)) a → (r : Result FormulaText ParseFault) → r ≡ passed_on a end → GivesBy stands ls end r
  gives_answer t c a h r e = subst (GivesBy stands ls end) (sym e) (given t c a h)

-- without a tree, of lexemes with few open brackets
pub checked_fault : (ls : List Lexeme) (end : ℕ) (u : Unread) (f : ParseFault) → is_deep ls ≡ false → IsTreeOf ls (Err u) → FaultFits u end f → IsCheckedTree ls end (Err f)
checked_fault ls end (unread.NoTree left) (fault.Refused kind.NotASentence at) e n h = (e, n, h)
checked_fault ls end (unread.NoTree left) (fault.Refused k at) e n h = absurd h
checked_fault ls end (unread.NoTree left) fault.Memory e n h = absurd h
checked_fault ls end unread.Memory (fault.Refused k at) e n h = absurd h
checked_fault ls end unread.Memory fault.Memory e n h = tt
