-- What is answered for clauses from what is answered for their parts.
use Rattle.std.proofs.Common.{◌≡◌, ◌≢◌, ℕ, Bool, true, false, List, [], ◌∷◌, Option, Some, None, Result, Ok, Err, refl, sym, ap, ◌∙◌, subst}
use Rattle.b_ast.specs.declared.Place.{Place}
use Rattle.b_ast.specs.declared.Bound.{Bound}
use Rattle.b_ast.specs.declared.Formula.{Formula}
use Rattle.b_ast.specs.declared.machine.Subst.{Subst}
use Rattle.b_ast.specs.declared.machine.Operation.{Operation}
use Rattle.b_machine_grammar.specs.declared.words.Word.{Word}
use Rattle.b_machine_grammar.specs.declared.words.Word.TheVariants as word
use Rattle.b_machine_grammar.specs.declared.trees.BodyText.{BodyText}
use Rattle.b_machine_grammar.specs.declared.trees.BodyText.TheVariants as body
use Rattle.b_machine_grammar.specs.declared.trees.Clause.{Clause}
use Rattle.b_machine_grammar.specs.Words.{begins_clause}
use Rattle.b_machine_grammar.specs.Cuts.{Piece, Next, cut_at, IsMade}
use Rattle.b_machine_grammar.specs.Grammar as grammar
use Rattle.b_machine_grammar.specs.Grammar.{IsNames, IsWritten, IsParams, IsHeader, IsSubst, IsBody, IsCalled, IsOperation, IsClauseOf}
use Rattle.b_stretches.specs.declared.Unread.{Unread}
use Rattle.b_stretches.specs.declared.Unread.TheVariants as unread
use Rattle.b_stretches.specs.Stretches.{IsNoMachine, Answers}
use Rattle.b_stretches.specs.Making.{IsPair, IsMadeOf}
use Rattle.b_stretches.proofs.Reading.{nothing, answers_same}
use Rattle.b_stretches.proofs.Answering.{pair_on, made_on}
use Rattle.b_read_parts.specs.Parts.{IsNameAt}
use Rattle.b_read_clauses.specs.Clauses.{AreEnclosedNames, IsNamed}
use Rattle.b_read_clauses.specs.Making.{IsWithFormula, IsWithoutFormula, operation}

-- ---- names with parameters

pub params_none : (ts : List Piece) → ts ≡ [] → IsParams ts []
params_none ts e = rw e refl

pub params_some : (ts : List Piece) (s : Piece) (more : List Piece) (r : Result (List Bound) Unread) → ts ≡ s ∷ more → Answers (AreEnclosedNames word.RoundOpen word.RoundClose ts) r → Answers (IsParams ts) r
params_some ts s more r e k = subst (λ l. Answers (IsParams l) r) (sym e) (subst (λ l. Answers (AreEnclosedNames word.RoundOpen word.RoundClose l) r) e k)

pub header_none : (ts : List Piece) (u : Unread) → ts ≡ [] → IsNoMachine u → Answers (IsHeader ts) (Err u)
header_none ts u e i = subst (λ l. Answers (IsHeader l) (Err u)) (sym e) (nothing (IsHeader []) u i (λ y q. q))

pub header_on : (ts : List Piece) (s : Piece) (more : List Piece) → ts ≡ s ∷ more → (a : Result Bound Unread) (b : Result (List Bound) Unread) (r : Result (Bound × List Bound) Unread)
    → IsPair a b r → Answers (IsNameAt s.1) a → Answers (IsParams more) b → Answers (IsHeader ts) r
header_on ts s more e a b r p k l =
    subst (λ n. Answers (IsHeader n) r) (sym e) (pair_on (IsNameAt s.1) (IsParams more) (IsHeader (s ∷ more)) (λ x y u v. (u, v)) (λ z q. q.0) (λ z q. q.1) a b r p k l)

-- ---- bodies

module _ (depth : ℕ) (ts : List Piece) where
  neither : ((t : Formula) → IsWritten ts t → ⊥) → ((u : Subst) → IsSubst depth ts u → ⊥) → (x : BodyText) → IsBody depth ts x → ⊥
  neither k l (body.Formula t) q = k t q.0
  neither k l (body.Subst u) q = l u q.0
  neither k l (body.Either t u) q = k t q.0

  pub with_formula_on : (t : Formula) (b : Result Subst Unread) (r : Result BodyText Unread) → IsWithFormula t b r → IsWritten ts t → Answers (IsSubst depth ts) b → Answers (IsBody depth ts) r
  with_formula_on t (Ok u) r m k l = subst (Answers (IsBody depth ts)) (sym m) (k, l)
  with_formula_on t (Err (unread.NoMachine p)) r m k l = subst (Answers (IsBody depth ts)) (sym m) (k, l)
  with_formula_on t (Err unread.Memory) r m k l = subst (Answers (IsBody depth ts)) (sym m) tt

  alone_on : (b : Result Subst Unread) (r : Result BodyText Unread) → IsWithoutFormula b r → ((t : Formula) → IsWritten ts t → ⊥) → Answers (IsSubst depth ts) b → Answers (IsBody depth ts) r
  alone_on (Ok u) r m k l = subst (Answers (IsBody depth ts)) (sym m) (l, k)
  alone_on (Err (unread.NoMachine q)) (Ok x) m k l = absurd m
  alone_on (Err (unread.NoMachine q)) (Err e) m k l = nothing (IsBody depth ts) e m (neither k l)
  alone_on (Err unread.Memory) r m k l = subst (Answers (IsBody depth ts)) (sym m) tt

  pub without_formula_on : (a : Result Formula Unread) (v : Unread) (p : ℕ) (b : Result Subst Unread) (r : Result BodyText Unread) → a ≡ Err v → v ≡ unread.NoMachine p
      → IsWithoutFormula b r → Answers (IsWritten ts) a → Answers (IsSubst depth ts) b → Answers (IsBody depth ts) r
  without_formula_on a v p b r e f m k l = alone_on b r m (subst (Answers (IsWritten ts)) (e ∙ ap Err f) k) l

-- ---- operations

module _ (depth : ℕ) (ts : List Piece) where
  pub plain_on : (r : Result Operation Unread) → (cut_at word.Results ts).1 ≡ None → Answers (IsCalled depth [] ts) r → Answers (IsOperation depth ts) r
  plain_on r e k = answers_same (IsCalled depth [] ts) (IsOperation depth ts) r (λ x h. rw e h) (λ x q. rw e at q) k

  module _ (front : List Piece) (p : Piece × List Piece) (f : front ≡ (cut_at word.Results ts).0) (e : (cut_at word.Results ts).1 ≡ Some p) where
    -- results, and what stands behind their sign
    abbrev Parts : List Bound × ((Bound × List Bound) × Subst) → Type 0
    Parts z = IsNames front z.0 × IsNamed depth p.1 z.1

    abbrev Found : Operation → Type 0
    Found o = (rs : List Bound) × IsNames front rs × IsCalled depth rs p.1 o

    found_on : (r : Result Operation Unread) → Answers (IsMade operation (λ l. Parts) ts) r → Answers Found r
    found_on r k = answers_same (IsMade operation (λ l. Parts) ts) Found r (λ x h. (h.0.0, h.1.0, (h.0.1, h.1.1, h.2))) (λ x q. ((q.0, q.2.0), (q.1, q.2.1), q.2.2)) k

    pub results_on : (a : Result (List Bound) Unread) (b : Result ((Bound × List Bound) × Subst) Unread) (c : Result (List Bound × ((Bound × List Bound) × Subst)) Unread) (r : Result Operation Unread)
        → IsPair a b c → IsMadeOf operation c r → Answers (IsNames front) a → Answers (IsNamed depth p.1) b → Answers (IsOperation depth ts) r
    results_on a b c r q m k l =
        answers_same Found (IsOperation depth ts) r
        (λ x h. rw e (rw f at h))
        (λ x h. rw f (rw e at h))
        (found_on r (made_on operation (λ l. Parts) ts c r m (pair_on (IsNames front) (IsNamed depth p.1) Parts (λ x y u v. (u, v)) (λ z h. h.0) (λ z h. h.1) a b c q k l)))

-- ---- clauses

no_clause : (depth : ℕ) (w : Word) (p : Place) (ts : List Piece) (x : Clause) → begins_clause w ≡ false → IsClauseOf depth w p ts x → ⊥
no_clause depth word.Sets p ts x f k = absurd (cc)
no_clause depth word.Constants p ts x f k = absurd (cc)
no_clause depth word.AbstractConstants p ts x f k = absurd (cc)
no_clause depth word.Properties p ts x f k = absurd (cc)
no_clause depth word.Variables p ts x f k = absurd (cc)
no_clause depth word.ConcreteVariables p ts x f k = absurd (cc)
no_clause depth word.Invariant p ts x f k = absurd (cc)
no_clause depth word.Assertions p ts x f k = absurd (cc)
no_clause depth word.Definitions p ts x f k = absurd (cc)
no_clause depth word.Initialisation p ts x f k = absurd (cc)
no_clause depth word.Operations p ts x f k = absurd (cc)
no_clause depth w p ts x f k = k

none_of_these : (w : Word) → w ≢ word.Sets → w ≢ word.Constants → w ≢ word.AbstractConstants → w ≢ word.Properties → w ≢ word.Variables → w ≢ word.ConcreteVariables → w ≢ word.Invariant → w ≢ word.Assertions → w ≢ word.Definitions → w ≢ word.Initialisation → w ≢ word.Operations → begins_clause w ≡ false
none_of_these word.Sets a b c d e f g h i j k = absurd (a refl)
none_of_these word.Constants a b c d e f g h i j k = absurd (b refl)
none_of_these word.AbstractConstants a b c d e f g h i j k = absurd (c refl)
none_of_these word.Properties a b c d e f g h i j k = absurd (d refl)
none_of_these word.Variables a b c d e f g h i j k = absurd (e refl)
none_of_these word.ConcreteVariables a b c d e f g h i j k = absurd (f refl)
none_of_these word.Invariant a b c d e f g h i j k = absurd (g refl)
none_of_these word.Assertions a b c d e f g h i j k = absurd (h refl)
none_of_these word.Definitions a b c d e f g h i j k = absurd (i refl)
none_of_these word.Initialisation a b c d e f g h i j k = absurd (j refl)
none_of_these word.Operations a b c d e f g h i j k = absurd (k refl)
none_of_these w a b c d e f g h i j k = refl

pub clause_other : (depth : ℕ) (w : Word) (p : Place) (ts : List Piece) (u : Unread) → IsNoMachine u → w ≢ word.Sets → w ≢ word.Constants → w ≢ word.AbstractConstants → w ≢ word.Properties → w ≢ word.Variables → w ≢ word.ConcreteVariables → w ≢ word.Invariant → w ≢ word.Assertions → w ≢ word.Definitions → w ≢ word.Initialisation → w ≢ word.Operations
    → Answers (IsClauseOf depth w p ts) (Err u)
clause_other depth w p ts u n a b c d e f g h i j k = nothing (IsClauseOf depth w p ts) u n (λ y q. no_clause depth w p ts y (none_of_these w a b c d e f g h i j k) q)

pub clause_is : (depth : ℕ) (w v : Word) (p : Place) (ts : List Piece) (r : Result Clause Unread) → w ≡ v → Answers (IsClauseOf depth v p ts) r → Answers (IsClauseOf depth w p ts) r
clause_is depth w v p ts r e k = subst (λ (u : Word). Answers (IsClauseOf depth u p ts) r) (sym e) k
