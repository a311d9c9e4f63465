-- What is answered for LET from what is answered for its parts.
use Rattle.std.proofs.Common.{◌≡◌, true, List, Option, Some, None, Result, Ok, Err, refl, sym, subst}
use Rattle.b_ast.specs.declared.Place.{Place}
use Rattle.b_ast.specs.declared.Bound.{Bound}
use Rattle.b_ast.specs.declared.Formula.{Formula}
use Rattle.b_ast.specs.declared.machine.Subst.{Subst}
use Rattle.b_ast.specs.declared.machine.Subst.TheVariants as tree
use Rattle.b_machine_grammar.specs.declared.words.Word.TheVariants as word
use Rattle.b_machine_grammar.specs.Cuts.{Piece, Stands, cut_at, IsSuch, IsParted}
use Rattle.b_machine_grammar.specs.Grammar.{IsNames, IsEquations, Fixing, names_agree, IsLet}
use Rattle.b_stretches.specs.declared.Unread.{Unread}
use Rattle.b_stretches.specs.declared.Stretch.{Stretch}
use Rattle.b_stretches.specs.Stretches.{pieces, Answers, IsHalvedAs}
use Rattle.b_stretches.proofs.Reading.{fails, behind_is, parted_none, parted_both}
use Rattle.b_read_parts.specs.Parts.{AreFixed}
use Rattle.b_stretches.specs.Making.{IsPair, IsMadeOf}
use Rattle.b_read_subst.specs.Making.{fixing}

module _ (P : Stands Subst) (p : Place) (ts : List Piece) where
  -- equations and what follows IN
  abbrev Bodied : Stands ((List Bound × List Formula) × Subst)
  Bodied = IsParted (cut_at word.In) IsEquations (λ t. P)

  -- names and what follows BE
  abbrev Fixes : Stands Fixing
  Fixes = IsParted (cut_at word.Be) IsNames (λ s. Bodied)

  pub let_no_be : (e : Unread) → IsHalvedAs (cut_at word.Be ts) (Err e) → Answers (IsLet P p ts) (Err e)
  let_no_be e k = fails (Fixes ts) (IsLet P p ts) e (λ y q. (q.0, q.1.0)) (parted_none (cut_at word.Be) IsNames Bodied ts e k)

  module _ (front back : Stretch) (k : IsHalvedAs (cut_at word.Be ts) (Ok (front, back))) where
    bodied : (x : Fixing) → Fixes ts x → Bodied (pieces back) x.1
    bodied x q = behind_is Bodied (cut_at word.Be ts).1 (pieces back) x.1 k.1 q.1

    pub let_no_in : (e : Unread) → IsHalvedAs (cut_at word.In (pieces back)) (Err e) → Answers (IsLet P p ts) (Err e)
    let_no_in e l = fails (Bodied (pieces back)) (IsLet P p ts) e (λ y q. (q.0.1, bodied q.0 q.1.0)) (parted_none (cut_at word.In) IsEquations P (pieces back) e l)

    module _ (middle end : Stretch) (l : IsHalvedAs (cut_at word.In (pieces back)) (Ok (middle, end))) where
      fixes : (x : Fixing) → Fixes ts x → names_agree x ≡ true → AreFixed (pieces front) (pieces middle) (x.0, x.1.0.1)
      fixes x q n = (x.1.0.0, rw k.0 q.0, rw l.0 (bodied x q).0, n)

      found : (x : List Bound × List Formula) (u : Subst) → AreFixed (pieces front) (pieces middle) x → P (pieces end) u → IsLet P p ts (tree.Let p x.0 x.1 u)
      found x u a b =
          let inner : Bodied (pieces back) ((a.0, x.1), u) = parted_both (cut_at word.In) IsEquations P (pieces back) middle end l (a.0, x.1) u a.2 b in
          let outer : Fixes ts (x.0, ((a.0, x.1), u)) = parted_both (cut_at word.Be) IsNames Bodied ts front back k x.0 ((a.0, x.1), u) a.1 inner in
          ((x.0, ((a.0, x.1), u)), (outer, a.3), refl)

      not_fixed : (e : Unread) → Answers (AreFixed (pieces front) (pieces middle)) (Err e) → Answers (IsLet P p ts) (Err e)
      not_fixed e a = fails (AreFixed (pieces front) (pieces middle)) (IsLet P p ts) e (λ y q. ((q.0.0, q.0.1.0.1), fixes q.0 q.1.0 q.1.1)) a

      no_body : (e : Unread) → Answers (P (pieces end)) (Err e) → Answers (IsLet P p ts) (Err e)
      no_body e a =
          fails (P (pieces end)) (IsLet P p ts) e
          (λ y q. (q.0.1.1, behind_is P (cut_at word.In (pieces back)).1 (pieces end) q.0.1.1 l.1 (bodied q.0 q.1.0).1)) a

      made_ok : (z : (List Bound × List Formula) × Subst) (r : Result Subst Unread) → IsMadeOf (fixing p) (Ok z) r → IsLet P p ts (fixing p z) → Answers (IsLet P p ts) r
      made_ok z (Ok y) m k = subst (IsLet P p ts) (sym m) k
      made_ok z (Err e) m k = subst (λ (u : Unread). Answers (IsLet P p ts) (Err u)) (sym m) tt

      made_err : (e : Unread) (r : Result Subst Unread) → IsMadeOf (fixing p) (Err e) r → Answers (IsLet P p ts) (Err e) → Answers (IsLet P p ts) r
      made_err e r m k = subst (Answers (IsLet P p ts)) (sym m) k

      pub let_on : (a : Result (List Bound × List Formula) Unread) (b : Result Subst Unread) (c : Result ((List Bound × List Formula) × Subst) Unread) (r : Result Subst Unread)
          → IsPair a b c → IsMadeOf (fixing p) c r → Answers (AreFixed (pieces front) (pieces middle)) a → Answers (P (pieces end)) b → Answers (IsLet P p ts) r
      let_on (Ok x) (Ok u) c r q m h i = made_ok (x, u) r (subst (λ (z : Result ((List Bound × List Formula) × Subst) Unread). IsMadeOf (fixing p) z r) q m) (found x u h i)
      let_on (Ok x) (Err e) c r q m h i = made_err e r (subst (λ (z : Result ((List Bound × List Formula) × Subst) Unread). IsMadeOf (fixing p) z r) q m) (no_body e i)
      let_on (Err e) b c r q m h i = made_err e r (subst (λ (z : Result ((List Bound × List Formula) × Subst) Unread). IsMadeOf (fixing p) z r) q m) (not_fixed e h)
