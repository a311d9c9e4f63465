-- Each kind of step keeps the part of the rule on shares.
use Rattle.std.proofs.Common.{◌≡◌, ◌≢◌, ℕ, ◌<◌, ◌≤◌, ◌⊎◌, List, [], ◌∷◌, ◌++◌, set, sym, ap, ◌∙◌, subst, inl, inr, ⊎_elim, arith, Some}
use mathlib.Core.Option.{some}
use lib.ListN.{get_elem?}
use Rattle.atomic_table.proofs.Lists.{at_set, at_snoc}
use Rattle.turn_lock.specs.declared.view.View.{View}
use Rattle.turn_lock.specs.Passes.{all_shares}
use Rattle.turn_lock.specs.Views.{tickets_of, no_view, left_view, split_view, both_views}
use Rattle.turn_lock.specs.Rule.{total, HasAllShares}
use Rattle.turn_lock.proofs.Sums.{total-append, total-set, total_le}
use Rattle.turn_lock.proofs.Stages.{tickets_one}

module _ {E T : Type 0} where
  pub tag_known : (tag : T) (views : List (View E T)) (id : ℕ) (v : View E T) → get_elem? views id ≡ some v → 0 < v.shares → HasAllShares tag views → v.tag ≡ Some tag
  tag_known tag views id v me has r = ⊎_elim (λ e. absurd (omega (arith, ap (λ (u : View E T). u.shares) e))) (λ t. t.1) (r.each id v me)

  pub shares_moves : (tag : T) (views : List (View E T)) (id : ℕ) (v w : View E T) → get_elem? views id ≡ some v → 0 < v.shares → w.shares ≡ v.shares → w.tag ≡ v.tag → HasAllShares tag views → HasAllShares tag (set views id w)
  shares_moves tag views id v w me has same tagged r = record {
    whole = omega (arith, r.whole, total-set (λ u. u.shares) views id v w me);
    each = λ j u e. ⊎_elim (λ (t : (j ≡ id) × (w ≡ u)). subst (λ (x : View E T). (x ≡ no_view) ⊎ ((0 < x.shares) × (x.tag ≡ Some tag))) t.1 (inr (omega arith, tagged ∙ tag_known tag views id v me has r)))
        (λ (t : (j ≢ id) × (get_elem? views j ≡ some u)). r.each j u t.1) (at_set views id j w u e);
  }

  pub shares_splits : (tag : T) (views : List (View E T)) (id : ℕ) (v : View E T) → get_elem? views id ≡ some v → 2 ≤ v.shares → HasAllShares tag views → HasAllShares tag (set views id (left_view v) ++ split_view v ∷ [])
  shares_splits tag views id v me has r = let known : v.tag ≡ Some tag = tag_known tag views id v me (omega arith) r in record {
    whole = omega (arith, r.whole, total-set (λ u. u.shares) views id v (left_view v) me, total-append (λ u. u.shares) (set views id (left_view v)) (split_view v ∷ []));
    each = λ j u e. ⊎_elim
        (λ (t : get_elem? (set views id (left_view v)) j ≡ some u). ⊎_elim
        (λ (q : (j ≡ id) × (left_view v ≡ u)). subst (λ (x : View E T). (x ≡ no_view) ⊎ ((0 < x.shares) × (x.tag ≡ Some tag))) q.1 (inr (omega arith, known)))
        (λ (q : (j ≢ id) × (get_elem? views j ≡ some u)). r.each j u q.1) (at_set views id j (left_view v) u t))
        (λ (t : split_view v ≡ u). subst (λ (x : View E T). (x ≡ no_view) ⊎ ((0 < x.shares) × (x.tag ≡ Some tag))) t (inr (omega arith, known)))
        (at_snoc (set views id (left_view v)) (split_view v) u j e);
  }

  pub shares_joins : (tag : T) (views : List (View E T)) (id other : ℕ) (v w : View E T) → get_elem? views id ≡ some v → get_elem? (set views id (both_views v w)) other ≡ some w → 0 < v.shares
      → HasAllShares tag views → HasAllShares tag (set (set views id (both_views v w)) other no_view)
  shares_joins tag views id other v w me them has r = let known : v.tag ≡ Some tag = tag_known tag views id v me has r in record {
    whole = omega (arith, r.whole, total-set (λ u. u.shares) views id v (both_views v w) me, total-set (λ u. u.shares) (set views id (both_views v w)) other w no_view them);
    each = λ j u e. ⊎_elim
        (λ (t : (j ≡ other) × (no_view ≡ u)). inl (sym t.1))
        (λ (t : (j ≢ other) × (get_elem? (set views id (both_views v w)) j ≡ some u)). ⊎_elim
        (λ (q : (j ≡ id) × (both_views v w ≡ u)). subst (λ (x : View E T). (x ≡ no_view) ⊎ ((0 < x.shares) × (x.tag ≡ Some tag))) q.1 (inr (omega arith, known)))
        (λ (q : (j ≢ id) × (get_elem? views j ≡ some u)). r.each j u q.1) (at_set views id j (both_views v w) u t.1))
        (at_set (set views id (both_views v w)) other j no_view u e);
  }

  -- the tickets are at most as many as the shares
  pub few_tickets : (tag : T) (views : List (View E T)) → HasAllShares tag views → total (λ v. tickets_of v.stage) views ≤ all_shares
  few_tickets tag views r = let le = total_le (λ (v : View E T). tickets_of v.stage) (λ (v : View E T). v.shares) views (λ j u e. ⊎_elim
      (λ (s : u ≡ no_view). omega (arith, ap (λ (x : View E T). tickets_of x.stage) s))
      (λ (q : (0 < u.shares) × (u.tag ≡ Some tag)). omega (arith, tickets_one u.stage, q.0)) (r.each j u e)) in omega (arith, le, r.whole)
