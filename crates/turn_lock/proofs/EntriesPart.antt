-- Each kind of step keeps the part of the rule on own entries.
use Rattle.std.proofs.Common.{◌≡◌, ℕ, ◌+◌, List, [], ◌∷◌, ◌++◌, get_or, set, arith}
use mathlib.Core.Option.{some}
use lib.ListN.{get_elem?}
use Rattle.turn_lock.specs.declared.view.View.{View}
use Rattle.turn_lock.specs.Views.{no_view, left_view, split_view, both_views}
use Rattle.turn_lock.specs.Rule.{HasEntriesCounted}
use Rattle.turn_lock.proofs.Sums.{total-append, total-set}

module _ {E T : Type 0} where
  pub entries_splits : (words : List ℕ) (views : List (View E T)) (id : ℕ) (v : View E T) → get_elem? views id ≡ some v → HasEntriesCounted words views → HasEntriesCounted words (set views id (left_view v) ++ split_view v ∷ [])
  entries_splits words views id v me r = record { sum = omega (arith, r.sum, total-set (λ (u : View E T). u.own) views id v (left_view v) me, total-append (λ (u : View E T). u.own) (set views id (left_view v)) (split_view v ∷ [])) }

  pub entries_joins : (words : List ℕ) (views : List (View E T)) (id other : ℕ) (v w : View E T) → get_elem? views id ≡ some v → get_elem? (set views id (both_views v w)) other ≡ some w
      → HasEntriesCounted words views → HasEntriesCounted words (set (set views id (both_views v w)) other no_view)
  entries_joins words views id other v w me them r = record { sum = omega (arith, r.sum, total-set (λ (u : View E T). u.own) views id v (both_views v w) me, total-set (λ (u : View E T). u.own) (set views id (both_views v w)) other w no_view them) }

  pub entries_moves : (words words' : List ℕ) (views : List (View E T)) (id : ℕ) (v w : View E T) → get_or words' 2 0 ≡ get_or words 2 0 → get_elem? views id ≡ some v → w.own ≡ v.own → HasEntriesCounted words views → HasEntriesCounted words' (set views id w)
  entries_moves words words' views id v w second me same r = record { sum = omega (arith, r.sum, total-set (λ (u : View E T). u.own) views id v w me) }

  pub entries_adds : (words words' : List ℕ) (views : List (View E T)) (id k : ℕ) (v w : View E T) → get_or words' 2 0 ≡ get_or words 2 0 + k → get_elem? views id ≡ some v → w.own ≡ v.own + k → HasEntriesCounted words views → HasEntriesCounted words' (set views id w)
  entries_adds words words' views id k v w second me more r = record { sum = omega (arith, r.sum, total-set (λ (u : View E T). u.own) views id v w me) }
