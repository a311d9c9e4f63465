-- Each kind of step keeps the part of the rule on tickets. It uses the part on shares: there are few tickets.
use Rattle.std.proofs.Common.{◌≡◌, ℕ, ◌+◌, ◌-◌, ◌%◌, ◌^◌, ◌<◌, ◌≤◌, Bool, true, List, [], ◌∷◌, ◌++◌, length, get_or, set, refl, sym, ap, ◌∙◌, arith, cond, ◌==◌, eq-eqb, ne_eqb, get_or-set_other, get_or-set_same}
use mathlib.Core.Option.{some}
use mathlib.Core.Logic.{dite}
use native.Mathlib.Decide.{ℕ_discrete}
use lib.ListN.{get_elem?}
use Rattle.atomic_table.proofs.Lists.{one_turn}
use Rattle.turn_lock.specs.declared.view.Stage.{Stage}
use Rattle.turn_lock.specs.declared.view.Stage.TheVariants.{Idle, Waiting, Holding}
use Rattle.turn_lock.specs.declared.view.View.{View}
use Rattle.turn_lock.specs.Views.{waits_with, holds_with, tickets_of, is_holding, no_view, left_view, split_view, both_views}
use Rattle.turn_lock.specs.Rule.{total, within, HasAllShares, HasTicketsInOrder}
use Rattle.turn_lock.proofs.Sums.{total-append, total-set, term_le, terms_le}
use Rattle.turn_lock.proofs.Stages.{within_one, within_more, within_less, within_is, wraps, holder_at}
use Rattle.turn_lock.proofs.SharesPart.{few_tickets}

module _ {E T : Type 0} where
  stages_split : (f : Stage → ℕ) (views : List (View E T)) (id : ℕ) (v : View E T) → get_elem? views id ≡ some v → f Idle ≡ 0 → total (λ u. f u.stage) (set views id (left_view v) ++ split_view v ∷ []) ≡ total (λ u. f u.stage) views
  stages_split f views id v me zero_idle = omega (arith, total-set (λ (u : View E T). f u.stage) views id v (left_view v) me, total-append (λ (u : View E T). f u.stage) (set views id (left_view v)) (split_view v ∷ []))

  stages_join : (f : Stage → ℕ) (views : List (View E T)) (id other : ℕ) (v w : View E T) → get_elem? views id ≡ some v → get_elem? (set views id (both_views v w)) other ≡ some w → w.stage ≡ Idle → f Idle ≡ 0
      → total (λ u. f u.stage) (set (set views id (both_views v w)) other no_view) ≡ total (λ u. f u.stage) views
  stages_join f views id other v w me them idle zero_idle =
      omega (arith, total-set (λ (u : View E T). f u.stage) views id v (both_views v w) me, total-set (λ (u : View E T). f u.stage) (set views id (both_views v w)) other w no_view them, ap f idle)

  pub tickets_splits : (words : List ℕ) (views : List (View E T)) (id : ℕ) (v : View E T) → get_elem? views id ≡ some v → HasTicketsInOrder words views → HasTicketsInOrder words (set views id (left_view v) ++ split_view v ∷ [])
  tickets_splits words views id v me r = record {
    first = r.first;
    count = r.count;
    next_is = r.next_is;
    served_is = r.served_is;
    queue = λ k. omega (arith, r.queue k, stages_split (waits_with k) views id v me refl, stages_split (holds_with k) views id v me refl);
    counted = stages_split tickets_of views id v me refl ∙ r.counted;
    only_first = λ k ne. stages_split (holds_with k) views id v me refl ∙ r.only_first k ne;
  }

  pub tickets_joins : (words : List ℕ) (views : List (View E T)) (id other : ℕ) (v w : View E T) → get_elem? views id ≡ some v → get_elem? (set views id (both_views v w)) other ≡ some w → w.stage ≡ Idle
      → HasTicketsInOrder words views → HasTicketsInOrder words (set (set views id (both_views v w)) other no_view)
  tickets_joins words views id other v w me them idle r = record {
    first = r.first;
    count = r.count;
    next_is = r.next_is;
    served_is = r.served_is;
    queue = λ k. omega (arith, r.queue k, stages_join (waits_with k) views id other v w me them idle refl, stages_join (holds_with k) views id other v w me them idle refl);
    counted = stages_join tickets_of views id other v w me them idle refl ∙ r.counted;
    only_first = λ k ne. stages_join (holds_with k) views id other v w me them idle refl ∙ r.only_first k ne;
  }

  pub alone_holds : (words : List ℕ) (views : List (View E T)) (id j t : ℕ) (v u : View E T) → HasTicketsInOrder words views → get_elem? views id ≡ some v → v.stage ≡ Holding t → get_elem? views j ≡ some u → is_holding u.stage ≡ true → j ≡ id
  alone_holds words views id j t v u r me stage them held = dite (ℕ_discrete j id) (λ e. e) (λ ne.
      let a = holder_at u.stage held in let k : ℕ = a.0 in
      let mine : holds_with t v.stage ≡ 1 = ap (holds_with t) stage ∙ ap (λ b. cond b 1 0) (eq-eqb t t refl) in
      let at_t : t ≡ r.first = dite (ℕ_discrete t r.first) (λ e. e) (λ no. absurd (omega (arith, r.only_first t no, term_le (λ (x : View E T). holds_with t x.stage) views id v me))) in
      let at_k : k ≡ r.first = dite (ℕ_discrete k r.first) (λ e. e) (λ no. absurd (omega (arith, a.1, r.only_first k no, term_le (λ (x : View E T). holds_with k x.stage) views j u them))) in
      let theirs : holds_with t u.stage ≡ 1 = ap (λ (x : ℕ). holds_with x u.stage) (at_t ∙ sym at_k) ∙ a.1 in
      absurd (omega (arith, terms_le (λ (x : View E T). holds_with t x.stage) views id j v u ne me them, r.queue t, within_one r.first r.count t)))

  pub holder_first : (words : List ℕ) (views : List (View E T)) (id t : ℕ) (v : View E T) (r : HasTicketsInOrder words views) → get_elem? views id ≡ some v → v.stage ≡ Holding t → t ≡ r.first
  holder_first words views id t v r me stage =
      let mine : holds_with t v.stage ≡ 1 = ap (holds_with t) stage ∙ ap (λ b. cond b 1 0) (eq-eqb t t refl) in
      dite (ℕ_discrete t r.first) (λ e. e) (λ no. absurd (omega (arith, r.only_first t no, term_le (λ (x : View E T). holds_with t x.stage) views id v me)))

  -- a ticket whose number is served is the first
  pub waiter_first : (tag : T) (words : List ℕ) (views : List (View E T)) (id t : ℕ) (v : View E T) (q : HasAllShares tag views) (r : HasTicketsInOrder words views) → get_elem? views id ≡ some v → v.stage ≡ Waiting t → get_or words 1 0 ≡ t % 2 ^ 64 → t ≡ r.first
  waiter_first tag words views id t v q r me stage served =
      let mine : waits_with t v.stage ≡ 1 = ap (waits_with t) stage ∙ ap (λ b. cond b 1 0) (eq-eqb t t refl) in
      let at = term_le (λ (x : View E T). waits_with t x.stage) views id v me in
      let inside = within_is r.first r.count t (omega (arith, r.queue t)) in
      let few = few_tickets tag views q in
      let counted : total (λ (x : View E T). tickets_of x.stage) views ≡ r.count = r.counted in
      let near : t < r.first + 2 ^ 64 = omega arith in
      sym (one_turn r.first t (2 ^ 64) inside.0 near (sym r.served_is ∙ served))

  -- where the first ticket waits, no pass has the value
  pub none_holds : (words : List ℕ) (views : List (View E T)) (id : ℕ) (v : View E T) (r : HasTicketsInOrder words views) → get_elem? views id ≡ some v → v.stage ≡ Waiting r.first
      → (j : ℕ) (u : View E T) → get_elem? views j ≡ some u → is_holding u.stage ≡ true → ⊥
  none_holds words views id v r me stage j u them held =
      let t : ℕ = r.first in
      let mine : waits_with t v.stage ≡ 1 = ap (waits_with t) stage ∙ ap (λ b. cond b 1 0) (eq-eqb t t refl) in
      let a = holder_at u.stage held in let k : ℕ = a.0 in
      let at_k : k ≡ t = dite (ℕ_discrete k t) (λ e. e) (λ no. absurd (omega (arith, a.1, r.only_first k no, term_le (λ (x : View E T). holds_with k x.stage) views j u them))) in
      let theirs : holds_with t u.stage ≡ 1 = ap (λ (x : ℕ). holds_with x u.stage) (sym at_k) ∙ a.1 in
      omega (arith, r.queue t, within_one r.first r.count t, term_le (λ (x : View E T). waits_with t x.stage) views id v me, term_le (λ (x : View E T). holds_with t x.stage) views j u them)

  pub tickets_draws : (words : List ℕ) (views : List (View E T)) (id : ℕ) (v w : View E T) (r : HasTicketsInOrder words views) → length words ≡ 3 → get_elem? views id ≡ some v → v.stage ≡ Idle → w.stage ≡ Waiting (r.first + r.count)
      → HasTicketsInOrder (set words 0 ((get_or words 0 0 + 1) % 2 ^ 64)) (set views id w)
  tickets_draws words views id v w r wide me idle now =
      let moved : (f : Stage → ℕ) → total (λ u. f u.stage) (set views id w) + f Idle ≡ total (λ u. f u.stage) views + f (Waiting (r.first + r.count))
      = λ f. omega (arith, total-set (λ (u : View E T). f u.stage) views id v w me, ap f idle, ap f now) in record {
        first = r.first;
        count = r.count + 1;
        next_is = get_or-set_same words 0 _ 0 (omega arith) ∙ (ap (λ n. (n + 1) % 2 ^ 64) r.next_is ∙ (wraps (r.first + r.count) ∙ ap (λ n. n % 2 ^ 64) (omega arith)));
        served_is = get_or-set_other words 0 1 _ 0 (λ e. omega arith) ∙ r.served_is;
        queue = λ k. omega (arith, r.queue k, moved (waits_with k), moved (holds_with k), within_more r.first r.count k);
        counted = omega (arith, moved tickets_of, r.counted);
        only_first = λ k ne. omega (arith, moved (holds_with k), r.only_first k ne);
      }

  pub tickets_takes : (words : List ℕ) (views : List (View E T)) (id : ℕ) (v w : View E T) (r : HasTicketsInOrder words views) → get_elem? views id ≡ some v → v.stage ≡ Waiting r.first → w.stage ≡ Holding r.first → HasTicketsInOrder words (set views id w)
  tickets_takes words views id v w r me before now =
      let moved : (f : Stage → ℕ) → total (λ u. f u.stage) (set views id w) + f (Waiting r.first) ≡ total (λ u. f u.stage) views + f (Holding r.first)
      = λ f. omega (arith, total-set (λ (u : View E T). f u.stage) views id v w me, ap f before, ap f now) in record {
        first = r.first;
        count = r.count;
        next_is = r.next_is;
        served_is = r.served_is;
        queue = λ k. omega (arith, r.queue k, moved (waits_with k), moved (holds_with k));
        counted = omega (arith, moved tickets_of, r.counted);
        only_first = λ k ne. omega (arith, moved (holds_with k), r.only_first k ne, ap {B = ℕ} (λ (b : Bool). cond b 1 0) (ne_eqb r.first k (λ e. ne (sym e))));
      }

  pub tickets_stays : (words words' : List ℕ) (views : List (View E T)) (id : ℕ) (v w : View E T) → get_or words' 0 0 ≡ get_or words 0 0 → get_or words' 1 0 ≡ get_or words 1 0 → get_elem? views id ≡ some v → w.stage ≡ v.stage
      → HasTicketsInOrder words views → HasTicketsInOrder words' (set views id w)
  tickets_stays words words' views id v w zeroth first me same r =
      let moved : (f : Stage → ℕ) → total (λ u. f u.stage) (set views id w) ≡ total (λ u. f u.stage) views
      = λ f. omega (arith, total-set (λ (u : View E T). f u.stage) views id v w me, ap f same) in record {
        first = r.first;
        count = r.count;
        next_is = zeroth ∙ r.next_is;
        served_is = first ∙ r.served_is;
        queue = λ k. omega (arith, r.queue k, moved (waits_with k), moved (holds_with k));
        counted = moved tickets_of ∙ r.counted;
        only_first = λ k ne. moved (holds_with k) ∙ r.only_first k ne;
      }

  pub tickets_leaves : (words : List ℕ) (views : List (View E T)) (id : ℕ) (v w : View E T) (r : HasTicketsInOrder words views) → length words ≡ 3 → get_elem? views id ≡ some v → v.stage ≡ Holding r.first → w.stage ≡ Idle
      → HasTicketsInOrder (set words 1 ((get_or words 1 0 + 1) % 2 ^ 64)) (set views id w)
  tickets_leaves words views id v w r wide me before now =
      let moved : (f : Stage → ℕ) → total (λ u. f u.stage) (set views id w) + f (Holding r.first) ≡ total (λ u. f u.stage) views + f Idle
      = λ f. omega (arith, total-set (λ (u : View E T). f u.stage) views id v w me, ap f before, ap f now) in
      let part = term_le (λ (u : View E T). tickets_of u.stage) views id v me in
      let one : tickets_of v.stage ≡ 1 = ap tickets_of before in
      let some_count : 1 ≤ r.count = omega (arith, r.counted) in
      let less : ℕ = r.count - 1 in
      let count_is : r.count ≡ less + 1 = omega arith in
      let shift : (k : ℕ) → within r.first r.count k ≡ within (r.first + 1) less k + cond (r.first == k) 1 0 = λ k. ap (λ (n : ℕ). within r.first n k) count_is ∙ within_less r.first less k in record {
        first = r.first + 1;
        count = less;
        next_is = get_or-set_other words 1 0 _ 0 (λ e. omega arith) ∙ (r.next_is ∙ ap (λ n. n % 2 ^ 64) (omega arith));
        served_is = get_or-set_same words 1 _ 0 (omega arith) ∙ (ap (λ n. (n + 1) % 2 ^ 64) r.served_is ∙ wraps r.first);
        queue = λ k. omega (arith, r.queue k, moved (waits_with k), moved (holds_with k), shift k);
        counted = omega (arith, moved tickets_of, r.counted);
        only_first = λ k ne. dite (ℕ_discrete k r.first)
            (λ e. omega (arith, moved (holds_with k), r.queue k, within_one r.first r.count k, ap {B = ℕ} (λ (b : Bool). cond b 1 0) (eq-eqb r.first k (sym e))))
            (λ no. omega (arith, moved (holds_with k), r.only_first k no));
      }
