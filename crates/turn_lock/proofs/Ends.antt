-- What is left of a turn that was closed.
use Rattle.std.proofs.Common.{◌≡◌, ◌≢◌, ℕ, ◌+◌, ◌%◌, ◌^◌, ◌≤◌, true, List, length, get_or, sym, ap, ◌∙◌, subst, ⊎_elim, arith}
use mathlib.Core.Option.{some, some-injective}
use lib.ListN.{get_elem?}
use Rattle.atomic_table.specs.Table.{State, Final, Seen}
use Rattle.atomic_table.proofs.Lists.{one_turn}
use Rattle.turn_lock.specs.declared.view.View.{View}
use Rattle.turn_lock.specs.Rule.{total}
use Rattle.turn_lock.specs.Views.{is_idle, is_holding, tickets_of, no_view}
use Rattle.turn_lock.specs.Histories.{Begins}
use Rattle.turn_lock.specs.Passes.{all_shares}
use Rattle.turn_lock.specs.Rule.{IsRuled}
use Rattle.turn_lock.proofs.Sums.{term_le, terms_le, alone, word_at}
use Rattle.turn_lock.proofs.Stages.{idle_is, ticket_of_holder}
use Rattle.turn_lock.proofs.SharesPart.{few_tickets}

module _ {V E T : Type 0} (fits : T → V → Type 0) (history_of : V → List E) (tag : T) where
  abbrev pub Rule : State V (View E T) → Type 0
  Rule = IsRuled fits history_of tag

  pub ended_shares : (id : ℕ) (v : View E T) (ws : List ℕ) (xs : List V) → Final (Seen Rule id v) ws xs → v.shares ≤ all_shares
  ended_shares id v ws xs f = let r = f.1.0 in omega (arith, r.shares.whole, term_le (λ (u : View E T). u.shares) f.0.views id v f.1.1)

  -- a pass with all shares is the only one
  others_spent : (s : State V (View E T)) (id : ℕ) (v : View E T) → Rule s → get_elem? s.views id ≡ some v → all_shares ≤ v.shares → (j : ℕ) (u : View E T) → j ≢ id → get_elem? s.views j ≡ some u → u ≡ no_view
  others_spent s id v r me whole j u ne them = ⊎_elim (λ e. e) (λ t. absurd (omega (arith, r.shares.whole, terms_le (λ (x : View E T). x.shares) s.views id j v u ne me them, t.0))) (r.shares.each j u them)

  pub ended_free : (id : ℕ) (v : View E T) (ws : List ℕ) (xs : List V) (a b : ℕ) → Final (Seen Rule id v) ws xs → get_elem? ws 0 ≡ some a → get_elem? ws 1 ≡ some b → is_idle v.stage ≡ true → all_shares ≤ v.shares → a ≡ b
  ended_free id v ws xs a b f first second idle whole = let s = f.0 in let r = f.1.0 in let me = f.1.1 in
      let none : total (λ (x : View E T). tickets_of x.stage) s.views ≡ tickets_of v.stage = alone (λ (x : View E T). tickets_of x.stage) s.views id v me (λ j u ne them. ap (λ (x : View E T). tickets_of x.stage) (others_spent s id v r me whole j u ne them)) in
      let zero_count : r.tickets.count ≡ 0 = sym r.tickets.counted ∙ (none ∙ ap tickets_of (idle_is v.stage idle)) in
      sym (word_at ws 0 a first) ∙ (ap (λ (l : List ℕ). get_or l 0 0) (sym f.2) ∙ (r.tickets.next_is ∙ (ap (λ (n : ℕ). n % 2 ^ 64) (omega arith) ∙ (sym r.tickets.served_is ∙ (ap (λ (l : List ℕ). get_or l 1 0) f.2 ∙ word_at ws 1 b second)))))

  pub ended_value : (id : ℕ) (v : View E T) (ws : List ℕ) (xs : List V) (a b : ℕ) (x : V) → Final (Seen Rule id v) ws xs → get_elem? ws 0 ≡ some a → get_elem? ws 1 ≡ some b → a ≡ b → get_elem? xs 0 ≡ some x
      → fits tag x × Begins v.seen (history_of x) × (v.own ≤ length (history_of x)) × (all_shares ≤ v.shares → v.own ≡ length (history_of x))
  ended_value id v ws xs a b x f first second same there = let s = f.0 in let r = f.1.0 in let me = f.1.1 in let q = r.tickets in
      let few = few_tickets tag s.views r.shares in
      let words : (q.first + q.count) % 2 ^ 64 ≡ q.first % 2 ^ 64 =
      sym q.next_is ∙ (ap (λ (l : List ℕ). get_or l 0 0) f.2 ∙ (word_at ws 0 a first ∙ (same ∙ (sym (word_at ws 1 b second) ∙ (ap (λ (l : List ℕ). get_or l 1 0) (sym f.2) ∙ q.served_is))))) in
      let counted : total (λ (y : View E T). tickets_of y.stage) s.views ≡ q.count = q.counted in
      let back : q.first ≡ q.first + q.count = one_turn q.first (q.first + q.count) (2 ^ 64) (omega arith) (omega arith) (sym words) in
      let free : (j : ℕ) (u : View E T) → get_elem? s.views j ≡ some u → is_holding u.stage ≢ true
      = λ j u them holds. omega (arith, ticket_of_holder u.stage holds, term_le (λ (y : View E T). tickets_of y.stage) s.views j u them) in
      let at = r.history.home free in
      let is : at.0 ≡ x = some-injective at.0 x (sym (f.4 0 at.0 at.1) ∙ there) in (
        subst (fits tag) is at.2,
        subst (λ (y : V). Begins v.seen (history_of y)) is (subst (Begins v.seen) (sym at.3) (r.history.seen id v me)),
        omega (arith, term_le (λ (y : View E T). y.own) s.views id v me, r.entries.sum, r.history.length_is, ap length at.3, ap (λ (y : V). length (history_of y)) is),
        λ whole. omega (arith, alone (λ (y : View E T). y.own) s.views id v me (λ j u ne them. ap (λ (y : View E T). y.own) (others_spent s id v r me whole j u ne them)), r.entries.sum, r.history.length_is, ap length at.3, ap (λ (y : V). length (history_of y)) is),
      )
