-- Each step keeps the rule.
use Rattle.std.proofs.Common.{◌≡◌, ℕ, ◌+◌, ◌%◌, ◌^◌, ◌<◌, ◌≤◌, true, List, [], ◌∷◌, ◌++◌, length, get_or, set, refl, sym, ap, ◌∙◌, subst, inr, ◌⊎◌, ⊎_elim, arith, Some, length-set, length-append, get_or-set_other, get_or-set_same}
use mathlib.Core.Logic.{dite}
use native.Mathlib.Decide.{ℕ_discrete}
use lib.Seq.{set-get_or}
use Rattle.atomic_table.proofs.Lists.{at_snoc, set_again}
use mathlib.Core.Option.{none as no_value, some, some-ne-none}
use lib.ListN.{get_elem?}
use Rattle.atomic_table.specs.Table.{State, step, keeps, takes, gives, stepped, opening, Allows, Splits, Joins}
use Rattle.turn_lock.specs.declared.view.Stage.TheVariants.{Idle, Waiting, Holding}
use Rattle.turn_lock.specs.declared.view.View.{View}
use Rattle.turn_lock.specs.Views.{is_idle, is_holding, view_of, no_view, left_view, split_view, both_views, settled_view, view_at}
use Rattle.turn_lock.specs.Steps.{Seated, DrawsTicket, ReadsServing, AddsEntries, PassesTurn, ReadsLength}
use Rattle.turn_lock.specs.Histories.{Begins}
use Rattle.turn_lock.specs.Passes.{all_shares}
use Rattle.turn_lock.specs.Rule.{IsRuled}
use Rattle.turn_lock.proofs.Sums.{term_le}
use Rattle.turn_lock.proofs.Stages.{within_none, idle_is, not_held, not_held_waiting}
use Rattle.turn_lock.proofs.Beginnings.{longer_has}
use Rattle.turn_lock.proofs.SharesPart.{tag_known, shares_moves, shares_splits, shares_joins}
use Rattle.turn_lock.proofs.TicketsPart.{alone_holds, holder_first, waiter_first, none_holds, tickets_draws, tickets_takes, tickets_stays, tickets_leaves, tickets_splits, tickets_joins}
use Rattle.turn_lock.proofs.HistoryPart.{history_moves, history_takes, history_adds, history_leaves, history_settles, history_splits, history_joins}
use Rattle.turn_lock.proofs.EntriesPart.{entries_moves, entries_adds, entries_splits, entries_joins}

same_ticket : (t t' : ℕ) → Waiting t ≡ Waiting t' → t ≡ t'
same_ticket t t' e = cc

some_same : {T : Type 0} (a b : T) → Some a ≡ Some b → a ≡ b
some_same a b e = cc

module _ {V E T : Type 0} (fits : T → V → Type 0) (history_of : V → List E) (tag : T) where
  abbrev Rule : State V (View E T) → Type 0
  Rule = IsRuled fits history_of tag

  pub opens : (value : V) → fits tag value → history_of value ≡ [] → Rule (opening (0 ∷ 0 ∷ 0 ∷ []) (value ∷ []) (view_of all_shares 0 [] Idle (Some tag)))
  opens value good fresh = let v : View E T = view_of all_shares 0 [] Idle (Some tag) in
      let here : (P : View E T → Type 0) → P v → (id : ℕ) (u : View E T) → get_elem? (v ∷ []) id ≡ some u → P u
      = λ P p id u e. ⊎_elim (λ (t : get_elem? [] id ≡ some u). absurd (some-ne-none u (sym t))) (λ (t : v ≡ u). subst P t p) (at_snoc [] v u id e) in record {
        three_words = refl;
        shares = record { whole = refl; each = here (λ x. (x ≡ no_view) ⊎ ((0 < x.shares) × (x.tag ≡ Some tag))) (inr (omega arith, refl)) };
        tickets = record { first = 0; count = 0; next_is = refl; served_is = refl; queue = λ k. sym (within_none 0 k); counted = refl; only_first = λ k ne. refl };
        history = record {
          history = [];
          length_is = refl;
          seen = here (λ x. Begins x.seen []) ([], refl);
          heard = here (λ x. Begins x.heard []) ([], refl);
          held = here (λ x. is_holding x.stage ≡ true → x.seen ≡ []) (λ h. refl);
          home = λ none. (value, refl, good, fresh);
        };
        entries = record { sum = refl };
      }

  pub splits : (id : ℕ) (v : View E T) → 2 ≤ v.shares → Splits Rule id v (left_view v) (split_view v)
  splits id v has s r me = record {
    three_words = r.three_words;
    shares = shares_splits tag s.views id v me has r.shares;
    tickets = tickets_splits s.words s.views id v me r.tickets;
    history = history_splits (fits tag) history_of s.words s.homes s.views id v me r.history;
    entries = entries_splits s.words s.views id v me r.entries;
  }

  pub joins : (id : ℕ) (v : View E T) (other : ℕ) (w : View E T) → 0 < v.shares → is_idle v.stage ≡ true → is_idle w.stage ≡ true → Joins Rule id v other w (both_views v w) no_view
  joins id v other w has idle idle' s r me apart them = record {
    three_words = r.three_words;
    shares = shares_joins tag s.views id other v w me them has r.shares;
    tickets = tickets_joins s.words s.views id other v w me them (idle_is w.stage idle') r.tickets;
    history = history_joins (fits tag) history_of s.words s.homes s.views id other v w me apart them (idle_is v.stage idle) (idle_is w.stage idle') r.history;
    entries = entries_joins s.words s.views id other v w me them r.entries;
  }

  -- a step that finds a word and changes nothing
  unmoved : (s : State V (View E T)) (i id : ℕ) (cs : List (ℕ × V)) (v : View E T) → Rule s → get_elem? s.views id ≡ some v → Rule (stepped s i (get_or s.words i 0) id cs v keeps)
  unmoved s i id cs v r me = subst (λ (t : List ℕ × List (View E T)). Rule record { words = t.0; homes = s.homes; views = t.1 }) (λ k. (sym (set-get_or s.words i 0) k, sym (set_again s.views id v me) k)) r

  pub weighs : (slots id : ℕ) (m : Seated V E T) → is_idle m.0.stage ≡ true → 0 < m.0.shares → Allows Rule slots id m 2 (λ n. n) (ReadsLength (step slots 2 0 0 no_value) m)
  weighs slots id m idle has s r long me small = let v : View E T = m.0 in let w : View E T = settled_view v in let longest = longer_has v.seen v.heard r.history.history (r.history.seen id v me) (r.history.heard id v me) in (
    w,
    keeps,
    tt,
    subst (λ (ws : List ℕ). Rule record { words = ws; homes = s.homes; views = set s.views id w }) (sym (set-get_or s.words 2 0)) record {
      three_words = r.three_words;
      shares = shares_moves tag s.views id v w me has refl refl r.shares;
      tickets = tickets_stays s.words s.words s.views id v w refl refl me refl r.tickets;
      history = history_settles (fits tag) history_of s.words s.words s.homes s.views id v refl me (idle_is v.stage idle) r.history;
      entries = entries_moves s.words s.words s.views id v w refl me refl r.entries;
    },
    (
      refl,
      omega (arith, r.entries.sum, term_le (λ (u : View E T). u.own) s.views id v me),
      omega (arith, r.shares.whole, term_le (λ (u : View E T). u.shares) s.views id v me),
      longest.0,
      longest.1,
    ),
  )

  pub draws : (slots id : ℕ) (m : Seated V E T) → is_idle m.0.stage ≡ true → 0 < m.0.shares → Allows Rule slots id m 0 (λ n. (n + 1) % 2 ^ 64) (DrawsTicket (step slots 0 1 0 no_value) m)
  draws slots id m idle has s r long me small =
      let t : ℕ = r.tickets.first + r.tickets.count in let w : View E T = view_at m.0 (Waiting t) in let stage = idle_is m.0.stage idle in let v : View E T = m.0 in (
        w,
        keeps,
        tt,
        record {
          three_words = length-set s.words 0 _ ∙ r.three_words;
          shares = shares_moves tag s.views id v w me has refl refl r.shares;
          tickets = tickets_draws s.words s.views id v w r.tickets r.three_words me stage refl;
          history = history_moves (fits tag) history_of s.words _ s.homes s.views id v w (get_or-set_other s.words 0 2 _ 0 (λ e. omega arith)) me refl (not_held v.stage stage) (not_held_waiting w.stage t refl) r.history refl;
          entries = entries_moves s.words _ s.views id v w (get_or-set_other s.words 0 2 _ 0 (λ e. omega arith)) me refl r.entries;
        },
        (t, r.tickets.next_is, refl),
      )

  pub serves : (slots id t : ℕ) (m : Seated V E T) → m.0.stage ≡ Waiting t → 0 < m.0.shares → Allows Rule slots id m 1 (λ n. n) (ReadsServing fits history_of (step slots 1 0 0 no_value) m)
  serves slots id t m stage has s r long me small = let v : View E T = m.0 in let found : ℕ = get_or s.words 1 0 in dite (ℕ_discrete found (t % 2 ^ 64))
      (λ hit.
      let first : t ≡ r.tickets.first = waiter_first tag s.words s.views id t v r.shares r.tickets me stage hit in
      let waits : v.stage ≡ Waiting r.tickets.first = stage ∙ ap Waiting first in
      let none = none_holds s.words s.views id v r.tickets me waits in
      let at = r.history.home none in
      let value : V = at.0 in
      let w : View E T = view_of v.shares v.own (history_of value) (Holding t) v.tag in (
        w,
        takes 0 value,
        at.1,
        subst (λ (ws : List ℕ). Rule record { words = ws; homes = set s.homes 0 no_value; views = set s.views id w }) (sym (set-get_or s.words 1 0)) record {
          three_words = r.three_words;
          shares = shares_moves tag s.views id v w me has refl refl r.shares;
          tickets = tickets_takes s.words s.views id v w r.tickets me waits (ap Holding first);
          history = history_takes (fits tag) history_of s.words s.homes _ s.views id v w r.history me at.3 refl refl;
          entries = entries_moves s.words s.words s.views id v w refl me refl r.entries;
        },
        λ t' is. (
          λ _. (
            value,
            (λ k. (view_of v.shares v.own (history_of value) (Holding (same_ticket t t' (sym stage ∙ is) k)) v.tag, (0, value) ∷ m.1)),
            (λ other known. subst (λ (x : T). fits x value) (some_same tag other (sym (tag_known tag s.views id v me has r.shares) ∙ known)) at.2),
            subst (Begins v.seen) (sym at.3) (r.history.seen id v me),
          ),
          λ miss. absurd (miss (hit ∙ ap (λ (n : ℕ). n % 2 ^ 64) (same_ticket t t' (sym stage ∙ is)))),
        ),
      ))
      (λ miss. (
        v,
        keeps,
        tt,
        unmoved s 1 id m.1 v r me,
        λ t' is. (λ hit. absurd (miss (hit ∙ ap (λ (n : ℕ). n % 2 ^ 64) (sym (same_ticket t t' (sym stage ∙ is))))), λ _. refl),
      ))

  pub adds : (slots id t k : ℕ) (v : View E T) (value : V) (entries : List E) → v.stage ≡ Holding t → 0 < v.shares → history_of value ≡ v.seen ++ entries → k ≡ length entries → length (history_of value) < 2 ^ 64
      → Allows Rule slots id (v, (0, value) ∷ []) 2 (λ n. (n + k) % 2 ^ 64) (AddsEntries history_of (step slots 2 k 0 no_value) (v, (0, value) ∷ []))
  adds slots id t k v value entries stage has grown many fit s r long me small =
      let w : View E T = view_of v.shares (v.own + k) (history_of value) v.stage v.tag in
      let whole : v.seen ≡ r.history.history = r.history.held id v me (ap is_holding stage) in
      let count : get_or s.words 2 0 ≡ length v.seen = r.history.length_is ∙ ap length (sym whole) in
      let total_length : length (history_of value) ≡ length v.seen + k = omega (arith, ap length grown, length-append v.seen entries) in
      let next : (get_or s.words 2 0 + k) % 2 ^ 64 ≡ length (history_of value) = omega arith in
      let word : get_or (set s.words 2 ((get_or s.words 2 0 + k) % 2 ^ 64)) 2 0 ≡ length (history_of value) = get_or-set_same s.words 2 _ 0 (omega (arith, r.three_words)) ∙ next in (
        w,
        keeps,
        tt,
        record {
          three_words = length-set s.words 2 _ ∙ r.three_words;
          shares = shares_moves tag s.views id v w me has refl refl r.shares;
          tickets = tickets_stays s.words _ s.views id v w (get_or-set_other s.words 2 0 _ 0 (λ e. omega arith)) (get_or-set_other s.words 2 1 _ 0 (λ e. omega arith)) me refl r.tickets;
          history = history_adds (fits tag) history_of s.words _ s.homes s.views id v w entries r.history me (λ j u them held. alone_holds s.words s.views id j t v u r.tickets me stage them held) (ap is_holding stage) (ap is_holding stage) grown word refl;
          entries = entries_adds s.words _ s.views id k v w (omega arith) me refl r.entries;
        },
        λ x is. let same : value ≡ x = ap (λ (c : List (ℕ × V)). (get_or c 0 (0, value)).1) is in (
          (λ i. (view_of v.shares (v.own + k) (history_of (same i)) v.stage v.tag, (0, value) ∷ [])),
          omega (arith, r.entries.sum, term_le (λ (u : View E T). u.own) s.views id v me, ap (λ (y : V). length (history_of y)) same),
        ),
      )

  pub leaves : (slots id t : ℕ) (v : View E T) (value : V) → slots ≡ 1 → v.stage ≡ Holding t → 0 < v.shares → history_of value ≡ v.seen → ((other : T) → v.tag ≡ Some other → fits other value)
      → Allows Rule slots id (v, (0, value) ∷ []) 1 (λ n. (n + 1) % 2 ^ 64) (λ n. PassesTurn (step slots 1 1 0 no_value) (v, (0, value) ∷ []) n)
  leaves slots id t v value single stage has keeps_story good s r long me small =
      let w : View E T = view_at v Idle in
      let first : t ≡ r.tickets.first = holder_first s.words s.views id t v r.tickets me stage in
      let second : get_or (set s.words 1 ((get_or s.words 1 0 + 1) % 2 ^ 64)) 2 0 ≡ get_or s.words 2 0 = get_or-set_other s.words 1 2 _ 0 (λ e. omega arith) in (
        w,
        gives,
        tt,
        record {
          three_words = length-set s.words 1 _ ∙ r.three_words;
          shares = shares_moves tag s.views id v w me has refl refl r.shares;
          tickets = tickets_leaves s.words s.views id v w r.tickets r.three_words me (stage ∙ ap Holding first) refl;
          history = history_leaves (fits tag) history_of s.words _ s.homes s.views id v w value r.history me (λ j u them held. alone_holds s.words s.views id j t v u r.tickets me stage them held) (ap is_holding stage) refl refl second (omega arith)
              (good tag (tag_known tag s.views id v me has r.shares)) keeps_story refl;
          entries = entries_moves s.words _ s.views id v w second me refl r.entries;
        },
        refl,
      )
