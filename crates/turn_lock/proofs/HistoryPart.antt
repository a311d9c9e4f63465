-- Each kind of step keeps the part of the rule on the history.
use Rattle.std.proofs.Common.{◌≡◌, ◌≢◌, ℕ, ◌<◌, true, List, [], ◌∷◌, ◌++◌, length, get_or, set, refl, sym, ap, ◌∙◌, subst, ⊎_elim, append-nil}
use mathlib.Core.Option.{Option, some, some-injective}
use mathlib.Core.Logic.{dite}
use native.Mathlib.Decide.{ℕ_discrete}
use lib.ListN.{get_elem?}
use Rattle.atomic_table.proofs.Lists.{at_set, at_snoc, set_here, set_else, at_longer}
use Rattle.turn_lock.specs.declared.view.Stage.TheVariants.{Idle}
use Rattle.turn_lock.specs.declared.view.View.{View}
use Rattle.turn_lock.specs.Histories.{Begins}
use Rattle.turn_lock.specs.Views.{is_holding, no_view, left_view, split_view, both_views, settled_view}
use Rattle.turn_lock.specs.Rule.{HasOneHistory}
use Rattle.turn_lock.proofs.Sums.{at_below}
use Rattle.turn_lock.proofs.Stages.{not_held}
use Rattle.turn_lock.proofs.Beginnings.{begins_more, quiet_begins, longer_begins}

module _ {E T : Type 0} where
  module _ {V : Type 0} (fits : V → Type 0) (history_of : V → List E) where
    pub history_splits : (words : List ℕ) (homes : List (Option V)) (views : List (View E T)) (id : ℕ) (v : View E T) → get_elem? views id ≡ some v
        → HasOneHistory fits history_of words homes views → HasOneHistory fits history_of words homes (set views id (left_view v) ++ split_view v ∷ [])
    history_splits words homes views id v me r = let vs : List (View E T) = set views id (left_view v) in record {
      history = r.history;
      length_is = r.length_is;
      seen = λ j u e. ⊎_elim
          (λ (t : get_elem? vs j ≡ some u). ⊎_elim (λ (q : (j ≡ id) × (left_view v ≡ u)). subst (λ (x : View E T). Begins x.seen r.history) q.1 (r.seen id v me))
          (λ (q : (j ≢ id) × (get_elem? views j ≡ some u)). r.seen j u q.1) (at_set views id j (left_view v) u t))
          (λ (t : split_view v ≡ u). subst (λ (x : View E T). Begins x.seen r.history) t (r.seen id v me))
          (at_snoc vs (split_view v) u j e);
      heard = λ j u e. ⊎_elim
          (λ (t : get_elem? vs j ≡ some u). ⊎_elim (λ (q : (j ≡ id) × (left_view v ≡ u)). subst (λ (x : View E T). Begins x.heard r.history) q.1 (r.history, refl))
          (λ (q : (j ≢ id) × (get_elem? views j ≡ some u)). r.heard j u q.1) (at_set views id j (left_view v) u t))
          (λ (t : split_view v ≡ u). subst (λ (x : View E T). Begins x.heard r.history) t (r.history, refl))
          (at_snoc vs (split_view v) u j e);
      held = λ j u e h. ⊎_elim
          (λ (t : get_elem? vs j ≡ some u). ⊎_elim (λ (q : (j ≡ id) × (left_view v ≡ u)). ap (λ (x : View E T). x.seen) (sym q.1) ∙ r.held id v me (ap (λ (x : View E T). is_holding x.stage) q.1 ∙ h))
          (λ (q : (j ≢ id) × (get_elem? views j ≡ some u)). r.held j u q.1 h) (at_set views id j (left_view v) u t))
          (λ (t : split_view v ≡ u). absurd (not_held u.stage (ap (λ (x : View E T). x.stage) (sym t)) h))
          (at_snoc vs (split_view v) u j e);
      home = λ none. r.home (λ j u e h. dite (ℕ_discrete j id)
          (λ (z : j ≡ id). let same : v ≡ u = some-injective v u (sym me ∙ (ap (get_elem? views) (sym z) ∙ e)) in
          none id (left_view v) (at_longer vs (split_view v ∷ []) id (left_view v) (set_here views id (left_view v) (at_below views id v me))) (ap (λ (x : View E T). is_holding x.stage) same ∙ h))
          (λ ne. none j u (at_longer vs (split_view v ∷ []) j u (set_else views id j (left_view v) ne ∙ e)) h));
    }

    pub history_joins : (words : List ℕ) (homes : List (Option V)) (views : List (View E T)) (id other : ℕ) (v w : View E T) → get_elem? views id ≡ some v → other ≢ id → get_elem? (set views id (both_views v w)) other ≡ some w
        → v.stage ≡ Idle → w.stage ≡ Idle → HasOneHistory fits history_of words homes views → HasOneHistory fits history_of words homes (set (set views id (both_views v w)) other no_view)
    history_joins words homes views id other v w me apart them idle idle' r = let vs : List (View E T) = set views id (both_views v w) in
        let at : get_elem? views other ≡ some w = sym (set_else views id other (both_views v w) apart) ∙ them in record {
          history = r.history;
          length_is = r.length_is;
          seen = λ j u e. ⊎_elim
              (λ (t : (j ≡ other) × (no_view ≡ u)). subst (λ (x : View E T). Begins x.seen r.history) t.1 (r.history, refl))
              (λ (t : (j ≢ other) × (get_elem? vs j ≡ some u)). ⊎_elim
              (λ (q : (j ≡ id) × (both_views v w ≡ u)). subst (λ (x : View E T). Begins x.seen r.history) q.1 (r.seen id v me))
              (λ (q : (j ≢ id) × (get_elem? views j ≡ some u)). r.seen j u q.1) (at_set views id j (both_views v w) u t.1))
              (at_set vs other j no_view u e);
          heard = λ j u e. ⊎_elim
              (λ (t : (j ≡ other) × (no_view ≡ u)). subst (λ (x : View E T). Begins x.heard r.history) t.1 (r.history, refl))
              (λ (t : (j ≢ other) × (get_elem? vs j ≡ some u)). ⊎_elim
              (λ (q : (j ≡ id) × (both_views v w ≡ u)). subst (λ (x : View E T). Begins x.heard r.history) q.1 (r.seen other w at))
              (λ (q : (j ≢ id) × (get_elem? views j ≡ some u)). r.heard j u q.1) (at_set views id j (both_views v w) u t.1))
              (at_set vs other j no_view u e);
          held = λ j u e h. ⊎_elim
              (λ (t : (j ≡ other) × (no_view ≡ u)). absurd (not_held u.stage (ap (λ (x : View E T). x.stage) (sym t.1)) h))
              (λ (t : (j ≢ other) × (get_elem? vs j ≡ some u)). ⊎_elim
              (λ (q : (j ≡ id) × (both_views v w ≡ u)). absurd (not_held u.stage (ap (λ (x : View E T). x.stage) (sym q.1) ∙ idle) h))
              (λ (q : (j ≢ id) × (get_elem? views j ≡ some u)). r.held j u q.1 h) (at_set views id j (both_views v w) u t.1))
              (at_set vs other j no_view u e);
          home = λ none. r.home (λ j u e h. dite (ℕ_discrete j id)
              (λ (z : j ≡ id). let same : v ≡ u = some-injective v u (sym me ∙ (ap (get_elem? views) (sym z) ∙ e)) in not_held u.stage (ap (λ (x : View E T). x.stage) (sym same) ∙ idle) h)
              (λ ne. dite (ℕ_discrete j other)
              (λ (z : j ≡ other). let same : w ≡ u = some-injective w u (sym at ∙ (ap (get_elem? views) (sym z) ∙ e)) in not_held u.stage (ap (λ (x : View E T). x.stage) (sym same) ∙ idle') h)
              (λ no. none j u (set_else vs other j no_view no ∙ (set_else views id j (both_views v w) ne ∙ e)) h)));
        }

    -- a step of a pass that does not have the value
    pub history_moves : (words words' : List ℕ) (homes : List (Option V)) (views : List (View E T)) (id : ℕ) (v w : View E T) → get_or words' 2 0 ≡ get_or words 2 0 → get_elem? views id ≡ some v → w.seen ≡ v.seen
        → (is_holding v.stage ≡ true → ⊥) → (is_holding w.stage ≡ true → ⊥) → HasOneHistory fits history_of words homes views → w.heard ≡ [] → HasOneHistory fits history_of words' homes (set views id w)
    history_moves words words' homes views id v w second me same free free' r quiet = record {
      history = r.history;
      length_is = second ∙ r.length_is;
      seen = λ j u e. ⊎_elim (λ (q : (j ≡ id) × (w ≡ u)). subst (λ (x : View E T). Begins x.seen r.history) q.1 (subst (λ (l : List E). Begins l r.history) (sym same) (r.seen id v me)))
          (λ (q : (j ≢ id) × (get_elem? views j ≡ some u)). r.seen j u q.1) (at_set views id j w u e);
      heard = λ j u e. ⊎_elim (λ (q : (j ≡ id) × (w ≡ u)). subst (λ (x : View E T). Begins x.heard r.history) q.1 (quiet_begins w.heard r.history quiet))
          (λ (q : (j ≢ id) × (get_elem? views j ≡ some u)). r.heard j u q.1) (at_set views id j w u e);
      held = λ j u e h. ⊎_elim (λ (q : (j ≡ id) × (w ≡ u)). absurd (free' (ap (λ (x : View E T). is_holding x.stage) q.1 ∙ h)))
          (λ (q : (j ≢ id) × (get_elem? views j ≡ some u)). r.held j u q.1 h) (at_set views id j w u e);
      home = λ none. r.home (λ j u e h. dite (ℕ_discrete j id)
          (λ (z : j ≡ id). let is : v ≡ u = some-injective v u (sym me ∙ (ap (get_elem? views) (sym z) ∙ e)) in free (ap (λ (x : View E T). is_holding x.stage) is ∙ h))
          (λ ne. none j u (set_else views id j w ne ∙ e) h));
    }

    -- a pass without the value settles on the longer_of of two stories
    pub history_settles : (words words' : List ℕ) (homes : List (Option V)) (views : List (View E T)) (id : ℕ) (v : View E T) → get_or words' 2 0 ≡ get_or words 2 0 → get_elem? views id ≡ some v → v.stage ≡ Idle
        → HasOneHistory fits history_of words homes views → HasOneHistory fits history_of words' homes (set views id (settled_view v))
    history_settles words words' homes views id v second me idle r = record {
      history = r.history;
      length_is = second ∙ r.length_is;
      seen = λ j u e. ⊎_elim (λ (q : (j ≡ id) × (settled_view v ≡ u)). subst (λ (x : View E T). Begins x.seen r.history) q.1 (longer_begins v.seen v.heard r.history (r.seen id v me) (r.heard id v me)))
          (λ (q : (j ≢ id) × (get_elem? views j ≡ some u)). r.seen j u q.1) (at_set views id j (settled_view v) u e);
      heard = λ j u e. ⊎_elim (λ (q : (j ≡ id) × (settled_view v ≡ u)). subst (λ (x : View E T). Begins x.heard r.history) q.1 (r.history, refl))
          (λ (q : (j ≢ id) × (get_elem? views j ≡ some u)). r.heard j u q.1) (at_set views id j (settled_view v) u e);
      held = λ j u e h. ⊎_elim (λ (q : (j ≡ id) × (settled_view v ≡ u)). absurd (not_held u.stage (ap (λ (x : View E T). x.stage) (sym q.1) ∙ idle) h))
          (λ (q : (j ≢ id) × (get_elem? views j ≡ some u)). r.held j u q.1 h) (at_set views id j (settled_view v) u e);
      home = λ none. r.home (λ j u e h. dite (ℕ_discrete j id)
          (λ (z : j ≡ id). let is : v ≡ u = some-injective v u (sym me ∙ (ap (get_elem? views) (sym z) ∙ e)) in not_held u.stage (ap (λ (x : View E T). x.stage) (sym is) ∙ idle) h)
          (λ ne. none j u (set_else views id j (settled_view v) ne ∙ e) h));
    }

    -- the pass takes the value
    pub history_takes : (words : List ℕ) (homes homes' : List (Option V)) (views : List (View E T)) (id : ℕ) (v w : View E T) (r : HasOneHistory fits history_of words homes views) → get_elem? views id ≡ some v → w.seen ≡ r.history → is_holding w.stage ≡ true
        → w.heard ≡ [] → HasOneHistory fits history_of words homes' (set views id w)
    history_takes words homes homes' views id v w r me now holds quiet = record {
      history = r.history;
      length_is = r.length_is;
      seen = λ j u e. ⊎_elim (λ (q : (j ≡ id) × (w ≡ u)). subst (λ (x : View E T). Begins x.seen r.history) q.1 ([], sym now ∙ sym (append-nil w.seen)))
          (λ (q : (j ≢ id) × (get_elem? views j ≡ some u)). r.seen j u q.1) (at_set views id j w u e);
      heard = λ j u e. ⊎_elim (λ (q : (j ≡ id) × (w ≡ u)). subst (λ (x : View E T). Begins x.heard r.history) q.1 (quiet_begins w.heard r.history quiet))
          (λ (q : (j ≢ id) × (get_elem? views j ≡ some u)). r.heard j u q.1) (at_set views id j w u e);
      held = λ j u e h. ⊎_elim (λ (q : (j ≡ id) × (w ≡ u)). ap (λ (x : View E T). x.seen) (sym q.1) ∙ now)
          (λ (q : (j ≢ id) × (get_elem? views j ≡ some u)). r.held j u q.1 h) (at_set views id j w u e);
      home = λ none. absurd (none id w (set_here views id w (at_below views id v me)) holds);
    }

    -- the pass that has the value adds an entry
    pub history_adds : (words words' : List ℕ) (homes : List (Option V)) (views : List (View E T)) (id : ℕ) (v w : View E T) (entries : List E) → HasOneHistory fits history_of words homes views → get_elem? views id ≡ some v
        → ((j : ℕ) (u : View E T) → get_elem? views j ≡ some u → is_holding u.stage ≡ true → j ≡ id) → is_holding v.stage ≡ true → is_holding w.stage ≡ true → w.seen ≡ v.seen ++ entries → get_or words' 2 0 ≡ length w.seen
        → w.heard ≡ [] → HasOneHistory fits history_of words' homes (set views id w)
    history_adds words words' homes views id v w entries r me only had has grown count quiet = let whole : v.seen ≡ r.history = r.held id v me had in record {
      history = w.seen;
      length_is = count;
      seen = λ j u e. ⊎_elim (λ (q : (j ≡ id) × (w ≡ u)). subst (λ (x : View E T). Begins x.seen w.seen) q.1 ([], sym (append-nil w.seen)))
          (λ (q : (j ≢ id) × (get_elem? views j ≡ some u)). subst (Begins u.seen) (sym (grown ∙ ap (λ (l : List E). l ++ entries) whole)) (begins_more u.seen r.history entries (r.seen j u q.1))) (at_set views id j w u e);
      heard = λ j u e. ⊎_elim (λ (q : (j ≡ id) × (w ≡ u)). subst (λ (x : View E T). Begins x.heard w.seen) q.1 (quiet_begins w.heard w.seen quiet))
          (λ (q : (j ≢ id) × (get_elem? views j ≡ some u)). subst (Begins u.heard) (sym (grown ∙ ap (λ (l : List E). l ++ entries) whole)) (begins_more u.heard r.history entries (r.heard j u q.1))) (at_set views id j w u e);
      held = λ j u e h. ⊎_elim (λ (q : (j ≡ id) × (w ≡ u)). ap (λ (x : View E T). x.seen) (sym q.1))
          (λ (q : (j ≢ id) × (get_elem? views j ≡ some u)). absurd (q.0 (only j u q.1 h))) (at_set views id j w u e);
      home = λ none. absurd (none id w (set_here views id w (at_below views id v me)) has);
    }

    -- the pass puts the value back
    pub history_leaves : (words words' : List ℕ) (homes : List (Option V)) (views : List (View E T)) (id : ℕ) (v w : View E T) (value : V) → HasOneHistory fits history_of words homes views → get_elem? views id ≡ some v
        → ((j : ℕ) (u : View E T) → get_elem? views j ≡ some u → is_holding u.stage ≡ true → j ≡ id) → is_holding v.stage ≡ true → w.stage ≡ Idle → w.seen ≡ v.seen → get_or words' 2 0 ≡ get_or words 2 0
        → 0 < length homes → fits value → history_of value ≡ v.seen → w.heard ≡ [] → HasOneHistory fits history_of words' (set homes 0 (some value)) (set views id w)
    history_leaves words words' homes views id v w value r me only had idle same second room good keeps quiet = let whole : v.seen ≡ r.history = r.held id v me had in record {
      history = r.history;
      length_is = second ∙ r.length_is;
      seen = λ j u e. ⊎_elim (λ (q : (j ≡ id) × (w ≡ u)). subst (λ (x : View E T). Begins x.seen r.history) q.1 (subst (λ (l : List E). Begins l r.history) (sym same) (r.seen id v me)))
          (λ (q : (j ≢ id) × (get_elem? views j ≡ some u)). r.seen j u q.1) (at_set views id j w u e);
      heard = λ j u e. ⊎_elim (λ (q : (j ≡ id) × (w ≡ u)). subst (λ (x : View E T). Begins x.heard r.history) q.1 (quiet_begins w.heard r.history quiet))
          (λ (q : (j ≢ id) × (get_elem? views j ≡ some u)). r.heard j u q.1) (at_set views id j w u e);
      held = λ j u e h. ⊎_elim (λ (q : (j ≡ id) × (w ≡ u)). absurd (not_held u.stage (ap (λ (x : View E T). x.stage) (sym q.1) ∙ idle) h))
          (λ (q : (j ≢ id) × (get_elem? views j ≡ some u)). r.held j u q.1 h) (at_set views id j w u e);
      home = λ none. (value, set_here homes 0 (some value) room, good, keeps ∙ whole);
    }
