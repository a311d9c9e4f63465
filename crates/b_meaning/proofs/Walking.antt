-- Loops over the tuples of a binder, in the words of the code's steps.
use Rattle.std.proofs.Common.{◌≡◌, ℕ, Bool, true, false, List, [], ◌∷◌, ◌++◌, Option, Some, None, Result, Ok, Err, refl, sym, ap, ◌∙◌, subst}
use Rattle.std.specs.Prelude.{if◌then◌else◌}
use Rattle.b_meaning.specs.Meaning.{BinderMeaning, UniversalMeaning, CollectionMeaning, VariableMeaning, Test, binder_of, universal_of, collection_of, holds_of, at_tuple, implied, passing, gathering, gathered_at, binder_places, ranges_in, limit_fault}
use Rattle.b_meaning.specs.Tuples.{places_ahead}
use Rattle.b_places.specs.PlaceLaws.{goes_on, decides, stops, IsCollecting, collects, uncollected, no_collection, collected, totals, untotalled, unfound, no_total, all_totalled}
use Rattle.b_places.specs.Places.{Candidate, couple_of, decided, instances, those, totalled, next_partial, with_some}
use Rattle.b_places.specs.Scopes.{Slots}
use Rattle.b_places.specs.Walks.{Finds}
use Rattle.b_places.specs.declared.walk.Walk.{Walk}
use Rattle.b_rows.specs.Answers.{Answer, bind, Means, MeansBy}
use Rattle.b_rows.specs.declared.EvalStop.{EvalStop}
use Rattle.b_rows.specs.declared.EvalStop.TheVariants.{Fault, Memory}
use Rattle.b_tree.specs.declared.Binder.{Binder, out-Binder}
use Rattle.b_tree.specs.declared.Collection.{Collection, out-Collection}
use Rattle.b_tree.specs.declared.Universal.{Universal, out-Universal}
use Rattle.b_tree.specs.declared.operators.Collector.{Collector}
use Rattle.b_values.specs.declared.values.Value.{Value}
use Rattle.b_meaning.proofs.Trees.{universal_binder, collection_binder, binder_test}

-- what a step of a walk found, with the binder's meaning in other words
found_by : (n : ℕ) (a b : BinderMeaning) (env : Slots) (w x : Walk) (r : Result Bool EvalStop) → a ≡ b → Finds (places_ahead n b.variables env w) x.values (places_ahead n b.variables env x) r → Finds (places_ahead n a.variables env w) x.values (places_ahead n a.variables env x) r
found_by n a b env w x r e h = subst (λ (m : BinderMeaning). Finds (places_ahead n m.variables env w) x.values (places_ahead n m.variables env x) r) (sym e) h

found_tuple : (before after : List Candidate) (t : List Value) (b : Bool) → b ≡ true → Finds before t after (Ok b) → before ≡ Ok t ∷ after
found_tuple before after t b e h = subst (λ (c : Bool). Finds before t after (Ok c)) e h

found_end : (before after : List Candidate) (t : List Value) (b : Bool) → b ≡ false → Finds before t after (Ok b) → before ≡ []
found_end before after t b e h = subst (λ (c : Bool). Finds before t after (Ok c)) e h

-- ---- `!`

module _ (n : ℕ) (u : Universal) (env : Slots) (w x : Walk) (whole : Answer Bool) (state : whole ≡ decided true (instances (at_tuple (implied (universal_of n u)) env) (places_ahead n (universal_of n u).binder.variables env w)))
    (b : Bool) (is : b ≡ true) (h : Finds (places_ahead n (binder_of n (out-Universal u).binder).variables env w) x.values (places_ahead n (binder_of n (out-Universal u).binder).variables env x) (Ok b))
    (inner : Slots) (slots : inner ≡ env ++ x.values) where
  tuple_all : places_ahead n (universal_of n u).binder.variables env w ≡ Ok x.values ∷ places_ahead n (universal_of n u).binder.variables env x
  tuple_all = found_tuple (places_ahead n (universal_of n u).binder.variables env w) (places_ahead n (universal_of n u).binder.variables env x) x.values b is (found_by n (universal_of n u).binder (binder_of n (out-Universal u).binder) env w x (Ok b) (universal_binder n u) h)

  implied_there : (r : Answer Bool) → implied (universal_of n u) inner ≡ r → at_tuple (implied (universal_of n u)) env x.values ≡ r
  implied_there r e = ap (implied (universal_of n u)) (sym slots) ∙ e

  pub all_goes_on : (c : Bool) → c ≡ true → implied (universal_of n u) inner ≡ Ok c → whole ≡ decided true (instances (at_tuple (implied (universal_of n u)) env) (places_ahead n (universal_of n u).binder.variables env x))
  all_goes_on c e g = goes_on (at_tuple (implied (universal_of n u)) env) whole (places_ahead n (universal_of n u).binder.variables env w) (places_ahead n (universal_of n u).binder.variables env x) x.values true state tuple_all (implied_there (Ok true) (g ∙ ap Ok e))

  pub all_decides : (c : Bool) → c ≡ false → implied (universal_of n u) inner ≡ Ok c → whole ≡ Ok false
  all_decides c e g = decides (at_tuple (implied (universal_of n u)) env) whole (places_ahead n (universal_of n u).binder.variables env w) (places_ahead n (universal_of n u).binder.variables env x) x.values true state tuple_all (implied_there (Ok false) (g ∙ ap Ok e))

  pub all_stops : (s : EvalStop) → Means (implied (universal_of n u) inner) (Err s) → Means whole (Err s)
  all_stops s g = stops (at_tuple (implied (universal_of n u)) env) whole (places_ahead n (universal_of n u).binder.variables env w) (places_ahead n (universal_of n u).binder.variables env x) x.values true s state tuple_all (subst (λ (y : Slots). Means (implied (universal_of n u) y) (Err s)) slots g)

-- ---- a comprehension

module _ (n : ℕ) (p : Binder) (env : Slots) (w x : Walk) (whole : Answer (List Value)) (found : List Value) (state : IsCollecting whole found (instances (passing (binder_of n p).test env) (places_ahead n (binder_of n p).variables env w)))
    (b : Bool) (is : b ≡ true) (h : Finds (places_ahead n (binder_of n p).variables env w) x.values (places_ahead n (binder_of n p).variables env x) (Ok b))
    (inner : Slots) (slots : inner ≡ env ++ x.values) where
  tuple_those : places_ahead n (binder_of n p).variables env w ≡ Ok x.values ∷ places_ahead n (binder_of n p).variables env x
  tuple_those = found_tuple (places_ahead n (binder_of n p).variables env w) (places_ahead n (binder_of n p).variables env x) x.values b is h

  test_there : (r : Answer Bool) → holds_of n (out-Binder p).predicate inner ≡ r → passing (binder_of n p).test env x.values ≡ bind r (λ c. Ok (if c then Some (couple_of x.values) else None))
  test_there r e =
      ap (λ (q : Test). bind (q (env ++ x.values)) (λ c. Ok (if c then Some (couple_of x.values) else None))) (binder_test n p)
      ∙ ap (λ (y : Slots). bind (holds_of n (out-Binder p).predicate y) (λ c. Ok (if c then Some (couple_of x.values) else None))) (sym slots)
      ∙ ap (λ (a : Answer Bool). bind a (λ c. Ok (if c then Some (couple_of x.values) else None))) e

  pub those_takes : (c : Bool) (more : List Value) → c ≡ true → holds_of n (out-Binder p).predicate inner ≡ Ok c → more ≡ found ++ couple_of x.values ∷ [] → IsCollecting whole more (instances (passing (binder_of n p).test env) (places_ahead n (binder_of n p).variables env x))
  those_takes c more e g m = collects (passing (binder_of n p).test env) whole (places_ahead n (binder_of n p).variables env w) (places_ahead n (binder_of n p).variables env x) x.values found state (Some (couple_of x.values)) more tuple_those (test_there (Ok true) (g ∙ ap Ok e)) m

  pub those_leaves : (c : Bool) → c ≡ false → holds_of n (out-Binder p).predicate inner ≡ Ok c → IsCollecting whole found (instances (passing (binder_of n p).test env) (places_ahead n (binder_of n p).variables env x))
  those_leaves c e g = collects (passing (binder_of n p).test env) whole (places_ahead n (binder_of n p).variables env w) (places_ahead n (binder_of n p).variables env x) x.values found state None found tuple_those (test_there (Ok false) (g ∙ ap Ok e)) (nothing_more found)
    where
      nothing_more : (l : List Value) → l ≡ l ++ []
      nothing_more [] = refl
      nothing_more (v ∷ l) = ap (λ (r : List Value). v ∷ r) (nothing_more l)

  pub those_stops : {X : Type 0} (view : X → List Value) (s : EvalStop) → Means (holds_of n (out-Binder p).predicate inner) (Err s) → MeansBy view whole (Err s)
  those_stops view (Fault f) g = uncollected (passing (binder_of n p).test env) whole (places_ahead n (binder_of n p).variables env w) (places_ahead n (binder_of n p).variables env x) x.values found state view (Fault f) tuple_those (test_there (Err f) g)
  those_stops view Memory g = tt

-- ---- `%`, UNION, INTER, SIGMA, PI

module _ (n : ℕ) (k : Collection) (c : Collector) (env : Slots) (w x : Walk)
    (b : Bool) (is : b ≡ true) (h : Finds (places_ahead n (binder_of n (out-Collection k).binder).variables env w) x.values (places_ahead n (binder_of n (out-Collection k).binder).variables env x) (Ok b))
    (inner : Slots) (slots : inner ≡ env ++ x.values) (tuple : List Value) (at : tuple ≡ x.values) where
  tuple_gathered : places_ahead n (collection_of n k).binder.variables env w ≡ Ok x.values ∷ places_ahead n (collection_of n k).binder.variables env x
  tuple_gathered = found_tuple (places_ahead n (collection_of n k).binder.variables env w) (places_ahead n (collection_of n k).binder.variables env x) x.values b is (found_by n (collection_of n k).binder (binder_of n (out-Collection k).binder) env w x (Ok b) (collection_binder n k) h)

  there : {A : Type 0} (P : Answer (Option Value) → A) → P (gathered_at c (collection_of n k) tuple inner) ≡ P (gathering c (collection_of n k) env x.values)
  there P = ap (λ (t : List Value). P (gathered_at c (collection_of n k) t inner)) at ∙ ap (λ (y : Slots). P (gathered_at c (collection_of n k) x.values y)) slots

  gathered_there : (r : Answer (Option Value)) → gathered_at c (collection_of n k) tuple inner ≡ r → gathering c (collection_of n k) env x.values ≡ r
  gathered_there r e = sym (there (λ a. a)) ∙ e

  stopped_there : (s : EvalStop) → Means (gathered_at c (collection_of n k) tuple inner) (Err s) → Means (gathering c (collection_of n k) env x.values) (Err s)
  stopped_there (Fault f) e = gathered_there (Err f) e
  stopped_there Memory e = tt

  module _ (whole : Answer (List Value)) (found : List Value) (state : IsCollecting whole found (instances (gathering c (collection_of n k) env) (places_ahead n (collection_of n k).binder.variables env w))) where
    pub gathers : (o : Option Value) (more : List Value) → gathered_at c (collection_of n k) tuple inner ≡ Ok o → more ≡ found ++ with_some o [] → IsCollecting whole more (instances (gathering c (collection_of n k) env) (places_ahead n (collection_of n k).binder.variables env x))
    gathers o more e m = collects (gathering c (collection_of n k) env) whole (places_ahead n (collection_of n k).binder.variables env w) (places_ahead n (collection_of n k).binder.variables env x) x.values found state o more tuple_gathered (gathered_there (Ok o) e) m

    pub gather_stops : {X : Type 0} (view : X → List Value) (s : EvalStop) → Means (gathered_at c (collection_of n k) tuple inner) (Err s) → MeansBy view whole (Err s)
    gather_stops view s e = uncollected (gathering c (collection_of n k) env) whole (places_ahead n (collection_of n k).binder.variables env w) (places_ahead n (collection_of n k).binder.variables env x) x.values found state view s tuple_gathered (stopped_there s e)

  module _ (S : Value → Value → Answer Value) (whole : Answer Value) (partial : Value) (state : whole ≡ totalled S partial (instances (gathering c (collection_of n k) env) (places_ahead n (collection_of n k).binder.variables env w))) where
    pub total_goes_on : (o : Option Value) (next : Value) → gathered_at c (collection_of n k) tuple inner ≡ Ok o → next_partial S partial o ≡ Ok next → whole ≡ totalled S next (instances (gathering c (collection_of n k) env) (places_ahead n (collection_of n k).binder.variables env x))
    total_goes_on o next e g = totals S (gathering c (collection_of n k) env) whole (places_ahead n (collection_of n k).binder.variables env w) (places_ahead n (collection_of n k).binder.variables env x) x.values partial state o next tuple_gathered (gathered_there (Ok o) e) g

    pub total_faults : (o : Option Value) (s : EvalStop) → gathered_at c (collection_of n k) tuple inner ≡ Ok o → Means (next_partial S partial o) (Err s) → Means whole (Err s)
    total_faults o s e g = untotalled S (gathering c (collection_of n k) env) whole (places_ahead n (collection_of n k).binder.variables env w) (places_ahead n (collection_of n k).binder.variables env x) x.values partial state o s tuple_gathered (gathered_there (Ok o) e) g

    pub total_stops : (s : EvalStop) → Means (gathered_at c (collection_of n k) tuple inner) (Err s) → Means whole (Err s)
    total_stops s e = unfound S (gathering c (collection_of n k) env) whole (places_ahead n (collection_of n k).binder.variables env w) (places_ahead n (collection_of n k).binder.variables env x) x.values partial state s tuple_gathered (stopped_there s e)

-- ---- where a walk ends or a range faults

module _ (n : ℕ) (k : Collection) (c : Collector) (env : Slots) (w x : Walk) where
  pub gathered_all : (whole : Answer (List Value)) (found : List Value) (b : Bool) → IsCollecting whole found (instances (gathering c (collection_of n k) env) (places_ahead n (collection_of n k).binder.variables env w)) → b ≡ false
      → Finds (places_ahead n (binder_of n (out-Collection k).binder).variables env w) x.values (places_ahead n (binder_of n (out-Collection k).binder).variables env x) (Ok b) → whole ≡ Ok found
  gathered_all whole found b state is h = collected (gathering c (collection_of n k) env) whole (places_ahead n (collection_of n k).binder.variables env w) (places_ahead n (collection_of n k).binder.variables env x) x.values found state
      (found_end (places_ahead n (collection_of n k).binder.variables env w) (places_ahead n (collection_of n k).binder.variables env x) x.values b is (found_by n (collection_of n k).binder (binder_of n (out-Collection k).binder) env w x (Ok b) (collection_binder n k) h))

  pub gather_faults : {X : Type 0} (view : X → List Value) (whole : Answer (List Value)) (found : List Value) (s : EvalStop) → IsCollecting whole found (instances (gathering c (collection_of n k) env) (places_ahead n (collection_of n k).binder.variables env w))
      → Finds (places_ahead n (binder_of n (out-Collection k).binder).variables env w) x.values (places_ahead n (binder_of n (out-Collection k).binder).variables env x) (Err s) → MeansBy view whole (Err s)
  gather_faults view whole found s state h = no_collection (gathering c (collection_of n k) env) whole (places_ahead n (collection_of n k).binder.variables env w) (places_ahead n (collection_of n k).binder.variables env x) x.values found state view s
      (found_by n (collection_of n k).binder (binder_of n (out-Collection k).binder) env w x (Err s) (collection_binder n k) h)

  pub totalled_all : (S : Value → Value → Answer Value) (whole : Answer Value) (partial : Value) (b : Bool) → whole ≡ totalled S partial (instances (gathering c (collection_of n k) env) (places_ahead n (collection_of n k).binder.variables env w)) → b ≡ false
      → Finds (places_ahead n (binder_of n (out-Collection k).binder).variables env w) x.values (places_ahead n (binder_of n (out-Collection k).binder).variables env x) (Ok b) → whole ≡ Ok partial
  totalled_all S whole partial b state is h = all_totalled S (gathering c (collection_of n k) env) whole (places_ahead n (collection_of n k).binder.variables env w) (places_ahead n (collection_of n k).binder.variables env x) x.values partial state
      (found_end (places_ahead n (collection_of n k).binder.variables env w) (places_ahead n (collection_of n k).binder.variables env x) x.values b is (found_by n (collection_of n k).binder (binder_of n (out-Collection k).binder) env w x (Ok b) (collection_binder n k) h))

  pub total_ends_faulty : (S : Value → Value → Answer Value) (whole : Answer Value) (partial : Value) (s : EvalStop) → whole ≡ totalled S partial (instances (gathering c (collection_of n k) env) (places_ahead n (collection_of n k).binder.variables env w))
      → Finds (places_ahead n (binder_of n (out-Collection k).binder).variables env w) x.values (places_ahead n (binder_of n (out-Collection k).binder).variables env x) (Err s) → Means whole (Err s)
  total_ends_faulty S whole partial s state h = no_total S (gathering c (collection_of n k) env) whole (places_ahead n (collection_of n k).binder.variables env w) (places_ahead n (collection_of n k).binder.variables env x) x.values partial state s
      (found_by n (collection_of n k).binder (binder_of n (out-Collection k).binder) env w x (Err s) (collection_binder n k) h)
