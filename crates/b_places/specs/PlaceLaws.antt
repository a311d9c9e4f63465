-- What is made of places, one place after another.
use Rattle.std.proofs.Common.{◌≡◌, Bool, true, false, List, [], ◌∷◌, ◌++◌, map, Option, Some, None, Result, Ok, Err, refl, sym, ap, ◌∙◌, append_assoc, append-nil}
use Rattle.std.specs.Prelude.{not, if◌then◌else◌}
use Rattle.std.specs.List.{AllByRecursion}
use Rattle.b_places.specs.Places.{Candidate, decided, instances, those, totalled, next_partial, with_some, coupled, couple_of}
use Rattle.b_places.specs.Walks.{Finds}
use Rattle.b_rows.specs.Answers.{Answer, bind, Means, MeansBy}
use Rattle.b_rows.specs.declared.EvalStop.{EvalStop}
use Rattle.b_rows.specs.declared.EvalStop.TheVariants.{Fault, Memory}
use Rattle.b_values.specs.ValueLaws.{is_couple, is_truth}
use Rattle.b_values.specs.Values.{IsKept, IsValue}
use Rattle.b_values.specs.declared.values.Value.{Value}
use Rattle.b_values.specs.declared.values.Value.TheVariants.{Pair}

-- ---- the first instance that isn't b decides

module _ (T : List Value → Answer Bool) (whole : Answer Bool) (before after : List Candidate) (t : List Value) where
  pub undecided : (b : Bool) → whole ≡ decided b (instances T before) → before ≡ [] → whole ≡ Ok b
  undecided b state e = state ∙ ap (λ (ps : List Candidate). decided b (instances T ps)) e

  opened : (b : Bool) → whole ≡ decided b (instances T before) → before ≡ Ok t ∷ after → whole ≡ decided b (T t ∷ instances T after)
  opened b state e = state ∙ ap (λ (ps : List Candidate). decided b (instances T ps)) e

  pub goes_on : (b : Bool) → whole ≡ decided b (instances T before) → before ≡ Ok t ∷ after → T t ≡ Ok b → whole ≡ decided b (instances T after)
  goes_on true state e h = opened true state e ∙ ap (λ (a : Answer Bool). decided true (a ∷ instances T after)) h
  goes_on false state e h = opened false state e ∙ ap (λ (a : Answer Bool). decided false (a ∷ instances T after)) h

  pub decides : (b : Bool) → whole ≡ decided b (instances T before) → before ≡ Ok t ∷ after → T t ≡ Ok (not b) → whole ≡ Ok (not b)
  decides true state e h = opened true state e ∙ ap (λ (a : Answer Bool). decided true (a ∷ instances T after)) h
  decides false state e h = opened false state e ∙ ap (λ (a : Answer Bool). decided false (a ∷ instances T after)) h

  pub stops : (b : Bool) (s : EvalStop) → whole ≡ decided b (instances T before) → before ≡ Ok t ∷ after → Means (T t) (Err s) → Means whole (Err s)
  stops true (Fault f) state e h = opened true state e ∙ ap (λ (a : Answer Bool). decided true (a ∷ instances T after)) h
  stops false (Fault f) state e h = opened false state e ∙ ap (λ (a : Answer Bool). decided false (a ∷ instances T after)) h
  stops b Memory state e h = tt

  pub faulty : (b : Bool) (s : EvalStop) → whole ≡ decided b (instances T before) → Finds before t after (Err s) → Means whole (Err s)
  faulty true (Fault f) state e = state ∙ ap (λ (ps : List Candidate). decided true (instances T ps)) e
  faulty false (Fault f) state e = state ∙ ap (λ (ps : List Candidate). decided false (instances T ps)) e
  faulty b Memory state e = tt

-- ---- those that are there are collected

abbrev pub IsCollecting : Answer (List Value) → List Value → List (Answer (Option Value)) → Type 0
IsCollecting whole found rest = whole ≡ bind (those rest) (λ vs. Ok (found ++ vs))

pub collecting : (rest : List (Answer (Option Value))) → IsCollecting (those rest) [] rest
collecting rest = go (those rest)
  where
    go : (m : Answer (List Value)) → m ≡ bind m (λ vs. Ok vs)
    go (Ok vs) = refl
    go (Err f) = refl

module _ (T : List Value → Answer (Option Value)) (whole : Answer (List Value)) (before after : List Candidate) (t : List Value) (found : List Value) (state : IsCollecting whole found (instances T before)) where
  pub collected : before ≡ [] → whole ≡ Ok found
  collected e = state ∙ ap (λ (ps : List Candidate). bind (those (instances T ps)) (λ vs. Ok (found ++ vs))) e ∙ ap Ok (append-nil found)

  seen : before ≡ Ok t ∷ after → whole ≡ bind (bind (T t) (λ o. bind (those (instances T after)) (λ xs. Ok (with_some o xs)))) (λ vs. Ok (found ++ vs))
  seen e = state ∙ ap (λ (ps : List Candidate). bind (those (instances T ps)) (λ vs. Ok (found ++ vs))) e

  pub collects : (o : Option Value) (more : List Value) → before ≡ Ok t ∷ after → T t ≡ Ok o → more ≡ found ++ with_some o [] → IsCollecting whole more (instances T after)
  collects o more e h g =
      seen e ∙ ap (λ (a : Answer (Option Value)). bind (bind a (λ o. bind (those (instances T after)) (λ xs. Ok (with_some o xs)))) (λ vs. Ok (found ++ vs))) h ∙ go o (those (instances T after))
      ∙ ap (λ (l : List Value). bind (those (instances T after)) (λ vs. Ok (l ++ vs))) (sym g)
    where
      go : (o : Option Value) (m : Answer (List Value)) → bind (bind m (λ xs. Ok (with_some o xs))) (λ vs. Ok (found ++ vs)) ≡ bind m (λ vs. Ok ((found ++ with_some o []) ++ vs))
      go None (Ok vs) = ap (λ (l : List Value). Ok (l ++ vs)) (sym (append-nil found))
      go (Some v) (Ok vs) = ap Ok (sym (append_assoc found (v ∷ []) vs))
      go o (Err f) = refl

  pub uncollected : {X : Type 0} (view : X → List Value) (s : EvalStop) → before ≡ Ok t ∷ after → Means (T t) (Err s) → MeansBy view whole (Err s)
  uncollected view (Fault f) e h = seen e ∙ ap (λ (a : Answer (Option Value)). bind (bind a (λ o. bind (those (instances T after)) (λ xs. Ok (with_some o xs)))) (λ vs. Ok (found ++ vs))) h
  uncollected view Memory e h = tt

  pub no_collection : {X : Type 0} (view : X → List Value) (s : EvalStop) → Finds before t after (Err s) → MeansBy view whole (Err s)
  no_collection view (Fault f) e = state ∙ ap (λ (ps : List Candidate). bind (those (instances T ps)) (λ vs. Ok (found ++ vs))) e
  no_collection view Memory e = tt

-- ---- partial results

module _ (S : Value → Value → Answer Value) (T : List Value → Answer (Option Value)) (whole : Answer Value) (before after : List Candidate) (t : List Value) (partial : Value) (state : whole ≡ totalled S partial (instances T before)) where
  pub all_totalled : before ≡ [] → whole ≡ Ok partial
  all_totalled e = state ∙ ap (λ (ps : List Candidate). totalled S partial (instances T ps)) e

  summed : before ≡ Ok t ∷ after → whole ≡ bind (T t) (λ o. bind (next_partial S partial o) (λ c. totalled S c (instances T after)))
  summed e = state ∙ ap (λ (ps : List Candidate). totalled S partial (instances T ps)) e

  found_summed : (o : Option Value) → before ≡ Ok t ∷ after → T t ≡ Ok o → whole ≡ bind (next_partial S partial o) (λ c. totalled S c (instances T after))
  found_summed o e h = summed e ∙ ap (λ (a : Answer (Option Value)). bind a (λ o. bind (next_partial S partial o) (λ c. totalled S c (instances T after)))) h

  pub totals : (o : Option Value) (next : Value) → before ≡ Ok t ∷ after → T t ≡ Ok o → next_partial S partial o ≡ Ok next → whole ≡ totalled S next (instances T after)
  totals o next e h g = found_summed o e h ∙ ap (λ (a : Answer Value). bind a (λ c. totalled S c (instances T after))) g

  pub untotalled : (o : Option Value) (s : EvalStop) → before ≡ Ok t ∷ after → T t ≡ Ok o → Means (next_partial S partial o) (Err s) → Means whole (Err s)
  untotalled o (Fault f) e h g = found_summed o e h ∙ ap (λ (a : Answer Value). bind a (λ c. totalled S c (instances T after))) g
  untotalled o Memory e h g = tt

  pub unfound : (s : EvalStop) → before ≡ Ok t ∷ after → Means (T t) (Err s) → Means whole (Err s)
  unfound (Fault f) e h = summed e ∙ ap (λ (a : Answer (Option Value)). bind a (λ o. bind (next_partial S partial o) (λ c. totalled S c (instances T after)))) h
  unfound Memory e h = tt

  pub no_total : (s : EvalStop) → Finds before t after (Err s) → Means whole (Err s)
  no_total (Fault f) e = state ∙ ap (λ (ps : List Candidate). totalled S partial (instances T ps)) e
  no_total Memory e = tt

-- ---- the couple of a tuple of values is a value

coupled_value : (v : Value) (vs : List Value) → IsValue v → AllByRecursion IsKept vs → IsValue (coupled v vs)
coupled_value v [] h k = h
coupled_value v (w ∷ ws) h k = coupled_value (Pair v w) ws (is_couple v w h k.0.value) k.1

pub couple_value : (vs : List Value) → AllByRecursion IsKept vs → IsValue (couple_of vs)
couple_value [] k = is_truth true
couple_value (v ∷ vs) k = coupled_value v vs k.0.value k.1
