-- Loops over the tuples of a binder.
use Rattle.std.proofs.Common.{◌≡◌, ℕ, Bool, true, false, List, [], ◌∷◌, ◌++◌, Result, Ok, Err, refl, sym, ap, ◌∙◌, subst}
use Rattle.std.specs.Prelude.{if◌then◌else◌}
use Rattle.b_meaning.specs.Meaning.{Test, BinderMeaning}
use Rattle.b_meaning.specs.Tuples.{places_ahead}
use Rattle.b_places.specs.Places.{Candidate, instances}
use Rattle.b_places.specs.Scopes.{Slots}
use Rattle.b_places.specs.declared.walk.Walk.{Walk}
use Rattle.b_places.specs.Walks.{Finds}
use Rattle.b_rows.specs.Answers.{Answer, bind}
use Rattle.b_rows.specs.declared.EvalStop.{EvalStop}
use Rattle.b_rows.specs.declared.EvalStop.TheVariants.{Fault, Memory}
use Rattle.b_values.specs.declared.values.Value.{Value}
use Rattle.b_outcomes.specs.Frames.{written}
use Rattle.b_outcomes.specs.Gathered.{Gathered, gathers, Stops}
use Rattle.b_outcomes.specs.Outcomes.{Effect, union_of, at_tuple}
use Rattle.b_outcomes.specs.declared.frames.Frame.{Frame}
use Rattle.b_outcomes.proofs.Gathers.{union_more}

module _ (T : List Value → Answer (List Frame)) (whole : Answer Gathered) (g : Gathered) (before after : List Candidate) (t : List Value) (state : whole ≡ gathers g (union_of (instances T before))) where
  pub tuples_end : (b : Bool) → b ≡ false → Finds before t after (Ok b) → whole ≡ Ok g
  tuples_end b is h = state ∙ ap (λ (ps : List Candidate). gathers g (union_of (instances T ps))) (subst (λ (c : Bool). Finds before t after (Ok c)) is h)

  pub tuples_fault : (s : EvalStop) → Finds before t after (Err s) → Stops whole s
  tuples_fault (Fault f) h = state ∙ ap (λ (ps : List Candidate). gathers g (union_of (instances T ps))) h
  tuples_fault Memory h = tt

  module _ (b : Bool) (is : b ≡ true) (h : Finds before t after (Ok b)) where
    first_tuple : whole ≡ bind (gathers g (T t)) (λ m. gathers m (union_of (instances T after)))
    first_tuple = state ∙ ap (λ (ps : List Candidate). gathers g (union_of (instances T ps))) (subst (λ (c : Bool). Finds before t after (Ok c)) is h) ∙ union_more g (T t) (instances T after)

    pub tuple_done : (m : Gathered) (a : Answer (List Frame)) → a ≡ T t → gathers g a ≡ Ok m → whole ≡ gathers m (union_of (instances T after))
    tuple_done m a same e = first_tuple ∙ ap (λ (x : Answer Gathered). bind x (λ m. gathers m (union_of (instances T after)))) (ap (gathers g) (sym same) ∙ e)

    pub tuple_stops : (a : Answer (List Frame)) (s : EvalStop) → a ≡ T t → Stops (gathers g a) s → Stops whole s
    tuple_stops a Memory same e = tt
    tuple_stops a (Fault f) same e = first_tuple ∙ ap (λ (x : Answer Gathered). bind x (λ m. gathers m (union_of (instances T after)))) (ap (gathers g) (sym same) ∙ e)

-- what is done for a tuple, by the slots inside
module _ (test : Test) (env inner : Slots) (t : List Value) (slots : inner ≡ env ++ t) where
  pub such_at : (first : ℕ) (ts : List ℕ) (f : Frame) (tuple : List Value) → tuple ≡ t
      → bind (test inner) (λ b. if b then Ok (written first ts tuple f ∷ []) else Ok []) ≡ at_tuple test (λ t. Ok (written first ts t f ∷ [])) env t
  such_at first ts f tuple e =
      ap (λ (x : Slots). bind (test x) (λ b. if b then Ok (written first ts tuple f ∷ []) else Ok [])) slots
      ∙ ap (λ (x : List Value). bind (test (env ++ t)) (λ b. if b then Ok (written first ts x f ∷ []) else Ok [])) e

  pub body_at : (body : Effect) (f : Frame) → bind (test inner) (λ b. if b then body f inner else Ok []) ≡ at_tuple test (λ t. body f (env ++ t)) env t
  body_at body f = ap (λ (x : Slots). bind (test x) (λ b. if b then body f x else Ok [])) slots

-- what a walk found, for a binder in other words
pub found_for : (n : ℕ) (a b : BinderMeaning) (env : Slots) (w x : Walk) (r : Result Bool EvalStop) → a ≡ b → Finds (places_ahead n b.variables env w) x.values (places_ahead n b.variables env x) r → Finds (places_ahead n a.variables env w) x.values (places_ahead n a.variables env x) r
found_for n a b env w x r e h = subst (λ (m : BinderMeaning). Finds (places_ahead n m.variables env w) x.values (places_ahead n m.variables env x) r) (sym e) h
