-- Loops over the parts of a substitution, in the words of the code's steps.
use Rattle.std.proofs.Common.{◌≡◌, ◌<◌, ◌+◌, ℕ, suc, ◌||◌, Bool, true, false, List, [], ◌∷◌, ◌++◌, length, map, drop, get_or, drop-cons, add-one, Option, Some, None, Result, Ok, Err, refl, sym, ap, ◌∙◌, subst, append_assoc}
use Rattle.std.specs.Prelude.{if◌then◌else◌}
use Rattle.b_meaning.specs.Meaning.{Valued}
use Rattle.b_places.specs.Scopes.{Slots}
use Rattle.b_rows.specs.Answers.{Answer, bind, Means, MeansBy}
use Rattle.b_rows.specs.declared.EvalStop.{EvalStop}
use Rattle.b_rows.specs.declared.EvalStop.TheVariants.{Fault, Memory}
use Rattle.b_values.specs.Values.{same_value}
use Rattle.b_values.specs.declared.values.Value.{Value}
use Rattle.b_outcomes.specs.Gathered.{Gathered, adds, gathers, chooses, Stops}
use Rattle.b_outcomes.specs.Outcomes.{Chosen, union_of, first_of, all_of, has_label}
use Rattle.b_outcomes.specs.declared.frames.Frame.{Frame}
use Rattle.b_outcomes.proofs.Gathers.{union_more, adds_append}
use Rattle.b_outcomes.specs.OutcomeLaws.{got}
use Rattle.b_outcomes.proofs.Choosing.{first_passes, first_settles, first_stops, all_more, all_stops}

-- what is left begins with the part at hand
pub rest_at : {X : Type 0} (all : List X) (i : ℕ) (x : X) → i < length all → x ≡ get_or all i x → drop i all ≡ x ∷ drop (i + 1) all
rest_at all i x below at = rw (add-one, drop-cons all i x) (ap (λ y. y ∷ drop (suc i) all) (sym at))

-- ---- unions

module _ {X : Type 0} (L : List X → List (Answer (List Frame))) (go : X → Answer (List Frame)) (cons : (x : X) (xs : List X) → L (x ∷ xs) ≡ go x ∷ L xs)
    (start g : Gathered) (all : List X) (i : ℕ) (x : X) (below : i < length all) (at : x ≡ get_or all i x)
    (state : gathers start (union_of (L all)) ≡ gathers g (union_of (L (drop i all)))) where
  first_union : gathers start (union_of (L all)) ≡ gathers g (union_of (go x ∷ L (drop (i + 1) all)))
  first_union = state ∙ ap (λ (l : List (Answer (List Frame))). gathers g (union_of l)) (ap L (rest_at all i x below at) ∙ cons x (drop (i + 1) all))

  pub united : (h : Gathered) → gathers g (go x) ≡ Ok h → gathers start (union_of (L all)) ≡ gathers h (union_of (L (drop (i + 1) all)))
  united h e = first_union ∙ union_more g (go x) (L (drop (i + 1) all)) ∙ ap (λ (m : Answer Gathered). bind m (λ h. gathers h (union_of (L (drop (i + 1) all))))) e

  pub ununited : (s : EvalStop) → Stops (gathers g (go x)) s → Stops (gathers start (union_of (L all))) s
  ununited Memory e = tt
  ununited (Fault f) e = first_union ∙ union_more g (go x) (L (drop (i + 1) all)) ∙ ap (λ (m : Answer Gathered). bind m (λ h. gathers h (union_of (L (drop (i + 1) all))))) e

-- ---- branches

module _ {X : Type 0} (L : List X → List Chosen) (go : X → Chosen) (cons : (x : X) (xs : List X) → L (x ∷ xs) ≡ go x ∷ L xs)
    (start g h : Gathered) (all : List X) (i : ℕ) (x : X) (below : i < length all) (at : x ≡ get_or all i x) where
  opened : {A : Type 0} (P : List Chosen → A) → P (L (drop i all)) ≡ P (go x ∷ L (drop (i + 1) all))
  opened P = ap P (ap L (rest_at all i x below at) ∙ cons x (drop (i + 1) all))

  module _ (state : chooses false start (first_of (L all)) ≡ chooses false g (first_of (L (drop i all)))) where
    pub passed_over : (b : Bool) → b ≡ false → chooses false g (go x) ≡ Ok (b, h) → chooses false start (first_of (L all)) ≡ chooses false h (first_of (L (drop (i + 1) all)))
    passed_over b t e = state ∙ opened (λ (l : List Chosen). chooses false g (first_of l)) ∙ first_passes g h (go x) (L (drop (i + 1) all)) b t e

    pub settles : (b : Bool) → b ≡ true → chooses false g (go x) ≡ Ok (b, h) → chooses false start (first_of (L all)) ≡ Ok (true, h)
    settles b t e = state ∙ opened (λ (l : List Chosen). chooses false g (first_of l)) ∙ first_settles g h (go x) (L (drop (i + 1) all)) b t e

    pub unsettled : (s : EvalStop) → Stops (chooses false g (go x)) s → Stops (chooses false start (first_of (L all))) s
    unsettled Memory e = tt
    unsettled (Fault f) e = state ∙ opened (λ (l : List Chosen). chooses false g (first_of l)) ∙ first_stops g (go x) (L (drop (i + 1) all)) (Fault f) e

  module _ (found : Bool) (state : chooses false start (all_of (L all)) ≡ chooses found g (all_of (L (drop i all)))) where
    pub noted : (b : Bool) → chooses false g (go x) ≡ Ok (b, h) → (next : Bool) → next ≡ (found || b) → chooses false start (all_of (L all)) ≡ chooses next h (all_of (L (drop (i + 1) all)))
    noted b e next n =
        state ∙ opened (λ (l : List Chosen). chooses found g (all_of l)) ∙ all_more found g h (go x) (L (drop (i + 1) all)) b e
        ∙ ap (λ (c : Bool). chooses c h (all_of (L (drop (i + 1) all)))) (sym n)

    pub unnoted : (s : EvalStop) → Stops (chooses false g (go x)) s → Stops (chooses false start (all_of (L all))) s
    unnoted Memory e = tt
    unnoted (Fault f) e = state ∙ opened (λ (l : List Chosen). chooses found g (all_of l)) ∙ all_stops found g (go x) (L (drop (i + 1) all)) (Fault f) e

-- ---- frames one after another

module _ {X : Type 0} (L : List X → List Frame) (go : X → List Frame) (cons : (x : X) (xs : List X) → L (x ∷ xs) ≡ go x ++ L xs)
    (start g h : Gathered) (all : List X) (i : ℕ) (x : X) (below : i < length all) (at : x ≡ get_or all i x)
    (state : adds start (L all) ≡ adds g (L (drop i all))) where
  pub added : gathers g (Ok (go x)) ≡ Ok h → adds start (L all) ≡ adds h (L (drop (i + 1) all))
  added e =
      let same : adds g (go x) ≡ h = ap (got (adds g (go x))) e in
      state ∙ ap (λ (l : List Frame). adds g l) (ap L (rest_at all i x below at) ∙ cons x (drop (i + 1) all))
      ∙ adds_append g (go x) (L (drop (i + 1) all)) ∙ ap (λ (k : Gathered). adds k (L (drop (i + 1) all))) same

-- ---- the values of several expressions

module _ {X : Type 0} (V : List X → Answer (List Value)) (v : X → Answer Value) (cons : (x : X) (xs : List X) → V (x ∷ xs) ≡ bind (v x) (λ a. bind (V xs) (λ vs. Ok (a ∷ vs))))
    (whole : Answer (List Value)) (all : List X) (found : List Value) (i : ℕ) (x : X) (below : i < length all) (at : x ≡ get_or all i x)
    (state : whole ≡ bind (V (drop i all)) (λ vs. Ok (found ++ vs))) where
  put_after : (a : Answer Value) (m : Answer (List Value)) → bind (bind a (λ w. bind m (λ vs. Ok (w ∷ vs)))) (λ vs. Ok (found ++ vs)) ≡ bind (bind a (λ w. Ok (found ++ w ∷ []))) (λ more. bind m (λ vs. Ok (more ++ vs)))
  put_after (Err f) m = refl
  put_after (Ok w) (Err f) = refl
  put_after (Ok w) (Ok vs) = ap Ok (sym (append_assoc found (w ∷ []) vs))

  first_value : whole ≡ bind (bind (v x) (λ w. Ok (found ++ w ∷ []))) (λ more. bind (V (drop (i + 1) all)) (λ vs. Ok (more ++ vs)))
  first_value =
      state ∙ ap (λ (m : Answer (List Value)). bind m (λ vs. Ok (found ++ vs))) (ap V (rest_at all i x below at) ∙ cons x (drop (i + 1) all))
      ∙ put_after (v x) (V (drop (i + 1) all))

  pub listed : (more : List Value) → bind (v x) (λ w. Ok (found ++ w ∷ [])) ≡ Ok more → whole ≡ bind (V (drop (i + 1) all)) (λ vs. Ok (more ++ vs))
  listed more e = first_value ∙ ap (λ (m : Answer (List Value)). bind m (λ more. bind (V (drop (i + 1) all)) (λ vs. Ok (more ++ vs)))) e

  pub unlisted : {R S : Type 0} (seen : R → List Value) (view : S → List Value) (s : EvalStop) → MeansBy seen (bind (v x) (λ w. Ok (found ++ w ∷ []))) (Err s) → MeansBy view whole (Err s)
  unlisted seen view Memory e = tt
  unlisted seen view (Fault f) e = first_value ∙ ap (λ (m : Answer (List Value)). bind m (λ more. bind (V (drop (i + 1) all)) (λ vs. Ok (more ++ vs)))) e

-- ---- labels

module _ {X : Type 0} (V : X → Valued) (v : Value) (env : Slots) (whole : Answer Bool) (all : List X) (i : ℕ) (x : X) (below : i < length all) (at : x ≡ get_or all i x)
    (state : whole ≡ has_label (map V (drop i all)) v env) where
  one_label : (m : Answer Value) (rest : Answer Bool) → bind m (λ w. if same_value w v then Ok true else rest) ≡ bind (bind m (λ w. Ok (same_value w v))) (λ b. if b then Ok true else rest)
  one_label (Ok w) rest = refl
  one_label (Err f) rest = refl

  first_label : whole ≡ bind (bind (V x env) (λ w. Ok (same_value w v))) (λ b. if b then Ok true else has_label (map V (drop (i + 1) all)) v env)
  first_label = state ∙ ap (λ (l : List X). has_label (map V l) v env) (rest_at all i x below at) ∙ one_label (V x env) (has_label (map V (drop (i + 1) all)) v env)

  pub label_passed : (b : Bool) → b ≡ false → bind (V x env) (λ w. Ok (same_value w v)) ≡ Ok b → whole ≡ has_label (map V (drop (i + 1) all)) v env
  label_passed b t e = first_label ∙ ap (λ (m : Answer Bool). bind m (λ b. if b then Ok true else has_label (map V (drop (i + 1) all)) v env)) (e ∙ ap Ok t)

  pub label_found : (b : Bool) → b ≡ true → bind (V x env) (λ w. Ok (same_value w v)) ≡ Ok b → whole ≡ Ok true
  label_found b t e = first_label ∙ ap (λ (m : Answer Bool). bind m (λ b. if b then Ok true else has_label (map V (drop (i + 1) all)) v env)) (e ∙ ap Ok t)

  pub label_stops : (s : EvalStop) → Means (bind (V x env) (λ w. Ok (same_value w v))) (Err s) → Means whole (Err s)
  label_stops Memory e = tt
  label_stops (Fault f) e = first_label ∙ ap (λ (m : Answer Bool). bind m (λ b. if b then Ok true else has_label (map V (drop (i + 1) all)) v env)) e
