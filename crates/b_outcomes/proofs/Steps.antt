-- Several `||` and `;`, one after another.
use Rattle.std.proofs.Common.{◌≡◌, ◌<◌, ◌≤◌, ◌+◌, ◌-◌, ℕ, suc, List, [], ◌∷◌, ◌++◌, length, map, drop, take, get_or, arith, length-drop, Result, Ok, Err, refl, sym, ap, ◌∙◌, subst}
use Rattle.std.proofs.lemmas.List.{drop_all}
use Rattle.b_places.specs.Scopes.{Slots}
use Rattle.b_rows.specs.Answers.{Answer, bind, Means}
use Rattle.b_rows.specs.declared.EvalStop.{EvalStop}
use Rattle.b_rows.specs.declared.EvalStop.TheVariants.{Fault, Memory}
use Rattle.b_tree.specs.declared.substitutions.Step.{Step}
use Rattle.b_values.specs.declared.values.Value.{Value}
use Rattle.b_outcomes.specs.Frames.{in_order, middle, reads}
use Rattle.b_outcomes.specs.Gathered.{Gathered, gathers, Stops}
use Rattle.b_outcomes.specs.OutcomeLaws.{failed}
use Rattle.b_outcomes.specs.Outcomes.{step_of, after, after_all}
use Rattle.b_outcomes.specs.declared.frames.Frame.{Frame}
use Rattle.b_outcomes.proofs.Loops.{rest_at}

ordered_first : {A : Type 0} (m : Answer (List Frame)) (go : List Frame → Answer A) → bind m (λ ys. go (in_order ys)) ≡ bind (bind m (λ ys. Ok (in_order ys))) go
ordered_first (Ok ys) go = refl
ordered_first (Err f) go = refl

ordered_stop : {B : Type 0} (m : Answer (List Frame)) (go : List Frame → Answer B) (f : EvalStop) → Means {A = List Frame} (bind m (λ ys. Ok (in_order ys))) (Err f) → Means (bind m go) (Err f)
ordered_stop m go Memory e = tt
ordered_stop (Ok ys) go (Fault f) e = absurd (cc)
ordered_stop (Err k) go (Fault f) e = ap Err (ap (failed k) e)

module _ (n k : ℕ) (f : Frame) (env : Slots) (whole : Answer (List Frame)) (all : List Step) (left : List Frame) (i : ℕ) (state : whole ≡ after_all n k (map (step_of n k) (drop i all)) left f env) where
  pub no_step : length all ≤ i → whole ≡ Ok left
  no_step h = state ∙ ap (λ (l : List Step). after_all n k (map (step_of n k) l) left f env) (drop_all i all h)

  module _ (s : Step) (below : i < length all) (at : s ≡ get_or all i s) where
    opened : whole ≡ after_all n k (map (step_of n k) (s ∷ drop (i + 1) all)) left f env
    opened = state ∙ ap (λ (l : List Step). after_all n k (map (step_of n k) l) left f env) (rest_at all i s below at)

    pub last_step : i + 1 ≡ length all → whole ≡ after n k (step_of n k s) left f env
    last_step h = opened ∙ ap (λ (l : List Step). after_all n k (map (step_of n k) (s ∷ l)) left f env) (drop_all (i + 1) all (omega (arith, h)))

    more : (rest : List Step) → 0 < length rest → after_all n k (map (step_of n k) (s ∷ rest)) left f env ≡ bind (after n k (step_of n k s) left f env) (λ ys. after_all n k (map (step_of n k) rest) (in_order ys) f env)
    more [] h = absurd (omega arith)
    more (t ∷ rest) h = refl

    next_step : i + 1 < length all → whole ≡ bind (after n k (step_of n k s) left f env) (λ ys. after_all n k (map (step_of n k) (drop (i + 1) all)) (in_order ys) f env)
    next_step h = opened ∙ more (drop (i + 1) all) (omega (arith, length-drop (i + 1) all, h))

    pub stepped_on : i + 1 < length all → (ys : List Frame) → bind (after n k (step_of n k s) left f env) (λ fs. Ok (in_order fs)) ≡ Ok ys → whole ≡ after_all n k (map (step_of n k) (drop (i + 1) all)) ys f env
    stepped_on h ys e =
        next_step h ∙ ordered_first (after n k (step_of n k s) left f env) (λ ys. after_all n k (map (step_of n k) (drop (i + 1) all)) ys f env)
        ∙ ap (λ (m : Answer (List Frame)). bind m (λ ys. after_all n k (map (step_of n k) (drop (i + 1) all)) ys f env)) e

    pub step_stops : (g : Gathered) (stop : EvalStop) → i + 1 < length all → Means {A = List Frame} (bind (after n k (step_of n k s) left f env) (λ fs. Ok (in_order fs))) (Err stop) → Stops (gathers g whole) stop
    step_stops g Memory l e = tt
    step_stops g (Fault x) l e = ap (gathers g) (next_step l ∙ ordered_stop (after n k (step_of n k s) left f env) (λ ys. after_all n k (map (step_of n k) (drop (i + 1) all)) (in_order ys) f env) (Fault x) e)
