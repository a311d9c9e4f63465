-- How what is gathered goes on.
use Rattle.std.proofs.Common.{◌≡◌, ℕ, Bool, true, false, List, [], ◌∷◌, ◌++◌, Option, Some, None, Result, Ok, Err, refl, sym, ap, ◌∙◌, subst}
use Rattle.b_rows.specs.Answers.{Answer, bind, Means, MeansBy}
use Rattle.b_rows.specs.declared.EvalStop.{EvalStop}
use Rattle.b_rows.specs.declared.EvalStop.TheVariants.{Fault, Memory}
use Rattle.b_outcomes.specs.Frames.{in_order}
use Rattle.b_outcomes.specs.Gathered.{Gathered, up_to, add, adds, gathers, Leaves, Stops}
use Rattle.b_outcomes.specs.OutcomeLaws.{got, failed, these}
use Rattle.b_outcomes.specs.Outcomes.{union_of}
use Rattle.b_outcomes.specs.declared.frames.Frame.{Frame}
use Rattle.b_outcomes.proofs.Told.{with_one_is}

pub adds_append : (g : Gathered) (xs ys : List Frame) → adds g (xs ++ ys) ≡ adds (adds g xs) ys
adds_append g [] ys = refl
adds_append g (x ∷ xs) ys = adds_append (add g x) xs ys

-- past the limit nothing changes
adds_none : (most : Option ℕ) (fs : List Frame) → adds (most, None) fs ≡ (most, None)
adds_none most [] = refl
adds_none most (f ∷ fs) = adds_none most fs

pub adds_many : (g : Gathered) (fs : List Frame) → g.1 ≡ None → adds g fs ≡ g
adds_many g fs e = ap (λ (o : Option (List Frame)). adds (g.0, o) fs) e ∙ adds_none g.0 fs ∙ ap (λ (o : Option (List Frame)). (g.0, o)) (sym e)

-- all of them are gathered, as far as they are told apart
pub adds_all : (most : Option ℕ) (xs fs : List Frame) → adds (most, up_to most (in_order xs)) fs ≡ (most, up_to most (in_order (xs ++ fs)))
adds_all most xs [] = ap (λ (l : List Frame). (most, up_to most (in_order l))) (sym (nothing_more xs))
  where
    nothing_more : (l : List Frame) → l ++ [] ≡ l
    nothing_more [] = refl
    nothing_more (f ∷ l) = ap (λ (r : List Frame). f ∷ r) (nothing_more l)
adds_all most xs (f ∷ fs) =
    ap (λ (o : Option (List Frame)). adds (most, o) fs) (with_one_is most xs f)
    ∙ adds_all most (xs ++ f ∷ []) fs
    ∙ ap (λ (l : List Frame). (most, up_to most (in_order l))) (regroup xs)
  where
    regroup : (l : List Frame) → (l ++ f ∷ []) ++ fs ≡ l ++ f ∷ fs
    regroup [] = refl
    regroup (x ∷ l) = ap (λ (r : List Frame). x ∷ r) (regroup l)

-- ---- from the first part to the whole

pub gathers_ok : {A R : Type 0} (g h : Gathered) (m : Answer A) (go : A → Answer (List Frame)) (a : A) (r : Result R EvalStop) → m ≡ Ok a → Leaves (gathers g (go a)) h r → Leaves (gathers g (bind m go)) h r
gathers_ok g h m go a r e l = subst (λ x. Leaves (gathers g (bind x go)) h r) (sym e) l

pub gathers_err : {A : Type 0} (g : Gathered) (m : Answer A) (go : A → Answer (List Frame)) (s : EvalStop) → Means m (Err s) → Stops (gathers g (bind m go)) s
gathers_err g m go (Fault f) e = ap (λ x. gathers g (bind x go)) e
gathers_err g m go Memory e = tt

pub gathers_seen : {A X : Type 0} (view : X → A) (g : Gathered) (m : Answer A) (go : A → Answer (List Frame)) (s : EvalStop) → MeansBy view m (Err s) → Stops (gathers g (bind m go)) s
gathers_seen view g m go (Fault f) e = ap (λ x. gathers g (bind x go)) e
gathers_seen view g m go Memory e = tt

-- the same of the frames in order
pub ordered_ok : {R : Type 0} (g h : Gathered) (m : Answer (List Frame)) (go : List Frame → Answer (List Frame)) (xs : List Frame) (r : Result R EvalStop) → bind m (λ ys. Ok (in_order ys)) ≡ Ok xs → Leaves (gathers g (go xs)) h r → Leaves (gathers g (bind m (λ ys. go (in_order ys)))) h r
ordered_ok g h (Ok ys) go xs r e l = subst (λ (x : List Frame). Leaves (gathers g (go x)) h r) (sym (ap (got (in_order ys)) e)) l
ordered_ok g h (Err f) go xs r e l = absurd (cc)

pub ordered_err : (g : Gathered) (m : Answer (List Frame)) (go : List Frame → Answer (List Frame)) (s : EvalStop) → Means {A = List Frame} (bind m (λ ys. Ok (in_order ys))) (Err s) → Stops (gathers g (bind m (λ ys. go (in_order ys)))) s
ordered_err g m go Memory e = tt
ordered_err g (Ok ys) go (Fault f) e = absurd (cc)
ordered_err g (Err k) go (Fault f) e = ap Err (ap (failed k) e)

-- what is left by other words
pub leaves_by : {R : Type 0} (g h : Gathered) (a b : Answer (List Frame)) (r : Result R EvalStop) → a ≡ b → Leaves (gathers g a) h r → Leaves (gathers g b) h r
leaves_by g h a b r e l = subst (λ x. Leaves (gathers g x) h r) e l

pub stops_by : (g : Gathered) (a b : Answer (List Frame)) (s : EvalStop) → a ≡ b → Stops (gathers g a) s → Stops (gathers g b) s
stops_by g a b s e l = subst (λ x. Stops (gathers g x) s) e l

-- ---- unions

pub union_more : (g : Gathered) (a : Answer (List Frame)) (rest : List (Answer (List Frame))) → gathers g (union_of (a ∷ rest)) ≡ bind (gathers g a) (λ h. gathers h (union_of rest))
union_more g (Err f) rest = refl
union_more g (Ok xs) rest = go (union_of rest)
  where
    go : (m : Answer (List Frame)) → gathers g (bind m (λ ys. Ok (xs ++ ys))) ≡ gathers (adds g xs) m
    go (Ok ys) = ap Ok (adds_append g xs ys)
    go (Err f) = refl

-- ---- frames that were gathered without a limit

pub gathered_all : (a : Answer (List Frame)) (g : Gathered) (fs : List Frame) → gathers (None, Some []) a ≡ Ok g → g.1 ≡ Some fs → bind a (λ xs. Ok (in_order xs)) ≡ Ok fs
gathered_all (Err f) g fs e h = absurd (cc)
gathered_all (Ok xs) g fs e h =
    let same : adds (None, Some []) xs ≡ g = ap (got (adds (None, Some []) xs)) e in
    let whole : Some (in_order xs) ≡ Some fs = ap (λ (p : Gathered). p.1) (sym (adds_all None [] xs) ∙ same) ∙ h in
    ap (λ (o : Option (List Frame)). Ok (these o)) whole

pub gathered_some : (a : Answer (List Frame)) (g : Gathered) → gathers (None, Some []) a ≡ Ok g → g.1 ≡ None → ⊥
gathered_some (Err f) g e h = absurd (cc)
gathered_some (Ok xs) g e h =
    let same : adds (None, Some []) xs ≡ g = ap (got (adds (None, Some []) xs)) e in
    let whole : Some (in_order xs) ≡ None = ap (λ (p : Gathered). p.1) (sym (adds_all None [] xs) ∙ same) ∙ h in
    cc

pub gathered_stop : {S : Type 0} (a : Answer (List Frame)) (go : List Frame → Answer S) (g : Gathered) (s : EvalStop) → Stops (gathers g a) s → Means (bind a go) (Err s)
gathered_stop a go g Memory e = tt
gathered_stop (Err f) go g (Fault k) e = ap Err (ap (failed f) e)
gathered_stop (Ok xs) go g (Fault k) e = absurd (cc)
