-- Branches that are chosen or not.
use Rattle.std.proofs.Common.{◌≡◌, ◌||◌, Bool, true, false, List, [], ◌∷◌, ◌++◌, Option, Some, None, Result, Ok, Err, refl, sym, ap, ◌∙◌, subst}
use Rattle.b_rows.specs.Answers.{Answer, bind, Means}
use Rattle.b_rows.specs.declared.EvalStop.{EvalStop}
use Rattle.b_rows.specs.declared.EvalStop.TheVariants.{Fault, Memory}
use Rattle.b_outcomes.specs.Gathered.{Gathered, adds, gathers, notes, chooses, Leaves, Stops}
use Rattle.b_outcomes.specs.Outcomes.{Chosen, or_next, both_of, first_of, all_of, otherwise, where_true}
use Rattle.b_outcomes.specs.declared.frames.Frame.{Frame}
use Rattle.b_outcomes.proofs.Gathers.{adds_append}
use Rattle.b_outcomes.specs.OutcomeLaws.{got, failed}

-- ---- a branch and what stands for none

abbrev truth : Bool → Type 0
truth true = Unit {0}
truth false = ⊥

pub taken : (g h : Gathered) (a : Chosen) (other : Answer (List Frame)) (b : Bool) → b ≡ true → chooses false g a ≡ Ok (b, h) → gathers g (otherwise a other) ≡ Ok h
taken g h (Err f) other b t e = absurd (cc)
taken g h (Ok None) other b t e =
    let p : (false, g) ≡ (b, h) = ap (got (false, g)) e in
    let q : false ≡ b = ap (λ (x : Bool × Gathered). x.0) p in
    absurd (subst truth (sym (q ∙ t)) tt)
taken g h (Ok (Some fs)) other b t e =
    let p : (true, adds g fs) ≡ (b, h) = ap (got (true, adds g fs)) e in
    ap Ok (ap (λ (x : Bool × Gathered). x.1) p)

pub untaken : {R : Type 0} (g m h : Gathered) (a : Chosen) (other : Answer (List Frame)) (b : Bool) (r : Result R EvalStop) → b ≡ false → chooses false g a ≡ Ok (b, m) → Leaves (gathers m other) h r → Leaves (gathers g (otherwise a other)) h r
untaken g m h (Err f) other b r t e l = absurd (cc)
untaken g m h (Ok (Some fs)) other b r t e l =
    let p : (true, adds g fs) ≡ (b, m) = ap (got (true, adds g fs)) e in
    let q : true ≡ b = ap (λ (x : Bool × Gathered). x.0) p in
    absurd (subst truth (q ∙ t) tt)
untaken g m h (Ok None) other b r t e l =
    let p : (false, g) ≡ (b, m) = ap (got (false, g)) e in
    subst (λ (x : Gathered). Leaves (gathers x other) h r) (sym (ap (λ (x : Bool × Gathered). x.1) p)) l

pub untold : (g : Gathered) (a : Chosen) (other : Answer (List Frame)) (b : Bool) (s : EvalStop) → Stops (chooses b g a) s → Stops (gathers g (otherwise a other)) s
untold g a other b Memory e = tt
untold g (Err f) other b (Fault k) e = ap Err (ap (failed f) e)
untold g (Ok None) other b (Fault k) e = absurd (cc)
untold g (Ok (Some fs)) other b (Fault k) e = absurd (cc)

-- ---- a guard and its branch

module _ (g h : Gathered) (m : Answer Bool) (a : Answer (List Frame)) where
  pub held_true : (c : Bool) → m ≡ Ok c → c ≡ true → gathers g a ≡ Ok h → chooses false g (bind m (λ c. where_true c a)) ≡ Ok (true, h)
  held_true c e t k = ap (λ (x : Answer Bool). chooses false g (bind x (λ c. where_true c a))) (e ∙ ap Ok t) ∙ go a k
    where
      go : (a : Answer (List Frame)) → gathers g a ≡ Ok h → chooses false g (where_true true a) ≡ Ok (true, h)
      go (Ok fs) k = ap (λ (x : Gathered). Ok (true, x)) (ap (got (adds g fs)) k)
      go (Err f) k = absurd (cc)

  pub held_false : (c : Bool) → m ≡ Ok c → c ≡ false → chooses false g (bind m (λ c. where_true c a)) ≡ Ok (false, g)
  held_false c e t = ap (λ (x : Answer Bool). chooses false g (bind x (λ c. where_true c a))) (e ∙ ap Ok t)

  pub held_stops : (c : Bool) (s : EvalStop) → m ≡ Ok c → c ≡ true → Stops (gathers g a) s → Stops (chooses false g (bind m (λ c. where_true c a))) s
  held_stops c Memory e t k = tt
  held_stops c (Fault f) e t k = ap (λ (x : Answer Bool). chooses false g (bind x (λ c. where_true c a))) (e ∙ ap Ok t) ∙ go a k
    where
      go : (a : Answer (List Frame)) → gathers g a ≡ Err f → chooses false g (where_true true a) ≡ Err f
      go (Ok fs) k = absurd (cc)
      go (Err k) e = ap Err (ap (failed k) e)

  pub guard_stops : (s : EvalStop) → Means m (Err s) → Stops (chooses false g (bind m (λ c. where_true c a))) s
  guard_stops Memory e = tt
  guard_stops (Fault f) e = ap (λ (x : Answer Bool). chooses false g (bind x (λ c. where_true c a))) e

-- ---- one branch more

pub first_passes : (g h : Gathered) (a : Chosen) (rest : List Chosen) (b : Bool) → b ≡ false → chooses false g a ≡ Ok (b, h) → chooses false g (first_of (a ∷ rest)) ≡ chooses false h (first_of rest)
first_passes g h (Err f) rest b t e = absurd (cc)
first_passes g h (Ok (Some fs)) rest b t e =
    let p : (true, adds g fs) ≡ (b, h) = ap (got (true, adds g fs)) e in
    let q : true ≡ b = ap (λ (x : Bool × Gathered). x.0) p in
    absurd (subst truth (q ∙ t) tt)
first_passes g h (Ok None) rest b t e =
    let p : (false, g) ≡ (b, h) = ap (got (false, g)) e in
    ap (λ (x : Gathered). chooses false x (first_of rest)) (ap (λ (x : Bool × Gathered). x.1) p)

pub first_settles : (g h : Gathered) (a : Chosen) (rest : List Chosen) (b : Bool) → b ≡ true → chooses false g a ≡ Ok (b, h) → chooses false g (first_of (a ∷ rest)) ≡ Ok (true, h)
first_settles g h (Err f) rest b t e = absurd (cc)
first_settles g h (Ok (Some fs)) rest b t e =
    let p : (true, adds g fs) ≡ (b, h) = ap (got (true, adds g fs)) e in
    ap (λ (x : Gathered). Ok (true, x)) (ap (λ (x : Bool × Gathered). x.1) p)
first_settles g h (Ok None) rest b t e =
    let p : (false, g) ≡ (b, h) = ap (got (false, g)) e in
    let q : false ≡ b = ap (λ (x : Bool × Gathered). x.0) p in
    absurd (subst truth (sym (q ∙ t)) tt)

pub first_stops : (g : Gathered) (a : Chosen) (rest : List Chosen) (s : EvalStop) → Stops (chooses false g a) s → Stops (chooses false g (first_of (a ∷ rest))) s
first_stops g a rest Memory e = tt
first_stops g (Err f) rest (Fault k) e = ap Err (ap (failed f) e)
first_stops g (Ok None) rest (Fault k) e = absurd (cc)
first_stops g (Ok (Some fs)) rest (Fault k) e = absurd (cc)

pub all_more : (found : Bool) (g h : Gathered) (a : Chosen) (rest : List Chosen) (b : Bool) → chooses false g a ≡ Ok (b, h) → chooses found g (all_of (a ∷ rest)) ≡ chooses (found || b) h (all_of rest)
all_more found g h (Err f) rest b e = absurd (cc)
all_more found g h (Ok None) rest b e =
    let p : (false, g) ≡ (b, h) = ap (got (false, g)) e in
    unchosen (all_of rest) ∙ ap (λ (x : Bool × Gathered). chooses (found || x.0) x.1 (all_of rest)) p
  where
    same_bool : (c : Bool) → c ≡ (c || false)
    same_bool true = refl
    same_bool false = refl

    unchosen : (m : Chosen) → chooses found g (bind m (λ more. Ok (both_of None more))) ≡ chooses (found || false) g m
    unchosen (Err f) = refl
    unchosen (Ok o) = ap (λ (c : Bool). Ok (notes c g o)) (same_bool found)
all_more found g h (Ok (Some xs)) rest b e =
    let p : (true, adds g xs) ≡ (b, h) = ap (got (true, adds g xs)) e in
    chosen (all_of rest) ∙ ap (λ (x : Bool × Gathered). chooses (found || x.0) x.1 (all_of rest)) p
  where
    true_bool : (c : Bool) → true ≡ (c || true)
    true_bool true = refl
    true_bool false = refl

    chosen : (m : Chosen) → chooses found g (bind m (λ more. Ok (both_of (Some xs) more))) ≡ chooses (found || true) (adds g xs) m
    chosen (Err f) = refl
    chosen (Ok None) = ap (λ (c : Bool). Ok (c, adds g xs)) (true_bool found)
    chosen (Ok (Some ys)) = ap (λ (x : Gathered). Ok (true, x)) (adds_append g xs ys)

pub all_stops : (found : Bool) (g : Gathered) (a : Chosen) (rest : List Chosen) (s : EvalStop) → Stops (chooses false g a) s → Stops (chooses found g (all_of (a ∷ rest))) s
all_stops found g a rest Memory e = tt
all_stops found g (Err f) rest (Fault k) e = ap Err (ap (failed f) e)
all_stops found g (Ok None) rest (Fault k) e = absurd (cc)
all_stops found g (Ok (Some fs)) rest (Fault k) e = absurd (cc)
