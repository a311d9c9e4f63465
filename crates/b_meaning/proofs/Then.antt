-- How answers go on.
use Rattle.std.proofs.Common.{◌≡◌, Bool, true, Result, Ok, Err, sym, ap, ◌∙◌, subst}
use Rattle.b_meaning.specs.Meaning.{both}
use Rattle.b_rows.specs.Answers.{Answer, bind, Means, MeansBy}
use Rattle.b_rows.specs.declared.EvalStop.{EvalStop}
use Rattle.b_rows.specs.declared.EvalStop.TheVariants.{Fault, Memory}

-- a stop of the first part is a stop of the whole
pub bind_err : {A B : Type 0} (m : Answer A) (go : A → Answer B) (s : EvalStop) → Means m (Err s) → Means (bind m go) (Err s)
bind_err m go (Fault f) e = ap (λ x. bind x go) e
bind_err m go Memory e = tt

-- with the value of the first part the rest decides
pub bind_ok : {A B : Type 0} (m : Answer A) (go : A → Answer B) (a : A) (r : Result B EvalStop) → m ≡ Ok a → Means (go a) r → Means (bind m go) r
bind_ok m go a r e h = subst (λ x. Means (bind x go) r) (sym e) h

-- the same with views
pub by_err : {A B X Y : Type 0} (u : X → A) (v : Y → B) (m : Answer A) (go : A → Answer B) (s : EvalStop) → MeansBy u m (Err s) → MeansBy v (bind m go) (Err s)
by_err u v m go (Fault f) e = ap (λ x. bind x go) e
by_err u v m go Memory e = tt

-- a stop of a part that is seen by a view
pub seen_err : {A B X : Type 0} (u : X → A) (m : Answer A) (go : A → Answer B) (s : EvalStop) → MeansBy u m (Err s) → Means (bind m go) (Err s)
seen_err u m go (Fault f) e = ap (λ x. bind x go) e
seen_err u m go Memory e = tt

-- a stop of a part, of a whole that is seen by a view
pub by_err_means : {A B Y : Type 0} (v : Y → B) (m : Answer A) (go : A → Answer B) (s : EvalStop) → Means m (Err s) → MeansBy v (bind m go) (Err s)
by_err_means v m go (Fault f) e = ap (λ x. bind x go) e
by_err_means v m go Memory e = tt

-- with the value of a part, of a whole that is seen by a view
pub by_ok : {A B Y : Type 0} (v : Y → B) (m : Answer A) (go : A → Answer B) (a : A) (r : Result Y EvalStop) → m ≡ Ok a → MeansBy v (go a) r → MeansBy v (bind m go) r
by_ok v m go a r e h = subst (λ x. MeansBy v (bind x go) r) (sym e) h

-- the second of two tests decides where the first is true
pub both_true : (a b : Answer Bool) (c : Bool) (r : Result Bool EvalStop) → a ≡ Ok c → c ≡ true → Means b r → Means (both a b) r
both_true a b c r e t h = subst (λ (x : Answer Bool). Means (both x b) r) (sym (e ∙ ap Ok t)) h
