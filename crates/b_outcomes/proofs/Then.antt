-- How answers go on.
use Rattle.std.proofs.Common.{◌≡◌, Result, Ok, Err, sym, ap, subst}
use Rattle.b_rows.specs.Answers.{Answer, bind, Means}
use Rattle.b_rows.specs.declared.EvalStop.{EvalStop}
use Rattle.b_rows.specs.declared.EvalStop.TheVariants.{Fault, Memory}

-- a stop of the first part is a stop of the whole
pub bind_err : {A B : Type 0} (m : Answer A) (go : A → Answer B) (s : EvalStop) → Means m (Err s) → Means (bind m go) (Err s)
bind_err m go (Fault f) e = ap (λ x. bind x go) e
bind_err m go Memory e = tt

-- with the value of the first part the rest decides
pub bind_ok : {A B : Type 0} (m : Answer A) (go : A → Answer B) (a : A) (r : Result B EvalStop) → m ≡ Ok a → Means (go a) r → Means (bind m go) r
bind_ok m go a r e h = subst (λ x. Means (bind x go) r) (sym e) h
