-- What is judged of equal demands.
use Rattle.std.proofs.Common.{◌≡◌, ℕ, List, subst}
use Rattle.std.specs.Prelude.{Result, IfOk}
use Rattle.std.specs.declared.alloc.AllocError.{AllocError}
use Rattle.b_values.specs.declared.types.NameFace.{NameFace}
use Rattle.type_demands.specs.declared.demands.Demand.{Demand}
use Rattle.type_formulas.specs.declared.typing.Answer.{Answer}
use Rattle.type_formulas.specs.Typings.{Answers}

pub judged_alike : (known names : List NameFace) (ds es : List Demand) (n p : ℕ) (r : Result Answer AllocError) → known ≡ names → ds ≡ es → n ≡ p → IfOk r (Answers 500 known ds n n) → IfOk r (Answers 500 names es p p)
judged_alike known names ds es n p r a b c h =
    subst (λ k. IfOk r (Answers 500 names es k k)) c
    (subst (λ l. IfOk r (Answers 500 names l n n)) b
    (subst (λ l. IfOk r (Answers 500 l ds n n)) a h))
