-- The tests of sameness answer true exactly where the two are equal.
use Rattle.std.proofs.Common.{◌≡◌, ◌↔◌, Bool, true, false, ◌&&◌, List, refl, sym, ap, ◌∙◌, subst}
use Rattle.std.specs.Prelude.{IsTrue}
use Rattle.std.specs.Bool.{Decides}
use Rattle.std.specs.declared.cmp.Ordering.TheVariants.{Equal}
use Rattle.std.specs.Cmp.{Equal-is, tied_itself}
use Rattle.std.specs.Cmp.Lexicographic.{pointwise, pointwise_decides}
use Rattle.b_values.specs.OrderLaws.{value_same, value_total}
use Rattle.b_values.specs.Values.{value_cmp, same_value, same_state}
use Rattle.b_values.specs.declared.values.Value.{Value}
use Rattle.b_values.specs.declared.values.State.{State}
use Rattle.b_values.specs.declared.values.State.TheVariants.{Root, Constants, Running}

pub value_decides : (x y : Value) → Decides (same_value x y) (x ≡ y)
value_decides x y = (
  λ h. value_same x y ((Equal-is (value_cmp x y)).0 h),
  λ e. (Equal-is (value_cmp x y)).1 (subst (λ z. value_cmp x z ≡ Equal) e (tied_itself value_total x)),
)

pub values_decide : (xs ys : List Value) → Decides (pointwise same_value xs ys) (xs ≡ ys)
values_decide = pointwise_decides value_decides

both : (p q : Bool) → (p && q) ≡ true → (p ≡ true) × (q ≡ true)
both true true e = (refl, refl)
both true false e = cc
both false q e = cc

pub state_decides : (a b : State) → Decides (same_state a b) (a ≡ b)
state_decides Root Root = (λ h. refl, λ e. refl)
state_decides (Constants cs) (Constants ds) = (
  λ h. ap Constants ((values_decide cs ds).0 h),
  λ e. (values_decide cs ds).1 (cc),
)
state_decides (Running cs vs) (Running ds ws) = (
  λ h. let p = both _ _ h in let f = (values_decide cs ds).0 p.0 in let g = (values_decide vs ws).0 p.1 in cc,
  λ e. let f = (values_decide cs ds).1 (cc) in let g = (values_decide vs ws).1 (cc) in cc,
)
state_decides a b = (λ h. cc, λ e. cc)

-- what a test that answers so says
pub told_value : (x y : Value) (r : Bool) → r ≡ same_value x y → IsTrue r ↔ (x ≡ y)
told_value x y r e = (λ h. (value_decides x y).0 (sym e ∙ h), λ h. e ∙ (value_decides x y).1 h)

pub told_state : (a b : State) (r : Bool) → r ≡ same_state a b → IsTrue r ↔ (a ≡ b)
told_state a b r e = (λ h. (state_decides a b).0 (sym e ∙ h), λ h. e ∙ (state_decides a b).1 h)
