use Rattle.std.proofs.Common.{sym, ap, ◌∙◌, subst}
use Rattle.b_values.specs.Values.{limited}
use Rattle.b_values.specs.declared.values.Value.TheVariants.{Set}
use Rattle.set_making.specs.Making.{Answers}
use Rattle.set_making.specs.MakingLaws.{set_in_order_with}
use Rattle.set_making.proofs.set_in_order.Goals as goal

pub returns-in-Ok : goal.returns-in-Ok
returns-in-Ok c =
    subst (λ row. Answers row c.within_limit.result) (ap (λ xs. limited (Set xs)) c.in-Ok.ensures ∙ sym (set_in_order_with _ c.requires)) c.within_limit.ensures
