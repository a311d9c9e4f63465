use Rattle.std.proofs.Common.{inl, inr, sym, ◌∙◌}
use Rattle.b_values.specs.OrderLaws.{cmp-Set, lengths_decide}
use Rattle.b_values.proofs.comparing.+order.Goals as goal

pub order-returns-in-Set-Set : goal.order-returns-in-Set-Set
order-returns-in-Set-Set t c =
    let e = rw (c.as_slice-in-Set-Set.ensures, c.as_slice-in-Set-Set-2.ensures, c.get-in-Set-Set.ensures, c.get-in-Set-Set-2.ensures) at c.order_items.ensures in
    rw (c.in-Set-Set.is-0, c.in-Set-Set.is-1, cmp-Set) e

pub order_items-returns : goal.order_items-returns
order_items-returns t c =
    let i = c.loop-x.invariant in
    c.cmp.ensures ∙ lengths_decide _ _ _ _ i.level (elim c.in-None.ensures.steps [ inl p ↦ inl p.1.0 | inr p ↦ inr p.1.0 ]) ∙ sym i.alike
