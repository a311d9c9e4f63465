use Rattle.std.proofs.Common.{◌-◌, sym, ap, ◌∙◌, Some, None}
use Rattle.std.specs.Option.{option_copied}
use Rattle.std.specs.Prelude.{slice_get}
use Rattle.b_expand.specs.Standing.{first_part}
use Rattle.b_expand.proofs.Texts.{operand_at, part_later, not_zero}
use Rattle.b_expand.proofs.names.argument_at.Goals as goal

-- an argument after the first is the operand of a link
pub returns-in-Some-at : goal.returns-in-Some-at
returns-in-Some-at c =
    λ means.
    ap (λ p. Some p) (c.operand_of.ensures means)
    ∙ (operand_at means c.args.arguments.now.others.now (c.args.place - 1) (Some c.in-Some-at.link.now) c.in-Some-at.ensures
    ∙ (part_later means c.in-Some.field-0.now c.args.arguments.now.others.now c.args.place (c.args.place - 1) (not_zero c.args.place c.if-place-eq0.false)
    ∙ ap (λ o. slice_get (first_part means (option_copied o) c.args.arguments.now.others.now) c.args.place) (sym c.in-Some.is)))

-- and there are no more than the links
pub returns-in-None-at : goal.returns-in-None-at
returns-in-None-at c =
    λ means.
    operand_at means c.args.arguments.now.others.now (c.args.place - 1) None c.in-None-at.ensures
    ∙ (part_later means c.in-Some.field-0.now c.args.arguments.now.others.now c.args.place (c.args.place - 1) (not_zero c.args.place c.if-place-eq0.false)
    ∙ ap (λ o. slice_get (first_part means (option_copied o) c.args.arguments.now.others.now) c.args.place) (sym c.in-Some.is))
