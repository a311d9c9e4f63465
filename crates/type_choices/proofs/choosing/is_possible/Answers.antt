use Rattle.std.proofs.Common.{subst}
use Rattle.std.specs.Prelude.{Ok}
use Rattle.type_choices.specs.Passing.{SettlesAll}
use Rattle.type_choices.specs.Choosing.{HasNumbers}
use Rattle.type_choices.proofs.Choices.{found, not_found}
use Rattle.type_choices.proofs.choosing.is_possible.Goals as goal

pub returns-in-None : goal.returns-in-None
returns-in-None c = not_found c.args.limit c.args.rows.items c.args.forms.items (subst (λ o. SettlesAll c.args.rows.items c.settle.new.rows.items c.args.forms.items (Ok o)) c.in-None.is c.in_ok-settle.ensures)

pub returns : goal.returns
returns c =
    found c.args.limit c.args.rows.items c.settle.new.rows.items c.args.forms.items c.in-Some._kept.items
    (subst (λ o. SettlesAll c.args.rows.items c.settle.new.rows.items c.args.forms.items (Ok o)) c.in-Some.is c.in_ok-settle.ensures) c.has_typing.result
    (subst (λ l. HasNumbers c.args.limit l c.has_typing.result) c.as_slice.ensures.value c.has_typing.ensures)
