use Rattle.std.proofs.Common.{◌≡◌, ◌∙◌, sym, subst}
use Rattle.type_choices.specs.Forms.{AreForms}
use Rattle.type_choices.specs.Choosing.{IsTyped}
use Rattle.type_formulas.specs.Typings.{Keeping, Answers, IsNamed, all_known}
use Rattle.type_formulas.proofs.Answering.{answered_is}
use Rattle.type_formulas.proofs.typing.judged.Goals as goal

pub solve-requires-clause-forms : goal.solve-requires-clause-forms
solve-requires-clause-forms c = subst (AreForms c.args.parts) (sym c.in_ok-forms.ensures) c.requires.forms

pub returns : goal.returns
returns c =
    let named : IsNamed c.args.demands.now = (sym c.any_unknown.ensures ∙ c.if-any_unknown.false, sym c.any_twice.ensures ∙ c.if-any_twice.false) in
    subst (Answers 500 (all_known c.args.known.now) c.args.demands.now c.args.parts c.args.whole) (sym c.answered.ensures)
    (answered_is 500 (all_known c.args.known.now) c.args.demands.now c.args.parts named c.args.whole c.in_ok-typed.typed
    (subst (λ l. IsTyped 500 c.args.parts (Keeping 500 (all_known c.args.known.now) l c.args.parts) c.in_ok-typed.typed) c.in_ok-forms.ensures c.in_ok-typed.ensures))
