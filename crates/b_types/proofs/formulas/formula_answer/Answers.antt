use Rattle.std.proofs.Common.{length, ap, ◌∙◌}
use Rattle.type_demands.specs.Scopes.{scope_of}
use Rattle.type_formulas.specs.Typings.{all_known}
use Rattle.type_substs.specs.Told.{Told}
use Rattle.b_types.specs.Formulas.{formula_known, formula_told}
use Rattle.b_types.proofs.FormulaParts.{formula_is, forms_inside}
use Rattle.b_types.proofs.Judging.{judged_alike}
use Rattle.b_types.proofs.formulas.formula_answer.Goals as goal

pub judged-requires-clause-forms : goal.judged-requires-clause-forms
judged-requires-clause-forms c =
    let is =
    formula_is c.args.face.now c.args.scope c.args.text.now (scope_of c.in_ok-frames.frames.items) c.new-demands.result.items c.in_ok-next.next c.in_ok-frames.ensures c.new-demands.ensures.items
    (c.in_ok-next.ensures ∙ ap length c.all-known.ensures) in
    forms_inside c.args.face.now c.args.scope c.args.text.now c.as_slice.result.now c.tell_text.new.next
    (c.as_slice.ensures.value ∙ c.in_ok-tell_text.ensures.demands ∙ ap (λ (z : Told). z.demands) is) (c.in_ok-tell_text.ensures.parts ∙ ap (λ (z : Told). z.next) is)

pub returns : goal.returns
returns c =
    let is =
    formula_is c.args.face.now c.args.scope c.args.text.now (scope_of c.in_ok-frames.frames.items) c.new-demands.result.items c.in_ok-next.next c.in_ok-frames.ensures c.new-demands.ensures.items
    (c.in_ok-next.ensures ∙ ap length c.all-known.ensures) in
    let f = c.args.face.now in
    judged_alike (all_known c.all-known.result) (formula_known c.args.face.now c.args.scope) c.as_slice.result.now (formula_told c.args.face.now c.args.scope c.args.text.now).demands c.tell_text.new.next (formula_told c.args.face.now c.args.scope c.args.text.now).next c.judged.result
    c.all-known.ensures (c.as_slice.ensures.value ∙ c.in_ok-tell_text.ensures.demands ∙ ap (λ (z : Told). z.demands) is) (c.in_ok-tell_text.ensures.parts ∙ ap (λ (z : Told). z.next) is) c.judged.ensures
