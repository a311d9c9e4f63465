use Rattle.std.proofs.Common.{◌≡◌, ◌≤◌, ◌+◌, ◌++◌, length, arith, sym, ap, ◌∙◌, subst}
use Rattle.std.specs.Prelude.{IfOk}
use Rattle.type_choices.specs.Forms.{AreForms}
use Rattle.type_demands.specs.Scopes.{scope_of}
use Rattle.type_demands.specs.Demands.{said}
use Rattle.type_formulas.specs.Typings.{demands_in, parts_in, whole_in, scope_known, forms_in, Answers}
use Rattle.type_formulas.proofs.Answering.{demands_within, readable}
use Rattle.type_formulas.proofs.typing.type_formula.Goals as goal

pub judged-requires-clause-known : goal.judged-requires-clause-known
judged-requires-clause-known c =
    let same_parts : c.walk.new.next ≡ parts_in c.args.known.now c.args.tree.now = c.in_ok-whole.ensures.parts in
    let same_known = ap length c.only-all.ensures in
    omega arith

pub judged-requires-clause-forms : goal.judged-requires-clause-forms
judged-requires-clause-forms c =
    let known = c.args.known.now in
    let tree = c.args.tree.now in
    let same_parts : c.walk.new.next ≡ parts_in c.args.known.now c.args.tree.now = c.in_ok-whole.ensures.parts in
    let same_demands : c.as_slice.result.now ≡ demands_in c.args.known.now c.args.tree.now =
    c.as_slice.ensures.value ∙ c.in_ok-whole.ensures.demands
    ∙ ap (λ l. l ++ (said c.args.tree.now).demands (scope_of c.in_ok-frames.frames.items) (length c.args.known.now)) c.new-demands.ensures.items
    ∙ ap (λ s. (said c.args.tree.now).demands s (length c.args.known.now)) c.in_ok-frames.ensures in
    subst (λ n. AreForms n (forms_in c.as_slice.result.now)) (sym same_parts) (subst (λ d. AreForms (parts_in known tree) (forms_in d)) (sym same_demands) (demands_within known tree))

pub returns-clause-answer : goal.returns-clause-answer
returns-clause-answer c =
    let known = c.args.known.now in
    let tree = c.args.tree.now in
    let same_parts : c.walk.new.next ≡ parts_in c.args.known.now c.args.tree.now = c.in_ok-whole.ensures.parts in
    let same_demands : c.as_slice.result.now ≡ demands_in c.args.known.now c.args.tree.now =
    c.as_slice.ensures.value ∙ c.in_ok-whole.ensures.demands
    ∙ ap (λ l. l ++ (said c.args.tree.now).demands (scope_of c.in_ok-frames.frames.items) (length c.args.known.now)) c.new-demands.ensures.items
    ∙ ap (λ s. (said c.args.tree.now).demands s (length c.args.known.now)) c.in_ok-frames.ensures in
    let same_whole : c.in_ok-whole.whole ≡ whole_in c.args.known.now c.args.tree.now = c.in_ok-whole.ensures.whole in
    subst (λ w. IfOk c.judged.result (Answers 500 known (demands_in known tree) (parts_in known tree) w)) same_whole
    (subst (λ n. IfOk c.judged.result (Answers 500 known (demands_in known tree) n c.in_ok-whole.whole)) same_parts
    (subst (λ d. IfOk c.judged.result (Answers 500 known d c.walk.new.next c.in_ok-whole.whole)) same_demands
    (subst (λ k. IfOk c.judged.result (Answers 500 k c.as_slice.result.now c.walk.new.next c.in_ok-whole.whole)) c.only-all.ensures c.judged.ensures)))

pub returns-clause-read : goal.returns-clause-read
returns-clause-read c = readable 500 c.args.known.now c.args.tree.now c.judged.result (returns-clause-answer c)
