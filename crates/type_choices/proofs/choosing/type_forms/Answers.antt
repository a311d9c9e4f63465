use Rattle.std.proofs.Common.{rules, ◌≡◌, ◌++◌, ◌∷◌, [], length, subst, sym}
use Rattle.std.specs.Prelude.{Ok}
use Rattle.type_schemes.specs.Rules.{Obeys}
use Rattle.type_schemes.specs.Growing.{Demands}
use Rattle.type_choices.specs.declared.choosing.Choice.TheVariants as choice
use Rattle.type_choices.specs.Forms.{IsForm, AreForms}
use Rattle.type_choices.specs.Passing.{SettlesAll}
use Rattle.type_choices.specs.Choosing.{Chooses}
use Rattle.type_choices.proofs.Choices.{others_inside, form_inside, choosing_neither, choosing_both, choosing_only}
use Rattle.type_choices.proofs.choosing.type_forms.Goals as goal

pub choose-requires-clause-others : goal.choose-requires-clause-others
choose-requires-clause-others c =
    let popped : c.in-Some.left.items ≡ c.pop.new.self.items ++ c.in-Some-pop.form ∷ [] = search rules in
    let carried = (subst (λ o. SettlesAll c.loop-rows.rows.items c.settle.new.rows.items c.loop-rows.waiting.items (Ok o)) c.in-Some.is c.in_ok-left.ensures).0 in
    subst (λ l. AreForms (length l) c.as_slice-in-loop-rows.result.now) (sym c.as_slice.ensures.value) (subst (AreForms (length c.settle.new.rows.items)) (sym c.as_slice-in-loop-rows.ensures.value)
    (others_inside c.args.limit c.args.parts c.args.rows.items c.args.forms.items c.loop-rows.rows.items c.loop-rows.waiting.items c.loop-rows.invariant c.settle.new.rows.items c.in-Some.left.items carried c.pop.new.self.items c.in-Some-pop.form popped))

pub choose-requires-clause-form : goal.choose-requires-clause-form
choose-requires-clause-form c =
    let popped : c.in-Some.left.items ≡ c.pop.new.self.items ++ c.in-Some-pop.form ∷ [] = search rules in
    let carried = (subst (λ o. SettlesAll c.loop-rows.rows.items c.settle.new.rows.items c.loop-rows.waiting.items (Ok o)) c.in-Some.is c.in_ok-left.ensures).0 in
    subst (λ l. IsForm (length l) c.in-Some-pop.form) (sym c.as_slice.ensures.value)
    (form_inside c.args.limit c.args.parts c.args.rows.items c.args.forms.items c.loop-rows.rows.items c.loop-rows.waiting.items c.loop-rows.invariant c.settle.new.rows.items c.in-Some.left.items carried c.pop.new.self.items c.in-Some-pop.form popped)

pub returns-in-Neither : goal.returns-in-Neither
returns-in-Neither c =
    let popped : c.in-Some.left.items ≡ c.pop.new.self.items ++ c.in-Some-pop.form ∷ [] = search rules in
    let carried = (subst (λ o. SettlesAll c.loop-rows.rows.items c.settle.new.rows.items c.loop-rows.waiting.items (Ok o)) c.in-Some.is c.in_ok-left.ensures).0 in
    let picked = subst (λ o. Chooses c.args.limit c.as_slice.result.now c.as_slice-in-loop-rows.result.now c.in-Some-pop.form (Ok o)) c.in-Neither.is c.in_ok-choose.ensures in
    let chosen = subst (λ l. Chooses c.args.limit c.settle.new.rows.items l c.in-Some-pop.form (Ok choice.Neither)) c.as_slice-in-loop-rows.ensures.value (subst (λ l. Chooses c.args.limit l c.as_slice-in-loop-rows.result.now c.in-Some-pop.form (Ok choice.Neither)) c.as_slice.ensures.value picked) in
    choosing_neither c.args.limit c.args.parts c.args.rows.items c.args.forms.items c.loop-rows.rows.items c.loop-rows.waiting.items c.loop-rows.invariant c.settle.new.rows.items c.in-Some.left.items carried c.pop.new.self.items c.in-Some-pop.form popped chosen

pub returns-in-Both : goal.returns-in-Both
returns-in-Both c =
    let popped : c.in-Some.left.items ≡ c.pop.new.self.items ++ c.in-Some-pop.form ∷ [] = search rules in
    let carried = (subst (λ o. SettlesAll c.loop-rows.rows.items c.settle.new.rows.items c.loop-rows.waiting.items (Ok o)) c.in-Some.is c.in_ok-left.ensures).0 in
    let picked = subst (λ o. Chooses c.args.limit c.as_slice.result.now c.as_slice-in-loop-rows.result.now c.in-Some-pop.form (Ok o)) c.in-Both.is c.in_ok-choose.ensures in
    let chosen = subst (λ l. Chooses c.args.limit c.settle.new.rows.items l c.in-Some-pop.form (Ok choice.Both)) c.as_slice-in-loop-rows.ensures.value (subst (λ l. Chooses c.args.limit l c.as_slice-in-loop-rows.result.now c.in-Some-pop.form (Ok choice.Both)) c.as_slice.ensures.value picked) in
    choosing_both c.args.limit c.args.parts c.args.rows.items c.args.forms.items c.loop-rows.rows.items c.loop-rows.waiting.items c.loop-rows.invariant c.settle.new.rows.items c.in-Some.left.items carried c.pop.new.self.items c.in-Some-pop.form popped chosen

pub demand-requires-clause-left : goal.demand-requires-clause-left
demand-requires-clause-left c =
    let popped : c.in-Some.left.items ≡ c.pop.new.self.items ++ c.in-Some-pop.form ∷ [] = search rules in
    let carried = (subst (λ o. SettlesAll c.loop-rows.rows.items c.settle.new.rows.items c.loop-rows.waiting.items (Ok o)) c.in-Some.is c.in_ok-left.ensures).0 in
    (form_inside c.args.limit c.args.parts c.args.rows.items c.args.forms.items c.loop-rows.rows.items c.loop-rows.waiting.items c.loop-rows.invariant c.settle.new.rows.items c.in-Some.left.items carried c.pop.new.self.items c.in-Some-pop.form popped).left

pub demand-requires-clause-right : goal.demand-requires-clause-right
demand-requires-clause-right c =
    let popped : c.in-Some.left.items ≡ c.pop.new.self.items ++ c.in-Some-pop.form ∷ [] = search rules in
    let carried = (subst (λ o. SettlesAll c.loop-rows.rows.items c.settle.new.rows.items c.loop-rows.waiting.items (Ok o)) c.in-Some.is c.in_ok-left.ensures).0 in
    (form_inside c.args.limit c.args.parts c.args.rows.items c.args.forms.items c.loop-rows.rows.items c.loop-rows.waiting.items c.loop-rows.invariant c.settle.new.rows.items c.in-Some.left.items carried c.pop.new.self.items c.in-Some-pop.form popped).right

pub demand-requires-clause-whole : goal.demand-requires-clause-whole
demand-requires-clause-whole c =
    let popped : c.in-Some.left.items ≡ c.pop.new.self.items ++ c.in-Some-pop.form ∷ [] = search rules in
    let carried = (subst (λ o. SettlesAll c.loop-rows.rows.items c.settle.new.rows.items c.loop-rows.waiting.items (Ok o)) c.in-Some.is c.in_ok-left.ensures).0 in
    (form_inside c.args.limit c.args.parts c.args.rows.items c.args.forms.items c.loop-rows.rows.items c.loop-rows.waiting.items c.loop-rows.invariant c.settle.new.rows.items c.in-Some.left.items carried c.pop.new.self.items c.in-Some-pop.form popped).whole

pub loop-rows-preserved : goal.loop-rows-preserved
loop-rows-preserved c =
    let popped : c.in-Some.left.items ≡ c.pop.new.self.items ++ c.in-Some-pop.form ∷ [] = search rules in
    let carried = (subst (λ o. SettlesAll c.loop-rows.rows.items c.settle.new.rows.items c.loop-rows.waiting.items (Ok o)) c.in-Some.is c.in_ok-left.ensures).0 in
    let picked = subst (λ o. Chooses c.args.limit c.as_slice.result.now c.as_slice-in-loop-rows.result.now c.in-Some-pop.form (Ok o)) c.in-Only.is c.in_ok-choose.ensures in
    let chosen = subst (λ l. Chooses c.args.limit c.settle.new.rows.items l c.in-Some-pop.form (Ok (choice.Only c.in-Only.rule))) c.as_slice-in-loop-rows.ensures.value (subst (λ l. Chooses c.args.limit l c.as_slice-in-loop-rows.result.now c.in-Some-pop.form (Ok (choice.Only c.in-Only.rule))) c.as_slice.ensures.value picked) in
    let f = c.in-Some-pop.form in
    choosing_only c.args.limit c.args.parts c.args.rows.items c.args.forms.items c.loop-rows.rows.items c.loop-rows.waiting.items c.loop-rows.invariant c.settle.new.rows.items c.in-Some.left.items carried c.pop.new.self.items c.in-Some-pop.form popped c.in-Only.rule chosen c.demand.new.rows.items
    (subst (λ b. Demands c.settle.new.rows.items c.demand.new.rows.items (λ s. Obeys c.in-Only.rule (s f.left) (s f.right) (s f.whole)) (Ok b)) c.if-not-branch.false c.in_ok-demand-in-Only.ensures)
