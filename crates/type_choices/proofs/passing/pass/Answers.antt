use Rattle.std.proofs.Common.{rules, ◌≡◌, ◌++◌, ◌∷◌, [], length, subst, sym, ap}
use Rattle.std.specs.Prelude.{Ok}
use Rattle.type_schemes.specs.Rules.{Obeys}
use Rattle.type_schemes.specs.Growing.{Demands}
use Rattle.type_choices.specs.Forms.{IsForm}
use Rattle.type_choices.specs.Settling.{IsRule, MayWait}
use Rattle.type_choices.proofs.Walks.{popped_form, passing_kept, passing_put, passing_clash}
use Rattle.type_choices.proofs.passing.pass.Goals as goal

pub rule_now-requires-clause-form : goal.rule_now-requires-clause-form
rule_now-requires-clause-form c =
    let popped : c.loop-form.waiting.items ≡ c.pop.new.self.items ++ c.in-Some.form ∷ [] = search rules in
    subst (λ l. IsForm (length l) c.in-Some.form) (sym c.as_slice.ensures.value) (popped_form c.args.rows.now.items c.args.waiting.items c.loop-form.rows.items c.loop-form.waiting.items c.pop.new.self.items c.loop-form.kept.items c.in-Some.form c.requires.forms popped c.loop-form.invariant)

pub loop-form-preserved-in_ok-push-in-None : goal.loop-form-preserved-in_ok-push-in-None
loop-form-preserved-in_ok-push-in-None c =
    let popped : c.loop-form.waiting.items ≡ c.pop.new.self.items ++ c.in-Some.form ∷ [] = search rules in
    passing_kept c.args.rows.now.items c.args.waiting.items c.loop-form.rows.items c.loop-form.waiting.items c.pop.new.self.items c.loop-form.kept.items c.in-Some.form c.requires.forms popped c.loop-form.invariant
    c.push.new.self.items c.in_ok-push-in-None.ensures.items (subst (λ l. MayWait l c.in-Some.form) c.as_slice.ensures.value c.in-None.ensures)

pub demand-requires-clause-left : goal.demand-requires-clause-left
demand-requires-clause-left c =
    let popped : c.loop-form.waiting.items ≡ c.pop.new.self.items ++ c.in-Some.form ∷ [] = search rules in
    (popped_form c.args.rows.now.items c.args.waiting.items c.loop-form.rows.items c.loop-form.waiting.items c.pop.new.self.items c.loop-form.kept.items c.in-Some.form c.requires.forms popped c.loop-form.invariant).left

pub demand-requires-clause-right : goal.demand-requires-clause-right
demand-requires-clause-right c =
    let popped : c.loop-form.waiting.items ≡ c.pop.new.self.items ++ c.in-Some.form ∷ [] = search rules in
    (popped_form c.args.rows.now.items c.args.waiting.items c.loop-form.rows.items c.loop-form.waiting.items c.pop.new.self.items c.loop-form.kept.items c.in-Some.form c.requires.forms popped c.loop-form.invariant).right

pub demand-requires-clause-whole : goal.demand-requires-clause-whole
demand-requires-clause-whole c =
    let popped : c.loop-form.waiting.items ≡ c.pop.new.self.items ++ c.in-Some.form ∷ [] = search rules in
    (popped_form c.args.rows.now.items c.args.waiting.items c.loop-form.rows.items c.loop-form.waiting.items c.pop.new.self.items c.loop-form.kept.items c.in-Some.form c.requires.forms popped c.loop-form.invariant).whole

pub returns-then-not-branch : goal.returns-then-not-branch
returns-then-not-branch c =
    let popped : c.loop-form.waiting.items ≡ c.pop.new.self.items ++ c.in-Some.form ∷ [] = search rules in
    let f = c.in-Some.form in
    let q = c.in-Some-rule_now.rule in
    passing_clash c.args.rows.now.items c.args.waiting.items c.loop-form.rows.items c.loop-form.waiting.items c.pop.new.self.items c.loop-form.kept.items f c.requires.forms popped c.loop-form.invariant
    q (subst (λ l. IsRule l f q) c.as_slice.ensures.value c.in-Some-rule_now.ensures)
    (subst (λ b. Demands c.loop-form.rows.items c.demand.new.rows.items (λ s. Obeys q (s f.left) (s f.right) (s f.whole)) (Ok b)) c.if-not-branch.true c.in_ok-demand-in-Some-rule_now.ensures)

pub loop-form-preserved : goal.loop-form-preserved
loop-form-preserved c =
    let popped : c.loop-form.waiting.items ≡ c.pop.new.self.items ++ c.in-Some.form ∷ [] = search rules in
    let f = c.in-Some.form in
    let q = c.in-Some-rule_now.rule in
    passing_put c.args.rows.now.items c.args.waiting.items c.loop-form.rows.items c.loop-form.waiting.items c.pop.new.self.items c.loop-form.kept.items f c.requires.forms popped c.loop-form.invariant
    q (subst (λ l. IsRule l f q) c.as_slice.ensures.value c.in-Some-rule_now.ensures)
    c.demand.new.rows.items (subst (λ b. Demands c.loop-form.rows.items c.demand.new.rows.items (λ s. Obeys q (s f.left) (s f.right) (s f.whole)) (Ok b)) c.if-not-branch.false c.in_ok-demand-in-Some-rule_now.ensures)
