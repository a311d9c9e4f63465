use Rattle.std.proofs.Common.{◌≡◌, length, arith, subst}
use Rattle.std.specs.Prelude.{Ok}
use Rattle.type_choices.specs.Passing.{Passes}
use Rattle.type_choices.proofs.Walks.{settling_inside, settling_more, settling_clash, settled}
use Rattle.type_choices.proofs.passing.settle.Goals as goal

pub pass-requires-clause-forms : goal.pass-requires-clause-forms
pass-requires-clause-forms c = settling_inside c.args.rows.now.items c.loop-kept.rows.items c.args.forms.items c.loop-kept.waiting.items c.loop-kept.invariant c.requires.forms

pub returns-in_default : goal.returns-in_default
returns-in_default c =
    settling_clash c.args.rows.now.items c.loop-kept.rows.items c.args.forms.items c.loop-kept.waiting.items c.loop-kept.invariant
    (subst (λ o. Passes c.loop-kept.rows.items c.pass.new.rows.items c.loop-kept.waiting.items (Ok o)) c.in_default.is c.in_ok-kept.ensures)

pub returns-then-len-before : goal.returns-then-len-before
returns-then-len-before c =
    let e : length c.in-Some.kept.items ≡ length c.loop-kept.waiting.items = let a = c.if-len-before.true in let b = c.len.ensures in let d = c.len-before.ensures in omega arith in
    settled c.args.rows.now.items c.loop-kept.rows.items c.args.forms.items c.loop-kept.waiting.items c.loop-kept.invariant c.pass.new.rows.items c.in-Some.kept.items
    (subst (λ o. Passes c.loop-kept.rows.items c.pass.new.rows.items c.loop-kept.waiting.items (Ok o)) c.in-Some.is c.in_ok-kept.ensures) e

pub loop-kept-preserved : goal.loop-kept-preserved
loop-kept-preserved c =
    let passed = subst (λ o. Passes c.loop-kept.rows.items c.pass.new.rows.items c.loop-kept.waiting.items (Ok o)) c.in-Some.is c.in_ok-kept.ensures in
    settling_more c.args.rows.now.items c.loop-kept.rows.items c.args.forms.items c.loop-kept.waiting.items c.loop-kept.invariant c.pass.new.rows.items c.in-Some.kept.items passed.0
