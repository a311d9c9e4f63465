use Rattle.std.proofs.Common.{subst}
use Rattle.std.specs.Prelude.{Ok}
use Rattle.type_schemes.specs.Rules.{Obeys}
use Rattle.type_schemes.specs.Growing.{Demands}
use Rattle.type_choices.specs.Choosing.{Finds}
use Rattle.type_choices.proofs.Choices.{with_rule, without_rule}
use Rattle.type_choices.proofs.choosing.is_possible_with.Goals as goal

pub returns-then-not-branch : goal.returns-then-not-branch
returns-then-not-branch c =
    let f = c.args.form in
    let asked = subst (λ b. Demands c.in_ok-copy.copy.items c.demand.new.rows.items (λ s. Obeys c.args.rule (s f.left) (s f.right) (s f.whole)) (Ok b)) c.if-not-branch.true c.in_ok-demand.ensures in
    without_rule c.args.limit c.args.rows.now c.args.others.now (λ s. Obeys c.args.rule (s f.left) (s f.right) (s f.whole)) c.requires.others
    (subst (λ l. Demands l c.demand.new.rows.items (λ s. Obeys c.args.rule (s f.left) (s f.right) (s f.whole)) (Ok Rattle.std.proofs.Common.false)) c.in_ok-copy.ensures.items asked)

pub returns : goal.returns
returns c =
    let f = c.args.form in
    let asked = subst (λ b. Demands c.in_ok-copy.copy.items c.demand.new.rows.items (λ s. Obeys c.args.rule (s f.left) (s f.right) (s f.whole)) (Ok b)) c.if-not-branch.false c.in_ok-demand.ensures in
    with_rule c.args.limit c.args.rows.now c.args.others.now (λ s. Obeys c.args.rule (s f.left) (s f.right) (s f.whole)) c.requires.others c.demand.new.rows.items c.is_possible.result
    (subst (λ l. Demands l c.demand.new.rows.items (λ s. Obeys c.args.rule (s f.left) (s f.right) (s f.whole)) (Ok Rattle.std.proofs.Common.true)) c.in_ok-copy.ensures.items asked)
    (subst (λ l. Finds c.args.limit c.demand.new.rows.items l c.is_possible.result) c.in_ok-forms.ensures.items c.is_possible.ensures)
