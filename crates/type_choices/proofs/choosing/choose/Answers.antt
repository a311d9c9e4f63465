use Rattle.std.proofs.Common.{length, subst}
use Rattle.std.specs.Prelude.{Ok}
use Rattle.type_schemes.specs.Rules.{Obeys}
use Rattle.type_choices.specs.Choosing.{FindsWith}
use Rattle.type_choices.proofs.Choices.{chose_both}
use Rattle.type_choices.proofs.choosing.choose.Goals as goal

pub returns-in-true-true : goal.returns-in-true-true
returns-in-true-true c =
    let f = c.args.form in
    let p = c.in-Either.numbers in
    let q = c.in-Either.sets in
    chose_both c.args.limit c.args.rows.now c.args.others.now f (length c.args.rows.now) c.requires.form p q c.in-Either.is
    (subst (λ b. FindsWith c.args.limit c.args.rows.now c.args.others.now (λ s. Obeys p (s f.left) (s f.right) (s f.whole)) (Ok b)) c.in-true-true.is-0 c.in_ok-first-in-Either.ensures)
    (subst (λ b. FindsWith c.args.limit c.args.rows.now c.args.others.now (λ s. Obeys q (s f.left) (s f.right) (s f.whole)) (Ok b)) c.in-true-true.is-1 c.in_ok-second-in-Either.ensures)
