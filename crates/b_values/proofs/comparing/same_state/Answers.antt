use Rattle.std.proofs.Common.{rules, ◌≡◌}
use Rattle.b_values.specs.Values.{same_state}
use Rattle.b_values.specs.SameLaws.{told_state}
use Rattle.b_values.proofs.comparing.same_state.Goals as goal

pub returns-in-Constants-Constants-clause-equal : goal.returns-in-Constants-Constants-clause-equal
returns-in-Constants-Constants-clause-equal c =
    let e : c.eq.result ≡ same_state c.args.a.now c.args.b.now = search rules in told_state _ _ _ e

pub returns-then-eq-clause-equal : goal.returns-then-eq-clause-equal
returns-then-eq-clause-equal c =
    let e : c.eq-then-eq.result ≡ same_state c.args.a.now c.args.b.now = search rules in told_state _ _ _ e

pub returns-else-eq-clause-equal : goal.returns-else-eq-clause-equal
returns-else-eq-clause-equal c =
    let e : c.eq-in-Running-Running.result ≡ same_state c.args.a.now c.args.b.now = search rules in told_state _ _ _ e
