-- The quotient is the one that the relation says.
use Rattle.std.proofs.Common.{rules, ◌≡◌, int_div, ◌∙◌}
use Rattle.b_arith.specs.Rows.{quotient_of}
use Rattle.b_arith.proofs.Quotients.{quotient_exists, quotient_kept}
use Rattle.b_arith.proofs.div.Goals as goal

pub returns-clause-quotient_exists : goal.returns-clause-quotient_exists
returns-clause-quotient_exists c h = (int_div c.args.a c.args.b, quotient_exists c.args.a c.args.b h)

pub returns-clause-quotient_only : goal.returns-clause-quotient_only
returns-clause-quotient_only c q is =
    let value : c.ok_or.result ≡ quotient_of c.args.a c.args.b = search rules in
    value ∙ quotient_kept c.args.a c.args.b q is
