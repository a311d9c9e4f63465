-- The remainder is the one that the relation says.
use Rattle.std.proofs.Common.{rules, ◌≡◌, ℤ, int_rem, Ok, sym, ◌∙◌, to_z, of_z}
use Rattle.std.specs.Int.{w128}
use Rattle.b_arith.specs.Rows.{remainder_of}
use Rattle.b_arith.proofs.Quotients.{remainder_exists, remainder_unique}
use Rattle.b_arith.proofs.modulo.Goals as goal

-- what `a % b` gives
given : ℤ → ℤ → ℤ
given a b = to_z w128 (of_z w128 (int_rem (to_z w128 (of_z w128 a)) (to_z w128 (of_z w128 b))))

pub returns-clause-remainder : goal.returns-clause-remainder
unfolding given
returns-clause-remainder c =
    let value : remainder_of c.args.a c.args.b ≡ Ok (given c.args.a c.args.b) = sym (search rules) in
    remainder_exists c.args.a c.args.b (given c.args.a c.args.b) value

pub returns-clause-remainder_only : goal.returns-clause-remainder_only
unfolding given
returns-clause-remainder_only c r is =
    let value : remainder_of c.args.a c.args.b ≡ Ok (given c.args.a c.args.b) = sym (search rules) in
    sym value ∙ remainder_unique c.args.a c.args.b r is
