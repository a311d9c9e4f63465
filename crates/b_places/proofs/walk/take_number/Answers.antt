use Rattle.std.proofs.Common.{arith, ◌+ℤ◌, pos, rules, FitsSigned}
use Rattle.std.specs.Int.{w128}
use Rattle.std.proofs.lemmas.Int.{ints, to_z-of_z}
use Rattle.b_places.proofs.Integers.{first_number}
use Rattle.b_places.proofs.walk.take_number.Goals as goal

pub returns-then-next-last-2 : goal.returns-then-next-last-2
returns-then-next-last-2 c =
    let a : FitsSigned w128 c.args.next = search rules in
    let b : FitsSigned w128 c.args.last = search rules in
    let l = simp to_z-of_z at c.if-next-last-2.true in
    let sum : FitsSigned w128 (c.args.next +ℤ pos 1) = search rules in
    simp to_z-of_z (first_number c.args.next c.args.last (omega (arith, ints, l)))
