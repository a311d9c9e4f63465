-- The power by squares of half powers.
use Rattle.std.proofs.Common.{sym, ◌∙◌, ap, arith, rules, FitsSigned}
use Rattle.std.specs.Int.{w128}
use Rattle.std.proofs.lemmas.Int.{to_z-of_z}
use Rattle.b_arith.specs.Rows.{kept}
use Rattle.b_arith.proofs.Powers.{zeroth, half-fault, square-fault, even-answer, odd-answer}
use Rattle.b_arith.proofs.+raise.Goals as goal

pub returns-then-exponent-eq0 : goal.returns-then-exponent-eq0
returns-then-exponent-eq0 t c = ap kept (sym (zeroth c.args.a c.args.exponent (omega arith)))

pub returns-in-Err : goal.returns-in-Err
returns-in-Err t c =
    let base : FitsSigned w128 c.args.a = c.ranges.a in
    let half = simp to_z-of_z at c.in-Err.ensures in
    sym (half-fault c.args.a c.args.exponent c.in-Err.fault (sym half))

pub returns-in-Err-mul : goal.returns-in-Err-mul
returns-in-Err-mul t c =
    let base : FitsSigned w128 c.args.a = c.ranges.a in
    let root : FitsSigned w128 c.in-Ok.half = search rules in
    let half = simp to_z-of_z at c.in-Ok.ensures in
    let square = simp to_z-of_z at c.in-Err-mul.ensures in
    sym (square-fault c.args.a c.args.exponent c.in-Ok.half c.in-Err-mul.fault (sym half) (sym square))

pub returns-in-Ok-mul : goal.returns-in-Ok-mul
returns-in-Ok-mul t c =
    let base : FitsSigned w128 c.args.a = c.ranges.a in
    let root : FitsSigned w128 c.in-Ok.half = search rules in
    let product : FitsSigned w128 c.in-Ok-mul.square = search rules in
    let half = simp to_z-of_z at c.in-Ok.ensures in
    let square = simp to_z-of_z at c.in-Ok-mul.ensures in
    simp to_z-of_z
    (sym (even-answer c.args.a c.args.exponent c.in-Ok.half c.in-Ok-mul.square c.if-exponent-eq0-2.true (sym half) (sym square)))

pub returns-in-Ok-2 : goal.returns-in-Ok-2
returns-in-Ok-2 t c =
    let base : FitsSigned w128 c.args.a = c.ranges.a in
    let root : FitsSigned w128 c.in-Ok.half = search rules in
    let product : FitsSigned w128 c.in-Ok-mul.square = search rules in
    let half = simp to_z-of_z at c.in-Ok.ensures in
    let square = simp to_z-of_z at c.in-Ok-mul.ensures in
    let last = simp to_z-of_z at c.mul-in-Ok-2.ensures in
    last ∙ sym (odd-answer c.args.a c.args.exponent c.in-Ok.half c.in-Ok-mul.square c.if-exponent-eq0-2.false (sym half) (sym square))
