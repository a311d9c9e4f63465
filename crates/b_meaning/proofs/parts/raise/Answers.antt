use Rattle.std.proofs.Common.{◌≡◌, ◌<◌, ◌-◌, suc, length, arith, sym, subst}
use Rattle.b_values.specs.Values.{IsKept}
use Rattle.b_meaning.proofs.Powers.{raises, unraised}
use Rattle.b_meaning.proofs.parts.raise.Goals as goal

pub operands-preserved : goal.operands-preserved
operands-preserved c =
    let t = c.operands-test.true in
    let w = c.operands.invariant.within in
    let one : c.operands.left ≡ suc (c.operands.left - 1) = omega (arith, t) in
    let below : c.operands.left - 1 < length c.args.powers.now = omega (arith, t, w) in
    record {
      state = raises c.args.limit c.args.powers.now c.args.bases.items c.args.last c.operands.value c.operands.left (c.operands.left - 1) c.index-powers-left.result c.index.result.now c.operands.invariant.even one below c.index-powers-left.is c.index.ensures c.operands.invariant.state
          c.in-Ok.next c.renewed-value.result c.in-Ok.ensures.value c.renewed-value.ensures;
      within = omega (arith, t, w);
      even = c.operands.invariant.even;
      kept = subst IsKept (sym c.renewed-value.ensures) c.in-Ok.ensures.kept;
    }

pub returns-in-Err-clause-value : goal.returns-in-Err-clause-value
returns-in-Err-clause-value c =
    let t = c.operands-test.true in
    let w = c.operands.invariant.within in
    let one : c.operands.left ≡ suc (c.operands.left - 1) = omega (arith, t) in
    let below : c.operands.left - 1 < length c.args.powers.now = omega (arith, t, w) in
    unraised c.args.limit c.args.powers.now c.args.bases.items c.args.last c.operands.value c.operands.left (c.operands.left - 1) c.index-powers-left.result c.index.result.now c.operands.invariant.even one below c.index-powers-left.is c.index.ensures c.operands.invariant.state
    c.in-Err.s c.in-Err.ensures.value
