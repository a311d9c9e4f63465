use Rattle.std.proofs.Common.{◌≡◌, suc, length, ap, arith}
use Rattle.b_stretches.specs.Stretches.{pieces}
use Rattle.b_stretches.proofs.Pieces.{within, scan_on}
use Rattle.b_stretches.proofs.cut.Goals as goal

pub depth_after-depth-requires : goal.depth_after-depth-requires
depth_after-depth-requires c =
    let total = within c.args.separator (pieces c.args.s) c.loop-word.count c.loop-word.depth (pieces c.loop-word.rest) c.loop-word.invariant.scanned in
    let long : length (pieces c.loop-word.rest) ≡ suc (length (pieces c.in-Some.more)) = ap length c.in-Some.ensures in
    let few = c.loop-word.invariant.scanned.few in
    let known = c.loop-word.invariant.known in
    omega arith

pub overflow_add-count : goal.overflow_add-count
overflow_add-count c =
    let total = within c.args.separator (pieces c.args.s) c.loop-word.count c.loop-word.depth (pieces c.loop-word.rest) c.loop-word.invariant.scanned in
    let long : length (pieces c.loop-word.rest) ≡ suc (length (pieces c.in-Some.more)) = ap length c.in-Some.ensures in
    let known = c.loop-word.invariant.known in
    omega arith

pub loop-word-preserved : goal.loop-word-preserved
loop-word-preserved c = record {
  scanned =
      rw
      c.depth_after-depth.ensures
      (scan_on
      c.args.separator
      (pieces c.args.s)
      c.loop-word.count
      c.loop-word.depth
      (pieces c.loop-word.rest)
      c.loop-word.invariant.scanned
      (c.in-Some.word, c.in-Some.lexeme.now)
      (pieces c.in-Some.more)
      c.in-Some.ensures
      c.if-ends_part.ensures);
  known = c.loop-word.invariant.known;
}
