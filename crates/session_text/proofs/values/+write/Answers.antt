use Rattle.std.proofs.Common.{◌≡◌, ◌<◌, ◌++◌, ◌∷◌, [], length, true, false, rules, arith}
use Rattle.b_values.specs.Texts.{text_of}
use Rattle.session_text.proofs.Lengths.{on_err, long_comma, long_first, long_later}
use Rattle.session_text.proofs.values.+write.Goals.{add_values-then-not-is_first+in_ok-add, add_values-else-not-is_first}
use Rattle.session_text.proofs.values.+write.Goals as goal

pub add_values-returns-in_err-add-clause-long : goal.add_values-returns-in_err-add-clause-long
add_values-returns-in_err-add-clause-long t c =
    let small : c.loop-x.x-index < length c.args.xs.now = omega arith in
    let later : c.loop-x.is_first ≡ false = search rules in
    on_err c.from_residual.result
    (long_comma (text_of c.args.sets.now) c.args.xs.now c.loop-x.x-index c.x-item.result c.loop-x.is_first c.loop-x.out c.args.out.now _ small c.x-item.is later c.loop-x.invariant c.in_err-add.ensures.long)

pub add_values-returns-in_err-add_value-clause-long : goal.add_values-returns-in_err-add_value-clause-long
add_values-returns-in_err-add_value-clause-long t c =
    let small : c.loop-x.x-index < length c.args.xs.now = omega arith in
    on_err c.from_residual-in_err-add_value.result
    (elim c.if-not-is_first.branch [
      | add_values-then-not-is_first+in_ok-add w ↦
          let later : c.loop-x.is_first ≡ false = search rules in
          let added : c.if-not-is_first.out ≡ c.loop-x.out ++ 44 ∷ [] = search rules in
          long_later (text_of c.args.sets.now) c.args.xs.now c.loop-x.x-index c.x-item.result c.loop-x.is_first c.loop-x.out c.if-not-is_first.out c.args.out.now _ small c.x-item.is later added c.loop-x.invariant c.in_err-add_value.ensures.long
      | add_values-else-not-is_first w ↦
          let begins : c.loop-x.is_first ≡ true = search rules in
          let same : c.if-not-is_first.out ≡ c.loop-x.out = search rules in
          long_first (text_of c.args.sets.now) c.args.xs.now c.loop-x.x-index c.x-item.result c.loop-x.is_first c.loop-x.out c.if-not-is_first.out c.args.out.now _ small c.x-item.is begins same c.loop-x.invariant c.in_err-add_value.ensures.long
    ])
