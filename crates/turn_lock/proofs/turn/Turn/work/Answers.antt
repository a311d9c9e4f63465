use Rattle.std.proofs.Common.{arith, ap, ◌∙◌, subst, ◌≡◌, ◌∷◌, [], length, ◌≤◌}
use Rattle.atomic_table.specs.Table.{rest}
use Rattle.turn_lock.specs.Jobs.{KeepsOn}
use Rattle.turn_lock.proofs.Takings.{lent, kept_length}
use Rattle.turn_lock.proofs.turn.Turn.work.Goals as goal

pub call-answer-requires : goal.call-answer-requires
call-answer-requires g c = let h = c.requires.held in let same = lent _ h.0 c.slot_mut-value.result.now h.1.1 c.slot_mut-value.ensures.value in
    (subst (KeepsOn (g.V.Kept.fits _) g.V.Kept.history g.F.FnOnce c.args.job) same h.2).takes

pub overflow_sub-result : goal.overflow_sub-result
overflow_sub-result g c = let h = c.requires.held in let same = lent _ h.0 c.slot_mut-value.result.now h.1.1 c.slot_mut-value.ensures.value in
    let grown : length (g.V.Kept.history c.slot_mut-value.result.now) ≤ length (g.V.Kept.history c.call-answer.new.value) = kept_length _ _ _ c.args.job c.slot_mut-value.result.now c.call-answer.new.value c.call-answer.result (subst (KeepsOn _ _ _ c.args.job) same h.2) c.call-answer.ensures in
    omega (arith, c.length-before.ensures, c.length-after.ensures)

pub returns-clause-ran : goal.returns-clause-ran
returns-clause-ran g c = let h = c.requires.held in let value = c.slot_mut-value.result.now in let same = lent _ h.0 value h.1.1 c.slot_mut-value.ensures.value in
    let grown : length (g.V.Kept.history value) ≤ length (g.V.Kept.history c.call-answer.new.value) = kept_length _ _ _ c.args.job value c.call-answer.new.value c.call-answer.result (subst (KeepsOn _ _ _ c.args.job) same h.2) c.call-answer.ensures in
    let none-left : rest c.args.seat.now.me.1 ≡ [] = ap rest h.1.1 in (
      value,
      c.call-answer.new.value,
      h.1.1 ∙ ap (λ v. (0, v) ∷ []) same,
      ap (λ l. (c.args.seat.now.me.0, (0, c.call-answer.new.value) ∷ l)) none-left,
      record { ran = c.call-answer.ensures; count = omega (arith, c.length-before.ensures, c.length-after.ensures); counted = omega (arith, c.length-after.ensures, c.length-after.type_inv) },
    )
