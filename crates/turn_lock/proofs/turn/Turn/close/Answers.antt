use Rattle.std.proofs.Common.{arith, ◌≡◌, ◌≢◌, ◌-◌, ◌≤◌, subst, sym, ◌∙◌, Option, length}
use Rattle.std.specs.Option.{MatchOption, IsSomeAnd}
use Rattle.turn_lock.specs.Histories.{Begins}
use Rattle.turn_lock.specs.Passes.{all_shares}
use Rattle.turn_lock.specs.Turns.{known}
use Rattle.turn_lock.proofs.Ends.{ended_shares, ended_free, ended_value}
use Rattle.turn_lock.proofs.turn.Turn.close.Goals as goal
use Rattle.turn_lock.proofs.turn.Turn.close.Goals.{then-is_free, else-is_free}

pub overflow_sub-result : goal.overflow_sub-result
overflow_sub-result g c = omega (arith, c.args.pass.counts.1, ended_shares g.V.Kept.fits g.V.Kept.history _ _ _ _ _ c.close_with-closed.ensures.values.2)

pub returns-clause-counts : goal.returns-clause-counts
returns-clause-counts g c = let few = ended_shares g.V.Kept.fits g.V.Kept.history _ _ _ _ _ c.close_with-closed.ensures.values.2 in (omega (arith, c.args.pass.counts.0), omega (arith, c.args.pass.counts.1))

pub returns-clause-value : goal.returns-clause-value
returns-clause-value g c =
    let tag = g.V.Kept.tag c.args.self.table.shared.key.value in
    let few : c.args.pass.seat.me.0.shares ≤ all_shares = ended_shares g.V.Kept.fits g.V.Kept.history _ _ _ _ _ c.close_with-closed.ensures.values.2 in
    let whole : 4294967296 - c.args.pass.shares ≡ 0 → all_shares ≤ c.args.pass.seat.me.0.shares = λ e. omega (arith, c.args.pass.counts.1) in
    let Says : Option g.row.V.Denot → Type 0 = λ o. MatchOption o (4294967296 - c.args.pass.shares ≢ 0)
    (λ v. g.V.Kept.fits tag v × Begins (known c.args.pass).seen (g.V.Kept.history v) × (c.args.pass.own ≤ length (g.V.Kept.history v))) in
    elim c.if-is_free.branch [
      | then-is_free w ↦
          let t = ended_value g.V.Kept.fits g.V.Kept.history tag _ _ _ _ _ _ _ c.close_with-closed.ensures.values.2 c.word.ensures c.word-2.ensures w.if-is_free.true c.take-last.ensures.value in
          subst Says (sym w.value-is) (t.0, t.1, omega (arith, t.2, c.args.pass.counts.0))
      | else-is_free w ↦
          subst Says (sym w.value-is) (λ e. w.if-is_free.false (ended_free g.V.Kept.fits g.V.Kept.history tag _ _ _ _ _ _ c.close_with-closed.ensures.values.2 c.word.ensures c.word-2.ensures c.args.pass.rests.0 (whole e)))
    ]

pub returns-clause-whole : goal.returns-clause-whole
returns-clause-whole g c none_missing =
    let tag = g.V.Kept.tag c.args.self.table.shared.key.value in
    let few : c.args.pass.seat.me.0.shares ≤ all_shares = ended_shares g.V.Kept.fits g.V.Kept.history _ _ _ _ _ c.close_with-closed.ensures.values.2 in
    let whole : all_shares ≤ c.args.pass.seat.me.0.shares = omega (arith, c.args.pass.counts.1, none_missing) in
    let Says : Option g.row.V.Denot → Type 0 = λ o. IsSomeAnd o (λ v. c.args.pass.own ≡ length (g.V.Kept.history v)) in
    elim c.if-is_free.branch [
      | then-is_free w ↦
          let t = ended_value g.V.Kept.fits g.V.Kept.history tag _ _ _ _ _ _ _ c.close_with-closed.ensures.values.2 c.word.ensures c.word-2.ensures w.if-is_free.true c.take-last.ensures.value in
          subst Says (sym w.value-is) (sym c.args.pass.counts.0 ∙ t.3 whole)
      | else-is_free w ↦
          absurd (w.if-is_free.false (ended_free g.V.Kept.fits g.V.Kept.history tag _ _ _ _ _ _ c.close_with-closed.ensures.values.2 c.word.ensures c.word-2.ensures c.args.pass.rests.0 whole))
    ]
