use Rattle.std.proofs.Common.{rules, arith, ◌≡◌}
use Rattle.std.proofs.lemmas.Grind.{common_steps}
use Rattle.turn_lock.specs.Turns.{tag_of}
use Rattle.turn_rows.specs.declared.judged.Judged.{Judged}
use Rattle.turn_rows.proofs.Rows.{mapped_all}
use Rattle.turn_rows.proofs.spaces.put_at.Goals as goal

pub hold_at-requires-clause-job : goal.hold_at-requires-clause-job
hold_at-requires-clause-job g c = λ turn knew at knew_at.
    let same : tag_of (λ (judged : Judged g.row.J.Denot). judged.by.value) turn ≡ c.args.judge.now =
    mapped_all (λ (tag : g.row.J.Denot). tag ≡ c.args.judge.now) (tag_of (λ (judged : Judged g.row.J.Denot). judged.by.value)) c.args.turns.now c.args.place turn at c.requires.judge in
    rw same (search (rules, common_steps))
