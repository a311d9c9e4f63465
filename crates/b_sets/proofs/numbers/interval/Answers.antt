use Rattle.b_sets.proofs.IntervalLaws.{interval_answers, interval_law, interval_kept}
use Rattle.b_sets.proofs.numbers.interval.Goals as goal

pub returns-in-Int-Int-clause-kept : goal.returns-in-Int-Int-clause-kept
returns-in-Int-Int-clause-kept c = interval_kept c.args.a.now c.args.b.now _ (interval_answers _ _ _ _ _ c.in-Int-Int.is-0 c.in-Int-Int.is-1 c.set_of_integers.ensures)

pub returns-in-Int-Int-clause-members : goal.returns-in-Int-Int-clause-members
returns-in-Int-Int-clause-members c = interval_law c.args.a.now c.args.b.now _ (interval_answers _ _ _ _ _ c.in-Int-Int.is-0 c.in-Int-Int.is-1 c.set_of_integers.ensures)
