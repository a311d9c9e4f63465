use Rattle.std.proofs.Common.{false, true, sym, ◌∙◌}
use Rattle.b_sequences.proofs.Numbered.{count_up_tells, count_up_stops, count_up_ends}
use Rattle.b_sequences.proofs.numbering.are_numbered.Goals as goal

pub returns-then-not-stands_at : goal.returns-then-not-stands_at
returns-then-not-stands_at c =
    let cs = c.args.couples.now in
    count_up_tells cs false (count_up_stops cs c.loop-i.i c.index-couples-i.result c.loop-i-test.true c.index-couples-i.is (sym c.stands_at.ensures ∙ c.if-not-stands_at.true) c.loop-i.invariant)

pub returns : goal.returns
returns c = let cs = c.args.couples.now in count_up_tells cs true (count_up_ends cs c.loop-i.i c.loop-i-test.false c.loop-i.invariant)
