use Rattle.std.proofs.Common.{◌≡◌, max, drop}
use Rattle.number_marks.specs.Marking.{past_all}
use Rattle.number_marks.proofs.marks.past.Given as goal

abbrev pub invariant-loop-number : goal.invariant-loop-number
invariant-loop-number l = max l.past (past_all (drop l.number-index l.numbers)) ≡ past_all l.numbers
