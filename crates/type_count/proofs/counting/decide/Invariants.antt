use Rattle.type_count.specs.Counted.{IsCounted}
use Rattle.type_count.proofs.counting.decide.Given as goal

abbrev pub invariant-loop-i : goal.invariant-loop-i
invariant-loop-i l = IsCounted l.fn.limit l.fn.parts l.fn.rows l.i l.many
