use Rattle.std.proofs.Common.{◌≡◌, ◌+◌, drop}
use Rattle.b_sequences.proofs.Numbered.{count_up}
use Rattle.b_sequences.proofs.numbering.are_numbered.Given as goal

abbrev pub invariant-loop-i : goal.invariant-loop-i
invariant-loop-i l = count_up 1 l.couples ≡ count_up (l.i + 1) (drop l.i l.couples)
