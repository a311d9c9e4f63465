use Rattle.std.proofs.Common.{◌≡◌, take}
use Rattle.operator_rows.proofs.making.grown.Given as goal

abbrev pub invariant-loop-member : goal.invariant-loop-member
invariant-loop-member l = l.found ≡ take l.member-index l.members
