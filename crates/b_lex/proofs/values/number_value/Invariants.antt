use Rattle.std.proofs.Common.{◌≡◌, drop}
use Rattle.b_lex.specs.Bytes.{decimal_from, decimal}
use Rattle.b_lex.proofs.values.number_value.Given as goal

-- the rest of the digits gives the number of all
abbrev pub invariant-loop-b : goal.invariant-loop-b
invariant-loop-b l = decimal_from l.value (drop l.b-index l.digits) ≡ decimal l.digits
