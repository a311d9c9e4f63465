use Rattle.std.proofs.Common.{◌≡◌, drop}
use Rattle.host_top.specs.Reading.{number_from}
use Rattle.host_top.proofs.words.read_number.Given as goal

-- the rest of the digits gives the number of all
abbrev pub invariant-loop-b : goal.invariant-loop-b
invariant-loop-b l = number_from l.most l.high (drop l.b-index l.digits) ≡ number_from l.most 0 l.digits
