use Rattle.std.proofs.Common.{◌≡◌, ◌++◌, length, map, take}
use Rattle.type_schemes.specs.Schemes.{shift_row}
use Rattle.type_schemes.proofs.demanding.put_behind.Given as goal

abbrev pub invariant-loop-row : goal.invariant-loop-row
invariant-loop-row l = l.rows.items ≡ l.fn.rows.items ++ map (shift_row (length l.fn.rows.items)) (take l.row-index l.scheme)
