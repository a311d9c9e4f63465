use Rattle.std.proofs.Common.{◌≡◌, drop}
use Rattle.std.specs.List.{list_any}
use Rattle.b_read_expr.specs.Grouping.{is_at}
use Rattle.b_read_expr.proofs.grouping.has_level.Given as goal

-- the parts behind this place decide
abbrev pub invariant-loop-part : goal.invariant-loop-part
invariant-loop-part l = list_any (is_at l.level) (drop l.part-index l.parts) ≡ list_any (is_at l.level) l.parts
