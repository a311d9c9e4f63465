use Rattle.std.proofs.Common.{◌∙◌, sym, ap}
use Rattle.std.specs.List.{list_any}
use Rattle.b_read_expr.specs.Grouping.{is_at}
use Rattle.b_read_expr.proofs.Passes.{stays}
use Rattle.b_read_expr.proofs.grouping.level_merged.Goals as goal

pub returns-else-has_level : goal.returns-else-has_level
returns-else-has_level c = stays c.args.level c.args.row.first c.args.row.parts (sym (c.if-has_level.ensures ∙ ap (list_any (is_at c.args.level)) c.as_slice.ensures))
