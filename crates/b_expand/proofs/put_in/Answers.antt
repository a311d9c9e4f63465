use Rattle.std.proofs.Common.{sym, ◌∙◌}
use Rattle.b_expand.proofs.Indexing.{definitions_known}
use Rattle.b_expand.proofs.Settling.{settled_same}
use Rattle.b_expand.proofs.put_in.Goals as goal

-- a formula in which nothing is expanded becomes itself
pub returns-then-is_settled : goal.returns-then-is_settled
returns-then-is_settled c =
    settled_same c.args.table.now.defs.now c.args.table.now.index.now.definitions (definitions_known c.args.table.now.defs.now c.args.table.now.index.now c.requires) c.args.formula
    (sym c.is_settled.ensures ∙ c.if-is_settled.true)
