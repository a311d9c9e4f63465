use Rattle.std.proofs.Common.{sym}
use Rattle.std.proofs.lemmas.Result.{err_from_is_err_and}
use Rattle.b_read_expr.proofs.Whole.{tree_stops, tree_whole, tree_left}
use Rattle.b_read_expr.proofs.trees.tree_of.Goals as goal

pub returns-in_err-tree : goal.returns-in_err-tree
returns-in_err-tree c =
    let p = err_from_is_err_and c.from_residual.result c.from_residual.ensures.1 in
    rw (p.1, p.2) (tree_stops c.args.lexemes.now c.in_err-tree.field-0.0 c.in_err-tree.ensures)

pub returns-then-is_empty : goal.returns-then-is_empty
returns-then-is_empty c = rw c.into_inner.ensures (tree_whole c.args.lexemes.now c.in_ok-tree.tree c.in_ok-tree.rest.now (sym c.if-is_empty.ensures) c.in_ok-tree.ensures.0)

pub returns-else-is_empty : goal.returns-else-is_empty
returns-else-is_empty c = tree_left c.args.lexemes.now c.in_ok-tree.tree c.in_ok-tree.rest.now c.no_tree.result (sym c.if-is_empty.ensures) c.in_ok-tree.ensures.0
