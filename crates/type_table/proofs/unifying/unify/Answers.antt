use Rattle.std.proofs.Common.{rules, ◌≡◌, subst, []}
use Rattle.std.specs.Prelude.{Ok, true}
use Rattle.type_table.specs.Unifying.{Defers}
use Rattle.type_table.proofs.Settling.{unify_inside}
use Rattle.type_table.proofs.unifying.unify.Goals as goal

pub settle-requires-clause-inside : goal.settle-requires-clause-inside
settle-requires-clause-inside c =
    let empty : c.new-equations.result.items ≡ [] = search rules in
    let all = subst (λ b. Defers c.new-equations.result.items c.defer.new.equations.items c.merge-left.result (Ok b)) c.if-not-branch.false c.in_ok-defer.ensures in
    let more = subst (λ l. Defers l c.defer.new.equations.items c.merge-left.result (Ok true)) empty all in
    unify_inside c.args.rows.now c.merge-left.new.rows c.args.a c.args.b c.merge-left.result c.merge-left.ensures c.defer.new.equations.items more.0
