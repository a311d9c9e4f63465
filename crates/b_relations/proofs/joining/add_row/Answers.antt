use Rattle.std.proofs.Common.{List, [], ◌∷◌, Ok, Err, sym, subst}
use Rattle.b_values.specs.declared.values.Value.{Value}
use Rattle.b_relations.specs.Joining.{Adds, projection}
use Rattle.b_relations.proofs.Gathers.{adds_stop, map_is_flat}
use Rattle.b_relations.proofs.JoinLaws.{adds_end}
use Rattle.b_relations.proofs.joining.add_row.Goals as goal

pub returns-in-Err : goal.returns-in-Err
returns-in-Err c = subst (λ (l : List Value). Adds c.args.gathering.now l (Err c.in-Err.fault) c.loop-y.gathering) (sym (map_is_flat (projection c.args.side c.args.x.now) c.args.t.now))
    (adds_stop (λ (y : Value). projection c.args.side c.args.x.now y ∷ []) c.args.t.now c.loop-y.y-index c.y-item.result c.args.gathering.now c.loop-y.gathering c.loop-y.gathering c.in-Err.fault c.loop-y-test.true c.y-item.is c.loop-y.invariant c.in-Err.ensures)

pub returns : goal.returns
returns c = subst (λ (l : List Value). Adds c.args.gathering.now l (Ok tt) c.loop-y.gathering) (sym (map_is_flat (projection c.args.side c.args.x.now) c.args.t.now))
    (adds_end (λ (y : Value). projection c.args.side c.args.x.now y ∷ []) c.args.t.now c.loop-y.y-index c.args.gathering.now c.loop-y.gathering c.loop-y-test.false c.loop-y.invariant)
