use Rattle.std.proofs.Common.{List, [], ◌∷◌, map, Ok, Err, subst}
use Rattle.b_values.specs.declared.values.Value.{Value}
use Rattle.b_relations.specs.Joining.{Adds, made}
use Rattle.b_relations.specs.Relations.{couples_in}
use Rattle.b_relations.proofs.Gathers.{adds_stop, map_by_members}
use Rattle.b_relations.proofs.JoinLaws.{adds_end}
use Rattle.b_relations.proofs.joining.add_group.Goals as goal

pub returns-in-Err : goal.returns-in-Err
returns-in-Err c = subst (λ (l : List Value). Adds c.args.gathering.now l (Err c.in-Err.fault) c.loop-m.gathering) (map_by_members (made c.args.how (c.args.a.now, c.args.b.now)) c.args.group.now)
    (adds_stop (λ (m : Value). map (made c.args.how (c.args.a.now, c.args.b.now)) (couples_in (m ∷ []))) c.args.group.now c.loop-m.m-index c.m-item.result c.args.gathering.now c.loop-m.gathering c.loop-m.gathering c.in-Err.fault c.loop-m-test.true c.m-item.is c.loop-m.invariant c.in-Err.ensures)

pub returns : goal.returns
returns c = subst (λ (l : List Value). Adds c.args.gathering.now l (Ok tt) c.loop-m.gathering) (map_by_members (made c.args.how (c.args.a.now, c.args.b.now)) c.args.group.now)
    (adds_end (λ (m : Value). map (made c.args.how (c.args.a.now, c.args.b.now)) (couples_in (m ∷ []))) c.args.group.now c.loop-m.m-index c.args.gathering.now c.loop-m.gathering c.loop-m-test.false c.loop-m.invariant)
