use Rattle.std.proofs.Common.{[], map}
use Rattle.std.specs.List.{flat_map}
use Rattle.b_values.specs.declared.values.Value.{Value}
use Rattle.b_relations.specs.Joining.{projection}
use Rattle.b_relations.proofs.Gathers.{adds_stop, answers_gathered, fault_gathered, answer_of_fault}
use Rattle.b_relations.proofs.JoinLaws.{adds_end}
use Rattle.b_relations.proofs.joining.project.Goals as goal

pub returns-in-Err : goal.returns-in-Err
returns-in-Err c = answer_of_fault (flat_map (λ (x : Value). map (projection c.args.side x) c.args.t.now) c.args.s.now) c.in-Err.fault (fault_gathered (flat_map (λ (x : Value). map (projection c.args.side x) c.args.t.now) c.args.s.now) c.loop-x.gathering c.in-Err.fault
    (adds_stop (λ (x : Value). map (projection c.args.side x) c.args.t.now) c.args.s.now c.loop-x.x-index c.x-item.result [] c.loop-x.gathering c.loop-x.gathering c.in-Err.fault c.loop-x-test.true c.x-item.is c.loop-x.invariant c.in-Err.ensures))

pub returns : goal.returns
returns c = answers_gathered (flat_map (λ (x : Value). map (projection c.args.side x) c.args.t.now) c.args.s.now) c.loop-x.gathering c.finish.result
    (adds_end (λ (x : Value). map (projection c.args.side x) c.args.t.now) c.args.s.now c.loop-x.x-index [] c.loop-x.gathering c.loop-x-test.false c.loop-x.invariant)
    c.finish.ensures
