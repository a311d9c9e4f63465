use Rattle.std.proofs.Common.{List, [], ◌∷◌, Ok, Err, subst}
use Rattle.b_values.specs.declared.values.Value.{Value}
use Rattle.b_relations.specs.Joining.{Adds, joined, joined_to}
use Rattle.b_relations.specs.Relations.{couples_in}
use Rattle.b_relations.proofs.Gathers.{adds_stop, by_members, answers_gathered, fault_gathered, answer_of_fault}
use Rattle.b_relations.proofs.JoinLaws.{adds_end}
use Rattle.b_relations.proofs.joining.join_all.Goals as goal

pub returns-in-Err : goal.returns-in-Err
returns-in-Err c = answer_of_fault (joined c.args.how (couples_in c.args.r.now) (couples_in c.args.s.now)) c.in-Err.fault (fault_gathered (joined c.args.how (couples_in c.args.r.now) (couples_in c.args.s.now)) c.loop-m.gathering c.in-Err.fault
    (subst (λ (l : List Value). Adds [] l (Err c.in-Err.fault) c.loop-m.gathering) (by_members (joined_to c.args.how (couples_in c.args.s.now)) c.args.r.now)
    (adds_stop (λ (m : Value). joined c.args.how (couples_in (m ∷ [])) (couples_in c.args.s.now)) c.args.r.now c.loop-m.m-index c.m-item.result [] c.loop-m.gathering c.loop-m.gathering c.in-Err.fault c.loop-m-test.true c.m-item.is c.loop-m.invariant c.in-Err.ensures)))

pub returns : goal.returns
returns c = answers_gathered (joined c.args.how (couples_in c.args.r.now) (couples_in c.args.s.now)) c.loop-m.gathering c.finish.result
    (subst (λ (l : List Value). Adds [] l (Ok tt) c.loop-m.gathering) (by_members (joined_to c.args.how (couples_in c.args.s.now)) c.args.r.now)
    (adds_end (λ (m : Value). joined c.args.how (couples_in (m ∷ [])) (couples_in c.args.s.now)) c.args.r.now c.loop-m.m-index [] c.loop-m.gathering c.loop-m-test.false c.loop-m.invariant))
    c.finish.ensures
