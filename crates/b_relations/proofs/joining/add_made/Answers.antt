use Rattle.b_relations.proofs.JoinLaws.{made_adds}
use Rattle.b_relations.proofs.joining.add_made.Goals as goal

pub returns-in-Ok : goal.returns-in-Ok
returns-in-Ok c = made_adds c.args.how (c.args.a.now, c.args.b.now) c.args.m.now c.in-Pair.c c.in-Pair.d c.get.result.now c.get-in-Pair.result.now c.in-Ok.v c.args.gathering.now c.add.new.self c.add.result
    c.in-Pair.is c.get.ensures c.get-in-Pair.ensures c.in-Ok.ensures c.add.ensures.gathered c.add.ensures.fault
