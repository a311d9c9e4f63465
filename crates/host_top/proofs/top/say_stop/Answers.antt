use Rattle.std.proofs.Common.{rules, ◌++◌}
use Rattle.std.specs.Prelude.{codes}
use Rattle.host_top.proofs.Giving.{says}
use Rattle.host_top.proofs.top.say_stop.Goals as goal

pub returns-in-NoMachine : goal.returns-in-NoMachine
returns-in-NoMachine g c =
    rw (c.in-NoMachine.is, ← c.as_bytes.ensures.value) (says (g.K.Sink.held c.args.out.now) (g.K.Sink.held c.say.new.out) _ _ (codes "document " ++ c.as_bytes.result.now ++ codes "\n") c.say.result c.say.ensures.given c.say.ensures.front c.say.ensures.cause)

pub returns-in-TooLong : goal.returns-in-TooLong
returns-in-TooLong g c =
    rw (c.in-TooLong.is, ← c.as_bytes-in-TooLong.ensures.value) (says (g.K.Sink.held c.args.out.now) (g.K.Sink.held c.say-in-TooLong.new.out) _ _ (codes "limit " ++ c.as_bytes-in-TooLong.result.now ++ codes "\n") c.say-in-TooLong.result c.say-in-TooLong.ensures.given c.say-in-TooLong.ensures.front c.say-in-TooLong.ensures.cause)

pub returns-in-Refused : goal.returns-in-Refused
returns-in-Refused g c =
    rw c.in-Refused.is (says (g.K.Sink.held c.args.out.now) (g.K.Sink.held c.give_all.new.sink) _ _ (codes "refused P0 machine:0\n") c.give_all.result c.give_all.ensures.given c.give_all.ensures.front c.give_all.ensures.cause)

pub returns-in-NoSession : goal.returns-in-NoSession
returns-in-NoSession g c =
    rw (c.in-NoSession.is, ← c.as_bytes-in-NoSession.ensures.value) (says (g.K.Sink.held c.args.out.now) (g.K.Sink.held c.say-in-NoSession.new.out) _ _ (codes "document " ++ c.as_bytes-in-NoSession.result.now ++ codes "\n") c.say-in-NoSession.result c.say-in-NoSession.ensures.given c.say-in-NoSession.ensures.front c.say-in-NoSession.ensures.cause)

pub returns-in-Memory : goal.returns-in-Memory
returns-in-Memory g c =
    rw c.in-Memory.is (says (g.K.Sink.held c.args.out.now) (g.K.Sink.held c.give_all-in-Memory.new.sink) _ _ (codes "memory\n") c.give_all-in-Memory.result c.give_all-in-Memory.ensures.given c.give_all-in-Memory.ensures.front c.give_all-in-Memory.ensures.cause)
