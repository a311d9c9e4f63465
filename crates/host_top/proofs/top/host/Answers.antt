use Rattle.std.proofs.Common.{rules, ap}
use Rattle.std.specs.Prelude.{codes}
use Rattle.host_top.specs.Runs.{ends_of}
use Rattle.host_top.proofs.Giving.{says}
use Rattle.host_top.proofs.Stopping.{memory_run, for_some}
use Rattle.host_top.proofs.top.host.Goals as goal

pub returns-in-Err-Usage-clause-says_usage : goal.returns-in-Err-Usage-clause-says_usage
returns-in-Err-Usage-clause-says_usage g c is =
    says (g.K.Sink.held c.args.out.now) (g.K.Sink.held c.give_all.new.sink) _ _ (codes "usage\n") c.give_all.result c.give_all.ensures.given c.give_all.ensures.front c.give_all.ensures.cause

pub returns-in-Err-Memory-clause-run : goal.returns-in-Err-Memory-clause-run
returns-in-Err-Memory-clause-run g c =
    for_some _ _ (λ asked. memory_run asked _ _ _ c.without_session-in-Err-Memory.ensures.names
    (ap (ends_of g.O.Source.Source.faults g.O.Sink.Sink.held g.O.Sink.Sink.faults) c.without_session-in-Err-Memory.ensures.sessions) c.without_session-in-Err-Memory.ensures.status
    (says (g.K.Sink.held c.args.out.now) (g.K.Sink.held c.give_all-in-Err-Memory.new.sink) _ _ (codes "memory\n") c.give_all-in-Err-Memory.result c.give_all-in-Err-Memory.ensures.given c.give_all-in-Err-Memory.ensures.front c.give_all-in-Err-Memory.ensures.cause))
