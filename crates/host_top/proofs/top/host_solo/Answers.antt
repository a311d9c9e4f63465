use Rattle.std.proofs.Common.{rules, ◌≡◌, ◌∙◌, ap, string_bytes}
use Rattle.host_top.specs.Asking.{asked_by}
use Rattle.host_top.specs.Runs.{ends_of}
use Rattle.host_top.proofs.Stopping.{stopped_run, ran_run}
use Rattle.host_top.proofs.top.host_solo.Goals as goal

pub returns-in-Ok : goal.returns-in-Ok
returns-in-Ok g c =
    let opened = c.in-Ok.opened in
    ran_run (asked_by c.args.words.now) c.session_name-session.result.now _ _ _ opened.machine (g.O.Source.Source.left opened.desk.source) (g.O.Sink.Sink.held opened.desk.sink) (g.O.Cabinet.Cabinet.told opened.desk.cabinet)
    c.session_name-session.ensures (rw c.as_str-machine.ensures.value at c.in-Ok.ensures.loaded) c.in-Ok.ensures.desk c.run_desk.ensures

pub returns-in-Err : goal.returns-in-Err
returns-in-Err g c =
    stopped_run (asked_by c.args.words.now) c.session_name-session.result.now _ _ _ c.session_name-session.ensures c.without_session.ensures.names
    (ap (ends_of g.O.Source.Source.faults g.O.Sink.Sink.held g.O.Sink.Sink.faults) c.without_session.ensures.sessions) c.in-Err.stop (c.without_session.ensures.status ∙ c.stop_code.ensures)
    (rw c.as_str-machine.ensures.value at c.in-Err.ensures.stopped) (rw c.as_str-machine.ensures.value at c.say_stop.ensures)
