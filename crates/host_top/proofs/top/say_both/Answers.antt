use Rattle.std.proofs.Common.{rules, ◌≡◌, ◌++◌}
use Rattle.std.specs.Prelude.{OnErr}
use Rattle.host_io.specs.Outside.{behind_told}
use Rattle.host_top.specs.Runs.{SaysFront}
use Rattle.host_top.proofs.Giving.{front_first, front_second, on_err, then_err}
use Rattle.host_top.proofs.top.say_both.Goals as goal

pub returns-in_err-give_all-clause-front : goal.returns-in_err-give_all-clause-front
returns-in_err-give_all-clause-front g c =
    let front : SaysFront (g.K.Sink.held c.args.out.now) (g.K.Sink.held c.give_all.new.sink) c.args.text.now = c.in_err-give_all.ensures.front in
    on_err c.from_residual.result _ (front_first (g.K.Sink.held c.args.out.now) (g.K.Sink.held c.give_all.new.sink) c.args.text.now c.args.more.now front)

pub returns-clause-front : goal.returns-clause-front
returns-clause-front g c =
    let given : g.K.Sink.held c.give_all.new.sink ≡ behind_told (g.K.Sink.held c.args.out.now) c.args.text.now = search rules in
    then_err c.give_all-2.result _ _
    (front_second (g.K.Sink.held c.args.out.now) (g.K.Sink.held c.give_all.new.sink) (g.K.Sink.held c.give_all-2.new.sink) c.args.text.now c.args.more.now given) c.give_all-2.ensures.front
