use Rattle.std.proofs.Common.{rules, ◌≡◌, ◌++◌, ◌∷◌, []}
use Rattle.host_io.specs.Outside.{behind_told}
use Rattle.host_top.specs.Runs.{SaysFront}
use Rattle.host_top.proofs.Giving.{front_first, front_second, on_err, then_err}
use Rattle.host_top.proofs.top.say.Goals as goal

pub returns-in_err-say_both-clause-front : goal.returns-in_err-say_both-clause-front
returns-in_err-say_both-clause-front g c =
    let front : SaysFront (g.K.Sink.held c.args.out.now) (g.K.Sink.held c.say_both.new.out) (c.args.text.now ++ c.args.name.now) = c.in_err-say_both.ensures.front in
    on_err c.from_residual.result _ (front_first (g.K.Sink.held c.args.out.now) (g.K.Sink.held c.say_both.new.out) (c.args.text.now ++ c.args.name.now) (10 ∷ []) front)

pub returns-clause-front : goal.returns-clause-front
returns-clause-front g c =
    let given : g.K.Sink.held c.say_both.new.out ≡ behind_told (g.K.Sink.held c.args.out.now) (c.args.text.now ++ c.args.name.now) = search rules in
    then_err c.give_all.result _ _
    (front_second (g.K.Sink.held c.args.out.now) (g.K.Sink.held c.say_both.new.out) (g.K.Sink.held c.give_all.new.sink) (c.args.text.now ++ c.args.name.now) (10 ∷ []) given) c.give_all.ensures.front
