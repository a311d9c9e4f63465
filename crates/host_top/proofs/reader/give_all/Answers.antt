use Rattle.std.proofs.Common.{rules, ◌≡◌, ◌∙◌, sym, ap, List, ℕ, length, take, subst, refl, arith, drop, Option}
use Rattle.std.specs.Prelude.{OnErr, Result, Ok, Err, IsErrAnd}
use Rattle.host_io.specs.Outside.{behind_told, Gives}
use Rattle.host_top.proofs.Giving.{GivenSoFar, given_more, given_front, on_err}
use Rattle.host_top.proofs.reader.give_all.Goals as goal

pub returns-in_err-count-clause-front : goal.returns-in_err-count-clause-front
returns-in_err-count-clause-front g c =
    let front = given_front (g.K.Sink.held c.args.sink.now) c.args.bytes.now (g.K.Sink.held c.loop-rest.sink) c.loop-rest.rest.now c.loop-rest.invariant.given in
    let same : g.K.Sink.held c.give.new.self ≡ g.K.Sink.held c.loop-rest.sink = search rules in
    on_err c.from_residual.result _ (front.0, same ∙ front.1)

pub loop-rest-preserved : goal.loop-rest-preserved
loop-rest-preserved g c = record {
  given = rw c.split_at.ensures.back
      (given_more (g.K.Sink.held c.args.sink.now) c.args.bytes.now (g.K.Sink.held c.loop-rest.sink) c.loop-rest.rest.now c.in_ok-count.count (g.K.Sink.held c.give.new.self)
      c.loop-rest.invariant.given c.in_ok-count.ensures.given);
  later = omega arith;
}
