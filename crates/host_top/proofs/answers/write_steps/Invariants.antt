use Rattle.std.proofs.Common.{◌≡◌, ◌+◌, drop}
use Rattle.animator.specs.Names.{Extends}
use Rattle.animator.specs.Replies.{numbered}
use Rattle.host_top.proofs.Writing.{WritesFront}
use Rattle.host_top.proofs.answers.write_steps.Given as goal

-- the lines of the steps so far are written
abbrev pub invariant-loop-step : goal.invariant-loop-step
invariant-loop-step l = record {
  extends : Extends l.fn.names l.names;
  written : WritesFront l.fn.names l.names l.fn.out l.out (numbered l.first l.steps) (numbered l.k (drop l.step-index l.steps));
  next : l.k ≡ l.first + l.step-index;
}
