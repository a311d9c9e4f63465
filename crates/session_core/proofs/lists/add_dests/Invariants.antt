use Rattle.std.proofs.Common.{◌≡◌, ◌++◌, drop}
use Rattle.session_words.specs.Replies.{dests}
use Rattle.session_core.proofs.lists.add_dests.Given as goal

abbrev pub invariant-loop-step : goal.invariant-loop-step
invariant-loop-step l = l.all ++ dests (drop l.step-index l.steps) ≡ l.fn.all ++ dests l.steps
