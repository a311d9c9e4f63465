use Rattle.std.proofs.Common.{◌≡◌, ◌++◌, drop, flat_map}
use Rattle.session_words.specs.Replies.{step_line}
use Rattle.session_text.specs.Writing.{its_number}
use Rattle.session_text.proofs.replies.add_walk.Given as goal

abbrev pub invariant-loop-step : goal.invariant-loop-step
invariant-loop-step l = l.out ++ flat_map (step_line l.face its_number) (drop l.step-index l.steps) ≡ l.fn.out ++ flat_map (step_line l.face its_number) l.steps
