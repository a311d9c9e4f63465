use Rattle.std.proofs.Common.{◌≡◌, ◌+◌, ◌++◌, drop}
use Rattle.session_words.specs.Replies.{step_lines}
use Rattle.session_text.specs.Writing.{its_number}
use Rattle.session_text.proofs.replies.add_trace_steps.Given as goal

-- the lines that are left stand behind those that are written
abbrev pub invariant-loop-step : goal.invariant-loop-step
invariant-loop-step l = record {
  text : l.out ++ step_lines l.face its_number l.k (drop l.step-index l.steps) ≡ l.fn.out ++ step_lines l.face its_number 1 l.steps;
  counted : l.k ≡ 1 + l.step-index;
}
