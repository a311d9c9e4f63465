use Rattle.std.proofs.Common.{◌≡◌, ◌++◌, drop}
use Rattle.session_core.specs.Moving.{numbered_steps}
use Rattle.session_core.proofs.lists.number_steps.Given as goal

abbrev pub invariant-loop-i : goal.invariant-loop-i
invariant-loop-i l = l.all ++ numbered_steps (drop l.i l.steps) (drop l.i l.numbers) ≡ numbered_steps l.steps l.numbers
