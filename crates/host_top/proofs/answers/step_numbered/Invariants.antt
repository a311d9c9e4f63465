use Rattle.std.proofs.Common.{◌≡◌, drop}
use Rattle.std.specs.Prelude.{slice_get}
use Rattle.std.specs.List.{flat_map}
use Rattle.animator.specs.Replies.{step_of}
use Rattle.host_top.proofs.answers.step_numbered.Given as goal

-- the step stands in what is left
abbrev pub invariant-loop-list : goal.invariant-loop-list
invariant-loop-list l = slice_get (flat_map (λ list. list.steps) (drop l.list-index l.lists)) l.left ≡ step_of l.lists l.k
