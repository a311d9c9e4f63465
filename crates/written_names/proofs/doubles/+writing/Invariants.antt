use Rattle.std.proofs.Common.{◌≡◌, map, drop}
use Rattle.written_names.specs.Names.{among, has}
use Rattle.written_names.specs.Doubles as spec
use Rattle.written_names.specs.Doubles.{all_beside, row, joined_of, writing_of, writing_of_branch, writing_of_case}
use Rattle.written_names.proofs.doubles.+writing.Given as goal

-- what is done, and then the rest
abbrev pub invariant-writing_in_each-loop-body : goal.invariant-writing_in_each-loop-body
invariant-writing_in_each-loop-body l = all_beside l.done (map writing_of (drop l.body-index l.bodies)) ≡ all_beside spec.nothing (map writing_of l.bodies)

abbrev pub invariant-writing_in_branches-loop-branch : goal.invariant-writing_in_branches-loop-branch
invariant-writing_in_branches-loop-branch l = all_beside l.done (map writing_of_branch (drop l.branch-index l.branches)) ≡ all_beside spec.nothing (map writing_of_branch l.branches)

abbrev pub invariant-writing_in_cases-loop-branch : goal.invariant-writing_in_cases-loop-branch
invariant-writing_in_cases-loop-branch l = all_beside l.done (map writing_of_case (drop l.branch-index l.branches)) ≡ all_beside spec.nothing (map writing_of_case l.branches)

abbrev pub invariant-writing_in_row-loop-step : goal.invariant-writing_in_row-loop-step
invariant-writing_in_row-loop-step l = record {
  rest : row l.done (map joined_of (drop l.step-index l.steps)) ≡ row l.fn.begun (map joined_of l.steps);
  names : has l.before ≡ among l.done.targets;
}
