use Rattle.std.proofs.Common.{◌≡◌, map, drop}
use Rattle.written_names.specs.Names.{among, has, is_among}
use Rattle.written_names.specs.Times.{all_surely, first_early, one_of, row_surely, row_early, joined_of, timing_of, timing_of_branch, timing_of_case}
use Rattle.written_names.proofs.times.+timing.Given as goal

-- what is done, and then the rest
abbrev pub invariant-timed_each-loop-body : goal.invariant-timed_each-loop-body
invariant-timed_each-loop-body l = record {
  surely : all_surely (among l.done.surely) (map timing_of (drop l.body-index l.others)) ≡ (one_of (map timing_of l.bodies)).surely;
  early : first_early l.done.early (map timing_of (drop l.body-index l.others)) (is_among l.unset) ≡ (one_of (map timing_of l.bodies)).early (is_among l.unset);
}

abbrev pub invariant-timed_branches-loop-branch : goal.invariant-timed_branches-loop-branch
invariant-timed_branches-loop-branch l = record {
  surely : all_surely (among l.done.surely) (map timing_of_branch (drop l.branch-index l.others)) ≡ (one_of (map timing_of_branch l.branches)).surely;
  early : first_early l.done.early (map timing_of_branch (drop l.branch-index l.others)) (is_among l.unset) ≡ (one_of (map timing_of_branch l.branches)).early (is_among l.unset);
}

abbrev pub invariant-timed_cases-loop-branch : goal.invariant-timed_cases-loop-branch
invariant-timed_cases-loop-branch l = record {
  surely : all_surely (among l.done.surely) (map timing_of_case (drop l.branch-index l.others)) ≡ (one_of (map timing_of_case l.branches)).surely;
  early : first_early l.done.early (map timing_of_case (drop l.branch-index l.others)) (is_among l.unset) ≡ (one_of (map timing_of_case l.branches)).early (is_among l.unset);
}

abbrev pub invariant-timed_row-loop-step : goal.invariant-timed_row-loop-step
invariant-timed_row-loop-step l = record {
  surely : row_surely (among l.done.surely) (map joined_of (drop l.step-index l.steps)) ≡ row_surely (among l.fn.begun.surely) (map joined_of l.steps);
  early : row_early l.done.early (among l.done.surely) (map joined_of (drop l.step-index l.steps)) (is_among l.unset) ≡ row_early l.fn.begun.early (among l.fn.begun.surely) (map joined_of l.steps) (is_among l.unset);
  before : has l.before ≡ among l.done.surely;
}
