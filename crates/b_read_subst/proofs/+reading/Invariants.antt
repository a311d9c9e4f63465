use Rattle.std.proofs.Common.{◌+◌, ◌*◌}
use Rattle.b_machine_grammar.specs.declared.words.Word.TheVariants as word
use Rattle.b_machine_grammar.specs.declared.words.Separator.TheVariants as at
use Rattle.b_machine_grammar.specs.Cuts.{cut, cut_at}
use Rattle.b_machine_grammar.specs.Grammar.{IsBranch, IsCaseBranch, IsStep}
use Rattle.b_stretches.specs.Stretches.{pieces, next_of}
use Rattle.b_stretches.proofs.Reading.{IsPartlyRead, IsPartlyFollowed, left, left_behind}
use Rattle.b_read_subst.specs.Blocks.{inside}
use Rattle.b_read_subst.proofs.+reading.Given as goal

-- fewer brackets may open, or a smaller part is read
abbrev pub decreases-subst : goal.decreases-subst
decreases-subst l = 30 * l.depth + 20

abbrev pub decreases-steps : goal.decreases-steps
decreases-steps l = 30 * l.depth + 19

abbrev pub decreases-part : goal.decreases-part
decreases-part l = 30 * l.depth + 18

abbrev pub decreases-ended_block : goal.decreases-ended_block
decreases-ended_block l = 30 * l.depth + 17

abbrev pub decreases-block : goal.decreases-block
decreases-block l = 30 * l.depth + 16

abbrev pub decreases-case : goal.decreases-case
decreases-case l = 30 * l.depth + 15

abbrev pub decreases-any : goal.decreases-any
decreases-any l = 30 * l.depth + 15

abbrev pub decreases-fixing : goal.decreases-fixing
decreases-fixing l = 30 * l.depth + 15

abbrev pub decreases-alternatives : goal.decreases-alternatives
decreases-alternatives l = 30 * l.depth + 14

abbrev pub decreases-all_branches : goal.decreases-all_branches
decreases-all_branches l = 30 * l.depth + 14

abbrev pub decreases-all_case_branches : goal.decreases-all_case_branches
decreases-all_case_branches l = 30 * l.depth + 13

abbrev pub decreases-branches : goal.decreases-branches
decreases-branches l = 30 * l.depth + 12

abbrev pub decreases-case_branches : goal.decreases-case_branches
decreases-case_branches l = 30 * l.depth + 12

abbrev pub decreases-choices : goal.decreases-choices
decreases-choices l = 30 * l.depth + 12

abbrev pub decreases-guarded : goal.decreases-guarded
decreases-guarded l = 30 * l.depth + 11

abbrev pub decreases-labelled : goal.decreases-labelled
decreases-labelled l = 30 * l.depth + 11

abbrev pub decreases-otherwise : goal.decreases-otherwise
decreases-otherwise l = 30 * l.depth + 11

abbrev pub decreases-inner : goal.decreases-inner
decreases-inner l = 30 * l.depth + 10

abbrev pub invariant-branches-loop-rest : goal.invariant-branches-loop-rest
invariant-branches-loop-rest l = IsPartlyRead (cut_at l.word) (IsBranch (inside l.depth)) (pieces l.s) l.all l.rest

abbrev pub decreases-branches-loop-rest : goal.decreases-branches-loop-rest
decreases-branches-loop-rest l = left l.rest

abbrev pub invariant-case_branches-loop-rest : goal.invariant-case_branches-loop-rest
invariant-case_branches-loop-rest l = IsPartlyRead (cut_at word.Or) (IsCaseBranch (inside l.depth)) (pieces l.s) l.all l.rest

abbrev pub decreases-case_branches-loop-rest : goal.decreases-case_branches-loop-rest
decreases-case_branches-loop-rest l = left l.rest

abbrev pub invariant-choices-loop-rest : goal.invariant-choices-loop-rest
invariant-choices-loop-rest l = IsPartlyRead (cut_at word.Or) (inside l.depth) (pieces l.s) l.all l.rest

abbrev pub decreases-choices-loop-rest : goal.decreases-choices-loop-rest
decreases-choices-loop-rest l = left l.rest

abbrev pub invariant-steps-loop-rest : goal.invariant-steps-loop-rest
invariant-steps-loop-rest l = IsPartlyFollowed (cut at.Joint) (IsStep (inside l.depth)) (next_of l.next) l.all (next_of l.rest)

abbrev pub decreases-steps-loop-rest : goal.decreases-steps-loop-rest
decreases-steps-loop-rest l = left_behind (next_of l.rest)
