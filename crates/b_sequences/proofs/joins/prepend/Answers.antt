use Rattle.std.proofs.Common.{subst}
use Rattle.set_making.specs.Making.{Answers}
use Rattle.b_sequences.specs.Rows.{prepend_row}
use Rattle.b_sequences.specs.RowsKept.{answer_kept, prepend_kept}
use Rattle.b_sequences.specs.RowsByLists.{prepend_by_list, prepend_otherwise}
use Rattle.b_sequences.proofs.joins.prepend.Goals as goal

pub returns : goal.returns
returns c =
    let row : Answers (prepend_row c.args.x.now c.args.s.now) c.answer_sequence.result = c.answer_sequence.ensures _ c.couples_after.ensures in
    record {
      value = row;
      kept = answer_kept (prepend_row c.args.x.now c.args.s.now) c.answer_sequence.result (λ v. prepend_kept c.args.x.now c.args.s.now v c.requires.element c.requires.sequence) row;
      by_list = λ xs e. subst (λ w. Answers w c.answer_sequence.result) (prepend_by_list c.args.x.now c.args.s.now xs e) row;
      otherwise = λ none. subst (λ w. Answers w c.answer_sequence.result) (prepend_otherwise c.args.x.now c.args.s.now none) row;
    }
