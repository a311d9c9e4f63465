use Rattle.std.proofs.Common.{subst}
use Rattle.set_making.specs.Making.{Answers}
use Rattle.b_sequences.specs.Rows.{concat_row}
use Rattle.b_sequences.specs.RowsKept.{answer_kept, concat_kept}
use Rattle.b_sequences.specs.RowsByLists.{concat_by_lists, concat_otherwise}
use Rattle.b_sequences.proofs.joins.concat.Goals as goal

pub returns : goal.returns
returns c =
    let row : Answers (concat_row c.args.s.now c.args.t.now) c.answer_sequence.result = c.answer_sequence.ensures _ c.couples_of_both.ensures in
    record {
      value = row;
      kept = answer_kept (concat_row c.args.s.now c.args.t.now) c.answer_sequence.result (λ v. concat_kept c.args.s.now c.args.t.now v c.requires.left c.requires.right) row;
      by_lists = λ xs ys e k. subst (λ w. Answers w c.answer_sequence.result) (concat_by_lists c.args.s.now c.args.t.now xs ys e k) row;
      otherwise = λ none. subst (λ w. Answers w c.answer_sequence.result) (concat_otherwise c.args.s.now c.args.t.now none) row;
    }
