use Rattle.std.proofs.Common.{subst}
use Rattle.set_making.specs.Making.{Answers}
use Rattle.b_sequences.specs.Rows.{drop_first_row}
use Rattle.b_sequences.specs.RowsKept.{answer_kept, drop_first_kept}
use Rattle.b_sequences.specs.RowsByLists.{drop_first_by_lists, drop_first_otherwise}
use Rattle.b_sequences.proofs.parts.drop_first.Goals as goal

pub returns : goal.returns
returns c =
    let row : Answers (drop_first_row c.args.s.now c.args.n.now) c.answer_sequence.result = c.answer_sequence.ensures _ c.left_couples.ensures in
    record {
      value = row;
      kept = answer_kept (drop_first_row c.args.s.now c.args.n.now) c.answer_sequence.result (λ v. drop_first_kept c.args.s.now c.args.n.now v c.requires.sequence) row;
      by_lists = λ xs ys e k. subst (λ w. Answers w c.answer_sequence.result) (drop_first_by_lists c.args.s.now c.args.n.now xs ys c.requires.sequence e k) row;
      otherwise = λ none. subst (λ w. Answers w c.answer_sequence.result) (drop_first_otherwise c.args.s.now c.args.n.now none) row;
    }
