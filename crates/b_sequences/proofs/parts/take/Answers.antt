use Rattle.std.proofs.Common.{subst}
use Rattle.set_making.specs.Making.{Answers}
use Rattle.b_sequences.specs.Rows.{take_row}
use Rattle.b_sequences.specs.RowsKept.{answer_kept, take_kept}
use Rattle.b_sequences.specs.RowsByLists.{take_by_lists, take_otherwise}
use Rattle.b_sequences.proofs.parts.take.Goals as goal

pub returns : goal.returns
returns c =
    let row : Answers (take_row c.args.s.now c.args.n.now) c.answer_sequence.result = c.answer_sequence.ensures _ c.taken_couples.ensures in
    record {
      value = row;
      kept = answer_kept (take_row c.args.s.now c.args.n.now) c.answer_sequence.result (λ v. take_kept c.args.s.now c.args.n.now v c.requires.sequence) row;
      by_lists = λ xs ys e k. subst (λ w. Answers w c.answer_sequence.result) (take_by_lists c.args.s.now c.args.n.now xs ys c.requires.sequence e k) row;
      otherwise = λ none. subst (λ w. Answers w c.answer_sequence.result) (take_otherwise c.args.s.now c.args.n.now none) row;
    }
