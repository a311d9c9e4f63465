use Rattle.std.proofs.Common.{subst}
use Rattle.set_making.specs.Making.{Answers}
use Rattle.b_sequences.specs.Rows.{tail_row}
use Rattle.b_sequences.specs.RowsKept.{answer_kept, tail_kept}
use Rattle.b_sequences.specs.RowsByLists.{tail_by_list, tail_otherwise}
use Rattle.b_sequences.proofs.parts.tail.Goals as goal

pub returns : goal.returns
returns c =
    let row : Answers (tail_row c.args.s.now) c.answer_sequence.result = c.answer_sequence.ensures _ c.tail_couples.ensures in
    record {
      value = row;
      kept = answer_kept (tail_row c.args.s.now) c.answer_sequence.result (λ v. tail_kept c.args.s.now v c.requires) row;
      by_list = λ x xs e. subst (λ w. Answers w c.answer_sequence.result) (tail_by_list c.args.s.now x xs c.requires e) row;
      otherwise = λ none. subst (λ w. Answers w c.answer_sequence.result) (tail_otherwise c.args.s.now none) row;
    }
