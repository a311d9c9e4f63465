use Rattle.std.proofs.Common.{subst}
use Rattle.set_making.specs.Making.{Answers}
use Rattle.b_sequences.specs.Rows.{front_row}
use Rattle.b_sequences.specs.RowsKept.{answer_kept, front_kept}
use Rattle.b_sequences.specs.RowsByLists.{front_by_list, front_otherwise}
use Rattle.b_sequences.proofs.parts.front.Goals as goal

pub returns : goal.returns
returns c =
    let row : Answers (front_row c.args.s.now) c.answer_sequence.result = c.answer_sequence.ensures _ c.front_couples.ensures in
    record {
      value = row;
      kept = answer_kept (front_row c.args.s.now) c.answer_sequence.result (λ v. front_kept c.args.s.now v c.requires) row;
      by_list = λ x xs e. subst (λ w. Answers w c.answer_sequence.result) (front_by_list c.args.s.now x xs c.requires e) row;
      otherwise = λ none. subst (λ w. Answers w c.answer_sequence.result) (front_otherwise c.args.s.now none) row;
    }
