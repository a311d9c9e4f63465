use Rattle.std.proofs.Common.{subst}
use Rattle.set_making.specs.Making.{Answers}
use Rattle.b_sequences.specs.Rows.{first_row}
use Rattle.b_sequences.specs.RowsKept.{answer_kept, first_kept}
use Rattle.b_sequences.specs.RowsByLists.{first_by_list, first_otherwise}
use Rattle.b_sequences.proofs.parts.first.Goals as goal

pub returns : goal.returns
returns c =
    let row : Answers (first_row c.args.s.now) c.answer_value.result = c.answer_value.ensures _ c.first_part.ensures in
    record {
      value = row;
      kept = answer_kept (first_row c.args.s.now) c.answer_value.result (λ v. first_kept c.args.s.now v c.requires) row;
      by_list = λ x xs e. subst (λ w. Answers w c.answer_value.result) (first_by_list c.args.s.now x xs e) row;
      otherwise = λ none. subst (λ w. Answers w c.answer_value.result) (first_otherwise c.args.s.now none) row;
    }
