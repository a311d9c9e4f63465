use Rattle.std.proofs.Common.{subst}
use Rattle.set_making.specs.Making.{Answers}
use Rattle.b_sequences.specs.Rows.{last_row}
use Rattle.b_sequences.specs.RowsKept.{answer_kept, last_kept}
use Rattle.b_sequences.specs.RowsByLists.{last_by_list, last_otherwise}
use Rattle.b_sequences.proofs.parts.last.Goals as goal

pub returns : goal.returns
returns c =
    let row : Answers (last_row c.args.s.now) c.answer_value.result = c.answer_value.ensures _ c.last_part.ensures in
    record {
      value = row;
      kept = answer_kept (last_row c.args.s.now) c.answer_value.result (λ v. last_kept c.args.s.now v c.requires) row;
      by_list = λ x xs e. subst (λ w. Answers w c.answer_value.result) (last_by_list c.args.s.now x xs e) row;
      otherwise = λ none. subst (λ w. Answers w c.answer_value.result) (last_otherwise c.args.s.now none) row;
    }
