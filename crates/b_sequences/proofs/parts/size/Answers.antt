use Rattle.std.proofs.Common.{subst}
use Rattle.set_making.specs.Making.{Answers}
use Rattle.b_sequences.specs.Rows.{size_row}
use Rattle.b_sequences.specs.RowsKept.{answer_kept, size_kept}
use Rattle.b_sequences.specs.RowsByLists.{size_by_list, size_otherwise}
use Rattle.b_sequences.proofs.parts.size.Goals as goal

pub returns : goal.returns
returns c =
    let row : Answers (size_row c.args.s.now) c.answer_value.result = c.answer_value.ensures _ c.size_of.ensures in
    record {
      value = row;
      kept = answer_kept (size_row c.args.s.now) c.answer_value.result (λ v. size_kept c.args.s.now v) row;
      by_list = λ xs e. subst (λ w. Answers w c.answer_value.result) (size_by_list c.args.s.now xs e) row;
      otherwise = λ none. subst (λ w. Answers w c.answer_value.result) (size_otherwise c.args.s.now none) row;
    }
