use Rattle.std.proofs.Common.{subst}
use Rattle.set_making.specs.Making.{Answers}
use Rattle.b_sequences.specs.Rows.{rev_row}
use Rattle.b_sequences.specs.RowsKept.{answer_kept, rev_kept}
use Rattle.b_sequences.specs.RowsByLists.{rev_by_list, rev_otherwise}
use Rattle.b_sequences.proofs.joins.rev.Goals as goal

pub returns : goal.returns
returns c =
    let row : Answers (rev_row c.args.s.now) c.answer_sequence.result = c.answer_sequence.ensures _ c.turned_couples.ensures in
    record {
      value = row;
      kept = answer_kept (rev_row c.args.s.now) c.answer_sequence.result (λ v. rev_kept c.args.s.now v c.requires) row;
      by_list = λ xs e. subst (λ w. Answers w c.answer_sequence.result) (rev_by_list c.args.s.now xs c.requires e) row;
      otherwise = λ none. subst (λ w. Answers w c.answer_sequence.result) (rev_otherwise c.args.s.now none) row;
    }
