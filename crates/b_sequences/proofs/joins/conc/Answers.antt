use Rattle.std.proofs.Common.{subst}
use Rattle.set_making.specs.Making.{Answers}
use Rattle.b_sequences.specs.Rows.{conc_row}
use Rattle.b_sequences.specs.RowsKept.{answer_kept, conc_kept}
use Rattle.b_sequences.specs.RowsByLists.{conc_by_lists, conc_otherwise}
use Rattle.b_sequences.proofs.joins.conc.Goals as goal

pub returns : goal.returns
returns c =
    let row : Answers (conc_row c.args.s.now) c.answer_sequence.result = c.answer_sequence.ensures _ c.couples_of_all.ensures in
    record {
      value = row;
      kept = answer_kept (conc_row c.args.s.now) c.answer_sequence.result (λ v. conc_kept c.args.s.now v c.requires) row;
      by_lists = λ xss e. subst (λ w. Answers w c.answer_sequence.result) (conc_by_lists c.args.s.now xss c.requires e) row;
      otherwise = λ none. subst (λ w. Answers w c.answer_sequence.result) (conc_otherwise c.args.s.now none) row;
    }
