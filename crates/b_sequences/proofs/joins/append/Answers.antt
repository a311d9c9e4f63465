use Rattle.std.proofs.Common.{subst}
use Rattle.set_making.specs.Making.{Answers}
use Rattle.b_sequences.specs.Rows.{append_row}
use Rattle.b_sequences.specs.RowsKept.{answer_kept, append_kept}
use Rattle.b_sequences.specs.RowsByLists.{append_by_list, append_otherwise}
use Rattle.b_sequences.proofs.joins.append.Goals as goal

pub returns : goal.returns
returns c =
    let row : Answers (append_row c.args.s.now c.args.x.now) c.answer_sequence.result = c.answer_sequence.ensures _ c.couples_before.ensures in
    record {
      value = row;
      kept = answer_kept (append_row c.args.s.now c.args.x.now) c.answer_sequence.result (λ v. append_kept c.args.s.now c.args.x.now v c.requires.sequence c.requires.element) row;
      by_list = λ xs e. subst (λ w. Answers w c.answer_sequence.result) (append_by_list c.args.s.now c.args.x.now xs e) row;
      otherwise = λ none. subst (λ w. Answers w c.answer_sequence.result) (append_otherwise c.args.s.now c.args.x.now none) row;
    }
