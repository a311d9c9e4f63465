use Rattle.std.proofs.Common.{length}
use Rattle.std.proofs.lemmas.Result.{err_from_is_err_and}
use Rattle.b_machine_grammar.specs.declared.words.Word.TheVariants as word
use Rattle.b_machine_grammar.specs.Cuts.{cut_at}
use Rattle.b_stretches.specs.Stretches.{pieces}
use Rattle.b_stretches.proofs.Reading.{enclosed_none, enclosed_on}
use Rattle.b_read_machine.specs.Machines.{IsContent}
use Rattle.b_read_machine.proofs.machines.machine_tree.Goals as goal

pub returns-in_err-content : goal.returns-in_err-content
returns-in_err-content c =
    let p = err_from_is_err_and c.from_residual.result c.from_residual.ensures.1 in
    rw (p.1, p.2) (enclosed_none word.Machine (cut_at word.End) (IsContent (length (pieces c.args.s))) (pieces c.args.s) c.in_err-content.field-0.0 c.in_err-content.ensures)

pub returns : goal.returns
returns c = enclosed_on word.Machine (cut_at word.End) (IsContent (length (pieces c.args.s))) (pieces c.args.s) c.in_ok-content.content c.content_tree.result c.in_ok-content.ensures (rw c.count_of.ensures at c.content_tree.ensures)
