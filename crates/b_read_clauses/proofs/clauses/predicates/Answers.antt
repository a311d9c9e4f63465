use Rattle.std.proofs.Common.{[], None}
use Rattle.std.proofs.lemmas.Result.{err_from_is_err_and}
use Rattle.b_machine_grammar.specs.declared.words.Word.TheVariants as word
use Rattle.b_machine_grammar.specs.declared.words.Separator.TheVariants as at
use Rattle.b_machine_grammar.specs.Cuts.{cut_at}
use Rattle.b_machine_grammar.specs.Grammar.{IsWritten}
use Rattle.b_stretches.specs.Stretches.{pieces}
use Rattle.b_stretches.proofs.Reading.{list_begin, list_end, left_less}
use Rattle.b_stretches.proofs.Answering.{list_push, list_unpushed}
use Rattle.b_read_clauses.proofs.clauses.predicates.Goals as goal

pub loop-rest-init : goal.loop-rest-init
loop-rest-init c = rw c.new-all.ensures (list_begin (cut_at word.Semicolon) IsWritten c.args.s)

pub loop-rest-preserved : goal.loop-rest-preserved
loop-rest-preserved c = rw c.behind-rest.ensures (list_push (cut_at word.Semicolon) IsWritten (pieces c.args.s) c.loop-rest.all c.in-Some.part c.cut_at-split.result (rw c.in-Some.is at c.loop-rest.invariant) c.cut_at-split.ensures c.written-one.result c.in_ok-push_read.ensures c.written-one.ensures)

pub loop-rest-smaller : goal.loop-rest-smaller
loop-rest-smaller c = rw (c.behind-rest.ensures, c.in-Some.is) (left_less (at.At word.Semicolon) c.in-Some.part c.cut_at-split.result c.cut_at-split.ensures)

pub returns : goal.returns
returns c = list_end (cut_at word.Semicolon) IsWritten (pieces c.args.s) c.loop-rest.all (rw c.in_default.is at c.loop-rest.invariant)

pub returns-in_err-push_read : goal.returns-in_err-push_read
returns-in_err-push_read c =
    let p = err_from_is_err_and c.from_residual.result c.from_residual.ensures.1 in
    rw (p.1, p.2) (list_unpushed (cut_at word.Semicolon) IsWritten (pieces c.args.s) c.loop-rest.all c.in-Some.part c.cut_at-split.result (rw c.in-Some.is at c.loop-rest.invariant) c.cut_at-split.ensures _ c.in_err-push_read.field-0.0 c.written-one.result c.in_err-push_read.ensures c.written-one.ensures)
