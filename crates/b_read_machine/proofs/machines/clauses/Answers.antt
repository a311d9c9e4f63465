use Rattle.std.proofs.Common.{[], ◌∷◌, Some, None, List}
use Rattle.std.proofs.lemmas.Result.{err_from_is_err_and}
use Rattle.b_machine_grammar.specs.declared.words.Separator.TheVariants as at
use Rattle.b_machine_grammar.specs.Cuts.{Piece, cut}
use Rattle.b_machine_grammar.specs.Grammar.{IsClause}
use Rattle.b_stretches.specs.Stretches.{pieces, next_of}
use Rattle.b_stretches.proofs.Reading.{follow_begin, follow_end, follow_less}
use Rattle.b_stretches.proofs.Answering.{follow_push, follow_unpushed}
use Rattle.b_read_machine.proofs.machines.clauses.Goals as goal

pub loop-rest-init : goal.loop-rest-init
loop-rest-init c = rw c.new-all.ensures (follow_begin (cut at.Clause) (IsClause c.args.depth) (next_of c.args.next))

pub loop-rest-preserved : goal.loop-rest-preserved
loop-rest-preserved c =
    let p : Piece × List Piece = ((c.in-Some.word, c.in-Some.lexeme.now), pieces c.in-Some.more) in
    follow_push (cut at.Clause) (IsClause c.args.depth) (next_of c.args.next) c.loop-rest.all p c.cut-split.result (rw c.in-Some.is at c.loop-rest.invariant) c.cut-split.ensures c.clause-one.result c.in_ok-push_read.ensures c.clause-one.ensures

pub loop-rest-smaller : goal.loop-rest-smaller
loop-rest-smaller c =
    let p : Piece × List Piece = ((c.in-Some.word, c.in-Some.lexeme.now), pieces c.in-Some.more) in
    rw c.in-Some.is (follow_less at.Clause p c.cut-split.result c.cut-split.ensures)

pub returns : goal.returns
returns c = follow_end (cut at.Clause) (IsClause c.args.depth) (next_of c.args.next) c.loop-rest.all (rw c.in_default.is at c.loop-rest.invariant)

pub returns-in_err-push_read : goal.returns-in_err-push_read
returns-in_err-push_read c =
    let p : Piece × List Piece = ((c.in-Some.word, c.in-Some.lexeme.now), pieces c.in-Some.more) in
    let q = err_from_is_err_and c.from_residual.result c.from_residual.ensures.1 in
    rw (q.1, q.2) (follow_unpushed (cut at.Clause) (IsClause c.args.depth) (next_of c.args.next) c.loop-rest.all p c.cut-split.result (rw c.in-Some.is at c.loop-rest.invariant) c.cut-split.ensures _ c.in_err-push_read.field-0.0 c.clause-one.result c.in_err-push_read.ensures c.clause-one.ensures)
