use Rattle.std.proofs.Common.{arith}
use Rattle.b_ast.specs.declared.Formula.TheVariants as formula
use Rattle.b_grammar.specs.Descent.{done}
use Rattle.b_read_expr.specs.Reading as spec
use Rattle.b_read_expr.proofs.Laws.{named_old, named_plain}
use Rattle.b_read_expr.proofs.Exits.{reads_on}
use Rattle.b_read_expr.proofs.steps.named.Goals as goal

pub returns-in-Ok : goal.returns-in-Ok
returns-in-Ok c =
    let l = c.in-Ok.ensures in
    let less = l.1 in
    reads_on (spec.named c.args.name.now c.args.at) (done (formula.Old c.args.at c.args.name.now)) c.args.lexemes.now c.in-Ok.rest.now c.leaf.result (named_old c.args.name.now c.args.at c.args.lexemes.now c.in-Ok.rest.now l.0) (omega arith)
    (rw (c.in_ok-name.ensures, c.as_slice.ensures) at c.leaf.ensures)

pub returns-in-Err : goal.returns-in-Err
returns-in-Err c =
    reads_on (spec.named c.args.name.now c.args.at) (done (formula.Name c.args.at c.args.name.now)) c.args.lexemes.now c.args.lexemes.now c.leaf-in-Err.result (named_plain c.args.name.now c.args.at c.args.lexemes.now c.in-Err.ensures) (omega arith)
    (rw (c.in_ok-name.ensures, c.as_slice.ensures) at c.leaf-in-Err.ensures)
