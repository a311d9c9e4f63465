use Rattle.b_grammar.specs.Grammar.{names_to_dot}
use Rattle.b_read_expr.proofs.Naming.{dot_goes}
use Rattle.b_read_expr.proofs.names.names_to_dot.Goals as goal

pub loop-names-preserved : goal.loop-names-preserved
loop-names-preserved c =
    rw
    c.in_ok-push.ensures.ok
    (dot_goes
    (names_to_dot c.args.lexemes.now)
    c.args.lexemes.now
    c.loop-names.names
    c.loop-names.rest.now
    c.in_ok-name.name
    c.in_ok-name.after.now
    c.loop-names.invariant
    (rw c.in-Comma.is at c.in_ok-name.ensures.0)
    c.in_ok-name.ensures.1)
