use Rattle.std.proofs.Common.{◌≤◌, ◌+◌, subst, sym, length}
use Rattle.b_lex.specs.Fronts.{Begins}
use Rattle.b_lex.specs.declared.fronts.Front.TheVariants.{Skip, Take, Stop}
use Rattle.b_lex.proofs.Rows.{ReadTo, skip, take_token, stop, end_tokens, end_spans}
use Rattle.b_lex.proofs.lexer.lex.Goals as goal

pub fronts-preserved-in-Skip : goal.fronts-preserved-in-Skip
fronts-preserved-in-Skip c =
    skip c.args.text.now c.fronts.at c.in-Skip.n c.fronts.tokens.items c.fronts.invariant
    (subst (λ t. Begins t (Skip c.in-Skip.n)) c.split_at.ensures.back c.in-Skip.ensures.begins)
    (subst (λ t. c.in-Skip.n ≤ length t) c.split_at.ensures.back c.in-Skip.ensures.within.1)

pub fronts-preserved : goal.fronts-preserved
fronts-preserved c =
    subst (ReadTo c.args.text.now (c.fronts.at + c.in-Take.n)) (sym c.in-Ok.ensures.items)
    (take_token c.args.text.now c.fronts.at c.in-Take.n c.in-Take.kind c.fronts.tokens.items c.fronts.invariant
    (subst (λ t. Begins t (Take c.in-Take.kind c.in-Take.n)) c.split_at.ensures.back c.in-Take.ensures.begins)
    c.in-Take.ensures.within.0
    (subst (λ t. c.in-Take.n ≤ length t) c.split_at.ensures.back c.in-Take.ensures.within.1))

pub returns-in-Stop-clause-exact : goal.returns-in-Stop-clause-exact
returns-in-Stop-clause-exact c =
    stop c.args.text.now c.fronts.at c.in-Stop.n c.in-Stop.kind c.fronts.tokens.items c.fronts.invariant
    (subst (λ t. Begins t (Stop c.in-Stop.kind c.in-Stop.n)) c.split_at.ensures.back c.in-Stop.ensures.begins)

pub returns-clause-exact : goal.returns-clause-exact
returns-clause-exact c = end_tokens c.args.text.now c.fronts.at c.fronts.tokens.items c.fronts.invariant c.fronts-test.false

pub returns-clause-spans : goal.returns-clause-spans
returns-clause-spans c = end_spans c.args.text.now c.fronts.at c.fronts.tokens.items c.fronts.invariant
