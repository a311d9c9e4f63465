use Rattle.std.proofs.Common.{length, false}
use Rattle.b_expand.specs.Expansion.{expansion}
use Rattle.b_grammar.specs.Symbols.{lexemes}
use Rattle.b_parse_expr.proofs.Judging.{gives_fault, gives_answer}
use Rattle.b_parse_expr.proofs.formulas.parse_formula_under.Goals as goal

pub returns-in-Ok : goal.returns-in-Ok
returns-in-Ok c =
    gives_answer
    (expansion c.args.defs.now.table.now.defs)
    (lexemes false c.args.text.now c.args.tokens.now)
    (length c.args.text.now)
    c.in-Ok.tree
    c.in-Ok.ensures
    c.expand-answer.result
    c.expand-answer.ensures.answers
    c.answer_of.result
    c.answer_of.ensures

pub returns-in-Err : goal.returns-in-Err
returns-in-Err c = gives_fault (expansion c.args.defs.now.table.now.defs) (lexemes false c.args.text.now c.args.tokens.now) (length c.args.text.now) c.in-Err.fault c.in-Err.ensures
