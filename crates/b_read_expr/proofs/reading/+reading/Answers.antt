use Rattle.std.proofs.Common.{◌≡◌, ◌-◌, ◌∙◌, [], Some, None, suc, sym, arith}
use Rattle.std.proofs.lemmas.Result.{err_from_is_err_and}
use Rattle.b_ast.specs.declared.Operator.TheVariants as operator
use Rattle.b_ast.specs.declared.Formula.TheVariants as formula
use Rattle.b_ast.specs.declared.After.TheVariants as after
use Rattle.b_grammar.specs.declared.Mark.TheVariants as sign
use Rattle.b_grammar.specs.declared.Symbol.TheVariants as symbol
use Rattle.b_grammar.specs.Grammar as grammar
use Rattle.b_grammar.specs.Descent.{done}
use Rattle.b_read_expr.specs.declared.reading.Content.TheVariants as content
use Rattle.b_read_expr.specs.declared.reading.Bracket.TheVariants as bracket
use Rattle.b_read_expr.specs.Reading as spec
use Rattle.b_read_expr.proofs.Laws as laws
use Rattle.b_read_expr.proofs.Exits as exits
use Rattle.b_read_expr.proofs.reading.+reading.Goals as goal

pub formula-returns-in_err-first : goal.formula-returns-in_err-first
formula-returns-in_err-first t c =
    let p = err_from_is_err_and c.from_residual.result c.from_residual.ensures.1 in
    rw (p.1, p.2) (laws.stops_on c.in_err-first.field-0.0 (spec.operand c.args.depth c.args.lexemes.now) (spec.piece c.args.depth c.args.levels.now c.args.lexemes.now) (laws.piece_none c.args.depth c.args.levels.now c.args.lexemes.now) c.in_err-first.ensures)

pub formula-returns-in_err-more : goal.formula-returns-in_err-more
formula-returns-in_err-more t c =
    let p = err_from_is_err_and c.from_residual-in_err-more.result c.from_residual-in_err-more.ensures.1 in
    rw (p.1, p.2) (laws.stops_on c.in_err-more.field-0.0 (spec.parts c.args.depth c.args.levels.now c.in_ok-first.rest.now) (spec.piece c.args.depth c.args.levels.now c.args.lexemes.now) (exits.piece_stops c.args.depth c.args.levels.now c.args.lexemes.now c.in_ok-first.first c.in_ok-first.rest.now c.in_ok-first.ensures.0) c.in_err-more.ensures)

pub formula-returns-in-Some : goal.formula-returns-in-Some
formula-returns-in-Some t c =
    let l = c.in_ok-first.ensures.1 in
    let m = c.in_ok-more.ensures.1 in
    (exits.piece_to c.args.depth c.args.levels.now c.args.lexemes.now c.in_ok-first.first c.in_ok-first.rest.now c.in_ok-more.more c.in_ok-more.rest.now (Some c.in-Some.tree) c.in_ok-first.ensures.0 c.in_ok-more.ensures.0 (sym c.in-Some.is ∙ c.in_ok-tree.ensures), omega arith)

pub formula-returns-in-None : goal.formula-returns-in-None
formula-returns-in-None t c =
    exits.stops_none c.no_tree.result (spec.piece c.args.depth c.args.levels.now c.args.lexemes.now) (exits.piece_to c.args.depth c.args.levels.now c.args.lexemes.now c.in_ok-first.first c.in_ok-first.rest.now c.in_ok-more.more c.in_ok-more.rest.now None c.in_ok-first.ensures.0 c.in_ok-more.ensures.0 (sym c.in-None.is ∙ c.in_ok-tree.ensures))

pub parts-loop-operator-init : goal.parts-loop-operator-init
parts-loop-operator-init t c =
    rw c.new-all.ensures (exits.parts_begin c.args.depth c.args.levels.now c.args.lexemes.now)

pub parts-loop-operator-preserved : goal.parts-loop-operator-preserved
parts-loop-operator-preserved t c =
    rw c.in_ok-push.ensures.ok
    (exits.parts_go c.args.depth c.args.levels.now c.args.lexemes.now c.loop-operator.all c.loop-operator.rest.now (c.in-Some.operator, c.in-Some.at, c.in-Some.after) c.in-Some.ensures c.in_ok-operand.operand c.in_ok-operand.further.now c.loop-operator.invariant c.in_ok-operand.ensures.0 c.in_ok-operand.ensures.1)

pub parts-returns-in_err-operand : goal.parts-returns-in_err-operand
parts-returns-in_err-operand t c =
    let p = err_from_is_err_and c.from_residual.result c.from_residual.ensures.1 in
    rw (p.1, p.2) (laws.stops_on c.in_err-operand.field-0.0 (spec.operand c.args.depth c.in-Some.after.now) (spec.parts c.args.depth c.args.levels.now c.args.lexemes.now) (exits.parts_stop c.args.depth c.args.levels.now c.args.lexemes.now c.loop-operator.all c.loop-operator.rest.now (c.in-Some.operator, c.in-Some.at, c.in-Some.after) c.in-Some.ensures c.loop-operator.invariant) c.in_err-operand.ensures)

pub list-returns-in_err-first : goal.list-returns-in_err-first
list-returns-in_err-first t c =
    let p = err_from_is_err_and c.from_residual.result c.from_residual.ensures.1 in
    rw (p.1, p.2) (laws.stops_on c.in_err-first.field-0.0 (spec.piece c.args.depth grammar.bracketed c.args.lexemes.now) (spec.list c.args.depth c.args.operator c.args.lexemes.now) (laws.list_none c.args.depth c.args.operator c.args.lexemes.now) c.in_err-first.ensures)

pub list-returns-in_err-more : goal.list-returns-in_err-more
list-returns-in_err-more t c =
    let p = err_from_is_err_and c.from_residual-in_err-more.result c.from_residual-in_err-more.ensures.1 in
    rw (p.1, p.2) (laws.stops_on c.in_err-more.field-0.0 (spec.links c.args.depth c.args.operator c.in_ok-first.rest.now) (spec.list c.args.depth c.args.operator c.args.lexemes.now) (exits.list_stops c.args.depth c.args.operator c.args.lexemes.now c.in_ok-first.first c.in_ok-first.rest.now c.in_ok-first.ensures.0) c.in_err-more.ensures)

pub list-returns : goal.list-returns
list-returns t c =
    let l = c.in_ok-first.ensures.1 in
    let m = c.in_ok-more.ensures.1 in
    rw c.in_ok-node.ensures
    (exits.list_found c.args.depth c.args.operator c.args.lexemes.now c.in_ok-first.first c.in_ok-first.rest.now c.in_ok-more.more c.in_ok-more.rest.now c.in_ok-first.ensures.0 c.in_ok-more.ensures.0, omega arith)

pub links-loop-at-init : goal.links-loop-at-init
links-loop-at-init t c =
    rw c.new-all.ensures (exits.links_begin c.args.depth c.args.operator c.args.lexemes.now)

pub links-loop-at-preserved : goal.links-loop-at-preserved
links-loop-at-preserved t c =
    rw (c.in_ok-push.ensures.ok, c.into_inner.ensures)
    (exits.links_go c.args.depth c.args.operator c.args.lexemes.now c.loop-at.all c.loop-at.rest.now (c.in-Some.at, c.in-Some.after) c.in-Some.ensures c.in_ok-operand.operand c.in_ok-operand.further.now c.loop-at.invariant c.in_ok-operand.ensures.0 c.in_ok-operand.ensures.1)

pub links-returns-in_err-operand : goal.links-returns-in_err-operand
links-returns-in_err-operand t c =
    let p = err_from_is_err_and c.from_residual.result c.from_residual.ensures.1 in
    rw (p.1, p.2) (laws.stops_on c.in_err-operand.field-0.0 (spec.piece c.args.depth grammar.bracketed c.in-Some.after.now) (spec.links c.args.depth c.args.operator c.args.lexemes.now) (exits.links_stop c.args.depth c.args.operator c.args.lexemes.now c.loop-at.all c.loop-at.rest.now (c.in-Some.at, c.in-Some.after) c.in-Some.ensures c.loop-at.invariant) c.in_err-operand.ensures)

pub operand-returns-in_err-first : goal.operand-returns-in_err-first
operand-returns-in_err-first t c =
    let p = err_from_is_err_and c.from_residual.result c.from_residual.ensures.1 in
    rw (p.1, p.2) (exits.stops_none c.in_err-first.field-0.0 (spec.operand c.args.depth c.args.lexemes.now) (exits.operand_none c.args.depth c.args.lexemes.now c.in_err-first.ensures))

pub operand-returns-in_err-tree : goal.operand-returns-in_err-tree
operand-returns-in_err-tree t c =
    let p = err_from_is_err_and c.from_residual-in_err-tree.result c.from_residual-in_err-tree.ensures.1 in
    rw (p.1, p.2) (exits.stops_made c.in_err-tree.field-0.0 (formula.Negative c.in_ok-first.first.now.at) (spec.whole_row c.args.depth) c.in_ok-first.rest.now (spec.operand c.args.depth c.args.lexemes.now) (exits.operand_negative c.args.depth c.args.lexemes.now c.in_ok-first.first.now c.in_ok-first.rest.now c.in_ok-first.ensures (sym c.if-is_minus.ensures)) c.in_err-tree.ensures)

pub operand-returns-in_ok-new : goal.operand-returns-in_ok-new
operand-returns-in_ok-new t c =
    let l = exits.longer c.args.lexemes.now c.in_ok-first.rest.now c.in_ok-first.first.now c.in_ok-first.ensures in
    let m = c.in_ok-tree.ensures.1 in
    rw c.in_ok-new.ensures
    (exits.reads_made (formula.Negative c.in_ok-first.first.now.at) (spec.whole_row c.args.depth) c.in_ok-first.rest.now c.in_ok-tree.tree c.in_ok-tree.rest.now (spec.operand c.args.depth c.args.lexemes.now) (exits.operand_negative c.args.depth c.args.lexemes.now c.in_ok-first.first.now c.in_ok-first.rest.now c.in_ok-first.ensures (sym c.if-is_minus.ensures)) c.in_ok-tree.ensures.0, omega arith)

pub operand-returns-else-is_minus : goal.operand-returns-else-is_minus
operand-returns-else-is_minus t c =
    exits.reads_on (spec.operand c.args.depth) (spec.whole_row c.args.depth) c.args.lexemes.now c.args.lexemes.now c.row-else-is_minus.result (exits.operand_row c.args.depth c.args.lexemes.now c.in_ok-first.first.now c.in_ok-first.rest.now c.in_ok-first.ensures (sym c.if-is_minus.ensures)) (omega arith) c.row-else-is_minus.ensures

pub row-returns-in_err-head : goal.row-returns-in_err-head
row-returns-in_err-head t c =
    let p = err_from_is_err_and c.from_residual.result c.from_residual.ensures.1 in
    rw (p.1, p.2) (laws.stops_on c.in_err-head.field-0.0 (spec.form c.args.depth c.args.lexemes.now) (spec.whole_row c.args.depth c.args.lexemes.now) (laws.row_none c.args.depth c.args.lexemes.now) c.in_err-head.ensures)

pub row-returns-in_err-more : goal.row-returns-in_err-more
row-returns-in_err-more t c =
    let p = err_from_is_err_and c.from_residual-in_err-more.result c.from_residual-in_err-more.ensures.1 in
    rw (p.1, p.2) (laws.stops_on c.in_err-more.field-0.0 (spec.afters c.args.depth c.in_ok-head.rest.now) (spec.whole_row c.args.depth c.args.lexemes.now) (exits.row_stops c.args.depth c.args.lexemes.now c.in_ok-head.head c.in_ok-head.rest.now c.in_ok-head.ensures.0) c.in_err-more.ensures)

pub row-returns : goal.row-returns
row-returns t c =
    let l = c.in_ok-head.ensures.1 in
    let m = c.in_ok-more.ensures.1 in
    rw c.in_ok-row_of.ensures
    (exits.row_found c.args.depth c.args.lexemes.now c.in_ok-head.head c.in_ok-head.rest.now c.in_ok-more.more c.in_ok-more.rest.now c.in_ok-head.ensures.0 c.in_ok-more.ensures.0, omega arith)

pub afters-loop-opener-init : goal.afters-loop-opener-init
afters-loop-opener-init t c =
    rw c.new-all.ensures (exits.afters_begin c.args.depth c.args.lexemes.now)

pub afters-loop-opener-preserved : goal.afters-loop-opener-preserved
afters-loop-opener-preserved t c =
    rw c.in_ok-push.ensures.ok
    (exits.afters_go c.args.depth c.args.lexemes.now c.loop-opener.all c.loop-opener.rest.now (c.in-Some.opener, c.in-Some.at, c.in-Some.behind) c.in-Some.ensures c.in_ok-one.one c.in_ok-one.further.now c.loop-opener.invariant c.in_ok-one.ensures.0 c.in_ok-one.ensures.1)

pub afters-returns-in_err-one : goal.afters-returns-in_err-one
afters-returns-in_err-one t c =
    let p = err_from_is_err_and c.from_residual.result c.from_residual.ensures.1 in
    rw (p.1, p.2) (laws.stops_on c.in_err-one.field-0.0 (spec.one_after c.args.depth c.in-Some.opener c.in-Some.at c.in-Some.behind.now) (spec.afters c.args.depth c.args.lexemes.now) (exits.afters_stop c.args.depth c.args.lexemes.now c.loop-opener.all c.loop-opener.rest.now (c.in-Some.opener, c.in-Some.at, c.in-Some.behind) c.in-Some.ensures c.loop-opener.invariant) c.in_err-one.ensures)

pub after-returns-in-Converse : goal.after-returns-in-Converse
after-returns-in-Converse t c =
    (exits.converse_is c.args.depth c.args.at c.args.lexemes.now c.args.opener c.in-Converse.is, omega arith)

pub after-returns-in_err-argument-in-Application : goal.after-returns-in_err-argument-in-Application
after-returns-in_err-argument-in-Application t c =
    let p = err_from_is_err_and c.from_residual.result c.from_residual.ensures.1 in
    rw (p.1, p.2) (exits.stops_made c.in_err-argument-in-Application.field-0.0 (after.Apply c.args.at) (spec.enclosed c.args.depth (content.List operator.Comma) sign.RoundClose) c.args.lexemes.now (spec.one_after c.args.depth c.args.opener c.args.at c.args.lexemes.now) (exits.application_is c.args.depth c.args.at c.args.lexemes.now c.args.opener c.in-Application.is) c.in_err-argument-in-Application.ensures)

pub after-returns-in_ok-argument-in-Application : goal.after-returns-in_ok-argument-in-Application
after-returns-in_ok-argument-in-Application t c =
    rw c.into_inner.ensures
    (exits.reads_made (after.Apply c.args.at) (spec.enclosed c.args.depth (content.List operator.Comma) sign.RoundClose) c.args.lexemes.now c.in_ok-argument-in-Application.argument c.in_ok-argument-in-Application.rest.now (spec.one_after c.args.depth c.args.opener c.args.at c.args.lexemes.now) (exits.application_is c.args.depth c.args.at c.args.lexemes.now c.args.opener c.in-Application.is) c.in_ok-argument-in-Application.ensures.0, c.in_ok-argument-in-Application.ensures.1)

pub after-returns-in_err-argument-in-Image : goal.after-returns-in_err-argument-in-Image
after-returns-in_err-argument-in-Image t c =
    let p = err_from_is_err_and c.from_residual-in_err-argument-in-Image.result c.from_residual-in_err-argument-in-Image.ensures.1 in
    rw (p.1, p.2) (exits.stops_made c.in_err-argument-in-Image.field-0.0 (after.Image c.args.at) (spec.enclosed c.args.depth content.Inner sign.SquareClose) c.args.lexemes.now (spec.one_after c.args.depth c.args.opener c.args.at c.args.lexemes.now) (exits.image_is c.args.depth c.args.at c.args.lexemes.now c.args.opener c.in-Image.is) c.in_err-argument-in-Image.ensures)

pub after-returns-in_ok-argument-in-Image : goal.after-returns-in_ok-argument-in-Image
after-returns-in_ok-argument-in-Image t c =
    rw c.into_inner-in-Image.ensures
    (exits.reads_made (after.Image c.args.at) (spec.enclosed c.args.depth content.Inner sign.SquareClose) c.args.lexemes.now c.in_ok-argument-in-Image.argument c.in_ok-argument-in-Image.rest.now (spec.one_after c.args.depth c.args.opener c.args.at c.args.lexemes.now) (exits.image_is c.args.depth c.args.at c.args.lexemes.now c.args.opener c.in-Image.is) c.in_ok-argument-in-Image.ensures.0, c.in_ok-argument-in-Image.ensures.1)

pub form-returns-in_err-first : goal.form-returns-in_err-first
form-returns-in_err-first t c =
    let p = err_from_is_err_and c.from_residual.result c.from_residual.ensures.1 in
    rw (p.1, p.2) (exits.stops_none c.in_err-first.field-0.0 (spec.form c.args.depth c.args.lexemes.now) (exits.form_none c.args.depth c.args.lexemes.now c.in_err-first.ensures))

pub form-returns-in-Number : goal.form-returns-in-Number
form-returns-in-Number t c =
    exits.reads_on (spec.form c.args.depth) (done (formula.Number c.in_ok-first.first.now.at c.in-Number.number)) c.args.lexemes.now c.in_ok-first.rest.now c.leaf.result (exits.form_law c.args.depth c.args.lexemes.now c.in_ok-first.first.now c.in_ok-first.rest.now (symbol.Number c.in-Number.number) c.in_ok-first.ensures c.in-Number.is) (let l = exits.longer c.args.lexemes.now c.in_ok-first.rest.now c.in_ok-first.first.now c.in_ok-first.ensures in omega arith) c.leaf.ensures

pub form-returns-in-Constant : goal.form-returns-in-Constant
form-returns-in-Constant t c =
    exits.reads_on (spec.form c.args.depth) (done (formula.Constant c.in_ok-first.first.now.at c.in-Constant.constant)) c.args.lexemes.now c.in_ok-first.rest.now c.leaf-in-Constant.result (exits.form_law c.args.depth c.args.lexemes.now c.in_ok-first.first.now c.in_ok-first.rest.now (symbol.Constant c.in-Constant.constant) c.in_ok-first.ensures c.in-Constant.is) (let l = exits.longer c.args.lexemes.now c.in_ok-first.rest.now c.in_ok-first.first.now c.in_ok-first.ensures in omega arith) c.leaf-in-Constant.ensures

pub form-returns-in_ok-text-in-Text : goal.form-returns-in_ok-text-in-Text
form-returns-in_ok-text-in-Text t c =
    exits.reads_on (spec.form c.args.depth) (done (formula.Text c.in_ok-first.first.now.at c.in-Text.text)) c.args.lexemes.now c.in_ok-first.rest.now c.leaf-in-Text.result (exits.form_law c.args.depth c.args.lexemes.now c.in_ok-first.first.now c.in_ok-first.rest.now (symbol.Text c.in-Text.text) c.in_ok-first.ensures c.in-Text.is) (let l = exits.longer c.args.lexemes.now c.in_ok-first.rest.now c.in_ok-first.first.now c.in_ok-first.ensures in omega arith) (rw (c.in_ok-text-in-Text.ensures, c.as_slice.ensures) at c.leaf-in-Text.ensures)

pub form-returns-in-Name : goal.form-returns-in-Name
form-returns-in-Name t c =
    exits.reads_on (spec.form c.args.depth) (spec.named c.in-Name.name c.in_ok-first.first.now.at) c.args.lexemes.now c.in_ok-first.rest.now c.named.result (exits.form_law c.args.depth c.args.lexemes.now c.in_ok-first.first.now c.in_ok-first.rest.now (symbol.Name c.in-Name.name) c.in_ok-first.ensures c.in-Name.is) (let l = exits.longer c.args.lexemes.now c.in_ok-first.rest.now c.in_ok-first.first.now c.in_ok-first.ensures in omega arith) c.named.ensures

pub form-returns-in-Function : goal.form-returns-in-Function
form-returns-in-Function t c =
    exits.reads_on (spec.form c.args.depth) (spec.call c.args.depth c.in-Function.function c.in_ok-first.first.now.at) c.args.lexemes.now c.in_ok-first.rest.now c.call.result (exits.form_law c.args.depth c.args.lexemes.now c.in_ok-first.first.now c.in_ok-first.rest.now (symbol.Function c.in-Function.function) c.in_ok-first.ensures c.in-Function.is) (let l = exits.longer c.args.lexemes.now c.in_ok-first.rest.now c.in_ok-first.first.now c.in_ok-first.ensures in omega arith) c.call.ensures

pub form-returns-in-Quantifier : goal.form-returns-in-Quantifier
form-returns-in-Quantifier t c =
    exits.reads_on (spec.form c.args.depth) (spec.quantified c.args.depth c.in-Quantifier.quantifier c.in_ok-first.first.now.at) c.args.lexemes.now c.in_ok-first.rest.now c.quantified.result (exits.form_law c.args.depth c.args.lexemes.now c.in_ok-first.first.now c.in_ok-first.rest.now (symbol.Quantifier c.in-Quantifier.quantifier) c.in_ok-first.ensures c.in-Quantifier.is) (let l = exits.longer c.args.lexemes.now c.in_ok-first.rest.now c.in_ok-first.first.now c.in_ok-first.ensures in omega arith) c.quantified.ensures

pub form-returns-in-Collector : goal.form-returns-in-Collector
form-returns-in-Collector t c =
    exits.reads_on (spec.form c.args.depth) (spec.collected c.args.depth c.in-Collector.collector c.in_ok-first.first.now.at) c.args.lexemes.now c.in_ok-first.rest.now c.collected.result (exits.form_law c.args.depth c.args.lexemes.now c.in_ok-first.first.now c.in_ok-first.rest.now (symbol.Collector c.in-Collector.collector) c.in_ok-first.ensures c.in-Collector.is) (let l = exits.longer c.args.lexemes.now c.in_ok-first.rest.now c.in_ok-first.first.now c.in_ok-first.ensures in omega arith) c.collected.ensures

pub form-returns-in-Mark : goal.form-returns-in-Mark
form-returns-in-Mark t c =
    exits.reads_on (spec.form c.args.depth) (spec.marked c.args.depth c.in-Mark.mark c.in_ok-first.first.now.at) c.args.lexemes.now c.in_ok-first.rest.now c.marked.result (exits.form_law c.args.depth c.args.lexemes.now c.in_ok-first.first.now c.in_ok-first.rest.now (symbol.Mark c.in-Mark.mark) c.in_ok-first.ensures c.in-Mark.is) (let l = exits.longer c.args.lexemes.now c.in_ok-first.rest.now c.in_ok-first.first.now c.in_ok-first.ensures in omega arith) c.marked.ensures

pub form-returns-in-Operator : goal.form-returns-in-Operator
form-returns-in-Operator t c =
    exits.stops_none c.no_tree.result (spec.form c.args.depth c.args.lexemes.now) (exits.form_law c.args.depth c.args.lexemes.now c.in_ok-first.first.now c.in_ok-first.rest.now (symbol.Operator c.in-Operator.field-0) c.in_ok-first.ensures c.in-Operator.is)

pub form-returns-in-Other : goal.form-returns-in-Other
form-returns-in-Other t c =
    exits.stops_none c.no_tree-in-Other.result (spec.form c.args.depth c.args.lexemes.now) (exits.form_law c.args.depth c.args.lexemes.now c.in_ok-first.first.now c.in_ok-first.rest.now symbol.Other c.in_ok-first.ensures c.in-Other.is)

pub call-returns-in_err-rest : goal.call-returns-in_err-rest
call-returns-in_err-rest t c =
    let p = err_from_is_err_and c.from_residual.result c.from_residual.ensures.1 in
    rw (p.1, p.2) (exits.stops_none c.in_err-rest.field-0.0 (spec.call c.args.depth c.args.function c.args.at c.args.lexemes.now) (laws.call_none c.args.depth c.args.function c.args.at c.args.lexemes.now c.in_err-rest.ensures))

pub call-returns-in_err-arguments : goal.call-returns-in_err-arguments
call-returns-in_err-arguments t c =
    let p = err_from_is_err_and c.from_residual-in_err-arguments.result c.from_residual-in_err-arguments.ensures.1 in
    rw (p.1, p.2) (laws.stops_on c.in_err-arguments.field-0.0 (spec.listing c.args.depth bracket.Round c.in_ok-rest.rest.now) (spec.call c.args.depth c.args.function c.args.at c.args.lexemes.now) (exits.call_stops c.args.depth c.args.function c.args.at c.args.lexemes.now c.in_ok-rest.rest.now c.in_ok-rest.ensures.0) c.in_err-arguments.ensures)

pub call-returns-in-Some : goal.call-returns-in-Some
call-returns-in-Some t c =
    let l = c.in_ok-rest.ensures.1 in
    let m = c.in_ok-arguments.ensures.1 in
    exits.reads_on (spec.call c.args.depth c.args.function c.args.at) (done c.in-Some.tree) c.args.lexemes.now c.in_ok-arguments.rest.now c.leaf.result (exits.call_found c.args.depth c.args.function c.args.at c.args.lexemes.now c.in_ok-rest.rest.now c.in_ok-arguments.arguments c.in_ok-arguments.rest.now c.in_ok-rest.ensures.0 c.in_ok-arguments.ensures.0 c.in-Some.tree (sym c.in-Some.ensures)) (omega arith) c.leaf.ensures

pub call-returns-in-None : goal.call-returns-in-None
call-returns-in-None t c =
    exits.stops_none c.no_tree.result (spec.call c.args.depth c.args.function c.args.at c.args.lexemes.now) (exits.call_refused c.args.depth c.args.function c.args.at c.args.lexemes.now c.in_ok-rest.rest.now c.in_ok-arguments.arguments c.in_ok-arguments.rest.now c.in_ok-rest.ensures.0 c.in_ok-arguments.ensures.0 (sym c.in-None.ensures))

pub quantified-returns-in_err-names : goal.quantified-returns-in_err-names
quantified-returns-in_err-names t c =
    let p = err_from_is_err_and c.from_residual.result c.from_residual.ensures.1 in
    rw (p.1, p.2) (laws.stops_on c.in_err-names.field-0.0 (grammar.bound_names c.args.lexemes.now) (spec.quantified c.args.depth c.args.quantifier c.args.at c.args.lexemes.now) (laws.quantified_none c.args.depth c.args.quantifier c.args.at c.args.lexemes.now) c.in_err-names.ensures)

pub quantified-returns-in_err-body : goal.quantified-returns-in_err-body
quantified-returns-in_err-body t c =
    let p = err_from_is_err_and c.from_residual-in_err-body.result c.from_residual-in_err-body.ensures.1 in
    rw (p.1, p.2) (exits.stops_made c.in_err-body.field-0.0 (formula.Quantified c.args.at c.args.quantifier c.in_ok-names.names) (spec.enclosed c.args.depth content.Inner sign.RoundClose) c.in_ok-names.rest.now (spec.quantified c.args.depth c.args.quantifier c.args.at c.args.lexemes.now) (laws.quantified_is c.args.depth c.args.quantifier c.args.at c.args.lexemes.now c.in_ok-names.names c.in_ok-names.rest.now c.in_ok-names.ensures.0) c.in_err-body.ensures)

pub quantified-returns : goal.quantified-returns
quantified-returns t c =
    let l = c.in_ok-names.ensures.1 in
    let m = c.in_ok-body.ensures.1 in
    rw c.in_ok-quantified_of.ensures
    (exits.reads_made (formula.Quantified c.args.at c.args.quantifier c.in_ok-names.names) (spec.enclosed c.args.depth content.Inner sign.RoundClose) c.in_ok-names.rest.now c.in_ok-body.body c.in_ok-body.rest.now (spec.quantified c.args.depth c.args.quantifier c.args.at c.args.lexemes.now) (laws.quantified_is c.args.depth c.args.quantifier c.args.at c.args.lexemes.now c.in_ok-names.names c.in_ok-names.rest.now c.in_ok-names.ensures.0) c.in_ok-body.ensures.0, omega arith)

pub collected-returns-in_err-names : goal.collected-returns-in_err-names
collected-returns-in_err-names t c =
    let p = err_from_is_err_and c.from_residual.result c.from_residual.ensures.1 in
    rw (p.1, p.2) (laws.stops_on c.in_err-names.field-0.0 (grammar.bound_names c.args.lexemes.now) (spec.collected c.args.depth c.args.collector c.args.at c.args.lexemes.now) (laws.collected_none c.args.depth c.args.collector c.args.at c.args.lexemes.now) c.in_err-names.ensures)

pub collected-returns-in_err-condition : goal.collected-returns-in_err-condition
collected-returns-in_err-condition t c =
    let p = err_from_is_err_and c.from_residual-in_err-condition.result c.from_residual-in_err-condition.ensures.1 in
    rw (p.1, p.2) (laws.stops_on c.in_err-condition.field-0.0 (spec.enclosed c.args.depth content.Inner sign.Bar c.in_ok-names.rest.now) (spec.collected c.args.depth c.args.collector c.args.at c.args.lexemes.now) (exits.collected_stops c.args.depth c.args.collector c.args.at c.args.lexemes.now c.in_ok-names.names c.in_ok-names.rest.now c.in_ok-names.ensures.0) c.in_err-condition.ensures)

pub collected-returns-in_err-body : goal.collected-returns-in_err-body
collected-returns-in_err-body t c =
    let p = err_from_is_err_and c.from_residual-in_err-body.result c.from_residual-in_err-body.ensures.1 in
    rw (p.1, p.2) (exits.stops_made c.in_err-body.field-0.0 (formula.Collected c.args.at c.args.collector c.in_ok-names.names c.in_ok-condition.condition) (spec.enclosed c.args.depth content.Inner sign.RoundClose) c.in_ok-condition.rest.now (spec.collected c.args.depth c.args.collector c.args.at c.args.lexemes.now) (exits.collected_then c.args.depth c.args.collector c.args.at c.args.lexemes.now c.in_ok-names.names c.in_ok-names.rest.now c.in_ok-names.ensures.0 c.in_ok-condition.condition c.in_ok-condition.rest.now c.in_ok-condition.ensures.0) c.in_err-body.ensures)

pub collected-returns : goal.collected-returns
collected-returns t c =
    let l = c.in_ok-names.ensures.1 in
    let m = c.in_ok-condition.ensures.1 in
    let n = c.in_ok-body.ensures.1 in
    rw c.in_ok-collected_of.ensures
    (exits.reads_made (formula.Collected c.args.at c.args.collector c.in_ok-names.names c.in_ok-condition.condition) (spec.enclosed c.args.depth content.Inner sign.RoundClose) c.in_ok-condition.rest.now c.in_ok-body.body c.in_ok-body.rest.now (spec.collected c.args.depth c.args.collector c.args.at c.args.lexemes.now) (exits.collected_then c.args.depth c.args.collector c.args.at c.args.lexemes.now c.in_ok-names.names c.in_ok-names.rest.now c.in_ok-names.ensures.0 c.in_ok-condition.condition c.in_ok-condition.rest.now c.in_ok-condition.ensures.0) c.in_ok-body.ensures.0, omega arith)

pub marked-returns-in-RoundOpen : goal.marked-returns-in-RoundOpen
marked-returns-in-RoundOpen t c =
    exits.reads_on (spec.marked c.args.depth c.args.mark c.args.at) (spec.enclosed c.args.depth (content.List operator.Maplet) sign.RoundClose) c.args.lexemes.now c.args.lexemes.now c.enclosed.result (exits.marked_law c.args.depth c.args.mark sign.RoundOpen c.args.at c.args.lexemes.now c.in-RoundOpen.is) (omega arith) c.enclosed.ensures

pub marked-returns-in-CurlyOpen : goal.marked-returns-in-CurlyOpen
marked-returns-in-CurlyOpen t c =
    exits.reads_on (spec.marked c.args.depth c.args.mark c.args.at) (spec.curly c.args.depth c.args.at) c.args.lexemes.now c.args.lexemes.now c.curly.result (exits.marked_law c.args.depth c.args.mark sign.CurlyOpen c.args.at c.args.lexemes.now c.in-CurlyOpen.is) (omega arith) c.curly.ensures

pub marked-returns-in-If : goal.marked-returns-in-If
marked-returns-in-If t c =
    exits.reads_on (spec.marked c.args.depth c.args.mark c.args.at) (spec.conditional c.args.depth c.args.at) c.args.lexemes.now c.args.lexemes.now c.conditional.result (exits.marked_law c.args.depth c.args.mark sign.If c.args.at c.args.lexemes.now c.in-If.is) (omega arith) c.conditional.ensures

pub marked-returns-in_err-items-in-SquareOpen : goal.marked-returns-in_err-items-in-SquareOpen
marked-returns-in_err-items-in-SquareOpen t c =
    let p = err_from_is_err_and c.from_residual.result c.from_residual.ensures.1 in
    rw (p.1, p.2) (exits.stops_made c.in_err-items-in-SquareOpen.field-0.0 (formula.Sequence c.args.at) (spec.listing c.args.depth bracket.Square) c.args.lexemes.now (spec.marked c.args.depth c.args.mark c.args.at c.args.lexemes.now) (exits.marked_law c.args.depth c.args.mark sign.SquareOpen c.args.at c.args.lexemes.now c.in-SquareOpen.is) c.in_err-items-in-SquareOpen.ensures)

pub marked-returns-in_ok-items-in-SquareOpen : goal.marked-returns-in_ok-items-in-SquareOpen
marked-returns-in_ok-items-in-SquareOpen t c =
    let m = c.in_ok-items-in-SquareOpen.ensures.1 in
    exits.reads_on (spec.marked c.args.depth c.args.mark c.args.at) (done (formula.Sequence c.args.at c.in_ok-items-in-SquareOpen.items)) c.args.lexemes.now c.in_ok-items-in-SquareOpen.rest.now c.leaf.result
    (exits.reads_made (formula.Sequence c.args.at) (spec.listing c.args.depth bracket.Square) c.args.lexemes.now c.in_ok-items-in-SquareOpen.items c.in_ok-items-in-SquareOpen.rest.now (spec.marked c.args.depth c.args.mark c.args.at c.args.lexemes.now) (exits.marked_law c.args.depth c.args.mark sign.SquareOpen c.args.at c.args.lexemes.now c.in-SquareOpen.is) c.in_ok-items-in-SquareOpen.ensures.0) (omega arith) c.leaf.ensures

pub marked-returns-in-Empty : goal.marked-returns-in-Empty
marked-returns-in-Empty t c =
    exits.reads_on (spec.marked c.args.depth c.args.mark c.args.at) (done (formula.Sequence c.args.at [])) c.args.lexemes.now c.args.lexemes.now c.leaf-in-Empty.result
    (exits.marked_law c.args.depth c.args.mark sign.Empty c.args.at c.args.lexemes.now c.in-Empty.is) (omega arith) (rw c.new.ensures at c.leaf-in-Empty.ensures)

pub marked-returns-in_default : goal.marked-returns-in_default
marked-returns-in_default t c =
    exits.stops_none c.no_tree.result (spec.marked c.args.depth c.args.mark c.args.at c.args.lexemes.now) (exits.marked_other c.args.depth c.args.mark c.args.at c.args.lexemes.now c.in_default.not-RoundOpen c.in_default.not-CurlyOpen c.in_default.not-SquareOpen c.in_default.not-Empty c.in_default.not-If)

pub curly-returns-in_err-body-in-Ok : goal.curly-returns-in_err-body-in-Ok
curly-returns-in_err-body-in-Ok t c =
    let p = err_from_is_err_and c.from_residual.result c.from_residual.ensures.1 in
    rw (p.1, p.2) (exits.stops_made c.in_err-body-in-Ok.field-0.0 (formula.Comprehension c.args.at c.in-Ok.names) (spec.enclosed c.args.depth content.Inner sign.CurlyClose) c.in-Ok.rest.now (spec.curly c.args.depth c.args.at c.args.lexemes.now) (laws.curly_names c.args.depth c.args.at c.args.lexemes.now c.in-Ok.names c.in-Ok.rest.now c.in-Ok.ensures.0) c.in_err-body-in-Ok.ensures)

pub curly-returns-in_ok-comprehension_of-in-Ok : goal.curly-returns-in_ok-comprehension_of-in-Ok
curly-returns-in_ok-comprehension_of-in-Ok t c =
    let l = c.in-Ok.ensures.1 in
    let m = c.in_ok-body-in-Ok.ensures.1 in
    rw c.in_ok-comprehension_of-in-Ok.ensures
    (exits.reads_made (formula.Comprehension c.args.at c.in-Ok.names) (spec.enclosed c.args.depth content.Inner sign.CurlyClose) c.in-Ok.rest.now c.in_ok-body-in-Ok.body c.in_ok-body-in-Ok.rest.now (spec.curly c.args.depth c.args.at c.args.lexemes.now) (laws.curly_names c.args.depth c.args.at c.args.lexemes.now c.in-Ok.names c.in-Ok.rest.now c.in-Ok.ensures.0) c.in_ok-body-in-Ok.ensures.0, omega arith)

pub curly-returns-in_err-items-in-Err-NoTree : goal.curly-returns-in_err-items-in-Err-NoTree
curly-returns-in_err-items-in-Err-NoTree t c =
    let p = err_from_is_err_and c.from_residual-in_err-items-in-Err-NoTree.result c.from_residual-in_err-items-in-Err-NoTree.ensures.1 in
    rw (p.1, p.2) (exits.stops_made c.in_err-items-in-Err-NoTree.field-0.0 (formula.Set c.args.at) (spec.listing c.args.depth bracket.Curly) c.args.lexemes.now (spec.curly c.args.depth c.args.at c.args.lexemes.now) (laws.curly_items c.args.depth c.args.at c.args.lexemes.now (rw c.in-Err-NoTree.field-0-is at c.in-Err-NoTree.ensures)) c.in_err-items-in-Err-NoTree.ensures)

pub curly-returns-in_ok-items-in-Err-NoTree : goal.curly-returns-in_ok-items-in-Err-NoTree
curly-returns-in_ok-items-in-Err-NoTree t c =
    let m = c.in_ok-items-in-Err-NoTree.ensures.1 in
    exits.reads_on (spec.curly c.args.depth c.args.at) (done (formula.Set c.args.at c.in_ok-items-in-Err-NoTree.items)) c.args.lexemes.now c.in_ok-items-in-Err-NoTree.rest.now c.leaf.result
    (exits.reads_made (formula.Set c.args.at) (spec.listing c.args.depth bracket.Curly) c.args.lexemes.now c.in_ok-items-in-Err-NoTree.items c.in_ok-items-in-Err-NoTree.rest.now (spec.curly c.args.depth c.args.at c.args.lexemes.now) (laws.curly_items c.args.depth c.args.at c.args.lexemes.now (rw c.in-Err-NoTree.field-0-is at c.in-Err-NoTree.ensures)) c.in_ok-items-in-Err-NoTree.ensures.0) (omega arith) c.leaf.ensures

pub conditional-returns-in_err-condition : goal.conditional-returns-in_err-condition
conditional-returns-in_err-condition t c =
    let p = err_from_is_err_and c.from_residual.result c.from_residual.ensures.1 in
    rw (p.1, p.2) (laws.stops_on c.in_err-condition.field-0.0 (spec.enclosed c.args.depth content.Part sign.Then c.args.lexemes.now) (spec.conditional c.args.depth c.args.at c.args.lexemes.now) (exits.conditional_stops c.args.depth c.args.at c.args.lexemes.now) c.in_err-condition.ensures)

pub conditional-returns-in_err-then : goal.conditional-returns-in_err-then
conditional-returns-in_err-then t c =
    let p = err_from_is_err_and c.from_residual-in_err-then.result c.from_residual-in_err-then.ensures.1 in
    rw (p.1, p.2) (laws.stops_on c.in_err-then.field-0.0 (spec.enclosed c.args.depth content.Part sign.Else c.in_ok-condition.rest.now) (spec.conditional c.args.depth c.args.at c.args.lexemes.now) (exits.conditional_lacks c.args.depth c.args.at c.args.lexemes.now c.in_ok-condition.condition c.in_ok-condition.rest.now c.in_ok-condition.ensures.0) c.in_err-then.ensures)

pub conditional-returns-in_err-other : goal.conditional-returns-in_err-other
conditional-returns-in_err-other t c =
    let p = err_from_is_err_and c.from_residual-in_err-other.result c.from_residual-in_err-other.ensures.1 in
    rw (p.1, p.2) (exits.stops_made c.in_err-other.field-0.0 (formula.If c.args.at c.in_ok-condition.condition c.in_ok-then.then) (spec.enclosed c.args.depth content.Part sign.End) c.in_ok-then.rest.now (spec.conditional c.args.depth c.args.at c.args.lexemes.now) (exits.conditional_then c.args.depth c.args.at c.args.lexemes.now c.in_ok-condition.condition c.in_ok-condition.rest.now c.in_ok-condition.ensures.0 c.in_ok-then.then c.in_ok-then.rest.now c.in_ok-then.ensures.0) c.in_err-other.ensures)

pub conditional-returns : goal.conditional-returns
conditional-returns t c =
    let l = c.in_ok-condition.ensures.1 in
    let m = c.in_ok-then.ensures.1 in
    let n = c.in_ok-other.ensures.1 in
    rw c.in_ok-conditional_of.ensures
    (exits.reads_made (formula.If c.args.at c.in_ok-condition.condition c.in_ok-then.then) (spec.enclosed c.args.depth content.Part sign.End) c.in_ok-then.rest.now c.in_ok-other.other c.in_ok-other.rest.now (spec.conditional c.args.depth c.args.at c.args.lexemes.now) (exits.conditional_then c.args.depth c.args.at c.args.lexemes.now c.in_ok-condition.condition c.in_ok-condition.rest.now c.in_ok-condition.ensures.0 c.in_ok-then.then c.in_ok-then.rest.now c.in_ok-then.ensures.0) c.in_ok-other.ensures.0, omega arith)

pub enclosed-returns-in_err-tree : goal.enclosed-returns-in_err-tree
enclosed-returns-in_err-tree t c =
    let p = err_from_is_err_and c.from_residual.result c.from_residual.ensures.1 in
    rw (p.1, p.2) (laws.stops_on c.in_err-tree.field-0.0 (spec.contents c.args.depth c.args.content c.args.lexemes.now) (spec.enclosed c.args.depth c.args.content c.args.close c.args.lexemes.now) (laws.enclosed_none c.args.depth c.args.content c.args.close c.args.lexemes.now) c.in_err-tree.ensures)

pub enclosed-returns-in_err-rest : goal.enclosed-returns-in_err-rest
enclosed-returns-in_err-rest t c =
    let p = err_from_is_err_and c.from_residual-in_err-rest.result c.from_residual-in_err-rest.ensures.1 in
    rw (p.1, p.2) (exits.stops_none c.in_err-rest.field-0.0 (spec.enclosed c.args.depth c.args.content c.args.close c.args.lexemes.now) (exits.enclosed_to c.args.depth c.args.content c.args.close c.args.lexemes.now c.in_ok-tree.tree c.in_ok-tree.rest.now None c.in_ok-tree.ensures.0 c.in_err-rest.ensures))

pub enclosed-returns : goal.enclosed-returns
enclosed-returns t c =
    let l = c.in_ok-tree.ensures.1 in
    let m = c.in_ok-rest.ensures.1 in
    (exits.enclosed_to c.args.depth c.args.content c.args.close c.args.lexemes.now c.in_ok-tree.tree c.in_ok-tree.rest.now (Some c.in_ok-rest.rest.now) c.in_ok-tree.ensures.0 c.in_ok-rest.ensures.0, omega arith)

pub contents-returns-then-depth-eq0 : goal.contents-returns-then-depth-eq0
contents-returns-then-depth-eq0 t c =
    exits.stops_none c.no_tree.result (spec.contents c.args.depth c.args.content c.args.lexemes.now) (exits.contents_zero c.args.depth c.args.content c.args.lexemes.now c.if-depth-eq0.true)

pub contents-returns-in-Inner : goal.contents-returns-in-Inner
contents-returns-in-Inner t c =
    let deeper : c.args.depth ≡ suc (c.args.depth - 1) = omega (arith, c.if-depth-eq0.false) in
    exits.reads_on (spec.contents c.args.depth c.args.content) (spec.piece (c.args.depth - 1) grammar.bracketed) c.args.lexemes.now c.args.lexemes.now c.formula.result (exits.contents_law c.args.content content.Inner c.args.depth (c.args.depth - 1) c.args.lexemes.now c.in-Inner.is deeper) (omega arith) c.formula.ensures

pub contents-returns-in-Part : goal.contents-returns-in-Part
contents-returns-in-Part t c =
    let deeper : c.args.depth ≡ suc (c.args.depth - 1) = omega (arith, c.if-depth-eq0.false) in
    exits.reads_on (spec.contents c.args.depth c.args.content) (spec.piece (c.args.depth - 1) grammar.plain) c.args.lexemes.now c.args.lexemes.now c.formula-in-Part.result (exits.contents_law c.args.content content.Part c.args.depth (c.args.depth - 1) c.args.lexemes.now c.in-Part.is deeper) (omega arith) c.formula-in-Part.ensures

pub contents-returns-in-List : goal.contents-returns-in-List
contents-returns-in-List t c =
    let deeper : c.args.depth ≡ suc (c.args.depth - 1) = omega (arith, c.if-depth-eq0.false) in
    exits.reads_on (spec.contents c.args.depth c.args.content) (spec.list (c.args.depth - 1) c.in-List.operator) c.args.lexemes.now c.args.lexemes.now c.list.result (exits.contents_law c.args.content (content.List c.in-List.operator) c.args.depth (c.args.depth - 1) c.args.lexemes.now c.in-List.is deeper) (omega arith) c.list.ensures

pub listing-returns-in-Ok : goal.listing-returns-in-Ok
listing-returns-in-Ok t c =
    let l = c.in-Ok.ensures.1 in
    rw c.new.ensures (laws.listing_empty c.args.depth c.args.bracket c.args.lexemes.now c.in-Ok.rest.now (rw c.close_of.ensures at c.in-Ok.ensures.0), omega arith)

pub listing-returns-in_err-all-in-Err : goal.listing-returns-in_err-all-in-Err
listing-returns-in_err-all-in-Err t c =
    let p = err_from_is_err_and c.from_residual.result c.from_residual.ensures.1 in
    rw (p.1, p.2) (laws.stops_on c.in_err-all-in-Err.field-0.0 (spec.items c.args.depth c.args.lexemes.now) (spec.listing c.args.depth c.args.bracket c.args.lexemes.now) (laws.listing_none c.args.depth c.args.bracket c.args.lexemes.now (rw c.close_of.ensures at c.in-Err.ensures)) c.in_err-all-in-Err.ensures)

pub listing-returns-in_err-rest-in-Err : goal.listing-returns-in_err-rest-in-Err
listing-returns-in_err-rest-in-Err t c =
    let p = err_from_is_err_and c.from_residual-in_err-rest-in-Err.result c.from_residual-in_err-rest-in-Err.ensures.1 in
    rw (p.1, p.2) (exits.stops_none c.in_err-rest-in-Err.field-0.0 (spec.listing c.args.depth c.args.bracket c.args.lexemes.now) (exits.listing_to c.args.depth c.args.bracket c.args.lexemes.now c.in_ok-all-in-Err.all c.in_ok-all-in-Err.rest.now None (rw c.close_of.ensures at c.in-Err.ensures) c.in_ok-all-in-Err.ensures.0 (rw c.close_of-in-Err.ensures at c.in_err-rest-in-Err.ensures)))

pub listing-returns-in_ok-rest-in-Err : goal.listing-returns-in_ok-rest-in-Err
listing-returns-in_ok-rest-in-Err t c =
    let l = c.in_ok-all-in-Err.ensures.1 in
    let m = c.in_ok-rest-in-Err.ensures.1 in
    (exits.listing_to c.args.depth c.args.bracket c.args.lexemes.now c.in_ok-all-in-Err.all c.in_ok-all-in-Err.rest.now (Some c.in_ok-rest-in-Err.rest.now) (rw c.close_of.ensures at c.in-Err.ensures) c.in_ok-all-in-Err.ensures.0 (rw c.close_of-in-Err.ensures at c.in_ok-rest-in-Err.ensures.0), omega arith)

pub items-returns-in_err-first : goal.items-returns-in_err-first
items-returns-in_err-first t c =
    let p = err_from_is_err_and c.from_residual.result c.from_residual.ensures.1 in
    rw (p.1, p.2) (laws.stops_on c.in_err-first.field-0.0 (spec.contents c.args.depth content.Inner c.args.lexemes.now) (spec.items c.args.depth c.args.lexemes.now) (laws.items_none c.args.depth c.args.lexemes.now) c.in_err-first.ensures)

pub items-loop-after-init : goal.items-loop-after-init
items-loop-after-init t c =
    rw (c.in_ok-push.ensures.ok, c.new-all.ensures, c.into_inner.ensures) (exits.items_begin c.args.depth c.args.lexemes.now c.in_ok-first.first c.in_ok-first.rest.now c.in_ok-first.ensures.0 c.in_ok-first.ensures.1)

pub items-loop-after-preserved : goal.items-loop-after-preserved
items-loop-after-preserved t c =
    let l = c.in-Some.ensures.1 in
    let m = c.in_ok-item.ensures.1 in
    rw (c.in_ok-push-2.ensures.ok, c.into_inner-in-Some.ensures)
    (exits.items_go c.args.depth c.args.lexemes.now c.loop-after.all c.loop-after.rest.now c.loop-after.invariant c.in-Some.after.now c.in-Some.ensures.0 c.in_ok-item.item c.in_ok-item.further.now c.in_ok-item.ensures.0 (omega arith))

pub items-returns-in_err-item : goal.items-returns-in_err-item
items-returns-in_err-item t c =
    let p = err_from_is_err_and c.from_residual-in_err-item.result c.from_residual-in_err-item.ensures.1 in
    rw (p.1, p.2) (laws.stops_on c.in_err-item.field-0.0 (spec.contents c.args.depth content.Inner c.in-Some.after.now) (spec.items c.args.depth c.args.lexemes.now) (exits.items_stop c.args.depth c.args.lexemes.now c.loop-after.all c.loop-after.rest.now c.loop-after.invariant c.in-Some.after.now c.in-Some.ensures.0) c.in_err-item.ensures)
