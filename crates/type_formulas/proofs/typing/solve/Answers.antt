use Rattle.std.proofs.Common.{length, true, false, arith, ◌≤◌, subst}
use Rattle.std.specs.Prelude.{Ok}
use Rattle.type_schemes.specs.Growing.{Demands}
use Rattle.type_formulas.specs.Typings.{AreKnown, all_known}
use Rattle.type_formulas.proofs.Answering.{solved_none, solved_all, open_inside}
use Rattle.type_formulas.proofs.typing.solve.Goals as goal

pub know_all-requires-clause-table : goal.know_all-requires-clause-table
know_all-requires-clause-table c = c.in_ok-rows.ensures.table

pub know_all-requires-clause-inside : goal.know_all-requires-clause-inside
know_all-requires-clause-inside c = let k = c.in_ok-rows.ensures.count in let h = c.requires.known in let e = c.in_ok-count.ensures in omega arith

pub type_forms-requires-clause-table : goal.type_forms-requires-clause-table
type_forms-requires-clause-table c =
    (subst (λ b. Demands c.in_ok-rows.rows.items c.know_all.new.rows.items (AreKnown (all_known c.args.known.now)) (Ok b)) c.if-not-branch.false c.in_ok-know_all.ensures).table

pub type_forms-requires-clause-parts : goal.type_forms-requires-clause-parts
type_forms-requires-clause-parts c =
    open_inside c.args.parts c.in_ok-rows.rows.items c.know_all.new.rows.items (AreKnown (all_known c.args.known.now)) c.in_ok-rows.ensures
    (subst (λ b. Demands c.in_ok-rows.rows.items c.know_all.new.rows.items (AreKnown (all_known c.args.known.now)) (Ok b)) c.if-not-branch.false c.in_ok-know_all.ensures)

pub returns-then-not-branch : goal.returns-then-not-branch
returns-then-not-branch c =
    solved_none 500 c.args.parts c.in_ok-rows.rows.items (all_known c.args.known.now) c.args.forms.items c.in_ok-rows.ensures c.requires.forms
    (subst (λ b. Demands c.in_ok-rows.rows.items c.know_all.new.rows.items (AreKnown (all_known c.args.known.now)) (Ok b)) c.if-not-branch.true c.in_ok-know_all.ensures)

pub returns : goal.returns
returns c =
    solved_all 500 c.args.parts c.in_ok-rows.rows.items (all_known c.args.known.now) c.args.forms.items c.in_ok-rows.ensures c.requires.forms c.know_all.new.rows.items
    (subst (λ b. Demands c.in_ok-rows.rows.items c.know_all.new.rows.items (AreKnown (all_known c.args.known.now)) (Ok b)) c.if-not-branch.false c.in_ok-know_all.ensures)
    c.type_forms.result c.type_forms.ensures
