use Rattle.std.proofs.Common.{◌≡◌, ◌≤◌, ◌<◌, length, true, false, sym, subst}
use Rattle.std.specs.Prelude.{Ok}
use Rattle.type_schemes.specs.Growing.{Demands}
use Rattle.type_formulas.specs.Typings.{IsAt, all_known}
use Rattle.type_formulas.proofs.Rows.{knowing_none, knowing_inside, knowing_more, knowing_clash, knowing_all}
use Rattle.type_formulas.proofs.known.know_all.Goals as goal

pub loop-i-init : goal.loop-i-init
loop-i-init c = knowing_none c.args.rows.now.items (all_known c.args.known.now) c.requires.table

pub know_at-requires-clause-table : goal.know_at-requires-clause-table
know_at-requires-clause-table c = c.loop-i.invariant.extends.table

pub know_at-requires-clause-row : goal.know_at-requires-clause-row
know_at-requires-clause-row c =
    knowing_inside c.args.rows.now.items c.loop-i.rows.items (all_known c.args.known.now) c.loop-i.i (subst (λ n. n ≤ length c.args.rows.now.items) c.requires.all c.requires.inside) (subst (λ n. c.loop-i.i < n) c.requires.all c.loop-i-test.true) c.loop-i.invariant

pub loop-i-preserved : goal.loop-i-preserved
loop-i-preserved c =
    knowing_more c.args.rows.now.items c.loop-i.rows.items (all_known c.args.known.now) c.loop-i.i (subst (λ n. n ≤ length c.args.rows.now.items) c.requires.all c.requires.inside) (subst (λ n. c.loop-i.i < n) c.requires.all c.loop-i-test.true) c.loop-i.invariant c.know_at.new.rows.items
    (subst (λ b. Demands c.loop-i.rows.items c.know_at.new.rows.items (IsAt (all_known c.args.known.now) c.loop-i.i) (Ok b)) c.if-not-branch.false c.in_ok-know_at.ensures)

pub returns-then-not-branch : goal.returns-then-not-branch
returns-then-not-branch c =
    knowing_clash c.args.rows.now.items c.loop-i.rows.items (all_known c.args.known.now) c.loop-i.i (subst (λ n. n ≤ length c.args.rows.now.items) c.requires.all c.requires.inside) (subst (λ n. c.loop-i.i < n) c.requires.all c.loop-i-test.true) c.loop-i.invariant
    (subst (λ b. Demands c.loop-i.rows.items c.know_at.new.rows.items (IsAt (all_known c.args.known.now) c.loop-i.i) (Ok b)) c.if-not-branch.true c.in_ok-know_at.ensures)

pub returns : goal.returns
returns c = knowing_all c.args.rows.now.items c.loop-i.rows.items (all_known c.args.known.now) c.loop-i.i (subst (λ n. n ≤ c.loop-i.i) c.requires.all c.loop-i-test.false) c.loop-i.invariant
