use Rattle.std.proofs.Common.{◌≡◌, ◌<◌, ◌≤◌, ◌+◌, ◌-◌, ◌++◌, length, length-append, arith}
use Rattle.type_formulas.proofs.Rows.{at_first, at_second, at_third, at_fourth}
use Rattle.type_formulas.proofs.known.know_at.Goals as goal

pub returns-then-i-known : goal.returns-then-i-known
returns-then-i-known c =
    at_first c.args.known.now.sets.now c.args.known.now.constants.now c.args.known.now.variables.now c.args.known.now.params.now c.args.i c.args.rows.now.items c.know.new.rows.items c.index-known-i.result c.know.result
    c.if-i-known.true c.index-known-i.is c.know.ensures

pub returns-then-j-known : goal.returns-then-j-known
returns-then-j-known c =
    let past = c.if-i-known.false in
    at_second c.args.known.now.sets.now c.args.known.now.constants.now c.args.known.now.variables.now c.args.known.now.params.now c.args.i (c.args.i - length c.args.known.now.sets.now) c.args.rows.now.items c.know-then-j-known.new.rows.items c.index-known-j.result c.know-then-j-known.result
    (omega arith) c.if-j-known.true c.index-known-j.is c.know-then-j-known.ensures

pub returns-then-k-known : goal.returns-then-k-known
returns-then-k-known c =
    let past = c.if-i-known.false in
    let further = c.if-j-known.false in
    at_third c.args.known.now.sets.now c.args.known.now.constants.now c.args.known.now.variables.now c.args.known.now.params.now c.args.i (c.args.i - length c.args.known.now.sets.now - length c.args.known.now.constants.now) c.args.rows.now.items c.know-then-k-known.new.rows.items c.index-known-k.result c.know-then-k-known.result
    (omega arith) c.if-k-known.true c.index-known-k.is c.know-then-k-known.ensures

pub returns : goal.returns
returns c =
    let past = c.if-i-known.false in
    let further = c.if-j-known.false in
    let last = c.if-k-known.false in
    let inside = c.requires.inside in
    let one = length-append c.args.known.now.sets.now c.args.known.now.constants.now in
    let two = length-append (c.args.known.now.sets.now ++ c.args.known.now.constants.now) c.args.known.now.variables.now in
    let three = length-append (c.args.known.now.sets.now ++ c.args.known.now.constants.now ++ c.args.known.now.variables.now) c.args.known.now.params.now in
    at_fourth c.args.known.now.sets.now c.args.known.now.constants.now c.args.known.now.variables.now c.args.known.now.params.now c.args.i (c.args.i - length c.args.known.now.sets.now - length c.args.known.now.constants.now - length c.args.known.now.variables.now) c.args.rows.now.items c.know-2.new.rows.items c.index-known-l.result c.know-2.result
    (omega arith) (omega arith) c.index-known-l.is c.know-2.ensures
