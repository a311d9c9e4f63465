use Rattle.std.proofs.Common.{arith, ◌≤◌, ◌-◌}
use Rattle.type_table.specs.TableLaws.{set_within, first_within, second_within}
use Rattle.type_count.proofs.Spending as spending
use Rattle.type_count.proofs.counting.+spend.Goals as goal

pub spend-requires : goal.spend-requires
spend-requires t c = (
  (let d = c.decreases in let f = c.if-budget-eq0.false in omega arith),
  (
    c.requires.table,
    set_within c.args.rows.now c.root-end.result c.in-Set.j c.requires.table c.in-Set.is,
  ),
)

pub spend-requires-in-Pair : goal.spend-requires-in-Pair
spend-requires-in-Pair t c = (
  (let d = c.decreases in let f = c.if-budget-eq0.false in omega arith),
  (
    c.requires.table,
    first_within c.args.rows.now c.root-end.result c.in-Pair.j c.in-Pair.k c.requires.table c.in-Pair.is,
  ),
)

pub spend-requires-in-Some : goal.spend-requires-in-Some
spend-requires-in-Some t c = (
  (let d = c.decreases in let f = c.if-budget-eq0.false in let e = c.in-Some.ensures.sum in let n = c.in-Some.ensures.some in omega arith),
  (
    c.requires.table,
    second_within c.args.rows.now c.root-end.result c.in-Pair.j c.in-Pair.k c.requires.table c.in-Pair.is,
  ),
)

pub returns-in-Set : goal.returns-in-Set
returns-in-Set t c =
    spending.at_set c.args.rows.now c.args.i c.root-end.result c.args.budget c.root-end.ensures (let f = c.if-budget-eq0.false in omega arith) c.in-Set.j c.in-Set.is c.spend.result c.spend.ensures

pub returns-in-None : goal.returns-in-None
returns-in-None t c =
    spending.at_pair_first c.args.rows.now c.args.i c.root-end.result c.args.budget c.root-end.ensures (let f = c.if-budget-eq0.false in omega arith) c.in-Pair.j c.in-Pair.k c.in-Pair.is c.in-None.ensures

pub returns-then-first : goal.returns-then-first
returns-then-first t c =
    spending.at_pair_one c.args.rows.now c.args.i c.root-end.result c.args.budget c.root-end.ensures (let f = c.if-budget-eq0.false in omega arith) c.in-Pair.j c.in-Pair.k c.in-Some.first.left c.in-Some-spend.second.left c.in-Some.first.open c.in-Some-spend.second.open c.in-Pair.is c.if-first.true c.in-Some.ensures c.in-Some-spend.ensures

pub returns-else-first : goal.returns-else-first
returns-else-first t c =
    spending.at_pair_other c.args.rows.now c.args.i c.root-end.result c.args.budget c.root-end.ensures (let f = c.if-budget-eq0.false in omega arith) c.in-Pair.j c.in-Pair.k c.in-Some.first.left c.in-Some-spend.second.left c.in-Some.first.open c.in-Some-spend.second.open c.in-Pair.is c.if-first.false c.in-Some.ensures c.in-Some-spend.ensures
