use Rattle.std.proofs.Common.{arith, ◌≤◌, ◌-◌, subst, sym, refl}
use Rattle.std.specs.Prelude.{Ok, Some, None}
use Rattle.type_table.specs.TableLaws.{set_within, first_within, second_within}
use Rattle.type_count.specs.Telling.{Tells}
use Rattle.type_count.proofs.Tellings as tellings
use Rattle.type_count.proofs.telling.+tell.Goals as goal

pub tell-requires : goal.tell-requires
tell-requires t c = (
  (let d = c.decreases in let f = c.if-budget-eq0.false in omega arith),
  (
    c.requires.table,
    set_within c.args.rows.now c.root-end.result c.in-Set.j c.requires.table c.in-Set.is,
  ),
)

pub tell-requires-in-Pair : goal.tell-requires-in-Pair
tell-requires-in-Pair t c = (
  (let d = c.decreases in let f = c.if-budget-eq0.false in omega arith),
  (
    c.requires.table,
    first_within c.args.rows.now c.root-end.result c.in-Pair.j c.in-Pair.k c.requires.table c.in-Pair.is,
  ),
)

pub tell-requires-in-Pair-2 : goal.tell-requires-in-Pair-2
tell-requires-in-Pair-2 t c =
    let told = subst (λ o. Tells c.args.rows.now c.in-Pair.j (c.args.budget - 1) (Ok o)) c.in-Some-2.is c.in_ok-first-in-Pair.ensures in (
      (let d = c.decreases in let f = c.if-budget-eq0.false in let e = told.1 in omega arith),
      (
        c.requires.table,
        second_within c.args.rows.now c.root-end.result c.in-Pair.j c.in-Pair.k c.requires.table c.in-Pair.is,
      ),
    )

pub returns-in-Basic : goal.returns-in-Basic
returns-in-Basic t c =
    tellings.tell_basic c.args.rows.now c.args.i c.root-end.result c.args.budget c.root-end.ensures (let f = c.if-budget-eq0.false in omega arith) c.in-Basic.basic (record { ty = c.basic_type.result; left = c.args.budget - 1 }) c.in-Basic.is c.basic_type.ensures refl

pub returns-in-None : goal.returns-in-None
returns-in-None t c =
    tellings.tell_set_none c.args.rows.now c.args.i c.root-end.result c.args.budget c.root-end.ensures (let f = c.if-budget-eq0.false in omega arith) c.in-Set.j c.in-Set.is
    (subst (λ o. Tells c.args.rows.now c.in-Set.j (c.args.budget - 1) (Ok o)) c.in-None.is c.in_ok-tell-in-Set.ensures)

pub returns-in_default : goal.returns-in_default
returns-in_default t c =
    tellings.tell_first_none c.args.rows.now c.args.i c.root-end.result c.args.budget c.root-end.ensures (let f = c.if-budget-eq0.false in omega arith) c.in-Pair.j c.in-Pair.k c.in-Pair.is
    (subst (λ o. Tells c.args.rows.now c.in-Pair.j (c.args.budget - 1) (Ok o)) c.in_default.is c.in_ok-first-in-Pair.ensures)

pub returns-in-None-2 : goal.returns-in-None-2
returns-in-None-2 t c =
    let told = subst (λ o. Tells c.args.rows.now c.in-Pair.j (c.args.budget - 1) (Ok o)) c.in-Some-2.is c.in_ok-first-in-Pair.ensures in
    tellings.tell_second_none c.args.rows.now c.args.i c.root-end.result c.args.budget c.root-end.ensures (let f = c.if-budget-eq0.false in omega arith) c.in-Pair.j c.in-Pair.k c.in-Some-2.first c.in-Pair.is told
    (subst (λ o. Tells c.args.rows.now c.in-Pair.k c.in-Some-2.first.left (Ok o)) c.in-None-2.is c.in_ok-tell-in-Pair.ensures)

pub returns-in_ok-set_of-in-Some : goal.returns-in_ok-set_of-in-Some
returns-in_ok-set_of-in-Some t c =
    let made = c.in_ok-set_of-in-Some.ensures in
    tellings.tell_set c.args.rows.now c.args.i c.root-end.result c.args.budget c.root-end.ensures (let f = c.if-budget-eq0.false in omega arith) c.in-Set.j c.in-Some.told c.in_ok-set_of-in-Some.field-0 c.in-Set.is
    (subst (λ o. Tells c.args.rows.now c.in-Set.j (c.args.budget - 1) (Ok o)) c.in-Some.is c.in_ok-tell-in-Set.ensures) made.0 made.1

pub returns-in_ok-pair_of-in-Some-3 : goal.returns-in_ok-pair_of-in-Some-3
returns-in_ok-pair_of-in-Some-3 t c =
    let made = c.in_ok-pair_of-in-Some-3.ensures in
    tellings.tell_pair c.args.rows.now c.args.i c.root-end.result c.args.budget c.root-end.ensures (let f = c.if-budget-eq0.false in omega arith) c.in-Pair.j c.in-Pair.k c.in-Some-2.first c.in-Some-3.second c.in_ok-pair_of-in-Some-3.field-0 c.in-Pair.is
    (subst (λ o. Tells c.args.rows.now c.in-Pair.j (c.args.budget - 1) (Ok o)) c.in-Some-2.is c.in_ok-first-in-Pair.ensures)
    (subst (λ o. Tells c.args.rows.now c.in-Pair.k c.in-Some-2.first.left (Ok o)) c.in-Some-3.is c.in_ok-tell-in-Pair.ensures) made.0 made.1
