use Rattle.std.proofs.Common.{arith, length, subst}
use Rattle.type_count.specs.declared.counting.Verdict.TheVariants as verdict
use Rattle.type_count.specs.Counted.{IsCounted}
use Rattle.type_count.proofs.Countings as countings
use Rattle.type_count.proofs.counting.decide.Goals as goal

pub returns-then-many-clause-counted : goal.returns-then-many-clause-counted
returns-then-many-clause-counted c =
    countings.counted_many c.args.limit c.args.parts c.args.rows.now c.loop-i.many (subst (λ n. IsCounted c.args.limit c.args.parts c.args.rows.now n c.loop-i.many) (let f = c.loop-i-test.false in let g = c.loop-i.auto.i-end in omega arith) c.loop-i.invariant) c.if-many.true

pub returns-then-many-clause-numbered : goal.returns-then-many-clause-numbered
returns-then-many-clause-numbered c =
    countings.counted_numbered c.args.limit c.args.parts c.args.rows.now c.loop-i.many verdict.Many (subst (λ n. IsCounted c.args.limit c.args.parts c.args.rows.now n c.loop-i.many) (let f = c.loop-i-test.false in let g = c.loop-i.auto.i-end in omega arith) c.loop-i.invariant)

pub returns-else-many-clause-counted : goal.returns-else-many-clause-counted
returns-else-many-clause-counted c =
    countings.counted_one c.args.limit c.args.parts c.args.rows.now c.loop-i.many c.requires.inside (subst (λ n. IsCounted c.args.limit c.args.parts c.args.rows.now n c.loop-i.many) (let f = c.loop-i-test.false in let g = c.loop-i.auto.i-end in omega arith) c.loop-i.invariant) c.if-many.false

pub returns-else-many-clause-numbered : goal.returns-else-many-clause-numbered
returns-else-many-clause-numbered c =
    countings.counted_numbered c.args.limit c.args.parts c.args.rows.now c.loop-i.many verdict.One (subst (λ n. IsCounted c.args.limit c.args.parts c.args.rows.now n c.loop-i.many) (let f = c.loop-i-test.false in let g = c.loop-i.auto.i-end in omega arith) c.loop-i.invariant)

pub returns-else-many-clause-readable : goal.returns-else-many-clause-readable
returns-else-many-clause-readable c =
    countings.counted_readable c.args.limit c.args.parts c.args.rows.now c.loop-i.many c.requires.inside (subst (λ n. IsCounted c.args.limit c.args.parts c.args.rows.now n c.loop-i.many) (let f = c.loop-i-test.false in let g = c.loop-i.auto.i-end in omega arith) c.loop-i.invariant) c.if-many.false
