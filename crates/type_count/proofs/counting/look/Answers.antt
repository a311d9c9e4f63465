use Rattle.std.proofs.Common.{arith, ◌≤◌}
use Rattle.type_count.proofs.Countings as countings
use Rattle.type_count.proofs.counting.look.Goals as goal
use Rattle.type_count.proofs.counting.look.Goals.{else-rest-via-then-rest+else-i-parts, else-rest-via-else-rest}

pub returns-in-Same : goal.returns-in-Same
returns-in-Same c = countings.count_link c.args.limit c.args.parts c.args.rows.now c.args.i c.in-Same.field-0 c.requires.table c.in-Same.is c.args.many c.requires.counted

pub returns-else-rest : goal.returns-else-rest
returns-else-rest c = elim c.else-rest.branch [
  | else-rest-via-then-rest+else-i-parts w ↦
      countings.count_past c.args.limit c.args.parts c.args.rows.now c.args.i c.in-Some.rest.left c.in-Some.rest.open c.args.many c.requires.counted c.in-Some.ensures (let f = w.if-i-parts.false in omega arith)
  | else-rest-via-else-rest w ↦
      countings.count_shut c.args.limit c.args.parts c.args.rows.now c.args.i c.in-Some.rest.left c.in-Some.rest.open c.args.many c.requires.counted c.in-Some.ensures w.if-rest.false
]
