use Rattle.std.proofs.Common.{sym, subst, ◌+◌, ◌∙◌, arith}
use Rattle.type_table.specs.Tables.{row_at}
use Rattle.type_table.proofs.Links.{FlatBelow, flat_root, flat_link, no_link}
use Rattle.type_table.proofs.unifying.flatten.Goals as goal
use Rattle.type_table.proofs.unifying.flatten.Goals.{in-Same, in_default}

pub loop-i-preserved : goal.loop-i-preserved
loop-i-preserved c = elim c.match-rows-i.branch [
  | in-Same w ↦
      subst (λ rows. FlatBelow c.args.rows.now rows (c.loop-i.i + 1)) (sym (w.rows-is ∙ w.shorten.ensures))
      (flat_link c.args.rows.now c.loop-i.rows c.loop-i.i w.in-Same.next (let h = c.loop-i-test.true in let g = c.loop-i.auto.i-end in omega arith) c.loop-i.invariant w.in-Same.is)
  | in_default w ↦
      subst (λ rows. FlatBelow c.args.rows.now rows (c.loop-i.i + 1)) (sym w.rows-is)
      (flat_root c.args.rows.now c.loop-i.rows c.loop-i.i c.loop-i.invariant (no_link (row_at c.loop-i.rows c.loop-i.i) w.in_default.not-Same))
]
