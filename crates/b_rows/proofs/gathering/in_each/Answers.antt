use Rattle.ascending.specs.Members.{all_in, in_at}
use Rattle.std.proofs.Common.{arith, sym, subst}
use Rattle.ascending.specs.Ascending.{In}
use Rattle.b_values.specs.ValueLaws.{elements_ascend}
use Rattle.b_values.specs.Values.{IsValue}
use Rattle.b_rows.proofs.gathering.in_each.Goals as goal

pub is_among-requires : goal.is_among-requires
is_among-requires c =
    rw c.members.ensures (elements_ascend _ (all_in IsValue c.args.sets.now c.requires c.set-item.result
    (subst (λ w. In w c.args.sets.now) (sym c.set-item.is) (in_at c.args.sets.now c.loop-set.set-index c.set-item.result (omega arith)))))
