use Rattle.turn_lock.specs.Turns.{tag_of}
use Rattle.turn_list.specs.Lists.{all_known, all_tags}
use Rattle.turn_rows.specs.declared.judged.Judged.{Judged}
use Rattle.turn_rows.proofs.Rows.{can_be_opened, tags_are, two_each}
use Rattle.turn_rows.proofs.spaces.open_judged.Goals as goal

pub open_all-requires : goal.open_all-requires
open_all-requires g c = can_be_opened g.J.Judge.good c.args.judge.now c.loop.lists.items c.loop.invariant

pub returns-clause-judge : goal.returns-clause-judge
returns-clause-judge g c = tags_are g.J.Judge.good c.args.judge.now (all_tags (λ (judged : Judged g.row.J.Denot). judged.by.value) c.in_ok-turns.turns.items) c.loop.lists.items c.in_ok-turns.ensures.turns.1 c.loop.invariant

pub returns-clause-two : goal.returns-clause-two
returns-clause-two g c = two_each (all_known c.in_ok-turns.passes.items) c.loop.lists.items c.in_ok-turns.ensures.passes
