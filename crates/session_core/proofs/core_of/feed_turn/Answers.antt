use Rattle.session_core.proofs.Walks.{if_ok_map}
use Rattle.session_core.proofs.core_of.feed_turn.Goals as goal

pub returns-in-Ok-clause-turn : goal.returns-in-Ok-clause-turn
returns-in-Ok-clause-turn c = if_ok_map c.settle.result _ _ (λ turn s. (c.in-Ok.next, c.in-Ok.ensures, s)) c.settle.ensures.settled
