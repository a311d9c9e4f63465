use Rattle.std.proofs.Common.{◌≡◌, ◌++◌, drop}
use Rattle.session_words.specs.Replies.{dests}
use Rattle.session_core.specs.Moving.{packed_steps}
use Rattle.session_core.proofs.lists.share_dests.Given as goal

abbrev pub invariant-loop-list : goal.invariant-loop-list
invariant-loop-list l = l.all ++ dests (packed_steps (drop l.list-index l.lists)) ≡ dests (packed_steps l.lists)
