use Rattle.std.proofs.Common.{◌≡◌, take}
use Rattle.b_summaries.specs.Making.{no_shares}
use Rattle.b_summaries.proofs.gathering.no_shares.Given as goal

-- those so far
abbrev pub invariant-loop-name : goal.invariant-loop-name
invariant-loop-name l = l.shares ≡ no_shares (take l._name-index l.params)
