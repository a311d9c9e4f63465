use Rattle.std.proofs.Common.{◌≡◌, drop}
use Rattle.b_summaries.specs.Making.{gathered, no_shares}
use Rattle.b_summaries.proofs.gathering.gathered.Given as goal

-- what is gathered so far, and then the rest
abbrev pub invariant-loop-entry : goal.invariant-loop-entry
invariant-loop-entry l = gathered l.shares (drop l.entry-index l.fn.parts.entries) ≡ gathered (no_shares l.params) l.fn.parts.entries
