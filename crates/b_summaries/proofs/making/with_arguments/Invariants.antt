use Rattle.std.proofs.Common.{◌≡◌, drop}
use Rattle.b_summaries.specs.Making.{lifted_all}
use Rattle.b_summaries.proofs.making.with_arguments.Given as goal

-- what is found so far, and then the rest
abbrev pub invariant-loop-share : goal.invariant-loop-share
invariant-loop-share l = lifted_all l.found (drop l.share-index l.shares) l.left ≡ lifted_all l.fn.parts l.shares l.arguments
