use Rattle.std.proofs.Common.{◌≡◌, length}
use Rattle.b_stretches.specs.Stretches.{pieces}
use Rattle.b_stretches.proofs.Pieces.{IsScanned}
use Rattle.b_stretches.proofs.cut.Given as goal

-- what was passed over has no separator outside brackets
abbrev pub invariant-loop-word : goal.invariant-loop-word
invariant-loop-word l = record {
  scanned : IsScanned l.separator (pieces l.s) l.count l.depth (pieces l.rest);
  known : l.most ≡ length (pieces l.s);
}

abbrev pub decreases-loop-word : goal.decreases-loop-word
decreases-loop-word l = length (pieces l.rest)
