use Rattle.std.proofs.Common.{◌≡◌, map, take}
use Rattle.b_expand.specs.Places.{deeper_bound}
use Rattle.b_substitutions.proofs.filler.targets.Given as goal

-- those so far
abbrev pub invariant-loop-name : goal.invariant-loop-name
invariant-loop-name l = l.copies ≡ map (deeper_bound l.text.here.round) (take l.name-index l.names)
