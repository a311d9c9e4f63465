use Rattle.std.proofs.Common.{◌≡◌, map, take}
use Rattle.b_expand.specs.Places as spec
use Rattle.b_expand.proofs.copies.moved_bounds.Given as goal

-- the copies of those so far
abbrev pub invariant-loop-name : goal.invariant-loop-name
invariant-loop-name l = l.copies ≡ map (spec.moved_bound (spec.raised_place l.extra)) (map (spec.deeper_bound l.round) (take l.name-index l.names))
