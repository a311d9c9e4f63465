use Rattle.std.proofs.Common.{◌≡◌, ◌≤◌, List, length}
use Rattle.b_places.specs.Places.{RangeOf}
use Rattle.b_places.specs.Scopes.{Slots}
use Rattle.b_places.specs.Walks.{to_come, walk_work, IsTurning, IsKeptWalk}
use Rattle.b_places.proofs.walk.go_on.Given as goal

abbrev pub invariant-loop-walk : goal.invariant-loop-walk
invariant-loop-walk l = record {
  found : (rs : List RangeOf) (env : Slots) → l.count ≡ length rs → to_come rs env l.fn.walk ≡ to_come rs env l.walk;
  work : (rs : List RangeOf) (env : Slots) → l.count ≡ length rs → walk_work rs env l.walk ≤ walk_work rs env l.fn.walk;
  turns : IsTurning l.count l.walk;
  kept : IsKeptWalk l.walk;
  number : l.walk.number ≡ l.fn.walk.number;
}

abbrev pub decreases-loop-walk : goal.decreases-loop-walk
decreases-loop-walk l = length l.walk.ranges
