use Rattle.std.proofs.Common.{ℕ, Result, Ok, Err, ◌≡◌, ◌+◌, length, Some, Bor}
use Rattle.std.specs.Prelude.{MatchResult, slice_get}
use Rattle.b_values.specs.declared.values.Value.{Value}
use Rattle.b_places.specs.Scopes.{slots_of}
use Rattle.b_places.specs.ScopeLaws.{outer_slot, inner_slot, past_slots}
use Rattle.b_places.proofs.scope.+slot.Goals as goal

pub returns-in-Ok : goal.returns-in-Ok
returns-in-Ok t c = outer_slot c.args.scope.now c.in-Inside.outer c.in-Inside.values c.in-Inside.is c.args.i c.in-Ok.v.now c.in-Ok.ensures

pub returns-in-Err : goal.returns-in-Err
returns-in-Err t c = go c.nth-in-Err.result c.nth-in-Err.ensures
  where
    go : (r : Result (Bor Value) ℕ) → MatchResult r (λ v. slice_get c.in-Inside.values.now c.in-Err.past ≡ Some v.now) (λ past. length c.in-Inside.values.now + past ≡ c.in-Err.past)
        → MatchResult r (λ v. slice_get (slots_of c.args.scope.now) c.args.i ≡ Some v.now) (λ past. length (slots_of c.args.scope.now) + past ≡ c.args.i)
    go (Ok v) h = inner_slot c.args.scope.now c.in-Inside.outer c.in-Inside.values c.in-Inside.is c.args.i c.in-Err.past c.in-Err.ensures v.now h
    go (Err past) h = past_slots c.args.scope.now c.in-Inside.outer c.in-Inside.values c.in-Inside.is c.args.i c.in-Err.past c.in-Err.ensures past h
