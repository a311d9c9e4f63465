-- What a walk has to come when it begins, and where a range faults.
use Rattle.std.proofs.Common.{◌≡◌, ◌<◌, ◌≤◌, ◌+◌, ◌-◌, ℕ, suc, Bool, true, false, List, [], ◌∷◌, ◌++◌, length, drop, arith, refl, sym, ap, ◌∙◌, subst, Option, Some, None, Result, Ok, Err, Bor}
use Rattle.std.specs.Prelude.{if◌then◌else◌}
use Rattle.b_places.specs.Places.{RangeOf, Candidate, places, cut, spread}
use Rattle.b_places.specs.Scopes.{Slots}
use Rattle.b_places.specs.Walks.{rest, to_come, ahead, ahead_of, lefts_in, pending, Finds, Starts, IsAsking, IsResting}
use Rattle.b_places.specs.declared.walk.Stand.TheVariants.{Asks}
use Rattle.b_places.specs.declared.walk.Walk.{Walk}
use Rattle.b_rows.specs.Answers.{Answer}
use Rattle.b_rows.specs.declared.EvalStop.{EvalStop}
use Rattle.b_rows.specs.declared.EvalStop.TheVariants.{Fault, Memory}
use Rattle.b_values.specs.declared.values.EvalFault.{EvalFault}
use Rattle.b_values.specs.declared.values.Value.{Value}

-- a new walk has all places ahead
pub all_ahead : (f : EvalFault) (limit : ℕ) (rs : List RangeOf) (env : Slots) (w : Walk) → w.fresh ≡ true → w.number ≡ 0 → ahead f limit rs env w ≡ cut f (places rs env []) limit
all_ahead f limit rs env w g n =
    ap (λ b. cut f (if b then places rs env [] else rest rs env [] w.values (lefts_in w.ranges)) (limit - w.number)) g
    ∙ ap (λ (k : ℕ). cut f (places rs env []) k) (let same : limit - w.number ≡ limit = omega arith in same)

-- a walk that starts where another stands has the same places ahead
pub started_ahead : (f : EvalFault) (limit : ℕ) (rs : List RangeOf) (env : Slots) (last : Option (Bor Walk)) (w : Walk) → Starts last w → ahead_of f limit rs env last ≡ ahead f limit rs env w
started_ahead f limit rs env None w h = sym (all_ahead f limit rs env w h.3 h.2)
started_ahead f limit rs env (Some v) w h = ap (ahead f limit rs env) (sym h)

-- the fault that a walk finds is the first of the places
pub next_fault : (before all after : List Candidate) (t : List Value) (stop : EvalStop) (f : EvalFault) → all ≡ before → stop ≡ Fault f → Finds before t after (Err stop) → (more : List Candidate) × (all ≡ Err f ∷ more)
next_fault before all after t stop f e is h = (after, e ∙ subst (λ (x : EvalStop). Finds before t after (Err x)) is h)

abbrev candidate_then : Candidate → List Candidate → List Candidate
candidate_then p ps = p ∷ ps

-- where the range that a walk asks for faults, that fault comes next
pub fault_pending : (rs : List RangeOf) (env : Slots) (w : Walk) (range : RangeOf) (f : EvalFault) → drop (length w.values) rs ≡ range ∷ drop (suc (length w.values)) rs → range (env ++ w.values) ≡ Err f → pending rs env w Asks ≡ Err f ∷ to_come rs env w
fault_pending rs env w range f e g =
    ap (λ (qs : List RangeOf). places qs env w.values ++ to_come rs env w) e
    ∙ ap (λ (a : Answer (List Value)). spread a (λ x. places (drop (suc (length w.values)) rs) env (w.values ++ x ∷ [])) ++ to_come rs env w) g

-- a walk that asks may rest
pub asks_rests : (count : ℕ) (w : Walk) → IsAsking count w → IsResting count w
asks_rests count w a = record {
  even = a.even;
  within = (let e = a.even in let b = a.below in omega (arith, e, b));
  new = λ t. absurd (let o = a.old in cc);
}
