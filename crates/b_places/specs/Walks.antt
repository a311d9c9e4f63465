-- A walk over the places of a binder: where it stands, and what is still to come.
use Rattle.std.specs.Prelude.{◌≡◌, ◌⊎◌, ◌≤◌, ◌<◌, ◌+◌, ◌-◌, ℕ, suc, IsTrue, if◌then◌else◌, Bool, true, false, List, [], ◌∷◌, ◌++◌, map, drop, length, sum, nat_lt, Option, Some, None, Result, Ok, Err}
use Rattle.std.specs.Borrow.{Bor}
use Rattle.std.specs.List.{flat_map, AllByRecursion}
use Rattle.std.specs.declared.alloc.AllocError.{AllocError}
use Rattle.b_rows.specs.Answers.{Answer}
use Rattle.b_rows.specs.declared.EvalStop.{EvalStop}
use Rattle.b_rows.specs.declared.EvalStop.TheVariants.{Fault, Memory}
use Rattle.b_sets.specs.Rows.{integers}
use Rattle.b_values.specs.Values.{IsKept}
use Rattle.b_values.specs.declared.values.EvalFault.{EvalFault}
use Rattle.b_values.specs.declared.values.Value.{Value}
use Rattle.b_values.specs.declared.values.Value.TheVariants.{Int}
use Rattle.b_places.specs.Places.{RangeOf, Candidate, places, cut}
use Rattle.b_places.specs.Scopes.{Slots}
use Rattle.b_places.specs.declared.walk.Range.{Range}
use Rattle.b_places.specs.declared.walk.Range.TheVariants.{One, Listed, Numbers, Nothing}
use Rattle.b_places.specs.declared.walk.Shift.{Shift}
use Rattle.b_places.specs.declared.walk.Shift.TheVariants.{End, Back, Forward}
use Rattle.b_places.specs.declared.walk.Stand.{Stand}
use Rattle.b_places.specs.declared.walk.Stand.TheVariants.{Tuple, Over, Asks}
use Rattle.b_places.specs.declared.walk.Walk.{Walk}

-- the values that a range still has
abbrev pub left_in : Range → List Value
left_in (One v) = v ∷ []
left_in (Listed items at) = drop at items
left_in (Numbers next last) = map Int (integers next last)
left_in Nothing = []

abbrev pub lefts_in : List Range → List (List Value)
lefts_in rs = map left_in rs

-- the places for the values that are left of a variable's range, under the tuple t of the earlier variables
abbrev pub level : List RangeOf → Slots → List Value → List Value → List Candidate
level rs env t left = flat_map (λ w. places rs env (t ++ w ∷ [])) left

-- the places after all tuples that begin with t ++ vs, where the variables of vs have these values left
abbrev pub rest : List RangeOf → Slots → List Value → List Value → List (List Value) → List Candidate
rest [] env t vs ls = []
rest (r ∷ rs) env t vs [] = []
rest (r ∷ rs) env t [] (l ∷ ls) = level rs env t l
rest (r ∷ rs) env t (v ∷ vs) (l ∷ ls) = rest rs env (t ++ v ∷ []) vs ls ++ level rs env t l

-- the places that a walk hasn't come to
abbrev pub to_come : List RangeOf → Slots → Walk → List Candidate
to_come rs env w = if w.fresh then places rs env [] else rest rs env [] w.values (lefts_in w.ranges)

-- the same within a limit of tuples, past which stands the fault f
abbrev pub ahead : EvalFault → ℕ → List RangeOf → Slots → Walk → List Candidate
ahead f limit rs env w = cut f (to_come rs env w) (limit - w.number)

-- all places within the limit, or those after a walk's
abbrev pub ahead_of : EvalFault → ℕ → List RangeOf → Slots → Option (Bor Walk) → List Candidate
ahead_of f limit rs env None = cut f (places rs env []) limit
ahead_of f limit rs env (Some w) = ahead f limit rs env w.now

-- ---- where a walk stands

-- a walk at a place: it has as many values as ranges, and no more than there are variables
pub record IsResting (count : ℕ) (w : Walk) : Type 0 where
  pub even : length w.values ≡ length w.ranges
  pub within : length w.ranges ≤ count
  pub new : IsTrue w.fresh → w.values ≡ []

-- a walk whose last range is to give its next value, or that is over
pub record IsTurning (count : ℕ) (w : Walk) : Type 0 where
  pub odd : (length w.ranges ≡ length w.values + 1) ⊎ ((w.values ≡ []) × (w.ranges ≡ []))
  pub within : length w.ranges ≤ count
  pub old : w.fresh ≡ false

-- a walk that asks for the range of its next variable
pub record IsAsking (count : ℕ) (w : Walk) : Type 0 where
  pub even : length w.values ≡ length w.ranges
  pub below : length w.values < count
  pub old : w.fresh ≡ false

pub record IsKeptWalk (w : Walk) : Type 0 where
  pub values : AllByRecursion IsKept w.values
  pub lefts : AllByRecursion (AllByRecursion IsKept) (lefts_in w.ranges)

abbrev pub StandsAt : ℕ → Walk → Stand → Type 0
StandsAt count w Tuple = IsResting count w
StandsAt count w Over = IsResting count w
StandsAt count w Asks = IsAsking count w

-- a tuple is whole, or the next of so many variables has no range yet
abbrev pub whole_or_asks : Walk → ℕ → Stand
whole_or_asks w count = if nat_lt (length w.values) count then Asks else Tuple

-- what is to come where a walk stands: its tuple and the places after it, none, or those of the next variable's range
-- and those after them
abbrev pub pending : List RangeOf → Slots → Walk → Stand → List Candidate
pending rs env w Tuple = Ok w.values ∷ to_come rs env w
pending rs env w Over = []
pending rs env w Asks = places (drop (length w.values) rs) env w.values ++ to_come rs env w

-- these values are what the range of the next variable gives
pub record IsNextRange (rs : List RangeOf) (env : Slots) (w : Walk) (left : List Value) : Type 0 where
  pub range : RangeOf
  pub is_next : drop (length w.values) rs ≡ range ∷ drop (suc (length w.values)) rs
  pub gives : range (env ++ w.values) ≡ Ok left

-- the next place: a tuple, none, or a fault; and what is still to come
abbrev pub Finds : List Candidate → List Value → List Candidate → Result Bool EvalStop → Type 0
Finds before tuple after (Ok true) = before ≡ Ok tuple ∷ after
Finds before tuple after (Ok false) = before ≡ []
Finds before tuple after (Err (Fault f)) = before ≡ Err f ∷ after
Finds before tuple after (Err Memory) = Unit {0}

-- where memory didn't run out
abbrev pub OnPlace : {A : Type 0} → Result A EvalStop → Type 0 → Type 0
OnPlace (Ok a) p = p
OnPlace (Err (Fault f)) p = p
OnPlace (Err Memory) p = Unit {0}

-- what comes of the range that a walk asks for: the same places are to come, or its fault and the places after it
abbrev pub GoesOn : List RangeOf → Slots → Walk → Walk → Result Stand EvalStop → Type 0
GoesOn rs env w u (Ok s) = pending rs env w Asks ≡ pending rs env u s
GoesOn rs env w u (Err (Fault f)) = pending rs env w Asks ≡ Err f ∷ to_come rs env u
GoesOn rs env w u (Err Memory) = Unit {0}

abbrev pub StandsOn : ℕ → Walk → Result Stand EvalStop → Type 0
StandsOn count w (Ok s) = StandsAt count w s
StandsOn count w (Err (Fault f)) = IsResting count w
StandsOn count w (Err Memory) = Unit {0}

-- a new walk, or the same
abbrev pub Starts : Option (Bor Walk) → Walk → Type 0
Starts None w = (w.values ≡ []) × (w.ranges ≡ []) × (w.number ≡ 0) × (w.fresh ≡ true)
Starts (Some v) w = w ≡ v.now

-- ---- one step

-- the last value is gone, if there was one
abbrev pub IsBack : List Value → List Value → Type 0
IsBack vs ws = ((vs ≡ []) × (ws ≡ [])) ⊎ ((last : Value) × (vs ≡ ws ++ last ∷ []))

-- the last range gave w
pub record IsForward (vs ws : List Value) (ls ks : List (List Value)) : Type 0 where
  pub next : Value
  pub left : List Value
  pub outer : List (List Value)
  pub before : ls ≡ outer ++ (next ∷ left) ∷ []
  pub after : ks ≡ outer ++ left ∷ []
  pub values : ws ≡ vs ++ next ∷ []

-- one step of a walk whose last range is to give its next value
abbrev pub Shifts : Walk → Walk → Result Shift AllocError → Type 0
Shifts w u (Ok End) = (w.ranges ≡ []) × (u.ranges ≡ []) × (u.values ≡ w.values)
Shifts w u (Ok Back) = IsBack w.values u.values × (lefts_in w.ranges ≡ lefts_in u.ranges ++ [] ∷ [])
Shifts w u (Ok Forward) = IsForward w.values u.values (lefts_in w.ranges) (lefts_in u.ranges)
Shifts w u (Err e) = Unit {0}

-- ---- how much is still to be done

abbrev pub range_work : Answer (List Value) → (Value → ℕ) → ℕ
range_work (Ok vs) go = 1 + sum (map (λ v. 1 + go v) vs)
range_work (Err f) go = 0

-- the steps for the tuples that begin with t, once t stands
abbrev pub node_work : List RangeOf → Slots → List Value → ℕ
node_work [] env t = 0
node_work (r ∷ rs) env t = range_work (r (env ++ t)) (λ v. node_work rs env (t ++ v ∷ []))

abbrev pub left_work : List RangeOf → Slots → List Value → List Value → ℕ
left_work rs env t left = 1 + sum (map (λ w. 1 + node_work rs env (t ++ w ∷ [])) left)

abbrev pub rest_work : List RangeOf → Slots → List Value → List Value → List (List Value) → ℕ
rest_work [] env t vs ls = 0
rest_work (r ∷ rs) env t vs [] = 0
rest_work (r ∷ rs) env t [] (l ∷ ls) = left_work rs env t l
rest_work (r ∷ rs) env t (v ∷ vs) (l ∷ ls) = rest_work rs env (t ++ v ∷ []) vs ls + left_work rs env t l

abbrev pub walk_work : List RangeOf → Slots → Walk → ℕ
walk_work rs env w = rest_work rs env [] w.values (lefts_in w.ranges)

-- what a walk that asks has still to do; one at a place is done
abbrev pub pending_work : List RangeOf → Slots → Walk → Stand → ℕ
pending_work rs env w Tuple = 0
pending_work rs env w Over = 0
pending_work rs env w Asks = suc (node_work (drop (length w.values) rs) env w.values + walk_work rs env w)

-- less is left to be done
abbrev pub IsWorked : List RangeOf → Slots → Walk → Walk → Result Stand EvalStop → Type 0
IsWorked rs env w u (Ok s) = pending_work rs env u s < pending_work rs env w Asks
IsWorked rs env w u (Err e) = Unit {0}
