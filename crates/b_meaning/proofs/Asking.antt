-- The range of the next variable of a binder.
use Rattle.std.proofs.Common.{◌≡◌, ◌<◌, ◌+◌, ◌-◌, ℕ, zero, suc, Bool, List, [], ◌∷◌, ◌++◌, length, map, drop, get_or, arith, refl, sym, ap, subst, Result, Ok, Err}
use Rattle.b_meaning.specs.Meaning.{variable_of, ranges_in}
use Rattle.b_places.specs.Places.{RangeOf, Candidate, cut}
use Rattle.b_places.specs.Scopes.{Slots}
use Rattle.b_places.specs.WalkLaws.{fault_pending, asks_rests}
use Rattle.b_places.specs.Walks.{pending, to_come, ahead, left_in, Finds, GoesOn, OnPlace, StandsOn, StandsAt, IsAsking, IsResting, IsNextRange}
use Rattle.b_places.specs.declared.walk.Range.{Range}
use Rattle.b_places.specs.declared.walk.Stand.{Stand}
use Rattle.b_places.specs.declared.walk.Stand.TheVariants.{Asks}
use Rattle.b_places.specs.declared.walk.Walk.{Walk}
use Rattle.b_rows.specs.Answers.{Answer, MeansBy, fault_at}
use Rattle.b_rows.specs.declared.EvalStop.{EvalStop}
use Rattle.b_rows.specs.declared.EvalStop.TheVariants.{Fault, Memory}
use Rattle.b_tree.specs.declared.Place.{Place}
use Rattle.b_tree.specs.declared.Variable.{Variable}
use Rattle.b_values.specs.declared.values.EvalFault.{EvalFault}
use Rattle.b_values.specs.declared.values.FaultKind.TheVariants.{TooLarge}
use Rattle.b_values.specs.declared.values.Value.{Value}

abbrev range_then : RangeOf → List RangeOf → List RangeOf
range_then r rs = r ∷ rs

pub length_ranges : (n : ℕ) (vs : List Variable) → length vs ≡ length (ranges_in (map (variable_of n) vs))
length_ranges n [] = refl
length_ranges n (v ∷ vs) = ap suc (length_ranges n vs)

next_range : (n : ℕ) (vs : List Variable) (i : ℕ) (v : Variable) → i < length vs → v ≡ get_or vs i v → drop i (ranges_in (map (variable_of n) vs)) ≡ (variable_of n v).range ∷ drop (suc i) (ranges_in (map (variable_of n) vs))
next_range n [] i v h e = absurd (omega arith)
next_range n (x ∷ vs) zero v h e = ap (λ (y : Variable). range_then (variable_of n y).range (ranges_in (map (variable_of n) vs))) (sym e)
next_range n (x ∷ vs) (suc i) v h e = next_range n vs i v (omega arith) e

module _ (n : ℕ) (vs : List Variable) (env : Slots) (w : Walk) (v : Variable) (below : length w.values < length vs) (at : v ≡ get_or vs (length w.values) v) where
  pub asked : (range : Range) → (variable_of n v).range (env ++ w.values) ≡ Ok (left_in range) → IsNextRange (ranges_in (map (variable_of n) vs)) env w (left_in range)
  asked range e = record {
    range = (variable_of n v).range;
    is_next = next_range n vs (length w.values) v below at;
    gives = e;
  }

  pub asked_fault : (f : EvalFault) → (variable_of n v).range (env ++ w.values) ≡ Err f → pending (ranges_in (map (variable_of n) vs)) env w Asks ≡ Err f ∷ to_come (ranges_in (map (variable_of n) vs)) env w
  asked_fault f e = fault_pending (ranges_in (map (variable_of n) vs)) env w (variable_of n v).range f (next_range n vs (length w.values) v below at) e

-- ---- the same of what evaluating the range answered

module _ (n : ℕ) (vs : List Variable) (env : Slots) (w : Walk) (v : Variable) (depth : ℕ) (inner : Slots) (m : Result Range EvalStop) (deep : depth ≡ length w.values) (below : length w.values < length vs)
    (at : v ≡ get_or vs depth v) (slots : inner ≡ env ++ w.values) (means : MeansBy left_in ((variable_of n v).range inner) m) where
  at_end : v ≡ get_or vs (length w.values) v
  at_end = subst (λ (k : ℕ). v ≡ get_or vs k v) deep at

  means_there : MeansBy left_in ((variable_of n v).range (env ++ w.values)) m
  means_there = subst (λ (x : Slots). MeansBy left_in ((variable_of n v).range x) m) slots means

  pub asks_for : (range : Range) → m ≡ Ok range → IsNextRange (ranges_in (map (variable_of n) vs)) env w (left_in range)
  asks_for range e = asked n vs env w v below at_end range (subst (λ (x : Result Range EvalStop). MeansBy left_in ((variable_of n v).range (env ++ w.values)) x) e means_there)

  pub asks_faulty : (s : EvalStop) → m ≡ Err s → GoesOn (ranges_in (map (variable_of n) vs)) env w w (Err s)
  asks_faulty (Fault f) e = asked_fault n vs env w v below at_end f (subst (λ (x : Result Range EvalStop). MeansBy left_in ((variable_of n v).range (env ++ w.values)) x) e means_there)
  asks_faulty Memory e = tt

pub asks_stands : (count : ℕ) (w : Walk) (s : EvalStop) → IsAsking count w → StandsOn count w (Err s)
asks_stands count w (Fault f) a = asks_rests count w a
asks_stands count w Memory a = tt

pub stopped : (A : Type 0) (P : Type 0) (s : EvalStop) → P → OnPlace {A = A} (Err s) P
stopped A P (Fault f) p = p
stopped A P Memory p = tt

-- ---- from stand to stand

pub finds_from : (a b : List Candidate) (t : List Value) (after : List Candidate) (r : Result Bool EvalStop) → a ≡ b → Finds b t after r → Finds a t after r
finds_from a b t after r e h = subst (λ (ps : List Candidate). Finds ps t after r) (sym e) h

pub stops_from : (a : List Candidate) (rs : List RangeOf) (env : Slots) (w u : Walk) (s : EvalStop) → a ≡ pending rs env w Asks → GoesOn rs env w u (Err s) → Finds a u.values (to_come rs env u) (Err s)
stops_from a rs env w u (Fault f) e h = subst (λ (ps : List Candidate). ps ≡ Err f ∷ to_come rs env u) (sym e) h
stops_from a rs env w u Memory e h = tt

pub stop_rests : (count : ℕ) (u : Walk) (s : EvalStop) → StandsOn count u (Err s) → OnPlace {A = Bool} (Err s) (IsResting count u)
stop_rests count u (Fault f) h = h
stop_rests count u Memory h = tt

pub stop_kept : (A B : Type 0) (P : Type 0) (s : EvalStop) → OnPlace {A = A} (Err s) P → OnPlace {A = B} (Err s) P
stop_kept A B P (Fault f) h = h
stop_kept A B P Memory h = tt

pub stands_by : (count : ℕ) (w : Walk) (s t : Stand) → s ≡ t → StandsAt count w s → StandsAt count w t
stands_by count w s t e h = subst (λ (k : Stand). StandsAt count w k) e h

pub stands_with : (m n : ℕ) (w : Walk) (s : Stand) → m ≡ n → StandsAt m w s → StandsAt n w s
stands_with m n w s e h = subst (λ (k : ℕ). StandsAt k w s) e h

-- ---- within the limit

pub settled : (at there : Place) (k m limit : ℕ) (rs : List RangeOf) (env : Slots) (u : Walk) (before : List Candidate) (r : Result Bool EvalStop) → at ≡ there → k ≡ m
    → Finds (cut (fault_at TooLarge at) before (limit - k)) u.values (ahead (fault_at TooLarge at) limit rs env u) r → Finds (cut (fault_at TooLarge there) before (limit - m)) u.values (ahead (fault_at TooLarge there) limit rs env u) r
settled at there k m limit rs env u before r e f h =
    subst (λ (j : ℕ). Finds (cut (fault_at TooLarge there) before (limit - j)) u.values (ahead (fault_at TooLarge there) limit rs env u) r) f
    (subst (λ (p : Place). Finds (cut (fault_at TooLarge p) before (limit - k)) u.values (ahead (fault_at TooLarge p) limit rs env u) r) e h)
