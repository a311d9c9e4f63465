-- The places of a binder: the tuples of its range in dictionary order, and the faults of ranges between them.
use Rattle.std.specs.Prelude.{ℕ, zero, suc, Bool, true, false, List, [], ◌∷◌, ◌++◌, map, Option, Some, None, Result, Ok, Err, if◌then◌else◌}
use Rattle.std.specs.List.{flat_map}
use Rattle.b_values.specs.declared.values.EvalFault.{EvalFault}
use Rattle.b_values.specs.declared.values.Value.{Value}
use Rattle.b_values.specs.declared.values.Value.TheVariants.{Truth, Pair}
use Rattle.b_rows.specs.Answers.{Answer, bind}
use Rattle.b_places.specs.Scopes.{Slots}

-- the values that a variable may have, ascending, or the fault of its range, by the slots in scope
abbrev pub RangeOf : Type 0
RangeOf = Slots → Answer (List Value)

-- a tuple, or a fault in the place of all tuples that begin alike
abbrev pub Candidate : Type 0
Candidate = Answer (List Value)

-- the places for each value of a range
abbrev pub spread : Answer (List Value) → (Value → List Candidate) → List Candidate
spread (Ok vs) go = flat_map go vs
spread (Err f) go = Err f ∷ []

-- the places whose tuples begin with t
abbrev pub places : List RangeOf → Slots → List Value → List Candidate
places [] env t = Ok t ∷ []
places (r ∷ rs) env t = spread (r (env ++ t)) (λ v. places rs env (t ++ v ∷ []))

-- at most n tuples: the place after the last of so many has this fault, and is the last
abbrev pub cut : EvalFault → List Candidate → ℕ → List Candidate
cut f [] n = []
cut f (p ∷ ps) zero = Err f ∷ []
cut f (Ok t ∷ ps) (suc n) = Ok t ∷ cut f ps n
cut f (Err g ∷ ps) (suc n) = Err g ∷ cut f ps (suc n)

-- the places without the faulty ones at their front
abbrev pub sound : List Candidate → List Candidate
sound [] = []
sound (Ok t ∷ ps) = Ok t ∷ ps
sound (Err f ∷ ps) = sound ps

-- ---- what is made of the places

-- what is said of a tuple, or the fault at its place
abbrev pub instances : {A : Type 0} → (List Value → Answer A) → List Candidate → List (Answer A)
instances test ps = map (λ p. bind p test) ps

-- the answer of the first instance that isn't b, which may be a fault; without such a one b
abbrev pub decided : Bool → List (Answer Bool) → Answer Bool
decided b [] = Ok b
decided true (a ∷ rest) = bind a (λ c. if c then decided true rest else Ok false)
decided false (a ∷ rest) = bind a (λ c. if c then Ok true else decided false rest)

-- x before them, where there is one
abbrev pub with_some : {A : Type 0} → Option A → List A → List A
with_some None xs = xs
with_some (Some x) xs = x ∷ xs

-- those that are there, in order, or the first fault
abbrev pub those : {A : Type 0} → List (Answer (Option A)) → Answer (List A)
those [] = Ok []
those (a ∷ rest) = bind a (λ o. bind (those rest) (λ xs. Ok (with_some o xs)))

-- one more partial result, where something is there
abbrev pub next_partial : {A B : Type 0} → (B → A → Answer B) → B → Option A → Answer B
next_partial step b None = Ok b
next_partial step b (Some a) = step b a

-- the last partial result, each from the one before and what is there; the first fault is the answer
abbrev pub totalled : {A B : Type 0} → (B → A → Answer B) → B → List (Answer (Option A)) → Answer B
totalled step b [] = Ok b
totalled step b (a ∷ rest) = bind a (λ o. bind (next_partial step b o) (λ c. totalled step c rest))

-- ---- tuples

-- a value and those after it as one couple, grouping from the left
abbrev pub coupled : Value → List Value → Value
coupled v [] = v
coupled v (w ∷ ws) = coupled (Pair v w) ws

-- the values of a tuple as one value; a binder has a variable
abbrev pub couple_of : List Value → Value
couple_of [] = Truth true
couple_of (v ∷ vs) = coupled v vs
