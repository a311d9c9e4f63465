-- What is gathered of outcomes: those so far, or that they are too many.
use Rattle.std.specs.Prelude.{◌≡◌, ℕ, nat_lt, Bool, true, false, List, [], ◌∷◌, length, Option, Some, None, Result, Ok, Err, if◌then◌else◌}
use Rattle.ascending.specs.Ascending.{insert}
use Rattle.b_rows.specs.Answers.{Answer, bind}
use Rattle.b_rows.specs.declared.EvalStop.{EvalStop}
use Rattle.b_rows.specs.declared.EvalStop.TheVariants.{Fault, Memory}
use Rattle.b_outcomes.specs.Frames.{frame_cmp}
use Rattle.b_outcomes.specs.Outcomes.{Chosen}
use Rattle.b_outcomes.specs.declared.frames.Frame.{Frame}

-- how many are told apart at most, if there is a limit; and the frames in order, none where they are more
abbrev pub Gathered : Type 0
Gathered = Option ℕ × Option (List Frame)

-- so many are more than are told apart
abbrev pub passes : Option ℕ → ℕ → Bool
passes None n = false
passes (Some most) n = nat_lt most n

-- these, unless they are more
abbrev pub up_to : Option ℕ → List Frame → Option (List Frame)
up_to most fs = if passes most (length fs) then None else Some fs

abbrev pub with_one : Option ℕ → Option (List Frame) → Frame → Option (List Frame)
with_one most None f = None
with_one most (Some fs) f = up_to most (insert frame_cmp f fs)

-- with one more frame, and with several
abbrev pub add : Gathered → Frame → Gathered
add g f = (g.0, with_one g.0 g.1 f)

abbrev pub adds : Gathered → List Frame → Gathered
adds g [] = g
adds g (f ∷ fs) = adds (add g f) fs

-- what is gathered once these outcomes are
abbrev pub gathers : Gathered → Answer (List Frame) → Answer Gathered
gathers g a = bind a (λ fs. Ok (adds g fs))

-- the same of a branch, and whether it was chosen, or an earlier one was
abbrev pub notes : Bool → Gathered → Option (List Frame) → Bool × Gathered
notes b g None = (b, g)
notes b g (Some fs) = (true, adds g fs)

abbrev pub chooses : Bool → Gathered → Chosen → Answer (Bool × Gathered)
chooses b g a = bind a (λ o. Ok (notes b g o))

-- the stop is the first fault, or memory ran out
abbrev pub Stops : {A : Type 0} → Answer A → EvalStop → Type 0
Stops a (Fault f) = a ≡ Err f
Stops a Memory = Unit {0}

-- what was left is what is gathered, unless there is a stop
abbrev pub Leaves : {R : Type 0} → Answer Gathered → Gathered → Result R EvalStop → Type 0
Leaves a g (Ok u) = a ≡ Ok g
Leaves a g (Err s) = Stops a s

abbrev pub LeavesChosen : Answer (Bool × Gathered) → Gathered → Result Bool EvalStop → Type 0
LeavesChosen a g (Ok b) = a ≡ Ok (b, g)
LeavesChosen a g (Err s) = Stops a s
