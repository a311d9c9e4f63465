-- What an evaluation answers: a value or the first fault.
use Rattle.std.specs.Prelude.{◌≡◌, Bool, Result, Ok, Err, if◌then◌else◌}
use Rattle.b_tree.specs.declared.Place.{Place}
use Rattle.b_values.specs.declared.values.EvalFault.{EvalFault}
use Rattle.b_values.specs.declared.values.FaultKind.{FaultKind}
use Rattle.b_rows.specs.declared.EvalStop.{EvalStop}
use Rattle.b_rows.specs.declared.EvalStop.TheVariants.{Fault, Memory}

-- a value, or the first fault
abbrev pub Answer : Type 0 → Type 0
Answer A = Result A EvalFault

-- a fault at a place
abbrev pub fault_at : FaultKind → Place → EvalFault
fault_at kind p = record { kind = kind; text = p.text; at = p.at }

abbrev pub fault : {A : Type 0} → FaultKind → Place → Answer A
fault kind p = Err (fault_at kind p)

-- goes on with a value; the first fault is the answer
abbrev pub bind : {A B E : Type 0} → Result A E → (A → Result B E) → Result B E
bind (Ok a) go = go a
bind (Err f) go = Err f

-- an operator's answer, its fault at its place
abbrev pub placed : {A : Type 0} → Place → Result A FaultKind → Answer A
placed p (Ok a) = Ok a
placed p (Err kind) = fault kind p

-- the same answer, any fault at this place
abbrev pub all_at : {A : Type 0} → Place → Answer A → Answer A
all_at p (Ok a) = Ok a
all_at p (Err f) = fault f.kind p

-- the answer, seen by view, unless memory ran out
abbrev pub MeansBy : {X A : Type 0} → (X → A) → Answer A → Result X EvalStop → Type 0
MeansBy view answer (Ok x) = answer ≡ Ok (view x)
MeansBy view answer (Err (Fault f)) = answer ≡ Err f
MeansBy view answer (Err Memory) = Unit {0}

-- the answer, unless memory ran out
abbrev pub Means : {A : Type 0} → Answer A → Result A EvalStop → Type 0
Means answer (Ok a) = answer ≡ Ok a
Means answer (Err (Fault f)) = answer ≡ Err f
Means answer (Err Memory) = Unit {0}
