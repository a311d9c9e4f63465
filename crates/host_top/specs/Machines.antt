-- The machines of one counter, and what they mean.
use Rattle.std.specs.Prelude.{ℕ, ℤ, List, [], ◌∷◌, map, Option, Some, None, Result, Ok, Err, codes}
use Rattle.b_values.specs.declared.values.Value.{out-Value}
use Rattle.b_values.specs.declared.values.Value.TheVariants.{Int}
use Rattle.b_values.specs.declared.values.Value.TheOpen.{Value-F}
use Rattle.b_values.specs.declared.values.State.{State}
use Rattle.b_values.specs.declared.values.State.TheVariants.{Root, Constants, Running}
use Rattle.b_values.specs.declared.values.EvalFault.{EvalFault}
use Rattle.animator.specs.declared.model.OpList.{OpList}
use Rattle.animator.specs.declared.model.ListEnd.TheVariants.{Complete, Fault}
use Rattle.b_eval.specs.Sums.{sum_at}
use Rattle.animator.specs.Meaning.{Meaning}
use Rattle.host_top.specs.declared.machine.Operation.{Operation}
use Rattle.host_top.specs.declared.machine.Machine.{Machine}

-- the state in which the counter stands at n
abbrev pub counting : ℤ → State
counting n = Running [] (Int n ∷ [])

-- a list of one step, complete
abbrev pub one_step_list : List ℕ → ℤ → OpList
one_step_list name n = record { op = name; steps = record { op = name; dest = counting n } ∷ []; end = Complete }

-- the one step of an operation, or its fault
abbrev pub list_by : List ℕ → Result ℤ EvalFault → OpList
list_by name (Ok n) = one_step_list name n
list_by name (Err fault) = record { op = name; steps = []; end = Fault fault }

-- the list of an operation where the counter stands at n
abbrev pub list_at : ℤ → Operation → OpList
list_at n op = list_by op.name (sum_at n op.amount op.at)

abbrev pub counter_of : {X : Type 0} → Value-F X → Option ℤ
counter_of (Value-F.Int n) = Some n
counter_of v = None

-- the lists of a counter that stands at a number
abbrev pub lists_at : Machine → Option ℤ → List OpList
lists_at m None = []
lists_at m (Some n) = map (list_at n) m.ops

-- the lists that a state offers; a state of another machine offers none
abbrev pub lists_of : Machine → State → List OpList
lists_of m Root = one_step_list (codes "$initialise_machine") m.start ∷ []
lists_of m (Constants cs) = []
lists_of m (Running cs []) = []
lists_of m (Running cs (v ∷ vs)) = lists_at m (counter_of (out-Value v))

abbrev pub meaning_of : Machine → Meaning
meaning_of m = record { expand = lists_of m }
