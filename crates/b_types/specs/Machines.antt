-- What a machine demands of the types of its parts. The parts of sets and of their elements come first, then constants,
-- variables, and of each operation its results and its parameters; behind these come the parts of the clauses.
use Rattle.std.specs.Prelude.{ℕ, ◌+◌, Bool, true, not, ◌&&◌, List, [], ◌∷◌, ◌++◌, length, Option, Some, None, Result}
use Rattle.b_ast.specs.declared.Pred.{Pred}
use Rattle.b_ast.specs.declared.machine.Subst.{Subst}
use Rattle.b_ast.specs.declared.machine.Operation.{Operation}
use Rattle.b_ast.specs.declared.machine.MachineText.{MachineText}
use Rattle.b_values.specs.declared.types.NameFace.{NameFace}
use Rattle.type_demands.specs.Scopes.{Scope, bind, names_of, all_differ}
use Rattle.type_demands.specs.Demands.{twice_if}
use Rattle.type_substs.specs.Told.{Told, Tells, told, with_predicate}
use Rattle.type_substs.specs.Substitutions.{subst_told}
use Rattle.type_names.specs.Names.{is_among}
use Rattle.type_names.specs.Machines.{machine_names, sets_scope}
use Rattle.b_types.specs.Typings as typings
use Rattle.b_types.specs.Known.{known_sets}
use Rattle.b_types.specs.declared.answers.Typing.{Typing}
use Rattle.b_types.specs.declared.answers.CheckFault.{CheckFault}

-- ---- parts of names

abbrev pub first_constant : MachineText → ℕ
first_constant m = length m.sets + length m.sets

abbrev pub first_variable : MachineText → ℕ
first_variable m = first_constant m + length m.constants

abbrev pub first_own : MachineText → ℕ
first_own m = first_variable m + length m.variables

-- an operation's own names: its results and its parameters
abbrev pub own_count : Operation → ℕ
own_count o = length o.results + length o.params

abbrev pub own_counts : List Operation → ℕ
own_counts [] = 0
own_counts (o ∷ os) = own_count o + own_counts os

abbrev pub first_part : MachineText → ℕ
first_part m = first_own m + own_counts m.operations

-- ---- scopes

-- PROPERTIES knows the sets, their elements and the constants
abbrev pub constants_scope : MachineText → ℕ → Scope
constants_scope m default = bind (names_of m.constants) (first_constant m) (sets_scope m default)

-- INVARIANT, ASSERTIONS, INITIALISATION and operations know the variables too
abbrev pub state_scope : MachineText → ℕ → Scope
state_scope m default = bind (names_of m.variables) (first_variable m) (constants_scope m default)

-- an operation knows its own names too, whose parts begin at a number
abbrev pub own_scope : Operation → ℕ → Scope → Scope
own_scope o at scope = bind (names_of o.results) at (bind (names_of o.params) (at + length o.results) scope)

-- ---- equal names

abbrev pub own_names : Operation → List (List ℕ)
own_names o = names_of o.results ++ names_of o.params

abbrev pub none_among : List (List ℕ) → List (List ℕ) → Bool
none_among declared [] = true
none_among declared (x ∷ xs) = not (is_among declared x) && none_among declared xs

-- an operation's own names differ, and none of them is a name that the machine declares
abbrev pub own_differ : List (List ℕ) → Operation → Bool
own_differ declared o = all_differ (own_names o) && none_among declared (own_names o)

-- ---- clauses

abbrev pub with_perhaps : Option Pred → Tells
with_perhaps None scope z = z
with_perhaps (Some p) scope z = with_predicate p.formula scope z

abbrev pub with_predicates : List Pred → Tells
with_predicates [] scope z = z
with_predicates (p ∷ ps) scope z = with_predicates ps scope (with_predicate p.formula scope z)

-- an absent INITIALISATION demands nothing
abbrev pub with_initialisation : Option Subst → Tells
with_initialisation None scope z = z
with_initialisation (Some s) scope z = subst_told s scope z

abbrev pub with_operation : List (List ℕ) → Operation → ℕ → Tells
with_operation declared o at scope z = subst_told o.body (own_scope o at scope) (told (z.demands ++ twice_if (own_differ declared o)) z.next)

abbrev pub with_operations : List (List ℕ) → List Operation → ℕ → Tells
with_operations declared [] at scope z = z
with_operations declared (o ∷ os) at scope z = with_operations declared os (at + own_count o) scope (with_operation declared o at scope z)

-- all names that the machine declares differ
abbrev pub names_told : MachineText → Told
names_told m = told (twice_if (all_differ (machine_names m))) (first_part m)

-- the clauses that speak of states
abbrev pub with_states : MachineText → Tells
with_states m scope z =
    with_operations (machine_names m) m.operations (first_own m) scope
    (with_initialisation m.initialisation scope (with_predicates m.assertions scope (with_perhaps m.invariant scope z)))

-- ---- the whole machine, where a deferred set has so many elements by default

abbrev pub machine_told : MachineText → ℕ → Told
machine_told m default = with_states m (state_scope m default) (with_perhaps m.properties (constants_scope m default) (names_told m))

abbrev pub machine_known : MachineText → List NameFace
machine_known m = known_sets (length m.sets)

abbrev pub IsTypedMachine : MachineText → ℕ → Result Typing CheckFault → Type 0
IsTypedMachine m default r = typings.IsChecked (machine_known m) (machine_told m default) r
