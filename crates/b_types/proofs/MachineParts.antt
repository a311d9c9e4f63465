-- What a machine demands names parts that are there.
use Rattle.std.proofs.Common.{◌≡◌, ◌≤◌, ◌+◌, ℕ, Bool, List, [], ◌∷◌, ◌++◌, length, Option, Some, None, arith, refl, ap, ◌∙◌, suc}
use Rattle.b_ast.specs.declared.Bound.{Bound}
use Rattle.b_ast.specs.declared.Pred.{Pred}
use Rattle.b_ast.specs.declared.machine.Subst.{Subst}
use Rattle.b_ast.specs.declared.machine.SetDecl.{SetDecl}
use Rattle.b_ast.specs.declared.machine.Operation.{Operation}
use Rattle.b_ast.specs.declared.machine.MachineText.{MachineText}
use Rattle.type_choices.specs.Forms.{AreForms}
use Rattle.type_demands.specs.declared.demands.Demand.{Demand}
use Rattle.type_demands.specs.Scopes.{Scope, bind, names_of, all_differ}
use Rattle.type_demands.specs.Demands.{twice_if}
use Rattle.type_formulas.specs.Typings.{forms_in}
use Rattle.type_formulas.proofs.Ranges.{Within, within_both, Bounded, names_bounded, twice_within}
use Rattle.type_names.specs.Names.{in_order, alike, free}
use Rattle.type_names.specs.Machines.{set_names, listed, listed_elements, deferred, deferred_elements, machine_names, set_size, sets_scope}
use Rattle.type_substs.specs.Told.{Told, told, with_predicate}
use Rattle.type_substs.specs.Substitutions.{subst_told}
use Rattle.b_types.specs.Machines.{first_constant, first_variable, first_own, own_count, own_counts, first_part, constants_scope, state_scope, own_scope, own_differ, with_perhaps, with_predicates, with_initialisation, with_operation, with_operations, names_told, with_states, machine_told, machine_known}
use Rattle.b_types.proofs.Adding.{Adds, predicate_adds, subst_adds, then_adds}
use Rattle.b_types.proofs.Names.{AreBelow, below_both, in_order_below, alike_below, named_bounded, length_known}

-- ---- sets and elements

length_set_names : (ds : List SetDecl) → length (set_names ds) ≡ length ds
length_set_names [] = refl
length_set_names (d ∷ ds) = ap suc (length_set_names ds)

listed_below : (c p : ℕ) (ds : List SetDecl) → p + length ds ≤ c → AreBelow c (listed_elements p ds)
listed_below c p [] h = tt
listed_below c p (d ∷ ds) h = below_both c (alike p (listed d.elements)) (listed_elements (p + 1) ds) (alike_below c p (listed d.elements) (omega arith)) (listed_below c (p + 1) ds (omega arith))

deferred_below : (hiding : List (List ℕ)) (size : List ℕ → ℕ) (c p : ℕ) (ds : List SetDecl) → p + length ds ≤ c → AreBelow c (deferred_elements hiding size p ds)
deferred_below hiding size c p [] h = tt
deferred_below hiding size c p (d ∷ ds) h =
    below_both c (alike p (free hiding (deferred size d.name.name d.elements))) (deferred_elements hiding size (p + 1) ds)
    (alike_below c p (free hiding (deferred size d.name.name d.elements)) (omega arith)) (deferred_below hiding size c (p + 1) ds (omega arith))

sets_bounded : (c : ℕ) (m : MachineText) (default : ℕ) → first_constant m ≤ c → Bounded c (sets_scope m default)
sets_bounded c m default h =
    let l = length_set_names m.sets in
    let order = in_order 0 (set_names m.sets) in
    let lists = listed_elements (length m.sets) m.sets in
    let defer = deferred_elements (machine_names m) (set_size m default) (length m.sets) m.sets in
    named_bounded c (order ++ lists ++ defer)
    (below_both c (order ++ lists) defer
    (below_both c order lists (in_order_below c 0 (set_names m.sets) (omega arith)) (listed_below c (length m.sets) m.sets (omega arith)))
    (deferred_below (machine_names m) (set_size m default) c (length m.sets) m.sets (omega arith)))

constants_bounded : (c : ℕ) (m : MachineText) (default : ℕ) → first_variable m ≤ c → Bounded c (constants_scope m default)
constants_bounded c m default h = names_bounded c m.constants (first_constant m) (sets_scope m default) (sets_bounded c m default (omega arith)) h

state_bounded : (c : ℕ) (m : MachineText) (default : ℕ) → first_own m ≤ c → Bounded c (state_scope m default)
state_bounded c m default h = names_bounded c m.variables (first_variable m) (constants_scope m default) (constants_bounded c m default (omega arith)) h

own_bounded : (c : ℕ) (o : Operation) (at : ℕ) (scope : Scope) → Bounded c scope → at + own_count o ≤ c → Bounded c (own_scope o at scope)
own_bounded c o at scope b h =
    names_bounded c o.results at (bind (names_of o.params) (at + length o.results) scope)
    (names_bounded c o.params (at + length o.results) scope b (omega arith)) (omega arith)

-- ---- clauses

perhaps_adds : (p : Option Pred) → Adds (with_perhaps p)
perhaps_adds None = record { grows = λ scope z. omega arith; within = λ c scope z b k h. h }
perhaps_adds (Some p) = predicate_adds p.formula

predicates_add : (ps : List Pred) → Adds (with_predicates ps)
predicates_add [] = record { grows = λ scope z. omega arith; within = λ c scope z b k h. h }
predicates_add (p ∷ ps) = then_adds (with_predicate p.formula) (with_predicates ps) (predicate_adds p.formula) (predicates_add ps)

initialisation_adds : (s : Option Subst) → Adds (with_initialisation s)
initialisation_adds None = record { grows = λ scope z. omega arith; within = λ c scope z b k h. h }
initialisation_adds (Some s) = subst_adds s

abbrev headed : List (List ℕ) → Operation → Told → Told
headed declared o z = told (z.demands ++ twice_if (own_differ declared o)) z.next

operations_grow : (declared : List (List ℕ)) (os : List Operation) (at : ℕ) (scope : Scope) (z : Told) → z.next ≤ (with_operations declared os at scope z).next
operations_grow declared [] at scope z = omega arith
operations_grow declared (o ∷ os) at scope z =
    let a = (subst_adds o.body).grows (own_scope o at scope) (headed declared o z) in
    let b = operations_grow declared os (at + own_count o) scope (with_operation declared o at scope z) in
    omega arith

operations_within : (c : ℕ) (declared : List (List ℕ)) (os : List Operation) (at : ℕ) (scope : Scope) (z : Told) → Bounded c scope → at + own_counts os ≤ c → (with_operations declared os at scope z).next ≤ c → Within c z.demands
    → Within c (with_operations declared os at scope z).demands
operations_within c declared [] at scope z b l k h = h
operations_within c declared (o ∷ os) at scope z b l k h =
    let r = operations_grow declared os (at + own_count o) scope (with_operation declared o at scope z) in
    operations_within c declared os (at + own_count o) scope (with_operation declared o at scope z) b (omega arith) k
    ((subst_adds o.body).within c (own_scope o at scope) (headed declared o z) (own_bounded c o at scope b (omega arith)) (omega arith)
    (within_both c z.demands (twice_if (own_differ declared o)) h (twice_within c (own_differ declared o))))

-- ---- the whole machine

abbrev stated : MachineText → Scope → Told → Told
stated m scope z = with_initialisation m.initialisation scope (with_predicates m.assertions scope (with_perhaps m.invariant scope z))

clauses_add : (m : MachineText) → Adds (stated m)
clauses_add m =
    then_adds (λ scope z. with_predicates m.assertions scope (with_perhaps m.invariant scope z)) (with_initialisation m.initialisation)
    (then_adds (with_perhaps m.invariant) (with_predicates m.assertions) (perhaps_adds m.invariant) (predicates_add m.assertions))
    (initialisation_adds m.initialisation)

abbrev begun : MachineText → ℕ → Told
begun m default = with_perhaps m.properties (constants_scope m default) (names_told m)

machine_grows : (m : MachineText) (default : ℕ) → first_part m ≤ (machine_told m default).next
machine_grows m default =
    let a = (perhaps_adds m.properties).grows (constants_scope m default) (names_told m) in
    let b = (clauses_add m).grows (state_scope m default) (begun m default) in
    let c = operations_grow (machine_names m) m.operations (first_own m) (state_scope m default) (stated m (state_scope m default) (begun m default)) in
    omega arith

pub machine_within : (m : MachineText) (default : ℕ) → AreForms (machine_told m default).next (forms_in (machine_told m default).demands)
machine_within m default =
    let c = (machine_told m default).next in
    let scope = state_scope m default in
    let all = machine_grows m default in
    let b = (clauses_add m).grows scope (begun m default) in
    let o = operations_grow (machine_names m) m.operations (first_own m) scope (stated m scope (begun m default)) in
    let bounded = state_bounded c m default (omega arith) in
    operations_within c (machine_names m) m.operations (first_own m) scope (stated m scope (begun m default)) bounded (omega arith) (omega arith)
    ((clauses_add m).within c scope (begun m default) bounded (omega arith)
    ((perhaps_adds m.properties).within c (constants_scope m default) (names_told m) (constants_bounded c m default (omega arith)) (omega arith)
    (twice_within c (all_differ (machine_names m)))))

pub sets_inside : (m : MachineText) (default : ℕ) → length (machine_known m) ≤ (machine_told m default).next
sets_inside m default = let l = length_known (length m.sets) in let g = machine_grows m default in omega arith

-- ---- what is told, by what the code knows

pub operation_is : (declared : List (List ℕ)) (o : Operation) (at : ℕ) (scope sc : Scope) (ds es : List Demand) (n : ℕ) (differ : Bool) → sc ≡ own_scope o at scope → es ≡ ds ++ twice_if differ → differ ≡ own_differ declared o
    → subst_told o.body sc (told es n) ≡ with_operation declared o at scope (told ds n)
operation_is declared o at scope sc ds es n differ a b c =
    ap (λ x. subst_told o.body x (told es n)) a ∙ ap (λ x. subst_told o.body (own_scope o at scope) (told x n)) b
    ∙ ap (λ x. subst_told o.body (own_scope o at scope) (told (ds ++ twice_if x) n)) c

state_is : (m : MachineText) (default : ℕ) (inner outer : Scope) (vs : List Bound) (n : ℕ) → outer ≡ bind (names_of vs) n inner → vs ≡ m.variables → n ≡ first_variable m → inner ≡ constants_scope m default → outer ≡ state_scope m default
state_is m default inner outer vs n a b c d =
    a ∙ ap (λ x. bind (names_of x) n inner) b ∙ ap (λ x. bind (names_of m.variables) x inner) c ∙ ap (bind (names_of m.variables) (first_variable m)) d

names_are : (m : MachineText) (ds es : List Demand) (differ : Bool) → es ≡ ds ++ twice_if differ → ds ≡ [] → differ ≡ all_differ (machine_names m) → told es (first_part m) ≡ names_told m
names_are m ds es differ a b c =
    ap (λ x. told x (first_part m)) a ∙ ap (λ x. told (x ++ twice_if differ) (first_part m)) b ∙ ap (λ x. told (twice_if x) (first_part m)) c

pub machine_is : (m : MachineText) (default : ℕ) (inner outer : Scope) (vs : List Bound) (n : ℕ) (z : Told) (ds es : List Demand) (differ : Bool)
    → outer ≡ bind (names_of vs) n inner → vs ≡ m.variables → n ≡ first_variable m → inner ≡ constants_scope m default
    → z ≡ with_perhaps m.properties (constants_scope m default) (told es (first_part m))
    → es ≡ ds ++ twice_if differ → ds ≡ [] → differ ≡ all_differ (machine_names m) → with_states m outer z ≡ machine_told m default
machine_is m default inner outer vs n z ds es differ a b c d e f g h =
    ap (λ x. with_states m x z) (state_is m default inner outer vs n a b c d)
    ∙ ap (with_states m (state_scope m default)) (e ∙ ap (with_perhaps m.properties (constants_scope m default)) (names_are m ds es differ f g h))
