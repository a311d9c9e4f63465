-- What names mean in a machine, outside of its operations. The parts of its sets come first, then one for the elements of
-- each set.
use Rattle.std.specs.Prelude.{ℕ, ◌+◌, List, [], ◌∷◌, ◌++◌, map, length, Option, Some, None}
use Rattle.b_ast.specs.declared.Bound.{Bound}
use Rattle.b_ast.specs.declared.machine.Def.{Def}
use Rattle.b_ast.specs.declared.machine.Operation.{Operation}
use Rattle.b_ast.specs.declared.machine.SetDecl.{SetDecl}
use Rattle.b_ast.specs.declared.machine.MachineText.{MachineText}
use Rattle.type_demands.specs.Scopes.{Scope, names_of}
use Rattle.set_elements.specs.Sizes.{size_in, sizings_of, elements_of}
use Rattle.type_names.specs.declared.listing.Named.{Named}
use Rattle.type_names.specs.Names.{scope_named, in_order, alike, free}

abbrev pub set_names : List SetDecl → List (List ℕ)
set_names ds = map (λ d. d.name.name) ds

-- the elements that are listed
abbrev pub listed : Option (List Bound) → List (List ℕ)
listed None = []
listed (Some es) = names_of es

abbrev pub all_listed : List SetDecl → List (List ℕ)
all_listed [] = []
all_listed (d ∷ ds) = listed d.elements ++ all_listed ds

abbrev pub operation_names : List Operation → List (List ℕ)
operation_names os = map (λ o. o.name.name) os

abbrev pub definition_names : List Def → List (List ℕ)
definition_names ds = map (λ d. d.name) ds

-- the names that a machine declares: all of them differ, and each hides elements of deferred sets
abbrev pub machine_names : MachineText → List (List ℕ)
machine_names m = set_names m.sets ++ all_listed m.sets ++ names_of m.constants ++ names_of m.variables ++ operation_names m.operations ++ definition_names m.defs.defs

-- listed elements, and those of deferred sets that nothing hides; of two deferred sets the first wins
abbrev pub listed_elements : ℕ → List SetDecl → List Named
listed_elements p [] = []
listed_elements p (d ∷ ds) = alike p (listed d.elements) ++ listed_elements (p + 1) ds

abbrev pub deferred : (List ℕ → ℕ) → List ℕ → Option (List Bound) → List (List ℕ)
deferred size set None = elements_of set (size set)
deferred size set (Some es) = []

abbrev pub deferred_elements : List (List ℕ) → (List ℕ → ℕ) → ℕ → List SetDecl → List Named
deferred_elements hiding size p [] = []
deferred_elements hiding size p (d ∷ ds) = alike p (free hiding (deferred size d.name.name d.elements)) ++ deferred_elements hiding size (p + 1) ds

-- the size of a deferred set, by PROPERTIES or else by default
abbrev pub set_size : MachineText → ℕ → List ℕ → ℕ
set_size m default set = size_in (sizings_of m.properties) default set

-- what sets and elements mean
abbrev pub sets_named : MachineText → ℕ → List Named
sets_named m default =
    in_order 0 (set_names m.sets) ++ listed_elements (length m.sets) m.sets ++ deferred_elements (machine_names m) (set_size m default) (length m.sets) m.sets

abbrev pub sets_scope : MachineText → ℕ → Scope
sets_scope m default = scope_named (sets_named m default)
