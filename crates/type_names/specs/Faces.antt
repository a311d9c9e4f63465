-- What names mean in a formula beside a machine's face. The parts of its sets come first, then one for the elements of each
-- set, then constants, variables and parameters.
use Rattle.std.specs.Prelude.{ℕ, ◌+◌, Bool, true, false, ◌&&◌, cond, List, [], ◌∷◌, ◌++◌, map, length, bytes_eq}
use Rattle.b_values.specs.declared.types.SetFace.{SetFace}
use Rattle.b_values.specs.declared.types.NameFace.{NameFace}
use Rattle.b_values.specs.declared.types.OpFace.{OpFace}
use Rattle.b_values.specs.declared.types.Face.{Face}
use Rattle.type_demands.specs.Scopes.{Scope}
use Rattle.set_elements.specs.Sizes.{element_of}
use Rattle.type_names.specs.declared.listing.Named.{Named}
use Rattle.type_names.specs.Names.{scope_named, in_order, alike, free}

abbrev pub set_names : List SetFace → List (List ℕ)
set_names ss = map (λ s. s.name) ss

abbrev pub face_names : List NameFace → List (List ℕ)
face_names ks = map (λ k. k.name) ks

abbrev pub operation_names : List OpFace → List (List ℕ)
operation_names os = map (λ o. o.name) os

-- the elements are called as those of a deferred set, from k on. Where a machine lists elements so, nothing else that it
-- declares has their names, so it makes no difference
abbrev pub are_counted : List ℕ → ℕ → List (List ℕ) → Bool
are_counted set k [] = true
are_counted set k (e ∷ es) = bytes_eq e (element_of set k) && are_counted set (k + 1) es

abbrev pub is_deferred : SetFace → Bool
is_deferred s = are_counted s.name 1 s.elements

abbrev pub listed_elements : ℕ → List SetFace → List Named
listed_elements p [] = []
listed_elements p (s ∷ ss) = alike p (cond (is_deferred s) [] s.elements) ++ listed_elements (p + 1) ss

-- of deferred sets' elements those that no operation hides; of two deferred sets the first wins
abbrev pub deferred_elements : List (List ℕ) → ℕ → List SetFace → List Named
deferred_elements hiding p [] = []
deferred_elements hiding p (s ∷ ss) = alike p (cond (is_deferred s) (free hiding s.elements) []) ++ deferred_elements hiding (p + 1) ss

abbrev pub elements_named : Face → List Named
elements_named f = listed_elements (length f.sets) f.sets ++ deferred_elements (operation_names f.ops) (length f.sets) f.sets

-- parameters hide elements, and nothing else has a name of theirs
abbrev pub all_named : Face → List NameFace → List NameFace → List NameFace → List Named
all_named f constants variables params =
    let c = length f.sets + length f.sets in
    in_order (c + length constants + length variables) (face_names params) ++ in_order 0 (set_names f.sets) ++ in_order c (face_names constants)
    ++ in_order (c + length constants) (face_names variables) ++ elements_named f

abbrev pub scope_beside : Face → List NameFace → List NameFace → List NameFace → Scope
scope_beside f constants variables params = scope_named (all_named f constants variables params)
