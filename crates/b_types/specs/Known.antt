-- What is known of a machine's sets: a set is P(S) for a type S of its own, and its elements are S.
use Rattle.std.specs.Prelude.{ℕ, zero, suc, List, [], ◌∷◌, ◌++◌}
use Rattle.b_values.specs.declared.types.Ty.TheVariants as ty
use Rattle.b_values.specs.declared.types.NameFace.{NameFace}

-- a part's type, for which no name is asked
abbrev pub set_at : ℕ → NameFace
set_at i = record { name = []; ty = ty.Set (ty.Elem i) }

abbrev pub element_at : ℕ → NameFace
element_at i = record { name = []; ty = ty.Elem i }

-- those of the first n sets
abbrev pub first_sets : ℕ → List NameFace
first_sets zero = []
first_sets (suc n) = first_sets n ++ set_at n ∷ []

abbrev pub first_elements : ℕ → List NameFace
first_elements zero = []
first_elements (suc n) = first_elements n ++ element_at n ∷ []

-- the parts of n sets, and then one for the elements of each
abbrev pub known_sets : ℕ → List NameFace
known_sets n = first_sets n ++ first_elements n
