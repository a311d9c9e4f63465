-- The first definition of each name, and the others.
use Rattle.std.specs.Prelude.{ℕ, ◌+◌, ◌==◌, Bool, false, if◌then◌else◌, List, [], ◌∷◌, Option, Some, None}
use Rattle.b_ast.specs.declared.machine.Def.{Def}
use Rattle.b_names.specs.declared.places.Index.{Index}
use Rattle.b_names.specs.Index.{answer_of}

abbrev pub is_place : ℕ → Option ℕ → Bool
is_place i None = false
is_place i (Some j) = j == i

-- whether the definition at a place is the one that an index has for its name
abbrev pub is_first : Index → ℕ → Def → Bool
is_first index i d = is_place i (answer_of index d.name)

abbrev pub listed_if : Bool → Def → List Def
listed_if b d = if b then d ∷ [] else []

-- of definitions that stand from a place on, those that are the first of their names, in order
abbrev pub firsts : Index → ℕ → List Def → List Def
firsts index i [] = []
firsts index i (d ∷ ds) = if is_first index i d then d ∷ firsts index (i + 1) ds else firsts index (i + 1) ds

-- and the others
abbrev pub later : Index → ℕ → List Def → List Def
later index i [] = []
later index i (d ∷ ds) = if is_first index i d then later index (i + 1) ds else d ∷ later index (i + 1) ds
