-- The index of a table, and the first definitions of names.
use Rattle.std.specs.Prelude.{◌≡◌, ℕ, if◌then◌else◌, List, [], ◌∷◌, bytes_eq, Option, Some, None}
use Rattle.b_ast.specs.declared.machine.Def.{Def}
use Rattle.b_names.specs.declared.places.Index.{Index}
use Rattle.b_names.specs.Index.{IsIndexOf}

-- the index answers for every name as a search through the table does
unfoldable pub IsIndexed : List Def → Index → Type 0
IsIndexed table index = IsIndexOf table index

-- the first definition of a name
abbrev pub first_named : List ℕ → List Def → Option Def
first_named x [] = None
first_named x (d ∷ ds) = if bytes_eq x d.name then Some d else first_named x ds

-- the first definition of each name is the same
unfoldable pub SameFirst : List Def → List Def → Type 0
SameFirst old new = (x : List ℕ) → first_named x new ≡ first_named x old
