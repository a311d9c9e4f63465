-- Names that are found by one look.
use Rattle.std.specs.Prelude.{◌≡◌, ℕ, List}
use Rattle.type_demands.specs.Scopes.{nothing_known, bind, meaning_in}
use Rattle.type_names.specs.declared.looking.Hiding.{Hiding}

-- the frame has the names of the list
abbrev pub IsFramed : Hiding → Type 0
IsFramed h = (x : List ℕ) → meaning_in h.frame.meanings x ≡ bind h.names 0 nothing_known x
