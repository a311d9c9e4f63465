-- Definitions with ranks.
use Rattle.std.specs.Prelude.{ℕ, List, slice_get, unwrap_or, option_and_then}
use Rattle.b_ast.specs.declared.machine.Def.{Def}
use Rattle.b_names.specs.declared.places.Index.{Index}
use Rattle.b_names.specs.Index.{answer_of}
use Rattle.b_definitions.specs.declared.sorting.Ranked.{Ranked}

-- the rank of a name
abbrev pub rank_of : Index → List ℕ → List ℕ → ℕ
rank_of index ranks x = unwrap_or (option_and_then (slice_get ranks) (answer_of index x)) 0

abbrev pub ranked : Index → List ℕ → Def → Ranked
ranked index ranks d = record { rank = rank_of index ranks d.name; def = d }
