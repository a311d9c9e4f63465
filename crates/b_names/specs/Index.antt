-- What an index of names answers.
use Rattle.std.specs.Prelude.{◌≡◌, ℕ, List, Option, Some, Vec, length, position, slice_get, bytes_eq, IfSome}
use Rattle.std.specs.HashMap.{HashMap, get_by}
use Rattle.b_ast.specs.declared.machine.Def.{Def}
use Rattle.b_names.specs.declared.places.Index.{Index}
use Rattle.b_names.specs.declared.places.TableIndex.{TableIndex}

-- the place of the first definition of a name
abbrev pub place_of : List Def → List ℕ → Option ℕ
place_of ds x = position (λ d. bytes_eq x d.name) ds

-- the place that a map has at a name
abbrev pub place_in : {Y S : Type 0} → HashMap (Vec ℕ Y) ℕ S → List ℕ → Option ℕ
place_in m x = get_by (λ k. bytes_eq x k.items) m

-- the place that an index has at a name
unfoldable pub answer_of : Index → List ℕ → Option ℕ
answer_of i x = place_in i.places x

-- the index answers for every name as a search through the table does
abbrev pub IsIndexOf : List Def → Index → Type 0
IsIndexOf ds i = (x : List ℕ) → answer_of i x ≡ place_of ds x

-- the index answers for every name as a search through a list of names does
unfoldable pub IsIndexOfNames : List (List ℕ) → Index → Type 0
IsIndexOfNames xs i = (x : List ℕ) → answer_of i x ≡ position (bytes_eq x) xs

-- the indexes are those of the parameters of the first definitions of a table
unfoldable pub AreOfParameters : List Def → List Index → Type 0
AreOfParameters ds is = (k : ℕ) (i : Index) → slice_get is k ≡ Some i → IfSome (slice_get ds k) (λ d. IsIndexOfNames d.params i)

-- an index of the definitions of a table, and one of the parameters of each
pub record IsTableIndex (ds : List Def) (t : TableIndex) : Type 0 where
  pub definitions : IsIndexOf ds t.definitions
  pub parameters : AreOfParameters ds t.parameters
  pub as_many : length t.parameters ≡ length ds
