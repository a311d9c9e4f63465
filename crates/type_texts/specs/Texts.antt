-- The text of a type, as authors of B write it.
use Rattle.std.specs.Prelude.{ℕ, Bool, true, false, List, [], ◌∷◌, ◌++◌, codes, cond, Option, Some, None, slice_get}
use Rattle.b_values.specs.declared.types.SetFace.{SetFace}
use Rattle.b_values.specs.declared.types.Ty.{Ty, fold-Ty}
use Rattle.b_values.specs.declared.types.Ty.TheOpen.{Ty-F}

-- the text on the right of a `*`, or elsewhere
abbrev pub Written : Type 0
Written = Bool → List ℕ

-- a product on the right of a product stands in brackets
abbrev pub opening : Bool → List ℕ
opening is_right = cond is_right (codes "(") []

abbrev pub closing : Bool → List ℕ
closing is_right = cond is_right (codes ")") []

-- the name of a set by its place
abbrev pub name_of : Option SetFace → List ℕ
name_of None = []
name_of (Some s) = s.name

abbrev pub set_name : ℕ → List SetFace → List ℕ
set_name k sets = name_of (slice_get sets k)

abbrev pub layer_text : List SetFace → Ty-F Written → Written
layer_text sets Ty-F.Int is_right = codes "INTEGER"
layer_text sets Ty-F.Truth is_right = codes "BOOL"
layer_text sets Ty-F.Text is_right = codes "STRING"
layer_text sets (Ty-F.Elem k) is_right = set_name k sets
layer_text sets (Ty-F.Pair l r) is_right = opening is_right ++ l false ++ codes " * " ++ r true ++ closing is_right
layer_text sets (Ty-F.Set t) is_right = codes "POW(" ++ t false ++ codes ")"

abbrev pub text_beside : List SetFace → Ty → Written
text_beside sets = fold-Ty Written (layer_text sets)

abbrev pub type_text : List SetFace → Ty → List ℕ
type_text sets t = text_beside sets t false
