-- What it is to be of a type, and which preferences and states fit a machine.
use Rattle.std.specs.Prelude.{◌≡◌, ◌<◌, ◌^◌, ℕ, IsSomeAnd, IsUtf8, List, length, slice_get}
use Rattle.std.specs.List.{AllByRecursion, AllZip}
use Rattle.b_values.specs.declared.types.SetFace.{SetFace}
use Rattle.b_values.specs.declared.types.NameFace.{NameFace}
use Rattle.b_values.specs.declared.types.Face.{Face}
use Rattle.b_values.specs.declared.types.Ty.{Ty, rec-Ty}
use Rattle.b_values.specs.declared.types.Ty.TheOpen.{Ty-F}
use Rattle.b_values.specs.declared.values.State.{State}
use Rattle.b_values.specs.declared.values.State.TheVariants.{Root, Constants, Running}
use Rattle.b_values.specs.declared.values.Value.{Value, out-Value}
use Rattle.b_values.specs.declared.values.Value.TheOpen.{Value-F}

-- the bytes of a text
pub record IsText (bytes : List ℕ) : Type 0 where
  pub utf8 : IsUtf8 bytes
  pub short : length bytes < 2 ^ 32

-- the machine has the set, and the set the element
abbrev pub IsElement : List SetFace → ℕ → ℕ → Type 0
IsElement sets set index = IsSomeAnd (slice_get sets set) (λ f. index < length f.elements)

-- a layer of a value is of a layer of a type, where `Has t v` says that the part v is of the part t
abbrev pub LayerHasType : {T : Type 0} → List SetFace → (T → Value → Type 0) → Ty-F T → Value-F Value → Type 0
LayerHasType sets Has Ty-F.Int (Value-F.Int n) = Unit {0}
LayerHasType sets Has Ty-F.Truth (Value-F.Truth b) = Unit {0}
LayerHasType sets Has Ty-F.Text (Value-F.Text s) = IsText s
LayerHasType sets Has (Ty-F.Elem k) (Value-F.Elem set index) = (set ≡ k) × IsElement sets set index
LayerHasType sets Has (Ty-F.Pair t u) (Value-F.Pair a b) = Has t a × Has u b
LayerHasType sets Has (Ty-F.Set t) (Value-F.Set xs) = AllByRecursion (Has t) xs
LayerHasType sets Has t v = ⊥

-- the value is of the type, in every part: its texts are texts and its elements are elements of the machine's sets
abbrev pub HasType : List SetFace → Ty → Value → Type 0
HasType sets = rec-Ty (Value → Type 0) (λ T ty Has t v. LayerHasType sets Has t (out-Value v))

-- each value is of the type of its name, in their order
abbrev pub HaveTypes : List SetFace → List NameFace → List Value → Type 0
HaveTypes sets = AllZip (λ n v. HasType sets n.ty v)

-- the state has one value for each name of the machine, of its type
abbrev pub FitsFace : Face → State → Type 0
FitsFace face Root = Unit {0}
FitsFace face (Constants cs) = HaveTypes face.sets face.constants cs
FitsFace face (Running cs vs) = HaveTypes face.sets face.constants cs × HaveTypes face.sets face.variables vs
