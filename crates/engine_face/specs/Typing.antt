-- Faces, states and steps of a machine: names, types and operations.
use Rattle.std.specs.Prelude.{◌≡◌, ◌<◌, ℕ, List, [], ◌++◌, length, map, slice_get, Some, IsTrue}
use Rattle.std.specs.Option.{option_map_or}
use Rattle.std.specs.List.{AllByRecursion, AllZip}
use Rattle.b_values.specs.Values.{IsKept}
use Rattle.b_values.specs.Types.{HasType}
use Rattle.b_values.specs.Preferences.{AreInRange}
use Rattle.b_values.specs.Reading.{HasNames, is_name}
use Rattle.b_values.specs.declared.types.Face.{Face}
use Rattle.b_values.specs.declared.types.NameFace.{NameFace}
use Rattle.b_values.specs.declared.types.SetFace.{SetFace}
use Rattle.b_values.specs.declared.types.Ty.{Ty}
use Rattle.b_values.specs.declared.types.OpId.{OpId}
use Rattle.b_values.specs.declared.types.OpId.TheVariants as op
use Rattle.b_values.specs.declared.values.State.{State}
use Rattle.b_values.specs.declared.values.State.TheVariants.{Root, Constants, Running}
use Rattle.b_values.specs.declared.values.Value.{Value}
use Rattle.engine_face.specs.Words.{WordsFit}
use Rattle.engine_face.specs.Packing.{Unpacking, IsPacked}
use Rattle.engine_face.specs.declared.answers.Step.{Step}
use Rattle.engine_face.specs.declared.answers.OpList.{OpList}
use Rattle.engine_face.specs.declared.keys.Scope.{Scope}
use Rattle.engine_face.specs.declared.keys.Scope.TheVariants as scope

-- a value of the type: its sets ascend, it has at most a million nodes, and its numbers and places fit their words
pub record IsOfType (sets : List SetFace) (ty : Ty) (v : Value) : Type 0 where
  pub typed : HasType sets ty v
  pub kept : IsKept v
  pub words : WordsFit v

-- one value for each name, of its type
abbrev pub AreOfTypes : List SetFace → List NameFace → List Value → Type 0
AreOfTypes sets = AllZip (λ name v. IsOfType sets name.ty v)

-- a state of the machine has one value for each name that its kind has
abbrev pub IsStateOf : Face → State → Type 0
IsStateOf face Root = Unit {0}
IsStateOf face (Constants cs) = AreOfTypes face.sets face.constants cs
IsStateOf face (Running cs vs) = AreOfTypes face.sets face.constants cs × AreOfTypes face.sets face.variables vs

-- the constants' values, then the variables'
abbrev pub values_in : State → List Value
values_in Root = []
values_in (Constants cs) = cs
values_in (Running cs vs) = cs ++ vs

-- the setup, the initialisation, or an operation of the machine
abbrev pub IsOpOf : Face → OpId → Type 0
IsOpOf face op.Setup = Unit {0}
IsOpOf face op.Init = Unit {0}
IsOpOf face (op.Op n) = n < length face.ops

-- the scope of a state, or of such an operation
abbrev pub FitsScope : Face → Scope → Type 0
FitsScope face scope.State = Unit {0}
FitsScope face (scope.Op op) = IsOpOf face op

-- the names of a step's parameters: those of the setup are the constants
abbrev pub params_of : Face → OpId → List NameFace
params_of face op.Setup = face.constants
params_of face op.Init = []
params_of face (op.Op n) = option_map_or (λ f. f.params) (slice_get face.ops n) []

abbrev pub results_of : Face → OpId → List NameFace
results_of face op.Setup = []
results_of face op.Init = []
results_of face (op.Op n) = option_map_or (λ f. f.results) (slice_get face.ops n) []

-- a step of the operation: its values are of their types, and a state stands behind it
pub record IsStepOf (face : Face) (unpack : Unpacking) (asked : OpId) (step : Step (List ℕ)) : Type 0 where
  pub op : step.op ≡ asked
  pub params : AreOfTypes face.sets (params_of face asked) step.params
  pub results : AreOfTypes face.sets (results_of face asked) step.results
  pub dest : IsPacked unpack step.dest

-- an operation of the machine with steps of it
pub record IsListOf (face : Face) (unpack : Unpacking) (list : OpList (List ℕ)) : Type 0 where
  pub op : IsOpOf face list.op
  pub steps : AllByRecursion (IsStepOf face unpack list.op) list.steps

-- ---- faces

abbrev pub names_of : List NameFace → List (List ℕ)
names_of = map (λ n. n.name)

-- the names that a machine declares
abbrev pub declared_names : Face → List (List ℕ)
declared_names face = map (λ s. s.name) face.sets ++ names_of face.constants ++ names_of face.variables ++ map (λ f. f.name) face.ops

-- no name stands in the list twice
abbrev pub AreDistinct : List (List ℕ) → Type 0
AreDistinct names = (i j : ℕ) (name : List ℕ) → slice_get names i ≡ Some name → slice_get names j ≡ Some name → i ≡ j

-- names of the language, each once
pub record AreNames (names : List (List ℕ)) : Type 0 where
  pub spelled : AllByRecursion (λ name. IsTrue (is_name name)) names
  pub distinct : AreDistinct names

-- the names of a machine are names and differ, as do an operation's own names beside them and the elements of a set;
-- the preferences are in their ranges
pub record IsFace (face : Face) : Type 0 where
  pub prefs : AreInRange face.prefs
  pub declared : AreNames (declared_names face)
  pub ops : AllByRecursion (λ f. AreNames (declared_names face ++ names_of f.params ++ names_of f.results)) face.ops
  pub elements : AllByRecursion HasNames face.sets
