-- What an engine's machine means, told of plain states. It rests on the machine and its preferences alone.
use Rattle.std.specs.Prelude.{◌≡◌, ◌⊎◌, ℕ, List, [], true, Result, Ok, Err}
use Rattle.b_values.specs.declared.types.Face.{Face}
use Rattle.b_values.specs.declared.types.OpId.{OpId}
use Rattle.b_values.specs.declared.values.State.{State}
use Rattle.engine_face.specs.declared.answers.StepList.{StepList}
use Rattle.engine_face.specs.declared.answers.ValueAnswer.{ValueAnswer}
use Rattle.engine_face.specs.declared.answers.Found.{Found}
use Rattle.engine_face.specs.declared.answers.Confirmed.{Confirmed}
use Rattle.engine_face.specs.declared.keys.FormulaKey.{FormulaKey}
use Rattle.engine_face.specs.declared.keys.SavedStep.{SavedStep}
use Rattle.engine_face.specs.declared.keys.LoadKind.{LoadKind}
use Rattle.engine_face.specs.declared.keys.KeyFault.{KeyFault}
use Rattle.engine_face.specs.declared.keys.KeyFault.TheVariants as fault
use Rattle.engine_face.specs.declared.keys.Scope.{Scope}
use Rattle.engine_face.specs.declared.keys.Scope.TheVariants as scope

pub record Meaning : Type 0 where
  -- the machine's names, types, sets, operations and preferences
  pub face : Face
  -- the state before the first step
  pub root : State
  -- the lists that a state offers
  pub expand : State → StepList State
  -- the value of a formula in a state
  pub value : State → FormulaKey → ValueAnswer
  -- the step of an operation at which the predicates hold
  pub find : State → OpId → List FormulaKey → Found State
  -- the step that agrees with a saved one
  pub confirm : State → SavedStep → Confirmed State
  -- the key of a formula in a scope, or why it is refused
  pub read_formula : Scope → List ℕ → Result FormulaKey LoadKind
  -- the canonical text of a formula of a state
  pub canonical : FormulaKey → List ℕ

-- the key of the invariant: the empty text
abbrev pub invariant_key : FormulaKey
invariant_key = record { text = []; predicate = true }

-- the key is what its text reads to in the scope
abbrev pub IsAccepted : Meaning → Scope → FormulaKey → Type 0
IsAccepted m scope key = m.read_formula scope key.text ≡ Ok key

-- the key may be asked for in a state: the invariant's, or one that was accepted
abbrev pub IsAskable : Meaning → FormulaKey → Type 0
IsAskable m key = (key ≡ invariant_key) ⊎ IsAccepted m scope.State key

-- the key is a predicate that was accepted in the scope of the operation
pub record IsPredicateOf (m : Meaning) (op : OpId) (key : FormulaKey) : Type 0 where
  pub accepted : IsAccepted m (scope.Op op) key
  pub predicate : key.predicate ≡ true

-- a formula's key has its text as given
abbrev pub KeysHaveTexts : Meaning → Type 0
KeysHaveTexts m = (scope : Scope) (text : List ℕ) (key : FormulaKey) → m.read_formula scope text ≡ Ok key → key.text ≡ text

-- the answer to a text is its key, which is then accepted, or exactly its refusal; or there was no memory
abbrev pub ReadsTo : Meaning → Scope → List ℕ → Result FormulaKey KeyFault → Type 0
ReadsTo m scope text (Ok key) = (m.read_formula scope text ≡ Ok key) × IsAccepted m scope key
ReadsTo m scope text (Err (fault.Refused kind)) = m.read_formula scope text ≡ Err kind
ReadsTo m scope text (Err fault.Memory) = Unit {0}
