-- What it is to be an engine's answer to a question: it means what the machine means, and it is well formed.
use Rattle.std.specs.Prelude.{◌≡◌, ℕ, List, Bool, true, false}
use Rattle.std.specs.List.{AllByRecursion}
use Rattle.b_values.specs.declared.types.Face.{Face}
use Rattle.b_values.specs.declared.types.OpId.{OpId}
use Rattle.b_values.specs.declared.types.Ty.{Ty}
use Rattle.b_values.specs.declared.types.Ty.TheVariants as ty
use Rattle.b_values.specs.declared.values.Value.{Value}
use Rattle.engine_face.specs.Meaning.{Meaning}
use Rattle.engine_face.specs.Packing.{Unpacking, state_of, plain_lists, plain_found, plain_confirmed}
use Rattle.engine_face.specs.Typing.{IsOfType, IsOpOf, IsStepOf, IsListOf}
use Rattle.engine_face.specs.declared.answers.StepList.{StepList}
use Rattle.engine_face.specs.declared.answers.ValueAnswer.{ValueAnswer}
use Rattle.engine_face.specs.declared.answers.ValueAnswer.TheVariants as answer
use Rattle.engine_face.specs.declared.answers.Found.{Found}
use Rattle.engine_face.specs.declared.answers.Found.TheVariants as found
use Rattle.engine_face.specs.declared.answers.Confirmed.{Confirmed}
use Rattle.engine_face.specs.declared.answers.Confirmed.TheVariants as confirmed
use Rattle.engine_face.specs.declared.keys.FormulaKey.{FormulaKey}
use Rattle.engine_face.specs.declared.keys.SavedStep.{SavedStep}

-- a value of a formula: of some type over the face's sets, and of a predicate a truth value
abbrev pub IsResult : Face → Bool → Value → Type 0
IsResult face true v = IsOfType face.sets ty.Truth v
IsResult face false v = (t : Ty) × IsOfType face.sets t v

abbrev pub HoldsResult : Face → Bool → ValueAnswer → Type 0
HoldsResult face predicate answer.NotInitialised = Unit {0}
HoldsResult face predicate (answer.Fault fault) = Unit {0}
HoldsResult face predicate (answer.Value v bounded) = IsResult face predicate v

abbrev pub FindsStep : Face → Unpacking → OpId → Found (List ℕ) → Type 0
FindsStep face unpack op (found.Step step) = IsStepOf face unpack op step
FindsStep face unpack op found.Nothing = Unit {0}
FindsStep face unpack op (found.Fault fault) = Unit {0}

abbrev pub ConfirmsStep : Face → Unpacking → Confirmed (List ℕ) → Type 0
ConfirmsStep face unpack (confirmed.Step step) = IsOpOf face step.op × IsStepOf face unpack step.op step
ConfirmsStep face unpack confirmed.NotAStep = Unit {0}

-- The four answers, at the state for which the bytes stand.
module _ (m : Meaning) (unpack : Unpacking) (at : List ℕ) where
  pub record IsStepList (list : StepList (List ℕ)) : Type 0 where
    pub means : plain_lists unpack list ≡ m.expand (state_of unpack at)
    pub lists : AllByRecursion (IsListOf m.face unpack) list.lists

  pub record IsValueAnswer (key : FormulaKey) (answer : ValueAnswer) : Type 0 where
    pub means : answer ≡ m.value (state_of unpack at) key
    pub typed : HoldsResult m.face key.predicate answer

  pub record IsFound (op : OpId) (preds : List FormulaKey) (answer : Found (List ℕ)) : Type 0 where
    pub means : plain_found unpack answer ≡ m.find (state_of unpack at) op preds
    pub step : FindsStep m.face unpack op answer

  pub record IsConfirmed (saved : SavedStep) (answer : Confirmed (List ℕ)) : Type 0 where
    pub means : plain_confirmed unpack answer ≡ m.confirm (state_of unpack at) saved
    pub step : ConfirmsStep m.face unpack answer
