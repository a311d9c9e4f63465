-- A command as the questions that it asks, one after another, each with how it goes on, and its end.
use Rattle.std.specs.Prelude.{ℕ, Bool, true, false, List, [], ◌∷◌, ◌++◌, Option, count_by}
use Rattle.std.specs.List.{flat_map}
use Rattle.b_values.specs.declared.types.OpId.{OpId}
use Rattle.b_values.specs.declared.values.State.{State}
use Rattle.engine_face.specs.Meaning.{Meaning}
use Rattle.engine_face.specs.declared.answers.StepList.{StepList}
use Rattle.engine_face.specs.declared.answers.ValueAnswer.{ValueAnswer}
use Rattle.engine_face.specs.declared.answers.Found.{Found}
use Rattle.engine_face.specs.declared.answers.Confirmed.{Confirmed}
use Rattle.engine_face.specs.declared.keys.FormulaKey.{FormulaKey}
use Rattle.engine_face.specs.declared.keys.SavedStep.{SavedStep}
use Rattle.session_words.specs.declared.replies.Reply.{Reply}
use Rattle.animator.specs.Sessions.{Session}

-- what a command leaves: the session after it, and a reply in which a state stands for itself
pub record Answered : Type 0 where
  pub session : Session
  pub reply : Reply State

pub data Plan : Type 0 where
  -- nothing more is asked
  Done : Answered → Plan
  -- the lists of a state
  Lists : State → (StepList State → Plan) → Plan
  -- the value of a formula in a state
  ValueIn : State → FormulaKey → (ValueAnswer → Plan) → Plan
  -- the step of an operation from a state at which the predicates hold
  Find : State → OpId → List FormulaKey → (Found State → Plan) → Plan
  -- the step from a state that agrees with a saved one
  Confirm : State → SavedStep → (Confirmed State → Plan) → Plan
  -- the state of a number, if the host's list has one
  Number : ℕ → (Option State → Plan) → Plan
  -- a document, if the cabinet gives it; and whether it stored one. Its calls are counted from 1 within the command
  Load : ℕ → List ℕ → (Option (List ℕ) → Plan) → Plan
  Store : ℕ → List ℕ → List ℕ → (Bool → Plan) → Plan
  -- nothing but memory refuses the command from here on: these states are shown, in this order
  Show : List State → Plan → Plan

-- what surrounds one command: the machine, the host's list of states, and what the cabinet answers
pub record World : Type 0 where
  pub meaning : Meaning
  pub number : ℕ → Option State
  pub load : ℕ → List ℕ → Option (List ℕ)
  pub store : ℕ → List ℕ → List ℕ → Bool

-- the plan is walked with the world's answers
abbrev pub run : World → Plan → Answered
run w (Done answered) = answered
run w (Lists s k) = run w (k (w.meaning.expand s))
run w (ValueIn s key k) = run w (k (w.meaning.value s key))
run w (Find s op preds k) = run w (k (w.meaning.find s op preds))
run w (Confirm s saved k) = run w (k (w.meaning.confirm s saved))
run w (Number n k) = run w (k (w.number n))
run w (Load call name k) = run w (k (w.load call name))
run w (Store call name bytes k) = run w (k (w.store call name bytes))
run w (Show states plan) = run w plan

-- a question of an engine or of a cabinet
pub data Ask : Type 0 where
  AskLists : State → Ask
  AskValue : State → FormulaKey → Ask
  AskFind : State → OpId → List FormulaKey → Ask
  AskConfirm : State → SavedStep → Ask
  AskLoad : ℕ → List ℕ → Ask
  AskStore : ℕ → List ℕ → List ℕ → Ask

-- what is asked on the same walk, in order
abbrev pub asks : World → Plan → List Ask
asks w (Done answered) = []
asks w (Lists s k) = AskLists s ∷ asks w (k (w.meaning.expand s))
asks w (ValueIn s key k) = AskValue s key ∷ asks w (k (w.meaning.value s key))
asks w (Find s op preds k) = AskFind s op preds ∷ asks w (k (w.meaning.find s op preds))
asks w (Confirm s saved k) = AskConfirm s saved ∷ asks w (k (w.meaning.confirm s saved))
asks w (Number n k) = asks w (k (w.number n))
asks w (Load call name k) = AskLoad call name ∷ asks w (k (w.load call name))
asks w (Store call name bytes k) = AskStore call name bytes ∷ asks w (k (w.store call name bytes))
asks w (Show states plan) = asks w plan

-- the states that are named on the same walk, in order
abbrev pub shows : World → Plan → List State
shows w (Done answered) = []
shows w (Lists s k) = shows w (k (w.meaning.expand s))
shows w (ValueIn s key k) = shows w (k (w.meaning.value s key))
shows w (Find s op preds k) = shows w (k (w.meaning.find s op preds))
shows w (Confirm s saved k) = shows w (k (w.meaning.confirm s saved))
shows w (Number n k) = shows w (k (w.number n))
shows w (Load call name k) = shows w (k (w.load call name))
shows w (Store call name bytes k) = shows w (k (w.store call name bytes))
shows w (Show states plan) = states ++ shows w plan

-- ---- what is counted

abbrev pub list_in : Ask → List State
list_in (AskLists s) = s ∷ []
list_in ask = []

abbrev pub value_in : Ask → List (State × FormulaKey)
value_in (AskValue s key) = (s, key) ∷ []
value_in ask = []

abbrev pub is_find : Ask → Bool
is_find (AskFind s op preds) = true
is_find ask = false

abbrev pub is_confirm : Ask → Bool
is_confirm (AskConfirm s saved) = true
is_confirm ask = false

abbrev pub is_cabinet_call : Ask → Bool
is_cabinet_call (AskLoad call name) = true
is_cabinet_call (AskStore call name bytes) = true
is_cabinet_call ask = false

-- the states whose lists are asked
abbrev pub lists_asked : List Ask → List State
lists_asked = flat_map list_in

-- the states and formulas whose values are asked
abbrev pub values_asked : List Ask → List (State × FormulaKey)
values_asked = flat_map value_in

abbrev pub finds_asked : List Ask → ℕ
finds_asked = count_by is_find

abbrev pub confirms_asked : List Ask → ℕ
confirms_asked = count_by is_confirm

-- how often the cabinet is called
abbrev pub cabinet_calls : List Ask → ℕ
cabinet_calls = count_by is_cabinet_call
