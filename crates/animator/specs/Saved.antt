-- What a trace saves: each step by names and texts, with the names of what it changed and of what it didn't.
use Rattle.std.specs.Prelude.{ℕ, Bool, not, List, [], ◌∷◌, ◌++◌, map, filter, Option, Some, None, codes}
use Rattle.std.specs.List.{zip}
use Rattle.b_values.specs.declared.types.Face.{Face}
use Rattle.b_values.specs.declared.types.NameFace.{NameFace}
use Rattle.b_values.specs.declared.types.OpId.{OpId}
use Rattle.b_values.specs.declared.types.OpId.TheVariants as op
use Rattle.b_values.specs.declared.values.Value.{Value}
use Rattle.b_values.specs.declared.values.State.{State}
use Rattle.b_values.specs.declared.values.State.TheVariants.{Root, Constants, Running}
use Rattle.b_values.specs.Values.{same_value}
use Rattle.b_values.specs.Texts.{text_of}
use Rattle.engine_face.specs.Typing.{params_of, results_of}
use Rattle.engine_face.specs.declared.answers.Step.{Step}
use Rattle.engine_face.specs.declared.keys.NamedText.{NamedText}
use Rattle.engine_face.specs.declared.keys.SavedStep.{SavedStep}
use Rattle.session_words.specs.Replies.{op_name}

-- a name with its value, as a document tells it
abbrev pub named_text : Face → NameFace × Value → NamedText
named_text face named = record { name = named.0.name; text = text_of face.sets named.1 }

abbrev pub named_texts : Face → List NameFace → List Value → List NamedText
named_texts face names values = map (named_text face) (zip names values)

abbrev pub constants_in : State → List Value
constants_in Root = []
constants_in (Constants cs) = cs
constants_in (Running cs vs) = cs

abbrev pub variables_in : State → List Value
variables_in Root = []
variables_in (Constants cs) = []
variables_in (Running cs vs) = vs

-- a variable with its value before and after
abbrev pub Change : Type 0
Change = NameFace × (Value × Value)

abbrev pub is_same : Change → Bool
is_same change = same_value change.1.0 change.1.1

-- the variables with their values in two states
abbrev pub changes : Face → State → State → List Change
changes face before after = zip face.variables (zip (variables_in before) (variables_in after))

-- the values after a step that are told: the constants of the setup, all variables of the initialisation, and those that another step changed
abbrev pub told_after : Face → OpId → State → State → List NamedText
told_after face op.Setup before after = named_texts face face.constants (constants_in after)
told_after face op.Init before after = named_texts face face.variables (variables_in after)
told_after face (op.Op n) before after = map (λ change. named_text face (change.0, change.1.1)) (filter (λ change. not (is_same change)) (changes face before after))

-- the variables that a step left as they were
abbrev pub same_after : Face → OpId → State → State → List (List ℕ)
same_after face op.Setup before after = []
same_after face op.Init before after = []
same_after face (op.Op n) before after = map (λ change. change.0.name) (filter is_same (changes face before after))

-- a step from a state, as a document tells it
abbrev pub saved_step : Face → State → Step State → SavedStep
saved_step face before step = record {
  name = op_name face step.op;
  params = named_texts face (params_of face step.op) step.params;
  results = named_texts face (results_of face step.op) step.results;
  dest = told_after face step.op before step.dest;
  same = same_after face step.op before step.dest;
}

-- the steps of a trace, each from the state that the one before it reached
abbrev pub saved_steps : Face → State → List (Step State) → List SavedStep
saved_steps face state [] = []
saved_steps face state (step ∷ steps) = saved_step face state step ∷ saved_steps face step.dest steps
