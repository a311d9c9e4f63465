-- The parts of replies as texts: refusals, faults, answers.
use Rattle.std.specs.Prelude.{ℕ, Bool, List, [], ◌∷◌, ◌++◌, flat_map, if◌then◌else◌, codes}
use Rattle.std.specs.Fmt.{decimal}
use Rattle.b_values.specs.declared.types.Face.{Face}
use Rattle.b_values.specs.declared.values.Value.{Value, out-Value}
use Rattle.b_values.specs.declared.values.Value.TheOpen.{Value-F}
use Rattle.b_values.specs.declared.values.FaultKind.{FaultKind}
use Rattle.b_values.specs.declared.values.FaultKind.TheVariants.{IllDefined, Overflow, TooLarge}
use Rattle.b_values.specs.declared.values.Text.{Text}
use Rattle.b_values.specs.declared.values.Text.TheVariants.{Machine, Formula}
use Rattle.b_values.specs.declared.values.EvalFault.{EvalFault}
use Rattle.b_values.specs.Texts.{text_of, spelling_of}
use Rattle.engine_face.specs.declared.answers.ListEnd.{ListEnd}
use Rattle.engine_face.specs.declared.answers.ListEnd.TheVariants as ending
use Rattle.engine_face.specs.declared.answers.ValueAnswer.{ValueAnswer}
use Rattle.engine_face.specs.declared.answers.ValueAnswer.TheVariants as answer
use Rattle.session_words.specs.declared.refusals.Refusal.{Refusal}
use Rattle.session_words.specs.declared.refusals.Refusal.TheVariants.{LineTooLong, NoCommand, AtStart, AtEnd, NoPosition, NotShown, NoSub, NoKept, NoEvent, KeptFull, UnknownName, Syntax, WrongType, SubsFull, Document, TraceFile, PostForm, NotInitialised, Fault, NoStep, TraceFull, NotAStep, Memory}

-- a line of a reply, with its LF
abbrev pub line : List ℕ → List ℕ
line text = text ++ 10 ∷ []

-- which text a place is in
abbrev pub text_name : Text → List ℕ
text_name Machine = codes "machine:"
text_name Formula = codes "formula:"

abbrev pub place_text : EvalFault → List ℕ
place_text fault = text_name fault.text ++ decimal fault.at

abbrev pub kind_text : FaultKind → List ℕ
kind_text IllDefined = codes "ill-defined"
kind_text Overflow = codes "overflow"
kind_text TooLarge = codes "too-large"

abbrev pub fault_text : EvalFault → List ℕ
fault_text fault = kind_text fault.kind ++ codes " " ++ place_text fault

-- the error's number before the name of a fault's kind
abbrev pub fault_code : FaultKind → List ℕ
fault_code IllDefined = codes "E6 "
fault_code Overflow = codes "E7 "
fault_code TooLarge = codes "E8 "

-- the text of each error
abbrev pub refusal_text : Refusal → List ℕ
refusal_text LineTooLong = codes "E22 line-too-long"
refusal_text NoCommand = codes "E1 command"
refusal_text AtStart = codes "E9 at-start"
refusal_text AtEnd = codes "E10 at-end"
refusal_text NoPosition = codes "E11 no-position"
refusal_text NotShown = codes "E12 not-shown"
refusal_text NoSub = codes "E16 no-sub"
refusal_text NoKept = codes "E18 no-kept"
refusal_text NoEvent = codes "E24 no-event"
refusal_text KeptFull = codes "E17 kept-full"
refusal_text UnknownName = codes "E4 unknown-name"
refusal_text Syntax = codes "E2 syntax"
refusal_text WrongType = codes "E3 type"
refusal_text SubsFull = codes "E15 subs-full"
refusal_text Document = codes "E19 document"
refusal_text TraceFile = codes "E20 trace-file"
refusal_text (PostForm entry) = codes "E25 post-form " ++ decimal entry
refusal_text NotInitialised = codes "E13 not-initialised"
refusal_text (Fault fault) = fault_code fault.kind ++ fault_text fault
refusal_text NoStep = codes "E5 no-step"
refusal_text TraceFull = codes "E14 trace-full"
refusal_text (NotAStep entry) = codes "E21 not-a-step " ++ decimal entry
refusal_text Memory = codes "E23 memory"

-- behind the value of a formula with a range that was cut
abbrev pub bounded_mark : Bool → List ℕ
bounded_mark bounded = if bounded then codes " bounded" else []

-- how a list of steps ends
abbrev pub end_text : ListEnd → List ℕ
end_text ending.Complete = codes " complete"
end_text ending.Reached = codes " reached"
end_text (ending.Fault fault) = codes " " ++ (codes "fault " ++ fault_text fault)

-- of a layer of a value: of a string what stands between its quotes, escapes kept; of another value its whole text
abbrev pub shown_layer : List ℕ → Value-F Value → List ℕ
shown_layer whole (Value-F.Text s) = flat_map spelling_of s
shown_layer whole x = whole

-- the value of an item
abbrev pub shown_value : Face → Value → List ℕ
shown_value face v = shown_layer (text_of face.sets v) (out-Value v)

-- an answer, where values have these texts
abbrev pub answer_by : (Value → List ℕ) → ValueAnswer → List ℕ
answer_by shown answer.NotInitialised = codes "not-initialised"
answer_by shown (answer.Fault fault) = codes "fault " ++ fault_text fault
answer_by shown (answer.Value v bounded) = shown v ++ bounded_mark bounded
