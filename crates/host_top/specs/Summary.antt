-- The texts that a run writes to out.
use Rattle.std.specs.Prelude.{ℕ, Bool, List, [], ◌∷◌, ◌++◌, codes, count_by}
use Rattle.std.specs.Fmt.{decimal}
use Rattle.animator.specs.declared.model.End.{End}
use Rattle.animator.specs.declared.model.End.TheVariants.{Quit, EndOfInput, SourceFault, SinkFault, LineLimit, NoMemory}
use Rattle.animator.specs.Private.{Shown}

abbrev pub end_name : End → List ℕ
end_name Quit = codes "quit"
end_name EndOfInput = codes "end-of-input"
end_name SourceFault = codes "source-fault"
end_name SinkFault = codes "sink-fault"
end_name LineLimit = codes "line-limit"
end_name NoMemory = codes "no-memory"

-- how many marks are set
abbrev pub marked : List Bool → ℕ
marked marks = count_by (λ mark. mark) marks

-- the line of a session: its name, its end, how many lines were answered, and how many of them memory refused
abbrev pub session_line : List ℕ → End → ℕ → List Bool → List ℕ
session_line name end lines marks =
    codes "session " ++ name ++ codes " " ++ end_name end ++ codes " lines " ++ decimal lines ++ codes " memory " ++ decimal (marked marks) ++ 10 ∷ []

-- the line of the host's list of states
abbrev pub states_line : ℕ → List ℕ
states_line count = codes "states " ++ decimal count ++ 10 ∷ []

-- a line for each session in the order of the words, and last that of the states
abbrev pub summary : List (List ℕ) → List Shown → ℕ → List ℕ
summary [] ends count = states_line count
summary (name ∷ names) [] count = states_line count
summary (name ∷ names) (e ∷ ends) count = session_line name e.end e.lines e.marks ++ summary names ends count

-- the line of a document that wasn't given
abbrev pub document_line : List ℕ → List ℕ
document_line name = codes "document " ++ name ++ 10 ∷ []

-- the line of a document that is too long
abbrev pub limit_line : List ℕ → List ℕ
limit_line name = codes "limit " ++ name ++ 10 ∷ []
