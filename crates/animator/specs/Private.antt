-- A whole session of a private animator, and what the end of a session shows of it.
use Rattle.std.specs.Prelude.{◌≡◌, ◌≢◌, ◌<◌, ◌≤◌, ℕ, Bool, true, false, List, [], ◌∷◌, ◌++◌, length, take, Option, Some, codes}
use Rattle.b_values.specs.declared.values.State.{State}
use Rattle.animator.specs.declared.model.Part.{Part}
use Rattle.animator.specs.declared.model.Session.{Session}
use Rattle.animator.specs.declared.model.Answered.{Answered}
use Rattle.animator.specs.declared.model.End.{End}
use Rattle.animator.specs.declared.model.Command.{Command}
use Rattle.animator.specs.declared.model.Command.TheVariants.{Blank, Unknown, Ops, Take, Back}
use Rattle.animator.specs.declared.model.End.TheVariants.{Quit, EndOfInput, SourceFault, SinkFault, LineLimit, NoMemory}
use Rattle.host_io.specs.Outside.{ToldDesk, Rose}
use Rattle.animator.specs.Meaning.{Meaning}
use Rattle.animator.specs.Lines.{lines_of, whole_lines}
use Rattle.animator.specs.Words.{command_of}
use Rattle.animator.specs.Replies.{fresh, refused, answer}
use Rattle.animator.specs.Names.{text_of, Covers}

-- A line that memory refused says so and leaves the session as it was.
abbrev pub line_answer : Meaning → Session → Bool → List ℕ → Answered
line_answer m session true line = refused session (codes "E23 memory")
line_answer m session false line = answer m session (command_of line)

-- The replies to the lines, one mark for each line that is answered.
abbrev pub replies_from : Meaning → Session → List Bool → List (List ℕ) → List Part
replies_from m session [] lines = []
replies_from m session (mark ∷ marks) [] = []
replies_from m session (mark ∷ marks) (line ∷ lines) =
    (line_answer m session mark line).reply ++ replies_from m (line_answer m session mark line).session marks lines

-- What a private animator writes for the first lines of these bytes, as many as there are marks.
abbrev pub replies : Meaning → List Bool → List ℕ → List Part
replies m marks bytes = replies_from m fresh marks (lines_of bytes)

-- a command whose reply takes no memory
abbrev pub takes_none : Command → Bool
takes_none Blank = true
takes_none Unknown = false
takes_none Ops = false
takes_none (Take k) = false
takes_none Back = true

-- No line with such a command was answered by memory.
abbrev pub AreSpared : List Bool → List (List ℕ) → Type 0
AreSpared [] lines = Unit {0}
AreSpared (mark ∷ marks) [] = Unit {0}
AreSpared (mark ∷ marks) (line ∷ lines) = (takes_none (command_of line) ≡ true → mark ≡ false) × AreSpared marks lines

-- What the end of a session shows. The counts of faults are those of its source and its sink.
pub record Shown : Type 0 where
  pub end : End
  pub lines : ℕ
  pub marks : List Bool
  pub held : Option (List ℕ)
  pub source_faults : ℕ
  pub sink_faults : ℕ

-- A session that began as told shows a private animator of m.
pub record IsAnimated (m : Meaning) (names : List State) (told : ToldDesk) (shown : Shown) : Type 0 where
  -- one mark for each counted line that was answered
  pub count : length shown.marks ≡ shown.lines
  -- a line whose reply takes no memory isn't marked
  pub spared : AreSpared shown.marks (lines_of told.source)
  -- each state that was shown has its number
  pub named : Covers names (replies m shown.marks told.source)
  -- the sink holds the replies to these lines more than before
  pub text : shown.end ≢ SinkFault → shown.held ≡ Some (told.sink ++ text_of names (replies m shown.marks told.source))
  -- after a fault of the sink it holds a front of them
  pub front : shown.end ≡ SinkFault → (n : ℕ) × (shown.held ≡ Some (told.sink ++ take n (text_of names (replies m shown.marks told.source))))
  -- at the end of the input all lines were answered, of at most 65,536 bytes
  pub whole : shown.end ≡ EndOfInput → shown.lines ≡ length (lines_of told.source)
  pub within : shown.end ≡ EndOfInput → length told.source ≤ 65536
  -- at the limit there are more bytes, and the lines that end among the first 65,536 were answered
  pub limit : shown.end ≡ LineLimit → 65536 < length told.source
  pub complete : shown.end ≡ LineLimit → shown.lines ≡ whole_lines (take 65536 told.source)

-- The cause of a session's end, told or not: a fault is its source's or its sink's own, and without memory no line was read.
pub record HasEndCause (shown : Shown) : Type 0 where
  pub source : shown.end ≡ SourceFault → Rose 0 shown.source_faults
  pub sink : shown.end ≡ SinkFault → Rose 0 shown.sink_faults
  pub memory : shown.end ≡ NoMemory → shown.lines ≡ 0
  pub no_quit : shown.end ≢ Quit
