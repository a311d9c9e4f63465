-- A whole session of a private animator: the counted lines one after another, each with what it asks, answers and leaves.
use Rattle.std.specs.Prelude.{ℕ, Bool, true, false, not, ◌&&◌, ◌==◌, nat_le, List, [], ◌∷◌, ◌++◌, length, Option, Some, None, if◌then◌else◌}
use Rattle.std.specs.List.{flat_map}
use Rattle.std.specs.Str.{bytes_eq}
use Rattle.b_values.specs.declared.values.State.{State}
use Rattle.host_io.specs.Outside.{Told, Untold, Absent, Present}
use Rattle.session_words.specs.Commands.{command_of}
use Rattle.session_words.specs.declared.commands.Command.{Command}
use Rattle.session_words.specs.declared.commands.Command.TheVariants as command
use Rattle.session_words.specs.declared.replies.Reply.{Reply}
use Rattle.session_words.specs.declared.replies.Reply.TheVariants as reply
use Rattle.session_words.specs.declared.refusals.Refusal.TheVariants as refusal
use Rattle.animator.specs.Sessions.{Session}
use Rattle.animator.specs.Plans.{Answered, Plan, World, run, asks, Ask, AskStore}
use Rattle.animator.specs.Commands.{Setting, plan_of}
use Rattle.animator.specs.Counted.{Counted, Handed, TooLong, Further}

-- what is told of each document
abbrev pub Documents : Type 0
Documents = List ℕ → Told (List ℕ)

abbrev pub most_document : ℕ
most_document = 1048576

-- What befell a counted line beside what it says: memory refused it; a call of the cabinet failed, by its number from 1 within the line,
-- or none did, which is 0; and what its load gave, which counts where the document isn't told.
pub record Befell : Type 0 where
  pub marked : Bool
  pub failed : ℕ
  pub gave : Option (List ℕ)

-- ---- the cabinet of a line

-- a document of at most 1,048,576 bytes
abbrev pub within_limit : List ℕ → Option (List ℕ)
within_limit bytes = if nat_le (length bytes) most_document then Some bytes else None

abbrev pub load_told : Told (List ℕ) → Option (List ℕ) → Option (List ℕ)
load_told Untold gave = gave
load_told Absent gave = None
load_told (Present bytes) gave = within_limit bytes

-- what surrounds a line: the machine, the host's list of states, and the documents
abbrev pub world : Setting → (ℕ → Option State) → Documents → Befell → World
world s number documents befell = record {
  meaning = s.meaning;
  number = number;
  load = λ call name. if befell.failed == call then None else load_told (documents name) befell.gave;
  store = λ call name bytes. not (befell.failed == call) && nat_le (length bytes) most_document;
}

-- what is told of a document in which bytes were to be stored: nothing after a failure, and what was told before where they are too many
abbrev pub told_after_store : Bool → List ℕ → Told (List ℕ) → Told (List ℕ)
told_after_store true bytes told = Untold
told_after_store false bytes told = if nat_le (length bytes) most_document then Present bytes else told

abbrev pub after_ask : ℕ → Documents → Ask → Documents
after_ask failed documents (AskStore call name bytes) = λ other. if bytes_eq name other then told_after_store (failed == call) bytes (documents other) else documents other
after_ask failed documents ask = documents

abbrev pub after_asks : ℕ → Documents → List Ask → Documents
after_asks failed documents [] = documents
after_asks failed documents (ask ∷ asked) = after_asks failed (after_ask failed documents ask) asked

-- ---- one counted line

pub record Entry : Type 0 where
  pub line : Counted
  pub befell : Befell
  -- whether its reply takes no memory
  pub spared : Bool
  -- what the command asks, and its answer where memory doesn't refuse it
  pub asked : List Ask
  pub whole : Answered
  -- the reply, and what the line leaves
  pub reply : Reply State
  pub session : Session
  pub documents : Documents

abbrev pub has_none : {A : Type 0} → List A → Bool
has_none [] = true
has_none (x ∷ xs) = false

-- commands that are never answered by memory
abbrev pub takes_none : Session → Option Command → Bool
takes_none session (Some command.Blank) = true
takes_none session (Some command.Quit) = true
takes_none session (Some command.Back) = has_none session.subs.list
takes_none session (Some command.Forward) = has_none session.subs.list
takes_none session (Some (command.Jump n)) = has_none session.subs.list
takes_none session command = false

-- an entry of a line without a question
abbrev pub told_entry : Counted → Befell → Session → Documents → Reply State → Entry
told_entry line befell session documents reply = record {
  line = line;
  befell = befell;
  spared = true;
  asked = [];
  whole = record { session = session; reply = reply };
  reply = reply;
  session = session;
  documents = documents;
}

-- a command that memory refused says so and leaves all as it was
abbrev pub refused_entry : Counted → Befell → Session → Documents → Bool → List Ask → Answered → Entry
refused_entry line befell session documents spared asked whole = record {
  line = line;
  befell = befell;
  spared = spared;
  asked = asked;
  whole = whole;
  reply = reply.Refused refusal.Memory;
  session = session;
  documents = documents;
}

abbrev pub answered_entry : Counted → Befell → Documents → Bool → List Ask → Answered → Entry
answered_entry line befell documents spared asked whole = record {
  line = line;
  befell = befell;
  spared = spared;
  asked = asked;
  whole = whole;
  reply = whole.reply;
  session = whole.session;
  documents = after_asks befell.failed documents asked;
}

abbrev pub planned_entry : Counted → Befell → Session → Documents → Bool → World → Plan → Entry
planned_entry line befell session documents spared w plan =
    if befell.marked
    then refused_entry line befell session documents spared (asks w plan) (run w plan)
    else answered_entry line befell documents spared (asks w plan) (run w plan)

abbrev pub entry : Setting → (ℕ → Option State) → Session → Documents → Befell → Counted → Entry
entry s number session documents befell (Handed bytes) =
    planned_entry (Handed bytes) befell session documents (takes_none session (command_of bytes)) (world s number documents befell) (plan_of s session (command_of bytes))
entry s number session documents befell TooLong = told_entry TooLong befell session documents (reply.Refused refusal.LineTooLong)
entry s number session documents befell Further = told_entry Further befell session documents reply.Silent

-- ---- all lines

abbrev pub quits_by : Option Command → Bool
quits_by (Some command.Quit) = true
quits_by command = false

abbrev pub is_quit : Counted → Bool
is_quit (Handed bytes) = quits_by (command_of bytes)
is_quit TooLong = false
is_quit Further = false

-- the entries of the first lines, as many as befell, up to the first `quit`
abbrev pub history : Setting → (ℕ → Option State) → Session → Documents → List Befell → List Counted → List Entry
history s number session documents [] lines = []
history s number session documents (befell ∷ more) [] = []
history s number session documents (befell ∷ more) (line ∷ lines) =
    let e : Entry = entry s number session documents befell line in
    e ∷ (if is_quit line then [] else history s number e.session e.documents more lines)

-- all that was asked
abbrev pub asked_in : List Entry → List Ask
asked_in = flat_map (λ e. e.asked)

-- what is told of the documents behind these entries
abbrev pub documents_after : Documents → List Entry → Documents
documents_after documents [] = documents
documents_after documents (e ∷ entries) = documents_after e.documents entries

-- whether the last of them is `quit`
abbrev pub ends_by_quit : List Entry → Bool
ends_by_quit [] = false
ends_by_quit (e ∷ []) = is_quit e.line
ends_by_quit (e ∷ next ∷ entries) = ends_by_quit (next ∷ entries)
