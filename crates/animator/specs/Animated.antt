-- The private-animator theorem for one session: what the end of a session shows of a private animator's history.
use Rattle.std.specs.Prelude.{◌≡◌, ◌<◌, ◌≤◌, ◌-◌, ◌^◌, ℕ, zero, suc, min, Bool, true, false, ◌&&◌, List, [], ◌∷◌, ◌++◌, length, take, Option, Some, slice_get, count_by, if◌then◌else◌}
use Rattle.std.specs.List.{AllByRecursion, AllZip, flat_map, list_any}
use Rattle.b_values.specs.declared.values.State.{State}
use Rattle.b_values.specs.Values.{same_state}
use Rattle.engine_face.specs.Keys.{same_formula}
use Rattle.engine_face.specs.Misses.{misses}
use Rattle.engine_face.specs.declared.answers.Counts.{Counts}
use Rattle.engine_face.specs.declared.keys.FormulaKey.{FormulaKey}
use Rattle.host_io.specs.Outside.{Rose, Told, Untold, Absent, Present, ToldDesk}
use Rattle.session_words.specs.Replies.{reply_text, states_in}
use Rattle.animator.specs.declared.model.End.{End}
use Rattle.animator.specs.declared.model.End.TheVariants.{Quit, EndOfInput, SourceFault, SinkFault, LineLimit, NoMemory}
use Rattle.animator.specs.Names.{place, IsNamed, AreDistinct}
use Rattle.animator.specs.Sessions.{fresh}
use Rattle.animator.specs.Plans.{lists_asked, values_asked, finds_asked, confirms_asked, cabinet_calls}
use Rattle.animator.specs.Commands.{Setting}
use Rattle.animator.specs.Counted.{counted_lines}
use Rattle.animator.specs.History.{Documents, Befell, Entry, history, asked_in, documents_after, ends_by_quit}

-- What the end of a session shows. The counts of faults are those of its source, its sink and its cabinet.
pub record SessionShown : Type 0 where
  pub end : End
  -- how many counted lines were answered, and one entry for each: whether memory refused it, and which of its cabinet calls failed, from 1, or 0
  pub lines : ℕ
  pub marks : List Bool
  pub failed : List ℕ
  -- what its sink holds and its cabinet tells
  pub held : Option (List ℕ)
  pub documents : Documents
  pub source_faults : ℕ
  pub sink_faults : ℕ
  pub cabinet_faults : ℕ
  -- how often its engine was asked
  pub counts : Counts

abbrev pub is_failed : ℕ → Bool
is_failed zero = false
is_failed (suc n) = true

-- what befell each line: its mark, whether a call failed, and what its load gave
abbrev pub befallen : List Bool → List ℕ → List (Option (List ℕ)) → List Befell
befallen (mark ∷ marks) (number ∷ failed) (gave ∷ loads) = record { marked = mark; failed = number; gave = gave } ∷ befallen marks failed loads
befallen marks failed loads = []

-- the history that the end shows, where loads gave this
abbrev pub shown_history : Setting → List State → ToldDesk → SessionShown → List (Option (List ℕ)) → List Entry
shown_history s names told shown loads =
    history s (slice_get names) (fresh s.meaning.root) told.documents (befallen shown.marks shown.failed loads) (counted_lines told.source)

-- ---- texts

-- the bytes of the replies: a state is written as its place in the list
abbrev pub texts : Setting → List State → List Entry → List ℕ
texts s names = flat_map (λ e. reply_text s.meaning.face (place names) e.reply)

-- each state of the replies has a number
abbrev pub AreNamed : List State → List Entry → Type 0
AreNamed names = AllByRecursion (λ e. AllByRecursion (IsNamed names) (states_in e.reply))

-- all replies but the last, and a front of the last that isn't all of it
pub record IsCutText (s : Setting) (names : List State) (entries : List Entry) (text : List ℕ) : Type 0 where
  pub before : List Entry
  pub last : Entry
  pub is : entries ≡ before ++ last ∷ []
  pub count : ℕ
  pub short : count < length (texts s names (last ∷ []))
  pub cut : text ≡ texts s names before ++ take count (texts s names (last ∷ []))

-- the bytes that a session wrote, by its end
abbrev pub IsWritten : Setting → List State → End → List Entry → List ℕ → Type 0
IsWritten s names SinkFault entries text = IsCutText s names entries text
IsWritten s names end entries text = text ≡ texts s names entries

-- ---- documents

-- what is told agrees, unless the document is untold here
abbrev pub Agrees : Told (List ℕ) → Told (List ℕ) → Type 0
Agrees Untold now = Unit {0}
Agrees Absent now = now ≡ Absent
Agrees (Present bytes) now = now ≡ Present bytes

-- ---- ends

-- why the session ended there, by the lines that its source had
abbrev pub IsEnd : End → ℕ → List Entry → ℕ → Type 0
IsEnd Quit all entries lines = ends_by_quit entries ≡ true
IsEnd EndOfInput all entries lines = (lines ≡ all) × (ends_by_quit entries ≡ false)
IsEnd SourceFault all entries lines = ends_by_quit entries ≡ false
IsEnd SinkFault all entries lines = 0 < lines
IsEnd LineLimit all entries lines = (lines ≡ 1000000) × ((lines < all) × (ends_by_quit entries ≡ false))
IsEnd NoMemory all entries lines = lines ≡ 0

-- the cause of an end, told or not: a fault is its source's or its sink's own
pub record HasEndCause (shown : SessionShown) : Type 0 where
  pub source : shown.end ≡ SourceFault → Rose 0 shown.source_faults
  pub sink : shown.end ≡ SinkFault → Rose 0 shown.sink_faults
  pub memory : shown.end ≡ NoMemory → shown.lines ≡ 0

-- ---- the theorem

-- A session that began as told shows this history of a private animator, under the host's one list of states.
pub record IsHistoryOf (s : Setting) (names : List State) (told : ToldDesk) (shown : SessionShown) (entries : List Entry) : Type 0 where
  -- one entry, one mark and one number for each answered line, and none behind a `quit`
  pub count : length entries ≡ shown.lines
  pub marks : length shown.marks ≡ shown.lines
  pub numbers : length shown.failed ≡ shown.lines
  pub most : shown.lines ≤ 1000000
  -- a line whose reply takes no memory isn't marked
  pub spared : AllByRecursion (λ e. e.spared ≡ true → e.befell.marked ≡ false) entries
  -- the text in the sink, and the number of each state in it
  pub named : AreNamed names entries
  pub text : List ℕ
  pub written : IsWritten s names shown.end entries text
  pub held : shown.held ≡ Some (told.sink ++ text)
  -- the cabinet tells what the lines stored; it isn't called where no line asks it, and a failed call is one that a line asks
  pub documents : (name : List ℕ) → Agrees (documents_after told.documents entries name) (shown.documents name)
  pub uncalled : cabinet_calls (asked_in entries) ≡ 0 → shown.cabinet_faults ≡ 0
  pub asked : AllZip (λ e number. number ≤ cabinet_calls e.asked) entries shown.failed
  pub failures : count_by is_failed shown.failed ≤ shown.cabinet_faults
  -- why it ended there
  pub end : IsEnd shown.end (length (counted_lines told.source)) entries shown.lines

-- There are answers of loads of untold documents with which the session is a private animator's.
pub record IsAnimatedSession (s : Setting) (names : List State) (told : ToldDesk) (shown : SessionShown) : Type 0 where
  pub loads : List (Option (List ℕ))
  pub history : IsHistoryOf s names told shown (shown_history s names told shown loads)

-- ---- the list of states

-- the states that a private animator's answers hold, whether or not memory refused them
abbrev pub shown_states : List Entry → List State
shown_states = flat_map (λ e. states_in e.whole.reply)

-- a list with a state behind it, where it isn't in it
abbrev pub with_new : List State → State → List State
with_new names state = if list_any (same_state state) names then names else names ++ state ∷ []

-- states in the order of their first showing
abbrev pub in_order : List State → List State → List State
in_order names [] = names
in_order names (state ∷ states) = in_order (with_new names state) states

-- no line was answered by memory
abbrev pub IsUnmarked : SessionShown → Type 0
IsUnmarked shown = AllByRecursion (λ mark. mark ≡ false) shown.marks

-- ---- counts of one session with stores of its own

abbrev pub same_value_key : State × FormulaKey → State × FormulaKey → Bool
same_value_key a b = same_state a.0 b.0 && same_formula a.1 b.1

abbrev pub most_count : ℕ
most_count = 2 ^ 64 - 1

-- A session that memory never refused and that ended by itself asked its engine as often as its bounded stores missed.
pub record IsCounted (s : Setting) (shown : SessionShown) (entries : List Entry) : Type 0 where
  pub expand : shown.counts.expand ≡ min (misses same_state s.meaning.face.prefs.cache_steps [] (lists_asked (asked_in entries))) most_count
  pub value : shown.counts.value ≡ min (misses same_value_key s.meaning.face.prefs.cache_values [] (values_asked (asked_in entries))) most_count
  pub find : shown.counts.find ≡ min (finds_asked (asked_in entries)) most_count
  pub confirm : shown.counts.confirm ≡ min (confirms_asked (asked_in entries)) most_count

-- The host's one list of states under the histories of its sessions: it begins with the state before the first step, has each state once,
-- and each other state of it stands in an answer of some session.
pub record IsHostList (origin : State) (names : List State) (histories : List (List Entry)) : Type 0 where
  pub first : slice_get names 0 ≡ Some origin
  pub distinct : AreDistinct names
  pub shown : AllByRecursion (λ state. list_any (same_state state) (origin ∷ flat_map shown_states histories) ≡ true) names

-- Where memory refused no line of the one session, the list has its states in the order of their first showing.
abbrev pub IsInOrder : State → List State → List Entry → Type 0
IsInOrder origin names entries = names ≡ in_order (origin ∷ []) (flat_map (λ e. states_in e.reply) entries)
