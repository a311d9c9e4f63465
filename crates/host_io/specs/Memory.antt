-- What the memory forms tell, and how each of their calls is answered.
use Rattle.std.specs.Prelude.{◌≡◌, ℕ, ◌==◌, Bool, true, false, nat_lt, List, length, drop, max, Option, Some, None, Result, Ok, Err, bytes_eq, if◌then◌else◌}
use Rattle.std.specs.List.{find, list_any}
use Rattle.host_io.specs.Outside.{risen, Told, Untold, Absent, Present, ToldDesk}
use Rattle.host_io.specs.declared.outside.CabinetFault.{CabinetFault}
use Rattle.host_io.specs.declared.outside.CabinetFault.TheVariants.{Failed, TooLong, Memory}
use Rattle.host_io.specs.declared.outside.OpenFault.{OpenFault}
use Rattle.host_io.specs.declared.outside.OpenFault.TheVariants.{Failed as OpenFailed, Memory as OpenMemory}
use Rattle.host_io.specs.declared.calls.Calls.{Calls}
use Rattle.host_io.specs.declared.mem_source.MemSource.{MemSource}
use Rattle.host_io.specs.declared.mem_sink.MemSink.{MemSink}
use Rattle.host_io.specs.declared.mem_cabinet.MemDocument.{MemDocument}
use Rattle.host_io.specs.declared.mem_cabinet.MemCabinet.{MemCabinet}
use Rattle.host_io.specs.declared.mem_opener.MemSession.{MemSession}

-- no call yet
abbrev pub fresh : List ℕ → Calls
fresh fails = record { fails = fails; made = 0; faults = 0 }

-- whether the number of the next call is listed
abbrev pub is_listed : Calls → Bool
is_listed calls = list_any (λ n. n == risen calls.made) calls.fails

-- one more call, which failed or not
abbrev pub called : Calls → Bool → Calls
called calls failed = record { fails = calls.fails; made = risen calls.made; faults = if failed then risen calls.faults else calls.faults }

-- one more fault
abbrev pub counted_fault : Calls → Calls
counted_fault calls = record { fails = calls.fails; made = calls.made; faults = risen calls.faults }

-- the bytes that a source has left
abbrev pub left_of : MemSource → List ℕ
left_of source = drop source.at source.bytes

-- the bytes that a sink holds
abbrev pub held_of : MemSink → List ℕ
held_of sink = sink.bytes.items

-- the first document of a name
abbrev pub document_in : List MemDocument → List ℕ → Option MemDocument
document_in documents name = find (λ d. bytes_eq d.name name) documents

-- what is told of a document, if there is one
abbrev pub told_of : Option MemDocument → Told (List ℕ)
told_of None = Absent
told_of (Some document) = if document.told then Present document.bytes else Untold

-- whether the answer is Failed
abbrev pub has_failed : {A : Type 0} → Result A CabinetFault → Bool
has_failed (Ok a) = false
has_failed (Err Failed) = true
has_failed (Err TooLong) = false
has_failed (Err Memory) = false

-- whether the answer is Failed
abbrev pub has_not_opened : {A : Type 0} → Result A OpenFault → Bool
has_not_opened (Ok a) = false
has_not_opened (Err OpenFailed) = true
has_not_opened (Err OpenMemory) = false

-- the answer to a reading of a document, if there is one, of at most so many bytes
abbrev pub read_of : Option MemDocument → ℕ → Result (List ℕ) CabinetFault
read_of None limit = Err Failed
read_of (Some document) limit = if nat_lt limit (length document.bytes) then Err TooLong else Ok document.bytes

-- the answer to a call that reads: a listed one fails
abbrev pub load_answer : Calls → Option MemDocument → ℕ → Result (List ℕ) CabinetFault
load_answer calls document limit = if is_listed calls then Err Failed else read_of document limit

-- the answer to a call that writes: a listed one fails
abbrev pub store_answer : Calls → List ℕ → ℕ → Result (List ℕ) CabinetFault
store_answer calls bytes limit = if is_listed calls then Err Failed else if nat_lt limit (length bytes) then Err TooLong else Ok bytes

-- The fault is the answer, or memory was wanted.
abbrev pub IsFault : CabinetFault → Result (List ℕ) CabinetFault → Type 0
IsFault Failed answer = answer ≡ Err Failed
IsFault TooLong answer = answer ≡ Err TooLong
IsFault Memory answer = Unit {0}

-- The document stands under its name, and every other name has what it had.
abbrev pub Writes : List MemDocument → MemDocument → List MemDocument → Type 0
Writes old document new = (n : List ℕ) → document_in new n ≡ (if bytes_eq document.name n then Some document else document_in old n)

-- the first session of a name
abbrev pub session_in : List MemSession → List ℕ → Option MemSession
session_in sessions name = find (λ s. bytes_eq s.name name) sessions

-- what is told of a session
abbrev pub told_desk : MemSession → ToldDesk
told_desk session = record { source = session.source; sink = session.sink; documents = λ n. told_of (document_in session.documents n) }

-- what is told of a session, if there is one
abbrev pub told_session : Option MemSession → Told ToldDesk
told_session None = Absent
told_session (Some session) = Present (told_desk session)

-- The source, the sink and the cabinet are those of the session, with no call yet.
pub record Opens (session : MemSession) (source : MemSource) (sink : MemSink) (cabinet : MemCabinet) : Type 0 where
  pub left : left_of source ≡ session.source
  pub piece : source.piece ≡ max session.piece 1
  pub source_calls : source.calls ≡ fresh session.source_fails
  pub held : held_of sink ≡ session.sink
  pub room : sink.room ≡ session.room
  pub sink_calls : sink.calls ≡ fresh session.sink_fails
  pub documents : cabinet.documents ≡ session.documents
  pub cabinet_calls : cabinet.calls ≡ fresh session.cabinet_fails
