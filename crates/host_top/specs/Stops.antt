-- A run that ends before its sessions, and the status of one that doesn't.
use Rattle.std.specs.Prelude.{◌≡◌, ◌≢◌, ◌≤◌, ℕ, List, [], ◌∷◌, length, Option, IfSome, codes}
use Rattle.host_io.specs.Outside.{Rose, Told, Untold, Absent, Present, IsTooLong}
use Rattle.animator.specs.declared.model.End.{End}
use Rattle.animator.specs.declared.model.End.TheVariants.{Quit, EndOfInput, SourceFault, SinkFault, LineLimit, NoMemory}
use Rattle.host_top.specs.declared.machine.Machine.{Machine}
use Rattle.host_top.specs.declared.top.Stop.{Stop}
use Rattle.host_top.specs.declared.top.Stop.TheVariants.{NoMachine, TooLong, Refused, NoSession, Memory}
use Rattle.host_top.specs.declared.top.Summed.{Summed}
use Rattle.host_top.specs.declared.top.Summed.TheVariants.{Whole, Failed, Memory as NoRoom}
use Rattle.host_top.specs.MachineTexts.{IsMachineText}
use Rattle.animator.specs.Names.{BeginsWithRoot, AreDistinct}
use Rattle.animator.specs.Private.{IsAnimated, HasEndCause, Shown}
use Rattle.host_top.specs.Machines.{meaning_of}
use Rattle.host_top.specs.Summary.{document_line, limit_line, summary}
use Rattle.host_top.specs.Runs.{IsRefused, IsAccepted, SaysFront, SaysWhole, Left}

-- the machine is that of the document, within the limit, where it is told; and it isn't told to be absent
abbrev pub IsLoaded : Told (List ℕ) → Machine → Type 0
IsLoaded Untold m = Unit {0}
IsLoaded Absent m = ⊥
IsLoaded (Present text) m = (length text ≤ 1048576) × IsMachineText text m

abbrev pub stop_status : Stop → ℕ
stop_status NoMachine = 3
stop_status TooLong = 7
stop_status Refused = 4
stop_status NoSession = 3
stop_status Memory = 1

-- the text of a stop, by the names of the machine and the session
abbrev pub stop_text : List ℕ → List ℕ → Stop → List ℕ
stop_text machine session NoMachine = document_line machine
stop_text machine session TooLong = limit_line machine
stop_text machine session Refused = codes "refused P0 machine:0\n"
stop_text machine session NoSession = document_line session
stop_text machine session Memory = codes "memory\n"

-- the cause of a stop: what is told of the machine's document, and the opener's count before and now
abbrev pub HasStopCause : Told (List ℕ) → ℕ → ℕ → Stop → Type 0
HasStopCause told before now NoMachine = Rose before now
HasStopCause told before now TooLong = IsTooLong told 1048576
HasStopCause told before now Refused = IsRefused told
HasStopCause told before now NoSession = IsAccepted told × Rose before now
HasStopCause told before now Memory = Unit {0}

-- how the summary went out: whole, or a front of it after a fault, or nothing
abbrev pub HasSummed : Option (List ℕ) → Option (List ℕ) → ℕ → ℕ → List ℕ → Summed → Type 0
HasSummed old new before now text Whole = SaysWhole old new text
HasSummed old new before now text Failed = Rose before now × SaysFront old new text
HasSummed old new before now text NoRoom = new ≡ old

-- where the session ended by itself
abbrev pub status_by : Summed → ℕ
status_by Whole = 0
status_by Failed = 5
status_by NoRoom = 1

-- where memory was refused
abbrev pub status_without : Summed → ℕ
status_without Whole = 1
status_without Failed = 5
status_without NoRoom = 1

-- where a fault or the limit ended the session
abbrev pub status_cut : Summed → ℕ
status_cut Whole = 6
status_cut Failed = 6
status_cut NoRoom = 1

abbrev pub status_of : End → Summed → ℕ
status_of Quit summed = status_by summed
status_of EndOfInput summed = status_by summed
status_of SourceFault summed = status_cut summed
status_of SinkFault summed = status_cut summed
status_of LineLimit summed = status_cut summed
status_of NoMemory summed = status_without summed

-- out at one moment
pub record Out : Type 0 where
  pub held : Option (List ℕ)
  pub faults : ℕ

-- One session ran over its desk, and its summary went out.
pub record Ran (source sink : Option (List ℕ)) (m : Machine) (session : List ℕ) (before now : Out) (left : Left) : Type 0 where
  pub shown : Shown
  pub summed : Summed
  pub one : left.ends ≡ shown ∷ []
  pub animated : IfSome source (λ bytes. IfSome sink (λ held. (documents : List ℕ → Told (List ℕ)) → IsAnimated (meaning_of m) left.names (record { source = bytes; sink = held; documents = documents }) shown))
  pub distinct : AreDistinct left.names
  pub root : shown.end ≢ NoMemory → BeginsWithRoot left.names
  pub cause : HasEndCause shown
  pub status : left.status ≡ status_of shown.end summed
  pub text : HasSummed before.held now.held before.faults now.faults (summary (session ∷ []) left.ends (length left.names)) summed
