-- A run of the host: what holds of its sessions, its status and its text.
use Rattle.std.specs.Prelude.{◌≡◌, ◌≢◌, ◌⊎◌, ◌≤◌, ◌<◌, ℕ, List, [], ◌∷◌, length, take, map, Option, codes}
use Rattle.std.specs.List.{AllByRecursion}
use Rattle.b_values.specs.declared.values.State.{State}
use Rattle.host_io.specs.Outside.{Rose, behind_told, Told, Untold, Absent, Present, IsTooLong, ToldDesk}
use Rattle.animator.specs.declared.model.End.{End}
use Rattle.animator.specs.declared.model.End.TheVariants.{Quit, EndOfInput, SourceFault, SinkFault, LineLimit, NoMemory}
use Rattle.animator.specs.Names.{BeginsWithRoot, AreDistinct}
use Rattle.animator.specs.Private.{IsAnimated, HasEndCause, Shown}
use Rattle.host_top.specs.declared.machine.Machine.{Machine}
use Rattle.host_top.specs.declared.finish.SessionEnd.{SessionEnd}
use Rattle.host_top.specs.Machines.{meaning_of}
use Rattle.host_top.specs.MachineTexts.{IsMachineText, IsNoMachineText}
use Rattle.host_top.specs.Asking.{Asked}
use Rattle.host_top.specs.Summary.{summary, document_line, limit_line}

-- The outside at one moment: what is told of documents and sessions, how often the opener failed, what out holds, where it tells it, and how often it failed.
pub record Outer : Type 0 where
  pub documents : List ℕ → Told (List ℕ)
  pub sessions : List ℕ → Told ToldDesk
  pub faults : ℕ
  pub held : Option (List ℕ)
  pub out_faults : ℕ

-- What a run leaves: its status, the host's one list of states, and the ends of its sessions.
pub record Left : Type 0 where
  pub status : ℕ
  pub names : List State
  pub ends : List Shown

-- what the ends of sessions show
abbrev pub ends_of : {S K C : Type 0} → (S → ℕ) → (K → Option (List ℕ)) → (K → ℕ) → List (SessionEnd S K C) → List Shown
ends_of source_faults held sink_faults ends =
    map (λ e. record { end = e.end; lines = e.lines; marks = e.marks; held = held e.desk.sink; source_faults = source_faults e.desk.source; sink_faults = sink_faults e.desk.sink }) ends

-- a fact of what is told under a name, if it is
abbrev pub IfPresent : {A : Type 0} → Told A → (A → Type 0) → Type 0
IfPresent Untold P = Unit {0}
IfPresent Absent P = Unit {0}
IfPresent (Present x) P = P x

-- what holds of each name with the end in its place, as far as sessions ran
abbrev pub EachRan : (List ℕ → Shown → Type 0) → List (List ℕ) → List Shown → Type 0
EachRan R [] ends = Unit {0}
EachRan R (name ∷ names) [] = Unit {0}
EachRan R (name ∷ names) (e ∷ ends) = R name e × EachRan R names ends

-- The private-animator theorem: for the accepted machine that is asked for, each session's sink holds, more than before, what
-- a private animator writes for the session's bytes, each state number standing for its state in the host's one list.
abbrev pub Headline : Asked → Outer → Left → Type 0
Headline asked before left =
    IfPresent (before.documents asked.machine) (λ text. (m : Machine) → IsMachineText text m
    → EachRan (λ name e. IfPresent (before.sessions name) (λ told. IsAnimated (meaning_of m) left.names told e)) asked.sessions left.ends)

-- the document is no machine of at most 1,048,576 bytes, where it is told; and it isn't told to be absent
abbrev pub IsRefused : Told (List ℕ) → Type 0
IsRefused Untold = Unit {0}
IsRefused Absent = ⊥
IsRefused (Present text) = (length text ≤ 1048576) × IsNoMachineText text

-- the document stands for a machine within the limit, where it is told; and it isn't told to be absent
abbrev pub IsAccepted : Told (List ℕ) → Type 0
IsAccepted Untold = Unit {0}
IsAccepted Absent = ⊥
IsAccepted (Present text) = (length text ≤ 1048576) × ((m : Machine) × IsMachineText text m)

-- it is told, and it stands for a machine within the limit
abbrev pub IsToldMachine : Told (List ℕ) → Type 0
IsToldMachine Untold = ⊥
IsToldMachine Absent = ⊥
IsToldMachine (Present text) = (length text ≤ 1048576) × ((m : Machine) × IsMachineText text m)

-- an end that a fault or the limit made
abbrev pub IsCut : End → Type 0
IsCut end = (end ≡ SourceFault) ⊎ ((end ≡ SinkFault) ⊎ (end ≡ LineLimit))

-- some end is such
abbrev pub SomeEnd : (End → Type 0) → List Shown → Type 0
SomeEnd P [] = ⊥
SomeEnd P (e ∷ ends) = P e.end ⊎ SomeEnd P ends

-- some name is such
abbrev pub SomeName : (List ℕ → Type 0) → List (List ℕ) → Type 0
SomeName P [] = ⊥
SomeName P (name ∷ names) = P name ⊎ SomeName P names

-- out holds a front of the text more than before
abbrev pub SaysFront : Option (List ℕ) → Option (List ℕ) → List ℕ → Type 0
SaysFront old new text = (n : ℕ) × (new ≡ behind_told old (take n text))

-- out holds the text more than before
abbrev pub SaysWhole : Option (List ℕ) → Option (List ℕ) → List ℕ → Type 0
SaysWhole old new text = new ≡ behind_told old text

-- Out holds a front of the text more than before, and all of it unless its count of faults rose.
pub record Says (old new : Option (List ℕ)) (before now : ℕ) (text : List ℕ) : Type 0 where
  pub front : SaysFront old new text
  pub whole : Rose before now ⊎ SaysWhole old new text

-- The text on out of each status.
pub record HasText (asked : Asked) (before now : Outer) (left : Left) : Type 0 where
  pub done : left.status ≡ 0 → SaysWhole before.held now.held (summary asked.sessions left.ends (length left.names))
  pub memory : left.status ≡ 1 → SaysFront before.held now.held (codes "memory\n") ⊎ SaysFront before.held now.held (summary asked.sessions left.ends (length left.names))
  -- of the machine, or, where that is accepted, of a session
  pub no_document : left.status ≡ 3
      → Says before.held now.held before.out_faults now.out_faults (document_line asked.machine)
      ⊎ (IsAccepted (before.documents asked.machine) × SomeName (λ name. Says before.held now.held before.out_faults now.out_faults (document_line name)) asked.sessions)
  pub refused : left.status ≡ 4 → Says before.held now.held before.out_faults now.out_faults (codes "refused P0 machine:0\n")
  pub out_fault : left.status ≡ 5 → SaysFront before.held now.held (summary asked.sessions left.ends (length left.names))
  pub cut : left.status ≡ 6 → Says before.held now.held before.out_faults now.out_faults (summary asked.sessions left.ends (length left.names))
  pub limit : left.status ≡ 7 → Says before.held now.held before.out_faults now.out_faults (limit_line asked.machine)

-- What holds of a run whose words ask for something.
pub record IsRun (asked : Asked) (before now : Outer) (left : Left) : Type 0 where
  -- the sessions
  pub headline : Headline asked before left
  pub distinct : AreDistinct left.names
  pub root : AllByRecursion (λ e. e.end ≢ NoMemory → BeginsWithRoot left.names) left.ends
  pub ends : AllByRecursion HasEndCause left.ends
  pub accepted : 0 < length left.ends → IsAccepted (before.documents asked.machine)
  -- the status is one of these
  pub known : (left.status ≢ 2) × (left.status ≤ 7)
  -- 3 only where the opener's count of faults rose
  pub no_document : left.status ≡ 3 → Rose before.faults now.faults
  -- 7 only where the machine's document passes its limit
  pub limit : left.status ≡ 7 → IsTooLong (before.documents asked.machine) 1048576
  -- 4 only where the machine isn't accepted
  pub refused : left.status ≡ 4 → IsRefused (before.documents asked.machine)
  -- 6 only where a fault of a session's source or sink, or the limit, ended a session; and there nothing but want of memory replaces it
  pub cut : left.status ≡ 6 → SomeEnd IsCut left.ends
  pub is_cut : SomeEnd IsCut left.ends → (left.status ≡ 6) ⊎ (left.status ≡ 1)
  -- 5 only where out's count of faults rose
  pub out_fault : left.status ≡ 5 → Rose before.out_faults now.out_faults
  -- 0 only where each session ended by itself
  pub done : left.status ≡ 0 → AllByRecursion (λ e. (e.end ≡ Quit) ⊎ (e.end ≡ EndOfInput)) left.ends
  -- all sessions ran, or none
  pub ran : (left.status ≡ 0) ⊎ ((left.status ≡ 5) ⊎ (left.status ≡ 6)) → length left.ends ≡ length asked.sessions
  pub none_ran : (left.status ≡ 3) ⊎ ((left.status ≡ 4) ⊎ (left.status ≡ 7)) → (left.ends ≡ []) × (left.names ≡ [])
  -- the text on out
  pub text : HasText asked before now left
  -- Completeness: a machine that is there, within its limit and accepted, and no count of faults that rose.
  pub complete : IsToldMachine (before.documents asked.machine) → (Rose before.faults now.faults → ⊥) → (Rose before.out_faults now.out_faults → ⊥)
      → AllByRecursion (λ e. (Rose 0 e.source_faults → ⊥) × (Rose 0 e.sink_faults → ⊥)) left.ends
      → (left.status ≡ 0) ⊎ ((left.status ≡ 1) ⊎ ((left.status ≡ 6) × SomeEnd (λ end. end ≡ LineLimit) left.ends))
