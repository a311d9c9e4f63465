-- A run that ends before its sessions, and one whose session ran.
use Rattle.std.proofs.Common.{◌≡◌, ◌≢◌, ◌∙◌, sym, ap, subst, refl, inl, inr, ⊎_elim, ◌⊎◌, ℕ, ◌≤◌, ◌<◌, List, [], ◌∷◌, length, take, arith, Option, Some, None}
use Rattle.std.proofs.Math.Seq.{take-length}
use Rattle.std.specs.Prelude.{IfSome, codes, slice_get}
use Rattle.std.specs.List.{AllByRecursion}
use Rattle.b_values.specs.declared.values.State.{State}
use Rattle.host_io.specs.Outside.{Rose, behind_told, Told, Untold, Absent, Present, IsTold, IsTooLong, ToldDesk, IsToldDesk}
use Rattle.animator.specs.declared.model.End.{End}
use Rattle.animator.specs.declared.model.End.TheVariants.{Quit, EndOfInput, SourceFault, SinkFault, LineLimit, NoMemory}
use Rattle.animator.specs.Names.{AreDistinct}
use Rattle.animator.specs.Private.{IsAnimated, Shown}
use Rattle.host_top.specs.declared.machine.Machine.{Machine}
use Rattle.host_top.specs.declared.top.Stop.{Stop}
use Rattle.host_top.specs.declared.top.Stop.TheVariants.{NoMachine, TooLong, Refused, NoSession, Memory}
use Rattle.host_top.specs.declared.top.Summed.{Summed}
use Rattle.host_top.specs.declared.top.Summed.TheVariants.{Whole, Failed, Memory as NoRoom}
use Rattle.host_top.specs.Machines.{meaning_of}
use Rattle.host_top.specs.MachineTexts.{IsMachineText, IsNoMachineText}
use Rattle.host_top.specs.Asking.{Asked}
use Rattle.host_top.specs.Summary.{summary, document_line, limit_line}
use Rattle.host_top.specs.Runs.{Outer, Left, IfPresent, EachRan, Headline, IsRefused, IsAccepted, IsToldMachine, IsCut, SomeEnd, SomeName, SaysFront, SaysWhole, Says, HasText, IsRun}
use Rattle.host_top.specs.Stops.{IsLoaded, HasStopCause, HasSummed, stop_status, stop_text, status_by, status_without, status_cut, status_of, Out, Ran}
use Rattle.host_top.proofs.Giving.{nothing_behind}
use Rattle.host_top.proofs.MachineTextLaws.{one_machine}

if_present : {A : Type 0} (told : Told A) (P : A → Type 0) → ((x : A) → told ≡ Present x → P x) → IfPresent told P
if_present Untold P all = tt
if_present Absent P all = tt
if_present (Present x) P all = all x refl

none_each : (R : List ℕ → Shown → Type 0) (names : List (List ℕ)) → EachRan R names []
none_each R [] = tt
none_each R (name ∷ names) = tt

-- a run of no session
bare_run : (asked : Asked) (before now : Outer) (left : Left) → left.names ≡ [] → left.ends ≡ []
    → (left.status ≢ 2) × (left.status ≤ 7) → (left.status ≡ 0 → ⊥) → (left.status ≡ 5 → ⊥) → (left.status ≡ 6 → ⊥)
    → (left.status ≡ 3 → Rose before.faults now.faults) → (left.status ≡ 7 → IsTooLong (before.documents asked.machine) 1048576) → (left.status ≡ 4 → IsRefused (before.documents asked.machine))
    → HasText asked before now left
    → (IsToldMachine (before.documents asked.machine) → (Rose before.faults now.faults → ⊥) → left.status ≡ 1)
    → IsRun asked before now left
bare_run asked before now left names ends known not_done not_out not_cut no_document limit refused text complete = record {
  headline = if_present (before.documents asked.machine) _ (λ t is m reads. rw ends (none_each _ asked.sessions));
  distinct = λ i j state at_i at_j. absurd (no_name i state at_i);
  root = rw ends tt;
  ends = rw ends tt;
  accepted = λ some. absurd (omega (arith, ap length ends));
  known = known;
  no_document = no_document;
  limit = limit;
  refused = refused;
  cut = λ is. absurd (not_cut is);
  is_cut = λ some. let P : List Shown → Type 0 = SomeEnd IsCut in absurd (subst P ends some);
  out_fault = λ is. absurd (not_out is);
  done = λ is. absurd (not_done is);
  ran = λ is. absurd (⊎_elim not_done (λ more. ⊎_elim not_out not_cut more) is);
  none_ran = λ is. (ends, names);
  text = text;
  complete = λ told none out_none ends_none. inr (inl (complete told none));
}
  where
    no_name : (i : ℕ) (state : State) → slice_get left.names i ≡ Some state → ⊥
    no_name i state is = let P : List State → Type 0 = λ names. slice_get names i ≡ Some state in let none : None ≡ Some state = subst P names is in cc

-- what is too long or refused is no accepted machine
too_long_clash : (told : Told (List ℕ)) → IsTooLong told 1048576 → IsToldMachine told → ⊥
too_long_clash Untold long machine = machine
too_long_clash Absent long machine = machine
too_long_clash (Present text) long machine = omega (arith, long, machine.0)

refused_clash : (told : Told (List ℕ)) → IsRefused told → IsToldMachine told → ⊥
refused_clash Untold refused machine = machine
refused_clash Absent refused machine = machine
refused_clash (Present text) refused machine = refused.1 machine.1.0 machine.1.1

-- a document that was read and is no machine is refused
pub refused_by : (told : Told (List ℕ)) (bytes : List ℕ) → IsTold told bytes → length bytes ≤ 1048576 → IsNoMachineText bytes → IsRefused told
refused_by Untold bytes is within none = tt
refused_by Absent bytes is within none = is
refused_by (Present text) bytes is within none = (omega (arith, ap length is), λ m reads. none m (rw is reads))

-- memory was wanted before anything else
pub memory_run : (asked : Asked) (before now : Outer) (left : Left) → left.names ≡ [] → left.ends ≡ [] → left.status ≡ 1
    → Says before.held now.held before.out_faults now.out_faults (codes "memory\n") → IsRun asked before now left
memory_run asked before now left names ends status says =
    bare_run asked before now left names ends (λ is. omega arith, omega arith) (λ is. omega arith) (λ is. omega arith) (λ is. omega arith) (λ is. absurd (omega arith)) (λ is. absurd (omega arith)) (λ is. absurd (omega arith))
    (record { done = λ is. absurd (omega arith); memory = λ is. inl says.front; no_document = λ is. absurd (omega arith); refused = λ is. absurd (omega arith); out_fault = λ is. absurd (omega arith); cut = λ is. absurd (omega arith); limit = λ is. absurd (omega arith) })
    (λ told none. status)

pub for_some : {A : Type 0} (o : Option A) (P : A → Type 0) → ((a : A) → P a) → IfSome o P
for_some None P all = tt
for_some (Some a) P all = all a

module _ (asked : Asked) (session : List ℕ) (before now : Outer) (left : Left) (one : asked.sessions ≡ session ∷ []) (names : left.names ≡ []) (ends : left.ends ≡ []) where
  pub stopped_run : (stop : Stop) → left.status ≡ stop_status stop → HasStopCause (before.documents asked.machine) before.faults now.faults stop
      → Says before.held now.held before.out_faults now.out_faults (stop_text asked.machine session stop) → IsRun asked before now left
  stopped_run NoMachine status cause says =
      bare_run asked before now left names ends (λ is. omega arith, omega arith) (λ is. omega arith) (λ is. omega arith) (λ is. omega arith) (λ is. cause) (λ is. absurd (omega arith)) (λ is. absurd (omega arith))
      (record { done = λ is. absurd (omega arith); memory = λ is. absurd (omega arith); no_document = λ is. inl says; refused = λ is. absurd (omega arith); out_fault = λ is. absurd (omega arith); cut = λ is. absurd (omega arith); limit = λ is. absurd (omega arith) })
      (λ told none. absurd (none cause))
  stopped_run TooLong status cause says =
      bare_run asked before now left names ends (λ is. omega arith, omega arith) (λ is. omega arith) (λ is. omega arith) (λ is. omega arith) (λ is. absurd (omega arith)) (λ is. cause) (λ is. absurd (omega arith))
      (record { done = λ is. absurd (omega arith); memory = λ is. absurd (omega arith); no_document = λ is. absurd (omega arith); refused = λ is. absurd (omega arith); out_fault = λ is. absurd (omega arith); cut = λ is. absurd (omega arith); limit = λ is. says })
      (λ told none. absurd (too_long_clash (before.documents asked.machine) cause told))
  stopped_run Refused status cause says =
      bare_run asked before now left names ends (λ is. omega arith, omega arith) (λ is. omega arith) (λ is. omega arith) (λ is. omega arith) (λ is. absurd (omega arith)) (λ is. absurd (omega arith)) (λ is. cause)
      (record { done = λ is. absurd (omega arith); memory = λ is. absurd (omega arith); no_document = λ is. absurd (omega arith); refused = λ is. says; out_fault = λ is. absurd (omega arith); cut = λ is. absurd (omega arith); limit = λ is. absurd (omega arith) })
      (λ told none. absurd (refused_clash (before.documents asked.machine) cause told))
  stopped_run NoSession status cause says =
      bare_run asked before now left names ends (λ is. omega arith, omega arith) (λ is. omega arith) (λ is. omega arith) (λ is. omega arith) (λ is. cause.1) (λ is. absurd (omega arith)) (λ is. absurd (omega arith))
      (record { done = λ is. absurd (omega arith); memory = λ is. absurd (omega arith); no_document = λ is. inr (cause.0, rw one (inl says)); refused = λ is. absurd (omega arith); out_fault = λ is. absurd (omega arith); cut = λ is. absurd (omega arith); limit = λ is. absurd (omega arith) })
      (λ told none. absurd (none cause.1))
  stopped_run Memory status cause says = memory_run asked before now left names ends status says

-- ---- a session that ran

by_zero : (summed : Summed) → status_by summed ≡ 0 → summed ≡ Whole
by_zero Whole is = refl
by_zero Failed is = absurd (omega arith)
by_zero NoRoom is = absurd (omega arith)

cut_zero : (summed : Summed) → status_cut summed ≡ 0 → ⊥
cut_zero Whole is = omega arith
cut_zero Failed is = omega arith
cut_zero NoRoom is = omega arith

without_zero : (summed : Summed) → status_without summed ≡ 0 → ⊥
without_zero Whole is = omega arith
without_zero Failed is = omega arith
without_zero NoRoom is = omega arith

status_zero : (end : End) (summed : Summed) → status_of end summed ≡ 0 → ((end ≡ Quit) ⊎ (end ≡ EndOfInput)) × (summed ≡ Whole)
status_zero Quit summed is = (inl refl, by_zero summed is)
status_zero EndOfInput summed is = (inr refl, by_zero summed is)
status_zero SourceFault summed is = absurd (cut_zero summed is)
status_zero SinkFault summed is = absurd (cut_zero summed is)
status_zero LineLimit summed is = absurd (cut_zero summed is)
status_zero NoMemory summed is = absurd (without_zero summed is)

by_five : (summed : Summed) → status_by summed ≡ 5 → summed ≡ Failed
by_five Whole is = absurd (omega arith)
by_five Failed is = refl
by_five NoRoom is = absurd (omega arith)

cut_five : (summed : Summed) → status_cut summed ≡ 5 → ⊥
cut_five Whole is = omega arith
cut_five Failed is = omega arith
cut_five NoRoom is = omega arith

without_five : (summed : Summed) → status_without summed ≡ 5 → summed ≡ Failed
without_five Whole is = absurd (omega arith)
without_five Failed is = refl
without_five NoRoom is = absurd (omega arith)

status_five : (end : End) (summed : Summed) → status_of end summed ≡ 5 → summed ≡ Failed
status_five Quit summed is = by_five summed is
status_five EndOfInput summed is = by_five summed is
status_five SourceFault summed is = absurd (cut_five summed is)
status_five SinkFault summed is = absurd (cut_five summed is)
status_five LineLimit summed is = absurd (cut_five summed is)
status_five NoMemory summed is = without_five summed is

by_six : (summed : Summed) → status_by summed ≡ 6 → ⊥
by_six Whole is = omega arith
by_six Failed is = omega arith
by_six NoRoom is = omega arith

without_six : (summed : Summed) → status_without summed ≡ 6 → ⊥
without_six Whole is = omega arith
without_six Failed is = omega arith
without_six NoRoom is = omega arith

cut_six : (summed : Summed) → status_cut summed ≡ 6 → summed ≢ NoRoom
cut_six Whole is = λ same. cc
cut_six Failed is = λ same. cc
cut_six NoRoom is = λ same. omega arith

status_six : (end : End) (summed : Summed) → status_of end summed ≡ 6 → IsCut end × (summed ≢ NoRoom)
status_six Quit summed is = absurd (by_six summed is)
status_six EndOfInput summed is = absurd (by_six summed is)
status_six SourceFault summed is = (inl refl, cut_six summed is)
status_six SinkFault summed is = (inr (inl refl), cut_six summed is)
status_six LineLimit summed is = (inr (inr refl), cut_six summed is)
status_six NoMemory summed is = absurd (without_six summed is)

-- it is none of the statuses of a run without session
record IsSessions (status : ℕ) : Type 0 where
  usage : status ≢ 2
  document : status ≢ 3
  refused : status ≢ 4
  limit : status ≢ 7
  most : status ≤ 7

is_sessions : (s : ℕ) → (s ≡ 0) ⊎ ((s ≡ 1) ⊎ ((s ≡ 5) ⊎ (s ≡ 6))) → IsSessions s
is_sessions s (inl is) = record { usage = λ h. omega arith; document = λ h. omega arith; refused = λ h. omega arith; limit = λ h. omega arith; most = omega arith }
is_sessions s (inr (inl is)) = record { usage = λ h. omega arith; document = λ h. omega arith; refused = λ h. omega arith; limit = λ h. omega arith; most = omega arith }
is_sessions s (inr (inr (inl is))) = record { usage = λ h. omega arith; document = λ h. omega arith; refused = λ h. omega arith; limit = λ h. omega arith; most = omega arith }
is_sessions s (inr (inr (inr is))) = record { usage = λ h. omega arith; document = λ h. omega arith; refused = λ h. omega arith; limit = λ h. omega arith; most = omega arith }

by_any : (summed : Summed) → IsSessions (status_by summed)
by_any Whole = is_sessions 0 (inl refl)
by_any Failed = is_sessions 5 (inr (inr (inl refl)))
by_any NoRoom = is_sessions 1 (inr (inl refl))

without_any : (summed : Summed) → IsSessions (status_without summed)
without_any Whole = is_sessions 1 (inr (inl refl))
without_any Failed = is_sessions 5 (inr (inr (inl refl)))
without_any NoRoom = is_sessions 1 (inr (inl refl))

cut_any : (summed : Summed) → IsSessions (status_cut summed)
cut_any Whole = is_sessions 6 (inr (inr (inr refl)))
cut_any Failed = is_sessions 6 (inr (inr (inr refl)))
cut_any NoRoom = is_sessions 1 (inr (inl refl))

status_any : (end : End) (summed : Summed) → IsSessions (status_of end summed)
status_any Quit summed = by_any summed
status_any EndOfInput summed = by_any summed
status_any SourceFault summed = cut_any summed
status_any SinkFault summed = cut_any summed
status_any LineLimit summed = cut_any summed
status_any NoMemory summed = without_any summed

six_or_one : (summed : Summed) → (status_cut summed ≡ 6) ⊎ (status_cut summed ≡ 1)
six_or_one Whole = inl refl
six_or_one Failed = inl refl
six_or_one NoRoom = inr refl

cut_status : (end : End) (summed : Summed) → IsCut end → (status_of end summed ≡ 6) ⊎ (status_of end summed ≡ 1)
cut_status end summed (inl is) = rw is (six_or_one summed)
cut_status end summed (inr (inl is)) = rw is (six_or_one summed)
cut_status end summed (inr (inr is)) = rw is (six_or_one summed)

zero_or_one : (summed : Summed) → (summed ≡ Failed → ⊥) → (status_by summed ≡ 0) ⊎ (status_by summed ≡ 1)
zero_or_one Whole none = inl refl
zero_or_one Failed none = absurd (none refl)
zero_or_one NoRoom none = inr refl

just_one : (summed : Summed) → (summed ≡ Failed → ⊥) → status_without summed ≡ 1
just_one Whole none = refl
just_one Failed none = absurd (none refl)
just_one NoRoom none = refl

-- where no count of faults rose
unfailed : (end : End) (summed : Summed) → (summed ≡ Failed → ⊥) → (end ≡ SourceFault → ⊥) → (end ≡ SinkFault → ⊥)
    → (status_of end summed ≡ 0) ⊎ ((status_of end summed ≡ 1) ⊎ ((status_of end summed ≡ 6) × (end ≡ LineLimit)))
unfailed Quit summed none source sink = ⊎_elim (λ is. inl is) (λ is. inr (inl is)) (zero_or_one summed none)
unfailed EndOfInput summed none source sink = ⊎_elim (λ is. inl is) (λ is. inr (inl is)) (zero_or_one summed none)
unfailed SourceFault summed none source sink = absurd (source refl)
unfailed SinkFault summed none source sink = absurd (sink refl)
unfailed LineLimit summed none source sink = ⊎_elim (λ is. inr (inr (is, refl))) (λ is. inr (inl is)) (six_or_one summed)
unfailed NoMemory summed none source sink = inr (inl (just_one summed none))

-- ---- the summary

module _ (old new : Option (List ℕ)) (before now : ℕ) (text : List ℕ) where
  summed_front : (summed : Summed) → HasSummed old new before now text summed → SaysFront old new text
  summed_front Whole whole = (length text, whole ∙ ap (behind_told old) (sym (take-length text)))
  summed_front Failed failed = failed.1
  summed_front NoRoom same = (0, same ∙ nothing_behind old)

  summed_says : (summed : Summed) → HasSummed old new before now text summed → summed ≢ NoRoom → Says old new before now text
  summed_says Whole whole room = record { front = (length text, whole ∙ ap (behind_told old) (sym (take-length text))); whole = inr whole }
  summed_says Failed failed room = record { front = failed.1; whole = inl failed.0 }
  summed_says NoRoom same room = absurd (room refl)

accepted_by : (told : Told (List ℕ)) (m : Machine) → IsLoaded told m → IsAccepted told
accepted_by Untold m loaded = tt
accepted_by Absent m loaded = loaded
accepted_by (Present text) m loaded = (loaded.0, (m, loaded.1))

-- what is told of the session leads to what holds of it
told_session : (told : Told ToldDesk) (source sink : Option (List ℕ)) (documents : List ℕ → Told (List ℕ)) (P : ToldDesk → Type 0) → IsToldDesk told source sink documents
    → IfSome source (λ bytes. IfSome sink (λ held. (documents : List ℕ → Told (List ℕ)) → P (record { source = bytes; sink = held; documents = documents }))) → IfPresent told P
told_session Untold source sink documents P desk all = tt
told_session Absent source sink documents P desk all = tt
told_session (Present told) source sink documents P desk all =
    let first : IfSome sink (λ held. (documents : List ℕ → Told (List ℕ)) → P (record { source = told.source; sink = held; documents = documents })) =
    subst (λ o. IfSome o (λ bytes. IfSome sink (λ held. (documents : List ℕ → Told (List ℕ)) → P (record { source = bytes; sink = held; documents = documents })))) desk.source all in
    let then : (documents : List ℕ → Told (List ℕ)) → P (record { source = told.source; sink = told.sink; documents = documents }) =
    subst (λ o. IfSome o (λ held. (documents : List ℕ → Told (List ℕ)) → P (record { source = told.source; sink = held; documents = documents }))) desk.sink first in
    then told.documents

module _ (asked : Asked) (session : List ℕ) (before now : Outer) (left : Left) (m : Machine) (source sink : Option (List ℕ)) (documents : List ℕ → Told (List ℕ))
    (one : asked.sessions ≡ session ∷ [])
    (loaded : IsLoaded (before.documents asked.machine) m)
    (desk : IsToldDesk (before.sessions session) source sink documents)
    (ran : Ran source sink m session (record { held = before.held; faults = before.out_faults }) (record { held = now.held; faults = now.out_faults }) left)
  where
    any : IsSessions left.status
    any = rw ran.status (status_any ran.shown.end ran.summed)

    animated : (text : List ℕ) → before.documents asked.machine ≡ Present text → (n : Machine) → IsMachineText text n
        → EachRan (λ name e. IfPresent (before.sessions name) (λ told. IsAnimated (meaning_of n) left.names told e)) asked.sessions left.ends
    animated text is n reads =
        let same : IsLoaded (Present text) m = subst (λ t. IsLoaded t m) is loaded in
        let machine : m ≡ n = one_machine text m n same.1 reads in
        rw (one, ran.one) (
          told_session (before.sessions session) source sink documents (λ told. IsAnimated (meaning_of n) left.names told ran.shown) desk (subst (λ (k : Machine). IfSome source (λ bytes. IfSome sink (λ held. (documents : List ℕ → Told (List ℕ))
              → IsAnimated (meaning_of k) left.names (record { source = bytes; sink = held; documents = documents }) ran.shown))) machine ran.animated),
          tt,
        )

    text_is : HasSummed before.held now.held before.out_faults now.out_faults (summary asked.sessions left.ends (length left.names)) ran.summed
    text_is = rw one ran.text

    out_fault : ran.summed ≡ Failed → Rose before.out_faults now.out_faults
    out_fault is =
        let failed = subst (HasSummed before.held now.held before.out_faults now.out_faults (summary asked.sessions left.ends (length left.names))) is text_is in failed.0

    texts : HasText asked before now left
    texts = record {
      done = λ is. subst (HasSummed before.held now.held before.out_faults now.out_faults (summary asked.sessions left.ends (length left.names))) (status_zero ran.shown.end ran.summed (sym ran.status ∙ is)).1 text_is;
      memory = λ is. inr (summed_front before.held now.held before.out_faults now.out_faults (summary asked.sessions left.ends (length left.names)) ran.summed text_is);
      no_document = λ is. absurd (any.document is);
      refused = λ is. absurd (any.refused is);
      out_fault = λ is. summed_front before.held now.held before.out_faults now.out_faults (summary asked.sessions left.ends (length left.names)) ran.summed text_is;
      cut = λ is. summed_says before.held now.held before.out_faults now.out_faults (summary asked.sessions left.ends (length left.names)) ran.summed text_is (status_six ran.shown.end ran.summed (sym ran.status ∙ is)).1;
      limit = λ is. absurd (any.limit is);
    }

    pub ran_run : IsRun asked before now left
    ran_run = record {
      headline = if_present (before.documents asked.machine) _ animated;
      distinct = ran.distinct;
      root = rw ran.one (ran.root, tt);
      ends = rw ran.one (ran.cause, tt);
      accepted = λ some. accepted_by (before.documents asked.machine) m loaded;
      known = (any.usage, any.most);
      no_document = λ is. absurd (any.document is);
      limit = λ is. absurd (any.limit is);
      refused = λ is. absurd (any.refused is);
      cut = λ is. rw ran.one (inl (status_six ran.shown.end ran.summed (sym ran.status ∙ is)).0);
      is_cut = λ some. let P : List Shown → Type 0 = SomeEnd IsCut in rw ran.status (cut_status ran.shown.end ran.summed (only (subst P ran.one some)));
      out_fault = λ is. out_fault (status_five ran.shown.end ran.summed (sym ran.status ∙ is));
      done = λ is. rw ran.one ((status_zero ran.shown.end ran.summed (sym ran.status ∙ is)).0, tt);
      ran = λ is. rw (one, ran.one) refl;
      none_ran = λ is. absurd (⊎_elim any.document (λ more. ⊎_elim any.refused any.limit more) is);
      text = texts;
      complete = λ told none out_none ends_none.
          let P : List Shown → Type 0 = AllByRecursion (λ e. (Rose 0 e.source_faults → ⊥) × (Rose 0 e.sink_faults → ⊥)) in
          let faults = subst P ran.one ends_none in
          rw (ran.status, ran.one) (with_end (unfailed ran.shown.end ran.summed (λ is. out_none (out_fault is)) (λ is. faults.0.0 (ran.cause.source is)) (λ is. faults.0.1 (ran.cause.sink is))));
    }
      where
        only : IsCut ran.shown.end ⊎ ⊥ → IsCut ran.shown.end
        only (inl is) = is
        only (inr none) = absurd none

        with_end : (status_of ran.shown.end ran.summed ≡ 0) ⊎ ((status_of ran.shown.end ran.summed ≡ 1) ⊎ ((status_of ran.shown.end ran.summed ≡ 6) × (ran.shown.end ≡ LineLimit)))
            → (status_of ran.shown.end ran.summed ≡ 0) ⊎ ((status_of ran.shown.end ran.summed ≡ 1) ⊎ ((status_of ran.shown.end ran.summed ≡ 6) × ((ran.shown.end ≡ LineLimit) ⊎ ⊥)))
        with_end (inl is) = inl is
        with_end (inr (inl is)) = inr (inl is)
        with_end (inr (inr is)) = inr (inr (is.0, inl is.1))
