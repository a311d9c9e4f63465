-- What a session holds and what it stands for: its state, its changes, its moves.
use Rattle.std.proofs.Common.{◌≡◌, ◌∙◌, ◌≤◌, sym, ap, subst, refl, ℕ, zero, suc, ◌+◌, ◌-◌, ◌==◌, nat_le, Bool, true, false, cond, List, [], ◌∷◌, ◌++◌, length, map, take, drop, Option, Some, None, Result, Ok, Err, slice_get, if◌then◌else◌, arith, add-one}
use Rattle.std.specs.List.{find}
use Rattle.std.specs.Option.{option_map}
use Rattle.std.specs.Prelude.{is_some}
use Rattle.std.specs.Str.{bytes_eq}
use Rattle.std.proofs.lemmas.List.{map-append, take-map, length-map}
use Rattle.std.proofs.lemmas.Option.{slice_get-map}
use Rattle.b_values.specs.declared.values.State.{State}
use Rattle.engine_face.specs.Packing.{Unpacking, state_of, step_to}
use Rattle.engine_face.specs.declared.answers.Step.{Step}
use Rattle.session_words.specs.declared.replies.Numbered.{Numbered}
use Rattle.trace_ops.specs.Histories.{History}
use Rattle.trace_ops.specs.Traces.{placed, step_before, current, back, forward, jump, added}
use Rattle.trace_ops.specs.declared.faults.MoveFault.{MoveFault}
use Rattle.trace_ops.specs.declared.faults.MoveFault.TheVariants as move
use Rattle.animator.specs.Sessions.{Session, Trace, Kept, state_in, state_after}
use Rattle.animator.specs.Sessions.{with_kept as with_told}
use Rattle.session_core.specs.declared.held.KeptTrace.{KeptTrace}
use Rattle.session_core.specs.declared.held.Held.{Held}
use Rattle.session_core.specs.declared.stages.Change.{Change}
use Rattle.session_core.specs.declared.stages.Change.TheVariants.{Stay, Go, Add, Put, Subscribe, Unsubscribe, Keep}
use Rattle.session_core.specs.Moving.{numbered_after, numbered_before, numbered_in, with_kept, changed_held}
use Rattle.session_core.specs.Told.{state_at, step_at, trace_at, kept_at, session_at, changed}

pub before_map : {A B : Type 0} (f : A → B) (xs : List A) (n : ℕ) → step_before (map f xs) n ≡ option_map f (step_before xs n)
before_map f xs zero = refl
before_map f xs (suc n) = slice_get-map f xs n

module _ (unpack : Unpacking) where
  after_at : (root : Numbered) (step : Option (Step Numbered)) → state_after (state_at unpack root) (option_map (step_at unpack) step) ≡ state_at unpack (numbered_after root step)
  after_at root None = refl
  after_at root (Some step) = refl

  -- the state behind so many steps
  pub before_at : (root : Numbered) (steps : List (Step Numbered)) (n : ℕ)
      → state_after (state_at unpack root) (step_before (map (step_at unpack) steps) n) ≡ state_at unpack (numbered_before root steps n)
  before_at root steps n = ap (state_after (state_at unpack root)) (before_map (step_at unpack) steps n) ∙ after_at root (step_before steps n)

  -- the state in which a trace stands
  pub in_at : (root : Numbered) (trace : History (Step Numbered)) → state_in (state_at unpack root) (trace_at unpack trace) ≡ state_at unpack (numbered_in root trace)
  in_at root trace = before_at root trace.steps trace.position

  -- ---- changes

  added_at : (n : ℕ) (steps : List (Step Numbered)) (step : Step Numbered) → map (step_at unpack) (take n steps ++ step ∷ []) ≡ take n (map (step_at unpack) steps) ++ step_at unpack step ∷ []
  added_at n steps step =
      map-append (step_at unpack) (take n steps) (step ∷ []) ∙ ap (λ (xs : List (Step State)). xs ++ step_at unpack step ∷ []) (sym (take-map (step_at unpack) n steps))

  pub kept_with : (new : KeptTrace) (kept : List KeptTrace) → map (kept_at unpack) (with_kept new kept) ≡ with_told (kept_at unpack new) (map (kept_at unpack) kept)
  kept_with new [] = refl
  kept_with new (one ∷ others) = kept_by (bytes_eq new.name one.name) one others (kept_with new others)
    where
      kept_by : (b : Bool) (one : KeptTrace) (others : List KeptTrace) → map (kept_at unpack) (with_kept new others) ≡ with_told (kept_at unpack new) (map (kept_at unpack) others)
          → map (kept_at unpack) (if b then new ∷ others else one ∷ with_kept new others) ≡ (if b then kept_at unpack new ∷ map (kept_at unpack) others else kept_at unpack one ∷ with_told (kept_at unpack new) (map (kept_at unpack) others))
      kept_by true one others h = refl
      kept_by false one others h = ap (λ (ks : List Kept). kept_at unpack one ∷ ks) h

  -- a change of what is held is that change of the session
  pub changed_at : (shown : List State) (held : Held) (change : Change) → session_at unpack shown (changed_held held change) ≡ changed unpack (session_at unpack shown held) change
  changed_at shown held Stay = refl
  changed_at shown held (Go n) = refl
  changed_at shown held (Add step) =
      ap (λ (steps : List (Step State)). record { trace = record { steps = steps; position = held.trace.position + 1 }; kept = map (kept_at unpack) held.kept; subs = held.subs; shown = shown })
      (added_at held.trace.position held.trace.steps step)
  changed_at shown held (Put trace) = refl
  changed_at shown held (Subscribe key) = refl
  changed_at shown held (Unsubscribe n) = refl
  changed_at shown held (Keep kept) =
      ap (λ (ks : List Kept). record { trace = trace_at unpack held.trace; kept = ks; subs = held.subs; shown = shown }) (kept_with kept held.kept)

  -- ---- moves

  -- a move of what is held, told of the states
  abbrev pub moved_at : Result (History (Step Numbered)) MoveFault → Result Trace MoveFault
  moved_at (Err fault) = Err fault
  moved_at (Ok trace) = Ok (trace_at unpack trace)

  moved_if : (b : Bool) (fault : MoveFault) (trace : History (Step Numbered)) → moved_at (if b then Err fault else Ok trace) ≡ (if b then Err fault else Ok (trace_at unpack trace))
  moved_if true fault trace = refl
  moved_if false fault trace = refl

  moved_if_not : (b : Bool) (fault : MoveFault) (trace : History (Step Numbered)) → moved_at (if b then Ok trace else Err fault) ≡ (if b then Ok (trace_at unpack trace) else Err fault)
  moved_if_not true fault trace = refl
  moved_if_not false fault trace = refl

  same_length : (trace : History (Step Numbered)) → length (map (step_at unpack) trace.steps) ≡ length trace.steps
  same_length trace = length-map trace.steps (step_at unpack)

  pub back_at : (trace : History (Step Numbered)) → moved_at (back trace) ≡ back (trace_at unpack trace)
  back_at trace = moved_if (trace.position == 0) move.AtStart (placed (trace.position - 1) trace)

  pub forward_at : (trace : History (Step Numbered)) → moved_at (forward trace) ≡ forward (trace_at unpack trace)
  forward_at trace =
      moved_if (trace.position == length trace.steps) move.AtEnd (placed (trace.position + 1) trace)
      ∙ ap (λ (n : ℕ). if trace.position == n then Err move.AtEnd else Ok (placed (trace.position + 1) (trace_at unpack trace))) (sym (same_length trace))

  pub jump_at : (n : ℕ) (trace : History (Step Numbered)) → moved_at (jump n trace) ≡ jump n (trace_at unpack trace)
  jump_at n trace =
      moved_if_not (nat_le n (length trace.steps)) move.NoPosition (placed n trace)
      ∙ ap (λ (l : ℕ). if nat_le n l then Ok (placed n (trace_at unpack trace)) else Err move.NoPosition) (sym (same_length trace))

  -- ---- kept traces

  find_by : (b : Bool) (one : KeptTrace) (o : Option KeptTrace) → (if b then Some (kept_at unpack one) else option_map (kept_at unpack) o) ≡ option_map (kept_at unpack) (if b then Some one else o)
  find_by true one o = refl
  find_by false one o = refl

  pub found_at : (name : List ℕ) (kept : List KeptTrace) → find (λ (one : Kept). bytes_eq name one.name) (map (kept_at unpack) kept) ≡ option_map (kept_at unpack) (find (λ (one : KeptTrace). bytes_eq name one.name) kept)
  found_at name [] = refl
  found_at name (one ∷ others) =
      ap (λ (o : Option Kept). if bytes_eq name one.name then Some (kept_at unpack one) else o) (found_at name others)
      ∙ find_by (bytes_eq name one.name) one (find (λ (k : KeptTrace). bytes_eq name k.name) others)

  pub is_some_map : {A B : Type 0} (f : A → B) (o : Option A) → is_some (option_map f o) ≡ is_some o
  is_some_map f None = refl
  is_some_map f (Some x) = refl
