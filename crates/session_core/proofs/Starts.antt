-- What a session asks first is what the command's plan asks first.
use Rattle.std.proofs.Common.{◌≡◌, ◌∙◌, sym, ap, subst, refl, ℕ, zero, suc, ◌+◌, ◌-◌, ◌==◌, nat_le, Bool, true, false, ◌||◌, nat_lt, List, [], ◌∷◌, ◌++◌, length, map, drop, Option, Some, None, IsSome, Result, Ok, Err, if◌then◌else◌}
use Rattle.std.specs.Prelude.{is_some}
use Rattle.std.specs.Cmp.Lexicographic.{nat_list_eq_equiv}
use Rattle.std.specs.Option.{option_map}
use Rattle.std.specs.Str.{bytes_eq}
use Rattle.std.proofs.lemmas.List.{length-map}
use Rattle.b_values.specs.SameLaws.{state_decides}
use Rattle.b_values.specs.Values.{same_state}
use Rattle.b_values.specs.declared.types.OpId.{OpId}
use Rattle.b_values.specs.declared.values.State.{State}
use Rattle.b_values.specs.declared.values.Value.{Value}
use Rattle.engine_face.specs.Keys.{same_bytes, bytes_same}
use Rattle.engine_face.specs.Meaning.{Meaning}
use Rattle.engine_face.specs.Packing.{Unpacking, IsPacked, IsOneSpelling, state_of, state_or_root}
use Rattle.engine_face.specs.Typing.{values_in}
use Rattle.engine_face.specs.declared.keys.FormulaKey.{FormulaKey}
use Rattle.engine_face.specs.declared.keys.LoadKind.{LoadKind}
use Rattle.engine_face.specs.declared.keys.Scope.TheVariants as scope
use Rattle.std.specs.List.{list_any}
use Rattle.session_words.specs.Commands.{command_of}
use Rattle.session_words.specs.declared.commands.Command.{Command}
use Rattle.session_words.specs.declared.commands.Command.TheVariants as command
use Rattle.session_words.specs.declared.refusals.Refusal.TheVariants as refusal
use Rattle.session_words.specs.declared.replies.Numbered.{Numbered}
use Rattle.session_words.specs.declared.replies.Reply.{Reply}
use Rattle.session_words.specs.declared.replies.Reply.TheVariants as reply
use Rattle.session_words.specs.declared.replies.SubValue.{SubValue}
use Rattle.formulas.specs.declared.subs.Sub.{Sub}
use Rattle.formulas.specs.Subscribing.{has_number, is_full as subs_are_full}
use Rattle.trace_ops.specs.Histories.{History}
use Rattle.trace_ops.specs.Traces.{placed, step_before, back, forward, jump}
use Rattle.trace_ops.specs.declared.faults.MoveFault.{MoveFault}
use Rattle.trace_ops.specs.declared.faults.MoveFault.TheVariants as move
use Rattle.engine_face.specs.declared.answers.Step.{Step}
use Rattle.animator.specs.Sessions.{Session, Trace, Kept, state_in, state_after, with_trace, kept_of, keeping}
use Rattle.animator.specs.Plans.{Plan, ValueIn}
use Rattle.animator.specs.Commands.{refused, ended, told_subs, gone, moved, use_of, values_of, state_shown, with_key, operation_of, plan, plan_of}
use Rattle.animator.specs.Commands as table
use Rattle.session_core.specs.declared.held.KeptTrace.{KeptTrace}
use Rattle.session_core.specs.declared.held.Held.{Held}
use Rattle.session_core.specs.declared.stages.Arrival.{Arrival}
use Rattle.session_core.specs.declared.stages.Change.TheVariants.{Put, Keep, Unsubscribe}
use Rattle.session_core.specs.declared.stages.Stage.TheVariants.{Subscribing, Finding}
use Rattle.session_core.specs.declared.stages.Opening.{Opening}
use Rattle.session_core.specs.declared.stages.Opening.TheVariants as opening
use Rattle.session_core.specs.declared.stages.Next.{Next}
use Rattle.session_core.specs.declared.stages.Next.TheVariants.{Goes, Ends, Refuses, Silent, Moves, Quits}
use Rattle.session_core.specs.Fitting.{RootFits}
use Rattle.session_core.specs.Moving.{numbered_before, numbered_in, opened, arriving, going, moving, using_kept, kept_under, keeping_under, values_told, evaluating, subscribing, searching, doing, started_info, started_state, is_built, started, started_by, built_by, is_too_long, line_next, line_built}
use Rattle.session_core.specs.Told.{state_at, step_at, trace_at, kept_at, session_at, reply_at, opening_at, changed, plan_at, next_plan}
use Rattle.session_core.specs.Standing.{bare, line_plan}
use Rattle.session_core.proofs.Tracing.{before_at, in_at, moved_at, back_at, forward_at, jump_at, found_at, is_some_map}

-- ---- states by their bytes

some_state : (o : Option State) → IsSome o → o ≡ Some (state_or_root o)
some_state None h = cc
some_state (Some s) h = refl

told : (b c : Bool) → (b ≡ true → c ≡ true) → (c ≡ true → b ≡ true) → b ≡ c
told true c f g = sym (f refl)
told false true f g = g refl
told false false f g = refl

same_spelled : (unpack : Unpacking) (p q : List ℕ) → IsOneSpelling unpack → IsPacked unpack p → IsPacked unpack q → same_bytes p q ≡ same_state (state_of unpack p) (state_of unpack q)
same_spelled unpack p q once h k = told _ _
    (λ e. (state_decides _ _).1 (ap (state_of unpack) (bytes_same p q e)))
    (λ e. let states : state_of unpack p ≡ state_of unpack q = (state_decides _ _).0 e in
    let equal : p ≡ q = once p q (state_of unpack q) (some_state (unpack p) h ∙ ap (λ (s : State). Some s) states) (some_state (unpack q) k) in
    ap (same_bytes p) (sym equal) ∙ nat_list_eq_equiv.refl p)

is_packed : (o : Option State) (s : State) → o ≡ Some s → IsSome o
is_packed o s is = subst (λ (p : Option State). IsSome p) (sym is) refl

pub root_is : (m : Meaning) (unpack : Unpacking) (root : Numbered) → RootFits m unpack root → m.root ≡ state_at unpack root
root_is m unpack root fits = sym (ap state_or_root fits)

module _ (m : Meaning) (unpack : Unpacking) (root : Numbered) (shown : List State) (held : Held) (fits : RootFits m unpack root) where
  abbrev session : Session
  session = session_at unpack shown held

  abbrev next_of : Next → Plan
  next_of = next_plan unpack m.root session

  abbrev is_root : m.root ≡ state_at unpack root
  is_root = root_is m unpack root fits

  -- the state in which a trace of the session stands
  pub stands_in : (trace : History (Step Numbered)) → state_in m.root (trace_at unpack trace) ≡ state_at unpack (numbered_in root trace)
  stands_in trace = ap (λ (o : State). state_in o (trace_at unpack trace)) is_root ∙ in_at unpack root trace

  pub stood_before : (n : ℕ) → state_after m.root (step_before session.trace.steps n) ≡ state_at unpack (numbered_before root held.trace.steps n)
  stood_before n = ap (λ (o : State). state_after o (step_before session.trace.steps n)) is_root ∙ before_at unpack root held.trace.steps n

  pub next_if : (b : Bool) (x y : Next) → next_of (if b then x else y) ≡ (if b then next_of x else next_of y)
  next_if true x y = refl
  next_if false x y = refl

  -- ---- arrivals

  pub opened_at : (o : Opening) (subs : List SubValue) → reply_at unpack (opened o subs) ≡ opening_at unpack o subs
  opened_at (opening.Added step) subs = refl
  opened_at (opening.Moved state) subs = refl

  -- the subscriptions are asked at the state of the arrival
  pub arriving_plan : (subs : List Sub) (arrival : Arrival) → session.subs.list ≡ subs
      → next_of (arriving subs arrival) ≡ told_subs (state_at unpack arrival.at) session.subs.list [] (λ answers. ended (changed unpack session arrival.change) (opening_at unpack arrival.opening answers))
  arriving_plan [] arrival is =
      ap (λ (r : Reply State). ended (changed unpack session arrival.change) r) (opened_at arrival.opening [])
      ∙ ap (λ (l : List Sub). told_subs (state_at unpack arrival.at) l [] (λ answers. ended (changed unpack session arrival.change) (opening_at unpack arrival.opening answers))) (sym is)
  arriving_plan (sub ∷ subs) arrival is = refl

  -- ---- moves

  going_by : (subs : List Sub) (n : ℕ) → session.subs.list ≡ subs
      → next_of (going subs n (numbered_before root held.trace.steps n)) ≡ gone m.root session (placed n session.trace)
  going_by [] n is =
      ap (λ (l : List Sub). told_subs (state_after m.root (step_before session.trace.steps n)) l []
      (λ answers. ended (with_trace session (placed n session.trace)) (reply.Moved (state_after m.root (step_before session.trace.steps n)) answers))) (sym is)
  going_by (sub ∷ subs) n is =
      ap (λ (x : State). told_subs x session.subs.list [] (λ answers. ended (with_trace session (placed n session.trace)) (reply.Moved x answers))) (sym (stood_before n))

  -- a move from where the session stands
  moved_by : (r : Result (History (Step Numbered)) MoveFault) → ((t : History (Step Numbered)) → r ≡ Ok t → t ≡ placed t.position held.trace)
      → next_of (moving root held r) ≡ moved m.root session (moved_at unpack r)
  moved_by (Err fault) is = refl
  moved_by (Ok t) is =
      going_by held.subs.list t.position refl
      ∙ ap (λ (x : History (Step Numbered)). gone m.root session (trace_at unpack x)) (sym (is t refl))

  if_ok : (b : Bool) (fault : MoveFault) (n : ℕ) (t : History (Step Numbered)) → (if b then Err fault else Ok (placed n held.trace)) ≡ Ok t → t ≡ placed t.position held.trace
  if_ok true fault n t is = cc
  if_ok false fault n t is = let same : placed n held.trace ≡ t = cc in sym same ∙ ap (λ (x : History (Step Numbered)). placed x.position held.trace) same

  if_not_ok : (b : Bool) (fault : MoveFault) (n : ℕ) (t : History (Step Numbered)) → (if b then Ok (placed n held.trace) else Err fault) ≡ Ok t → t ≡ placed t.position held.trace
  if_not_ok false fault n t is = cc
  if_not_ok true fault n t is = let same : placed n held.trace ≡ t = cc in sym same ∙ ap (λ (x : History (Step Numbered)). placed x.position held.trace) same

  back_plan : next_of (moving root held (back held.trace)) ≡ moved m.root session (back session.trace)
  back_plan = moved_by (back held.trace) (λ t is. if_ok (held.trace.position == 0) move.AtStart (held.trace.position - 1) t is) ∙ ap (moved m.root session) (back_at unpack held.trace)

  forward_plan : next_of (moving root held (forward held.trace)) ≡ moved m.root session (forward session.trace)
  forward_plan = moved_by (forward held.trace) (λ t is. if_ok (held.trace.position == length held.trace.steps) move.AtEnd (held.trace.position + 1) t is) ∙ ap (moved m.root session) (forward_at unpack held.trace)

  jump_plan : (n : ℕ) → next_of (moving root held (jump n held.trace)) ≡ moved m.root session (jump n session.trace)
  jump_plan n = moved_by (jump n held.trace) (λ t is. if_not_ok (nat_le n (length held.trace.steps)) move.NoPosition n t is) ∙ ap (moved m.root session) (jump_at unpack n held.trace)

  -- ---- formulas

  evaluating_plan : (r : Result FormulaKey LoadKind) → next_of (evaluating r) ≡ with_key session r (λ key. ValueIn (state_in m.root session.trace) key (table.evaluated session))
  evaluating_plan (Err kind) = refl
  evaluating_plan (Ok key) = refl

  subscribing_plan : (r : Result FormulaKey LoadKind) → next_of (subscribing held r) ≡ with_key session r (table.subscribing m.root session)
  subscribing_plan (Err kind) = refl
  subscribing_plan (Ok key) = next_if (subs_are_full held.subs) (Refuses refusal.SubsFull) (Goes (Subscribing key))

  searching_plan : (op : OpId) (r : Result FormulaKey LoadKind) → next_of (searching op r) ≡ with_key session r (table.searching m.root session op)
  searching_plan op (Err kind) = refl
  searching_plan op (Ok key) = next_if key.predicate (Goes (Finding op (key ∷ []))) (Refuses refusal.Syntax)

  doing_plan : (predicate : Option (List ℕ)) (op : Option OpId) → next_of (doing m predicate op) ≡ table.doing m session predicate op
  doing_plan None None = refl
  doing_plan (Some text) None = refl
  doing_plan None (Some op) = refl
  doing_plan (Some text) (Some op) = searching_plan op (m.read_formula (scope.Op op) text)

  -- ---- kept traces

  using_plan : (kept : Option KeptTrace) → next_of (using_kept root held kept) ≡ use_of m.root session (option_map (kept_at unpack) kept)
  using_plan None = refl
  using_plan (Some kept) =
      arriving_plan held.subs.list (record { at = numbered_in root kept.trace; change = Put kept.trace; opening = opening.Moved (numbered_in root kept.trace) }) refl
      ∙ ap (λ (x : State). told_subs x session.subs.list [] (λ answers. ended (with_trace session (trace_at unpack kept.trace)) (reply.Moved x answers))) (sym (stands_in kept.trace))

  use_plan : (name : List ℕ) → next_of (using_kept root held (kept_under name held)) ≡ use_of m.root session (kept_of session name)
  use_plan name = using_plan (kept_under name held) ∙ ap (use_of m.root session) (sym (found_at unpack name held.kept))

  keep_plan : (name : List ℕ) → next_of (keeping_under name held)
      ≡ (if is_some (kept_of session name) || nat_lt (length session.kept) 64 then ended (keeping session name) reply.Done else refused session refusal.KeptFull)
  keep_plan name =
      next_if (is_some (kept_under name held) || nat_lt (length held.kept) 64) (Ends (Keep (record { name = name; trace = held.trace })) reply.Done) (Refuses refusal.KeptFull)
      ∙ ap (λ (b : Bool). if b || nat_lt (length held.kept) 64 then ended (keeping session name) reply.Done else refused session refusal.KeptFull)
      (sym (ap is_some (found_at unpack name held.kept) ∙ is_some_map unpack (kept_at unpack) (kept_under name held)))
      ∙ ap (λ (n : ℕ). if is_some (kept_of session name) || nat_lt n 64 then ended (keeping session name) reply.Done else refused session refusal.KeptFull)
      (sym (length-map held.kept (kept_at unpack)))

  -- ---- replies at once

  info_plan : next_of (started_info root held) ≡ ended session (reply.Info (state_in m.root session.trace) session.trace.position (length session.trace.steps))
  info_plan =
      ap (λ (x : State). ended session (reply.Info x held.trace.position (length held.trace.steps))) (sym (stands_in held.trace))
      ∙ ap (λ (n : ℕ). ended session (reply.Info (state_in m.root session.trace) held.trace.position n)) (sym (length-map held.trace.steps (step_at unpack)))

  values_plan : IsOneSpelling unpack → IsPacked unpack (numbered_in root held.trace).state
      → values_told unpack root (numbered_in root held.trace) ≡ values_of m.root (state_at unpack (numbered_in root held.trace))
  values_plan once packed =
      ap (λ (b : Bool). if b then None else Some (values_in (state_at unpack (numbered_in root held.trace))))
      (same_spelled unpack root.state (numbered_in root held.trace).state once (is_packed (unpack root.state) m.root fits) packed
      ∙ ap (λ (o : State). same_state o (state_at unpack (numbered_in root held.trace))) (sym is_root))

  state_plan : IsOneSpelling unpack → IsPacked unpack (numbered_in root held.trace).state
      → next_of (started_state unpack root held) ≡ ended session (state_shown m.root (state_in m.root session.trace))
  state_plan once packed =
      ap (λ (v : Option (List Value)). ended session (reply.State (state_at unpack (numbered_in root held.trace)) v)) (values_plan once packed)
      ∙ ap (λ (x : State). ended session (state_shown m.root x)) (sym (stands_in held.trace))

  -- the first need of a command, or its end, is that of its plan
  pub started_plan : IsOneSpelling unpack → IsPacked unpack (numbered_in root held.trace).state → (c : Command) → is_built c ≡ true
      → next_of (started m unpack root held c) ≡ plan (bare m) session c
  started_plan once packed command.Blank built = refl
  started_plan once packed command.Info built = info_plan
  started_plan once packed command.Ops built = refl
  started_plan once packed (command.Step k) built = refl
  started_plan once packed (command.Do name predicate) built = doing_plan predicate (operation_of m.face name)
  started_plan once packed command.Back built = back_plan
  started_plan once packed command.Forward built = forward_plan
  started_plan once packed (command.Jump n) built = jump_plan n
  started_plan once packed command.Trace built = refl
  started_plan once packed command.State built = state_plan once packed
  started_plan once packed (command.Show n) built = cc
  started_plan once packed (command.Eval text) built = evaluating_plan (m.read_formula scope.State text)
  started_plan once packed (command.Sub text) built = subscribing_plan (m.read_formula scope.State text)
  started_plan once packed (command.Unsub n) built = next_if (list_any (has_number n) held.subs.list) (Ends (Unsubscribe n) reply.Done) (Refuses refusal.NoSub)
  started_plan once packed command.Subs built = refl
  started_plan once packed command.Inv built = refl
  started_plan once packed (command.Keep name) built = keep_plan name
  started_plan once packed (command.Use name) built = use_plan name
  started_plan once packed (command.Save name) built = cc
  started_plan once packed (command.Replay name) built = cc
  started_plan once packed (command.Migrate from to) built = cc
  started_plan once packed command.Visb built = refl
  started_plan once packed (command.Click id) built = refl
  started_plan once packed (command.Random n seed) built = cc
  started_plan once packed command.Quit built = refl

  started_by_plan : IsOneSpelling unpack → IsPacked unpack (numbered_in root held.trace).state → (c : Option Command) → built_by c ≡ true
      → next_of (started_by m unpack root held c) ≡ plan_of (bare m) session c
  started_by_plan once packed None built = refl
  started_by_plan once packed (Some c) built = started_plan once packed c built

  line_by : (long : Bool) (c : Option Command) → IsOneSpelling unpack → IsPacked unpack (numbered_in root held.trace).state → (long || built_by c) ≡ true
      → next_of (if long then Refuses refusal.LineTooLong else started_by m unpack root held c) ≡ (if long then refused session refusal.LineTooLong else plan_of (bare m) session c)
  line_by true c once packed built = refl
  line_by false c once packed built = started_by_plan once packed c built

  -- the same for a line
  pub line_started : IsOneSpelling unpack → IsPacked unpack (numbered_in root held.trace).state → (line : List ℕ) → line_built line ≡ true
      → next_of (line_next m unpack root held line) ≡ line_plan m session line
  line_started once packed line built = line_by (is_too_long line) (command_of line) once packed built
