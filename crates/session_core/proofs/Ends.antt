-- A reply is written under the list of states, and a session that settled stands at its plan.
use Rattle.std.proofs.Common.{◌≡◌, ◌∙◌, ◌<◌, sym, ap, subst, refl, ℕ, zero, suc, ◌+◌, Bool, true, false, List, [], ◌∷◌, ◌++◌, length, map, drop, Option, Some, None, slice_get, codes, add-one}
use Rattle.std.specs.List.{flat_map, AllByRecursion}
use Rattle.std.specs.Fmt.{decimal}
use Rattle.std.proofs.lemmas.List.{map-append, append-nil}
use Rattle.b_values.specs.declared.types.Face.{Face}
use Rattle.b_values.specs.declared.values.State.{State}
use Rattle.engine_face.specs.Meaning.{Meaning}
use Rattle.engine_face.specs.Packing.{Unpacking, state_of, plain_lists}
use Rattle.engine_face.specs.declared.answers.Step.{Step}
use Rattle.engine_face.specs.declared.answers.OpList.{OpList}
use Rattle.session_words.specs.Texts.{line}
use Rattle.session_words.specs.Replies.{dests, states_in, reply_text}
use Rattle.session_words.specs.Retelling.{retold, retold_steps, retold_lists}
use Rattle.session_words.specs.ReplyLaws.{NumberAlike, text_same, text_retold}
use Rattle.session_words.specs.declared.refusals.Refusal.TheVariants as refusal
use Rattle.session_words.specs.declared.replies.Numbered.{Numbered}
use Rattle.session_words.specs.declared.replies.Reply.{Reply}
use Rattle.session_words.specs.declared.replies.Reply.TheVariants.{Silent, Done, Info, Lists, Added, Moved, Trace, State as Stated, Value as Valued, Subscribed, Subscriptions, Invariant, Saved, Migrated, Replayed, VisbItems, Walked, Refused}
use Rattle.session_text.specs.Writing.{its_number, text_of_reply}
use Rattle.session_words.specs.declared.replies.SubValue.{SubValue}
use Rattle.formulas.specs.declared.subs.Sub.{Sub}
use Rattle.trace_ops.specs.Traces.{placed, step_before}
use Rattle.animator.specs.Names.{place, IsNamed}
use Rattle.animator.specs.Sessions.{Session, state_in, state_after, showing, with_trace}
use Rattle.animator.specs.Plans.{Plan, Done as Over}
use Rattle.animator.specs.Commands.{ended, refused, show_each, told_subs, steps_in}
use Rattle.session_core.specs.declared.core_of.At.{At}
use Rattle.session_core.specs.declared.core_of.At.TheVariants.{Asking, Replying, Quitting}
use Rattle.session_core.specs.declared.core_of.Turn.{Turn}
use Rattle.session_core.specs.declared.held.Held.{Held}
use Rattle.session_core.specs.declared.stages.Change.{Change}
use Rattle.session_core.specs.declared.stages.Change.TheVariants.{Go}
use Rattle.session_core.specs.declared.stages.Stage.{Stage}
use Rattle.session_core.specs.declared.stages.Stage.TheVariants.{Listing, Taking, NamingLists, NamingStep, Evaluating, Checking, Subscribing, Finding, Telling}
use Rattle.session_core.specs.declared.stages.Next.{Next}
use Rattle.session_core.specs.declared.stages.Next.TheVariants.{Goes, Ends, Refuses, Silent as Blank, Moves, Quits}
use Rattle.session_core.specs.declared.stages.Need.{Need}
use Rattle.session_core.specs.declared.stages.Need.TheVariants as needs
use Rattle.session_core.specs.Fitting.{RootFits}
use Rattle.session_core.specs.Moving.{numbered_in, numbered_before, packed_steps, names_needed, value_needed, needed, changed_held}
use Rattle.session_core.specs.Settling.{Settled, moved_text}
use Rattle.session_core.specs.Told.{state_at, session_at, reply_at, opening_at, changed, plan_at, next_plan}
use Rattle.session_core.specs.Standing.{IsNeed, IsPlaced, IsEnd, IsRest, StagePlaced, StandsBy, EndsBy, QuitsBy}
use Rattle.session_core.specs.Placing.{NextPlaced}
use Rattle.session_core.proofs.Tracing.{changed_at}
use Rattle.session_core.proofs.Starts.{stands_in, stood_before}
use Rattle.session_core.proofs.Numbering.{dests_plain}

-- ---- states of a reply

module _ {D E : Type 0} (f : D → E) where
  dests_retold : (steps : List (Step D)) → dests (retold_steps f steps) ≡ map f (dests steps)
  dests_retold [] = refl
  dests_retold (step ∷ steps) = ap (λ (xs : List E). f step.dest ∷ xs) (dests_retold steps)

  lists_retold : (lists : List (OpList D)) → flat_map (λ (ops : OpList E). dests ops.steps) (retold_lists f lists) ≡ map f (flat_map (λ (ops : OpList D). dests ops.steps) lists)
  lists_retold [] = refl
  lists_retold (list ∷ lists) =
      ap (λ (xs : List E). xs ++ flat_map (λ (ops : OpList E). dests ops.steps) (retold_lists f lists)) (dests_retold list.steps)
      ∙ ap (λ (xs : List E). map f (dests list.steps) ++ xs) (lists_retold lists)
      ∙ sym (map-append f (dests list.steps) (flat_map (λ (ops : OpList D). dests ops.steps) lists))

  states_retold : (reply : Reply D) → states_in (retold f reply) ≡ map f (states_in reply)
  states_retold Silent = refl
  states_retold Done = refl
  states_retold (Info state position len) = refl
  states_retold (Lists list) = lists_retold list.lists
  states_retold (Added step subs) = refl
  states_retold (Moved state subs) = refl
  states_retold (Trace position steps) = dests_retold steps
  states_retold (Stated state values) = refl
  states_retold (Valued v bounded) = refl
  states_retold (Subscribed sub) = refl
  states_retold (Subscriptions subs) = refl
  states_retold (Invariant holds bounded) = refl
  states_retold (Saved len) = refl
  states_retold (Migrated len) = refl
  states_retold (Replayed steps subs) = dests_retold steps
  states_retold (VisbItems items) = refl
  states_retold (Walked steps subs) = dests_retold steps
  states_retold (Refused refusal) = refl

module _ (face : Face) (unpack : Unpacking) (names : List State) where
  alike : (states : List Numbered) → AllByRecursion (IsPlaced unpack names) states → NumberAlike face its_number (λ (d : Numbered). place names (state_at unpack d)) states
  alike [] all = tt
  alike (d ∷ states) all = (sym all.0.place, alike states all.1)

  named_all : (states : List Numbered) → AllByRecursion (IsPlaced unpack names) states → AllByRecursion (IsNamed names) (map (state_at unpack) states)
  named_all [] all = tt
  named_all (d ∷ states) all = (all.0.named, named_all states all.1)

  -- the text of a reply under the list of states
  pub text_at : (reply : Reply Numbered) → AllByRecursion (IsPlaced unpack names) (states_in reply) → text_of_reply face reply ≡ reply_text face (place names) (reply_at unpack reply)
  text_at reply all = text_same face its_number (λ (d : Numbered). place names (state_at unpack d)) reply (alike (states_in reply) all) ∙ sym (text_retold face (state_at unpack) (place names) reply)

  pub named_at : (reply : Reply Numbered) → AllByRecursion (IsPlaced unpack names) (states_in reply) → AllByRecursion (IsNamed names) (states_in (reply_at unpack reply))
  named_at reply all = subst (AllByRecursion (IsNamed names)) (sym (states_retold (state_at unpack) reply)) (named_all (states_in reply) all)

-- ---- needs

some_same : {A : Type 0} (x y : A) → Some x ≡ Some y → x ≡ y
some_same x y is = cc

drop_some : {A : Type 0} (xs : List A) (i : ℕ) (x : A) → slice_get xs i ≡ Some x → drop i xs ≡ x ∷ drop (suc i) xs
drop_some [] i x is = cc
drop_some (y ∷ xs) zero x is = let same : y ≡ x = cc in ap (λ z. z ∷ xs) same
drop_some (y ∷ xs) (suc i) x is = drop_some xs i x is

module _ (m : Meaning) (unpack : Unpacking) (root : Numbered) (shown : List State) (held : Held) (fits : RootFits m unpack root) where
  abbrev session : Session
  session = session_at unpack shown held

  -- the current state
  here : state_of unpack (numbered_in root held.trace).state ≡ state_in m.root session.trace
  here = sym (stands_in m unpack root shown held fits held.trace)

  names_need : (states : List (List ℕ)) (all : List State) (need : Need) (p : Plan) → all ≡ map (state_of unpack) states → names_needed states ≡ Some need → IsNeed unpack (show_each all p) need
  names_need [] all need p is some = cc
  names_need (state ∷ states) all need p is some =
      subst (IsNeed unpack (show_each all p)) (some_same _ _ some)
      (subst (λ (xs : List State). IsNeed unpack (show_each xs p) (needs.Names (state ∷ states))) (sym is) refl)

  value_need : (sub : Option Sub) (at : Numbered) (n : ℕ) (need : Need) (told : List SubValue) (end : List SubValue → Plan) → slice_get held.subs.list n ≡ sub → value_needed at sub ≡ Some need
      → IsNeed unpack (told_subs (state_at unpack at) (drop n held.subs.list) told end) need
  value_need None at n need told end is some = cc
  value_need (Some sub) at n need told end is some =
      subst (IsNeed unpack (told_subs (state_at unpack at) (drop n held.subs.list) told end)) (some_same _ _ some)
      (subst (λ (l : List Sub). IsNeed unpack (told_subs (state_at unpack at) l told end) (needs.Value at.state sub.key)) (sym (drop_some held.subs.list n sub is)) (refl, refl))

  -- what a stage needs is the question that comes first in its plan
  pub need_is : (stage : Stage) (need : Need) → needed root held stage ≡ Some need → IsNeed unpack (plan_at unpack m.root session stage) need
  need_is Listing need some = subst (IsNeed unpack (plan_at unpack m.root session Listing)) (some_same _ _ some) here
  need_is (Taking k) need some = subst (IsNeed unpack (plan_at unpack m.root session (Taking k))) (some_same _ _ some) here
  need_is (NamingLists lists) need some = names_need (dests (packed_steps lists.lists)) _ need _ (dests_plain unpack lists) some
  need_is (NamingStep step) need some = subst (IsNeed unpack (plan_at unpack m.root session (NamingStep step))) (some_same _ _ some) refl
  need_is (Evaluating key) need some = subst (IsNeed unpack (plan_at unpack m.root session (Evaluating key))) (some_same _ _ some) (here, refl)
  need_is Checking need some = subst (IsNeed unpack (plan_at unpack m.root session Checking)) (some_same _ _ some) (here, refl)
  need_is (Subscribing key) need some = subst (IsNeed unpack (plan_at unpack m.root session (Subscribing key))) (some_same _ _ some) (here, refl)
  need_is (Finding op preds) need some = subst (IsNeed unpack (plan_at unpack m.root session (Finding op preds))) (some_same _ _ some) (here, refl, refl)
  need_is (Telling arrival told) need some = value_need (slice_get held.subs.list (length told)) arrival.at (length told) need told (λ answers. ended (changed unpack session arrival.change) (opening_at unpack arrival.opening answers)) refl some

  -- ---- settling

  module _ (names : List State) (new : Held) (turn : Turn) where
    replies : (p : Plan) (text : List ℕ) → turn.at ≡ Replying → turn.need ≡ needs.Reply text → IsEnd m unpack names p new text → StandsBy m unpack names shown p new turn.at turn.need
    replies p text at need end = subst (λ (a : At). StandsBy m unpack names shown p new a turn.need) (sym at) (subst (EndsBy m unpack names p new) (sym need) end)

    quits : (p : Plan) (text : List ℕ) → turn.at ≡ Quitting → turn.need ≡ needs.Quit text → IsEnd m unpack names p new text → StandsBy m unpack names shown p new turn.at turn.need
    quits p text at need end = subst (λ (a : At). StandsBy m unpack names shown p new a turn.need) (sym at) (subst (QuitsBy m unpack names p new) (sym need) end)

    -- an ok reply ends the command
    end_of : (change : Change) (reply : Reply Numbered) → new ≡ changed_held held change → AllByRecursion (IsPlaced unpack names) (states_in reply)
        → IsEnd m unpack names (ended (changed unpack session change) (reply_at unpack reply)) new (text_of_reply m.face reply)
    end_of change reply is all = record {
      left = record { session = showing (changed unpack session change) (states_in (reply_at unpack reply)); reply = reply_at unpack reply };
      ends = refl;
      shown = shown ++ states_in (reply_at unpack reply);
      session = ap (λ (s : Session). showing s (states_in (reply_at unpack reply))) (sym (changed_at unpack shown held change) ∙ ap (session_at unpack shown) (sym is));
      writes = text_at m.face unpack names reply all;
      named = named_at m.face unpack names reply all;
    }

    -- a reply that shows no state leaves the session as it was
    over_of : (reply : Reply State) (text : List ℕ) → new ≡ held → text ≡ reply_text m.face (place names) reply → states_in reply ≡ []
        → IsEnd m unpack names (Over (record { session = session; reply = reply })) new text
    over_of reply text is told none = record {
      left = record { session = session; reply = reply };
      ends = refl;
      shown = shown;
      session = ap (session_at unpack shown) (sym is);
      writes = told;
      named = subst (AllByRecursion (IsNamed names)) (sym none) tt;
    }

    done_of : new ≡ held → IsEnd m unpack names (ended session Done) new (text_of_reply m.face Done)
    done_of is = record {
      left = record { session = showing session []; reply = Done };
      ends = refl;
      shown = shown ++ [];
      session = ap (λ (h : Held). showing (session_at unpack shown h) []) (sym is);
      writes = refl;
      named = tt;
    }

    moved_of : (n number : ℕ) → new ≡ changed_held held (Go n) → IsPlaced unpack names (numbered_before root held.trace.steps n) → number ≡ (numbered_before root held.trace.steps n).number
        → IsEnd m unpack names (ended (with_trace session (placed n session.trace)) (Moved (state_after m.root (step_before session.trace.steps n)) [])) new (moved_text number)
    moved_of n number is there same =
        let st : state_after m.root (step_before session.trace.steps n) ≡ state_at unpack (numbered_before root held.trace.steps n) = stood_before m unpack root shown held fits n in
        record {
          left = record { session = showing (with_trace session (placed n session.trace)) (state_after m.root (step_before session.trace.steps n) ∷ []); reply = Moved (state_after m.root (step_before session.trace.steps n)) [] };
          ends = refl;
          shown = shown ++ state_after m.root (step_before session.trace.steps n) ∷ [];
          session = ap (λ (h : Held). session_at unpack (shown ++ state_after m.root (step_before session.trace.steps n) ∷ []) h) (sym is);
          writes =
              ap (λ (k : ℕ). line (codes "state " ++ decimal k) ++ line (codes "ok")) (same ∙ sym there.place ∙ ap (place names) (sym st))
              ∙ ap (λ (t : List ℕ). t ++ line (codes "ok")) (sym (append-nil (line (codes "state " ++ decimal (place names (state_after m.root (step_before session.trace.steps n)))))));
          named = (subst (IsNamed names) (sym st) there.named, tt);
        }

    -- a session that settled stands at the plan of what came next
    pub settled_stands : (next : Next) → NextPlaced unpack names root held next → Settled root held m.face next new turn
        → StandsBy m unpack names shown (next_plan unpack m.root session next) new turn.at turn.need
    settled_stands (Goes stage) placed settled =
        subst (λ (a : At). StandsBy m unpack names shown (plan_at unpack m.root session stage) new a turn.need) (sym settled.2) (record {
          plan = ap (λ (h : Held). plan_at unpack m.root (session_at unpack shown h) stage) settled.0;
          placed = placed;
          asks = need_is stage turn.need settled.1;
        })
    settled_stands (Ends change reply) placed settled = replies _ _ settled.1 settled.2 (end_of change reply settled.0 placed.1)
    settled_stands (Refuses why) placed settled = replies _ _ settled.1 settled.2 (over_of (Refused why) _ settled.0 refl refl)
    settled_stands Blank placed settled = replies _ _ settled.1 settled.2 (over_of Silent _ settled.0 refl refl)
    settled_stands (Moves n number) placed settled = replies _ _ settled.1 settled.2 (moved_of n number settled.0 placed.0 placed.1)
    settled_stands Quits placed settled = quits _ _ settled.1 settled.2 (done_of settled.0)
