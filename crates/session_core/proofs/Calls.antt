-- What a call leaves: where the session stands, and that it belongs to its machine.
use Rattle.std.proofs.Common.{◌≡◌, ◌∙◌, ◌≤◌, sym, ap, subst, refl, ℕ, suc, Bool, true, false, List, [], ◌∷◌, length, map, Option, Some, None, arith}
use Rattle.std.specs.List.{AllByRecursion}
use Rattle.std.proofs.lemmas.List.{length-map}
use Rattle.b_values.specs.declared.values.State.{State}
use Rattle.engine_face.specs.Meaning.{Meaning, KeysHaveTexts}
use Rattle.engine_face.specs.Packing.{Unpacking, IsOneSpelling, state_of, plain_lists}
use Rattle.engine_face.specs.declared.answers.Step.{Step}
use Rattle.session_words.specs.Replies.{dests}
use Rattle.session_words.specs.declared.replies.Numbered.{Numbered}
use Rattle.session_words.specs.declared.replies.Reply.{Reply}
use Rattle.session_words.specs.declared.replies.Reply.TheVariants as reply
use Rattle.animator.specs.Sessions.{Session}
use Rattle.animator.specs.Plans.{Plan}
use Rattle.animator.specs.Following.{fed}
use Rattle.animator.specs.Commands.{ended, show_each, steps_in}
use Rattle.session_core.specs.declared.core_of.At.{At}
use Rattle.session_core.specs.declared.core_of.At.TheVariants.{Idle, Asking, Replying, Quitting, Marked}
use Rattle.session_core.specs.declared.core_of.Turn.{Turn}
use Rattle.session_core.specs.declared.held.Held.{Held}
use Rattle.session_core.specs.declared.stages.Change.TheVariants.{Go}
use Rattle.session_core.specs.declared.stages.Stage.{Stage}
use Rattle.session_core.specs.declared.stages.Stage.TheVariants.{Listing, Taking, NamingLists, NamingStep, Evaluating, Checking, Subscribing, Finding, Telling}
use Rattle.session_core.specs.declared.stages.Next.{Next}
use Rattle.session_core.specs.declared.stages.Next.TheVariants.{Goes, Ends, Refuses, Silent, Moves, Quits}
use Rattle.session_core.specs.declared.stages.Need.{Need}
use Rattle.session_core.specs.declared.stages.Need.TheVariants as needs
use Rattle.session_core.specs.declared.stages.Answer.{Answer}
use Rattle.session_core.specs.declared.stages.Answer.TheVariants as given
use Rattle.session_core.specs.Moving.{packed_steps, line_next, line_built, taken_on, changed_held}
use Rattle.session_core.specs.Settling.{Settled, is_marked}
use Rattle.session_core.specs.Told.{session_at, plan_at, next_plan}
use Rattle.session_core.specs.Fitting.{RootFits, HeldFits, StageFits, NextFits, AtFits, AnswerFits, CoreFits, IsAskableNeed}
use Rattle.session_core.specs.Placing.{NextPlaced}
use Rattle.session_core.specs.Standing.{IsPlaced, HeldPlaced, StagePlaced, AnswerPlaced, StandsBy, Turns, GoesOn, IsAnswer, line_plan, told_answer}
use Rattle.session_core.proofs.Starts.{line_started}
use Rattle.session_core.proofs.Feeds.{fed_plan, HasNumbers}
use Rattle.session_core.proofs.Ends.{settled_stands}
use Rattle.session_core.proofs.Places.{line_placed, fed_placed, changed_placed}
use Rattle.session_core.proofs.Fits.{line_fits, fed_fits, changed_fits, need_fits, current_packed}
use Rattle.session_core.proofs.Numbering.{dests_plain}

module _ (m : Meaning) (unpack : Unpacking) (root : Numbered) (old : Held) (once : IsOneSpelling unpack) (texts : KeysHaveTexts m) (root_fits : RootFits m unpack root) (fits : HeldFits m unpack old)
    (new : Held) (turn : Turn) where
  pub unmarked : (next : Next) → Settled root old m.face next new turn → is_marked turn.at ≡ false
  unmarked (Goes stage) settled = ap is_marked settled.2
  unmarked (Ends change reply) settled = ap is_marked settled.1
  unmarked (Refuses why) settled = ap is_marked settled.1
  unmarked Silent settled = ap is_marked settled.1
  unmarked (Moves n number) settled = ap is_marked settled.1
  unmarked Quits settled = ap is_marked settled.1

  turns_by : (at : At) (Ready : List State → List State → Type 0) (plan : List State → Plan) → is_marked at ≡ false
      → ((names shown : List State) → IsPlaced unpack names root → HeldPlaced unpack names old → Ready names shown → StandsBy m unpack names shown (plan shown) new at turn.need × HeldPlaced unpack names new)
      → Turns m unpack root old Ready plan new at turn.need
  turns_by Marked Ready plan is stands = cc
  turns_by Idle Ready plan is stands = stands
  turns_by (Asking stage) Ready plan is stands = stands
  turns_by Replying Ready plan is stands = stands
  turns_by Quitting Ready plan is stands = stands

  held_placed : (names : List State) (next : Next) → IsPlaced unpack names root → HeldPlaced unpack names old → NextPlaced unpack names root old next → Settled root old m.face next new turn → HeldPlaced unpack names new
  held_placed names (Goes stage) at_root placed next settled = subst (HeldPlaced unpack names) (sym settled.0) placed
  held_placed names (Ends change reply) at_root placed next settled = subst (HeldPlaced unpack names) (sym settled.0) (changed_placed unpack names root old at_root placed change next.0)
  held_placed names (Refuses why) at_root placed next settled = subst (HeldPlaced unpack names) (sym settled.0) placed
  held_placed names Silent at_root placed next settled = subst (HeldPlaced unpack names) (sym settled.0) placed
  held_placed names (Moves n number) at_root placed next settled = subst (HeldPlaced unpack names) (sym settled.0) (changed_placed unpack names root old at_root placed (Go n) tt)
  held_placed names Quits at_root placed next settled = subst (HeldPlaced unpack names) (sym settled.0) placed

  -- a session that settled at what is the plan's turns to the plan
  turned : (next : Next) (Ready : List State → List State → Type 0) (plan : List State → Plan) → Settled root old m.face next new turn
      → ((shown : List State) → next_plan unpack m.root (session_at unpack shown old) next ≡ plan shown)
      → ((names shown : List State) → IsPlaced unpack names root → HeldPlaced unpack names old → Ready names shown → NextPlaced unpack names root old next)
      → Turns m unpack root old Ready plan new turn.at turn.need
  turned next Ready plan settled is placed =
      turns_by turn.at Ready plan (unmarked next settled) (λ names shown at_root all ready.
      let p = placed names shown at_root all ready in (
        subst (λ (q : Plan). StandsBy m unpack names shown q new turn.at turn.need) (is shown) (settled_stands m unpack root shown old root_fits names new turn next p settled),
        held_placed names next at_root all p settled,
      ))

  pub held_fits : (next : Next) → NextFits m unpack next → Settled root old m.face next new turn → HeldFits m unpack new
  held_fits (Goes stage) p settled = subst (HeldFits m unpack) (sym settled.0) fits
  held_fits (Ends change reply) p settled = subst (HeldFits m unpack) (sym settled.0) (changed_fits m unpack root old texts root_fits fits change p)
  held_fits (Refuses why) p settled = subst (HeldFits m unpack) (sym settled.0) fits
  held_fits Silent p settled = subst (HeldFits m unpack) (sym settled.0) fits
  held_fits (Moves n number) p settled = subst (HeldFits m unpack) (sym settled.0) (changed_fits m unpack root old texts root_fits fits (Go n) tt)
  held_fits Quits p settled = subst (HeldFits m unpack) (sym settled.0) fits

  pub at_fits : (next : Next) → NextFits m unpack next → Settled root old m.face next new turn → AtFits m unpack turn.at
  at_fits (Goes stage) p settled = subst (AtFits m unpack) (sym settled.2) p
  at_fits (Ends change reply) p settled = subst (AtFits m unpack) (sym settled.1) tt
  at_fits (Refuses why) p settled = subst (AtFits m unpack) (sym settled.1) tt
  at_fits Silent p settled = subst (AtFits m unpack) (sym settled.1) tt
  at_fits (Moves n number) p settled = subst (AtFits m unpack) (sym settled.1) tt
  at_fits Quits p settled = subst (AtFits m unpack) (sym settled.1) tt

  pub need_asks : (next : Next) → NextFits m unpack next → Settled root old m.face next new turn → IsAskableNeed m unpack turn.need
  need_asks (Goes stage) p settled = need_fits m unpack root old texts root_fits fits stage turn.need p settled.1
  need_asks (Ends change reply) p settled = subst (IsAskableNeed m unpack) (sym settled.2) tt
  need_asks (Refuses why) p settled = subst (IsAskableNeed m unpack) (sym settled.2) tt
  need_asks Silent p settled = subst (IsAskableNeed m unpack) (sym settled.2) tt
  need_asks (Moves n number) p settled = subst (IsAskableNeed m unpack) (sym settled.2) tt
  need_asks Quits p settled = subst (IsAskableNeed m unpack) (sym settled.2) tt

  fitted : (next : Next) → NextFits m unpack next → Settled root old m.face next new turn → CoreFits m unpack (record { root = root; held = new; at = turn.at })
  fitted next p settled = record { root = root_fits; held = held_fits next p settled; at = at_fits next p settled }

  -- ---- a line

  pub begun : (line : List ℕ) → line_built line ≡ true → Settled root old m.face (line_next m unpack root old line) new turn
      → Turns m unpack root old (λ names shown. Unit {0}) (λ shown. line_plan m (session_at unpack shown old) line) new turn.at turn.need
  begun line built settled =
      turned (line_next m unpack root old line) (λ names shown. Unit {0}) (λ shown. line_plan m (session_at unpack shown old) line) settled
      (λ shown. line_started m unpack root shown old root_fits once (current_packed m unpack root old texts root_fits fits old.trace fits.trace) line built)
      (λ names shown at_root placed ready. line_placed unpack names root old at_root placed m line)

  pub line_fitted : (line : List ℕ) → NextFits m unpack (line_next m unpack root old line)
  line_fitted line = line_fits m unpack root old texts root_fits fits line

  pub line_core : (line : List ℕ) → Settled root old m.face (line_next m unpack root old line) new turn → CoreFits m unpack (record { root = root; held = new; at = turn.at })
  line_core line settled = fitted (line_next m unpack root old line) (line_fitted line) settled

  pub line_asks : (line : List ℕ) → Settled root old m.face (line_next m unpack root old line) new turn → IsAskableNeed m unpack turn.need
  line_asks line settled = need_asks (line_next m unpack root old line) (line_fitted line) settled

  pub line_unmarked : (line : List ℕ) → Settled root old m.face (line_next m unpack root old line) new turn → is_marked turn.at ≡ false
  line_unmarked line settled = unmarked (line_next m unpack root old line) settled

  -- ---- an answer

  count_by : (states : List State) (s : Session) (r : Reply State) (numbers : List ℕ) → IsAnswer (show_each states (ended s r)) (given.Names numbers) → length states ≤ length numbers
  count_by [] s r numbers is = absurd is
  count_by (state ∷ states) s r numbers is = omega (arith, is)

  dests_count : (steps : List (Step (List ℕ))) → length (map (state_of unpack) (dests steps)) ≡ length steps
  dests_count [] = refl
  dests_count (step ∷ steps) = ap suc (dests_count steps)

  counted : (shown : List State) (stage : Stage) (a : Answer) → IsAnswer (plan_at unpack m.root (session_at unpack shown old) stage) a → HasNumbers m unpack root shown old root_fits stage a
  counted shown (NamingLists lists) (given.Names numbers) is =
      let few : length (dests (steps_in (plain_lists unpack lists))) ≤ length numbers = count_by (dests (steps_in (plain_lists unpack lists))) (session_at unpack shown old) (reply.Lists (plain_lists unpack lists)) numbers is in
      let same : length (dests (steps_in (plain_lists unpack lists))) ≡ length (packed_steps lists.lists) = ap length (dests_plain unpack lists) ∙ dests_count (packed_steps lists.lists) in
      omega (arith, few, same)
  counted shown _ _ is = tt

  pub went_on : (stage : Stage) (a : Answer) (next : Next) → old.trace.position ≤ length old.trace.steps
      → (shown : List State) × IsAnswer (plan_at unpack m.root (session_at unpack shown old) stage) a → taken_on old stage a ≡ Some next → Settled root old m.face next new turn
      → GoesOn m unpack root old stage a new turn.at turn.need
  went_on stage a next within asked is settled =
      turned next
      (λ names shown. StagePlaced unpack names stage × AnswerPlaced unpack names (plan_at unpack m.root (session_at unpack shown old) stage) a)
      (λ shown. fed (plan_at unpack m.root (session_at unpack shown old) stage) (told_answer unpack a)) settled
      (λ shown. fed_plan m unpack root shown old root_fits stage a next within (counted asked.0 stage a asked.1) is)
      (λ names shown at_root placed ready. fed_placed unpack names root old at_root placed m shown stage a next ready.0 ready.1 is)

  pub fed_fitted : (stage : Stage) (a : Answer) (next : Next) → StageFits m unpack stage → AnswerFits m unpack a → taken_on old stage a ≡ Some next → NextFits m unpack next
  fed_fitted stage a next p q is = fed_fits m unpack root old texts root_fits fits stage a next p q is

  pub fed_core : (stage : Stage) (a : Answer) (next : Next) → StageFits m unpack stage → AnswerFits m unpack a → taken_on old stage a ≡ Some next → Settled root old m.face next new turn
      → CoreFits m unpack (record { root = root; held = new; at = turn.at })
  fed_core stage a next p q is settled = fitted next (fed_fitted stage a next p q is) settled

  pub fed_asks : (stage : Stage) (a : Answer) (next : Next) → StageFits m unpack stage → AnswerFits m unpack a → taken_on old stage a ≡ Some next → Settled root old m.face next new turn
      → IsAskableNeed m unpack turn.need
  fed_asks stage a next p q is settled = need_asks next (fed_fitted stage a next p q is) settled

-- a session that memory refused belongs to its machine as before
pub marked_core : (m : Meaning) (unpack : Unpacking) (root : Numbered) (old new : Held) → RootFits m unpack root → HeldFits m unpack old → new ≡ old → CoreFits m unpack (record { root = root; held = new; at = Marked })
marked_core m unpack root old new root_fits fits same = record { root = root_fits; held = subst (HeldFits m unpack) (sym same) fits; at = tt }
