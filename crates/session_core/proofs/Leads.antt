-- A command in progress leads to what the whole one gives: kept by its own true answers and by any growth of the list of states, up to its end.
use Rattle.std.proofs.Common.{◌≡◌, ◌∙◌, ◌<◌, sym, ap, subst, refl, ℕ, Bool, true, false, List, [], ◌∷◌, ◌++◌, length, length-append, arith}
use Rattle.std.specs.List.{AllByRecursion}
use Rattle.b_values.specs.declared.types.Face.{Face}
use Rattle.b_values.specs.declared.values.State.{State}
use Rattle.engine_face.specs.Meaning.{Meaning}
use Rattle.engine_face.specs.Packing.{Unpacking}
use Rattle.engine_face.specs.declared.answers.Step.{Step}
use Rattle.session_words.specs.Replies.{reply_text, states_in}
use Rattle.session_words.specs.ReplyLaws.{NumberAlike, text_same}
use Rattle.session_words.specs.declared.replies.Numbered.{Numbered}
use Rattle.session_words.specs.declared.replies.Reply.{Reply}
use Rattle.animator.specs.Names.{place, IsNamed}
use Rattle.animator.specs.Sessions.{Session}
use Rattle.animator.specs.Plans.{Plan, World, Answered, run}
use Rattle.animator.specs.Following.{fed, Tells, run_fed}
use Rattle.animator.proofs.Places.{place-append}
use Rattle.session_core.specs.declared.core_of.At.{At}
use Rattle.session_core.specs.declared.core_of.At.TheVariants.{Idle, Asking, Replying, Quitting, Marked}
use Rattle.session_core.specs.declared.held.KeptTrace.{KeptTrace}
use Rattle.session_core.specs.declared.held.Held.{Held}
use Rattle.session_core.specs.declared.stages.Change.{Change}
use Rattle.session_core.specs.declared.stages.Change.TheVariants.{Add, Put, Keep}
use Rattle.session_core.specs.declared.stages.Opening.{Opening}
use Rattle.session_core.specs.declared.stages.Opening.TheVariants as opening
use Rattle.session_core.specs.declared.stages.Stage.{Stage}
use Rattle.session_core.specs.declared.stages.Stage.TheVariants.{Telling}
use Rattle.session_core.specs.declared.stages.Need.{Need}
use Rattle.session_core.specs.declared.stages.Need.TheVariants as needs
use Rattle.session_core.specs.declared.stages.Answer.{Answer}
use Rattle.session_core.specs.Leading.{Leads}
use Rattle.session_core.specs.Told.{state_at, session_at, plan_at}
use Rattle.session_core.specs.Standing.{IsPlaced, StepsPlaced, HeldPlaced, ChangePlaced, OpeningPlaced, StagePlaced, IsEnd, EndsBy, QuitsBy, StandsBy, told_answer}

-- ---- a true answer

-- what an answer leads to when it is the world's
pub leads_fed : (w : World) (m : Meaning) (unpack : Unpacking) (names shown : List State) (whole : Plan) (old new : Held) (stage : Stage) (answer : Answer) (at : At) (need wanted : Need)
    → Leads w m unpack names shown whole old (Asking stage) need
    → Tells w (plan_at unpack m.root (session_at unpack shown old) stage) (told_answer unpack answer)
    → StandsBy m unpack names shown (fed (plan_at unpack m.root (session_at unpack shown old) stage) (told_answer unpack answer)) new at wanted × HeldPlaced unpack names new
    → Leads w m unpack names shown whole new at wanted
leads_fed w m unpack names shown whole old new stage answer at need wanted leads told stands = record {
  left = fed (plan_at unpack m.root (session_at unpack shown old) stage) (told_answer unpack answer);
  stands = stands.0;
  placed = stands.1;
  same = run_fed w (plan_at unpack m.root (session_at unpack shown old) stage) (told_answer unpack answer) told ∙ ap (run w) leads.stands.plan ∙ leads.same;
}

-- ---- the end

-- a reply ends the command: trace, kept traces and subscriptions are those of the whole command, and so is the text
pub leads_ends : (w : World) (m : Meaning) (unpack : Unpacking) (names : List State) (whole left : Plan) (held : Held) (text : List ℕ)
    → (end : IsEnd m unpack names left held text) → run w left ≡ run w whole
    → ((run w whole).session ≡ session_at unpack end.shown held) × (text ≡ reply_text m.face (place names) (run w whole).reply)
leads_ends w m unpack names whole left held text end same =
    let is : end.left ≡ run w whole = sym (ap (run w) end.ends) ∙ same in
    (ap (λ (a : Answered). a.session) (sym is) ∙ end.session, end.writes ∙ ap (λ (a : Answered). reply_text m.face (place names) a.reply) is)

-- ---- more names

module _ (m : Meaning) (unpack : Unpacking) (names more : List State) where
  named_more : (s : State) → IsNamed names s → IsNamed (names ++ more) s
  named_more s named = subst (λ (n : ℕ). n < length (names ++ more)) (sym (place-append names more s named)) (omega (arith, length-append names more, named))

  pub placed_more : (d : Numbered) → IsPlaced unpack names d → IsPlaced unpack (names ++ more) d
  placed_more d placed = record { named = named_more (state_at unpack d) placed.named; place = place-append names more (state_at unpack d) placed.named ∙ placed.place }

  steps_more : (steps : List (Step Numbered)) → StepsPlaced unpack names steps → StepsPlaced unpack (names ++ more) steps
  steps_more [] all = tt
  steps_more (step ∷ steps) all = (placed_more step.dest all.0, steps_more steps all.1)

  kept_more : (kept : List KeptTrace) → AllByRecursion (λ (one : KeptTrace). StepsPlaced unpack names one.trace.steps) kept → AllByRecursion (λ (one : KeptTrace). StepsPlaced unpack (names ++ more) one.trace.steps) kept
  kept_more [] all = tt
  kept_more (one ∷ others) all = (steps_more one.trace.steps all.0, kept_more others all.1)

  pub held_more : (held : Held) → HeldPlaced unpack names held → HeldPlaced unpack (names ++ more) held
  held_more held placed = record { trace = steps_more held.trace.steps placed.trace; kept = kept_more held.kept placed.kept }

  change_more : (change : Change) → ChangePlaced unpack names change → ChangePlaced unpack (names ++ more) change
  change_more (Add step) p = placed_more step.dest p
  change_more (Put trace) p = steps_more trace.steps p
  change_more (Keep kept) p = steps_more kept.trace.steps p
  change_more _ p = tt

  opening_more : (o : Opening) → OpeningPlaced unpack names o → OpeningPlaced unpack (names ++ more) o
  opening_more (opening.Added step) p = placed_more step.dest p
  opening_more (opening.Moved state) p = placed_more state p

  stage_more : (stage : Stage) → StagePlaced unpack names stage → StagePlaced unpack (names ++ more) stage
  stage_more (Telling arrival told) p = (change_more arrival.change p.0, opening_more arrival.opening p.1)
  stage_more _ p = tt

  alike_more : (states : List State) → AllByRecursion (IsNamed names) states → NumberAlike m.face (place names) (place (names ++ more)) states
  alike_more [] all = tt
  alike_more (s ∷ states) all = (sym (place-append names more s all.0), alike_more states all.1)

  all_named : (states : List State) → AllByRecursion (IsNamed names) states → AllByRecursion (IsNamed (names ++ more)) states
  all_named [] all = tt
  all_named (s ∷ states) all = (named_more s all.0, all_named states all.1)

  end_more : (p : Plan) (held : Held) (text : List ℕ) → IsEnd m unpack names p held text → IsEnd m unpack (names ++ more) p held text
  end_more p held text end = record {
    left = end.left;
    ends = end.ends;
    shown = end.shown;
    session = end.session;
    writes = end.writes ∙ text_same m.face (place names) (place (names ++ more)) end.left.reply (alike_more (states_in end.left.reply) end.named);
    named = all_named (states_in end.left.reply) end.named;
  }

  ends_more : (p : Plan) (held : Held) (need : Need) → EndsBy m unpack names p held need → EndsBy m unpack (names ++ more) p held need
  ends_more p held (needs.Reply text) end = end_more p held text end
  ends_more p held _ end = absurd end

  quits_more : (p : Plan) (held : Held) (need : Need) → QuitsBy m unpack names p held need → QuitsBy m unpack (names ++ more) p held need
  quits_more p held (needs.Quit text) end = end_more p held text end
  quits_more p held _ end = absurd end

  pub stands_more : (shown : List State) (p : Plan) (held : Held) (at : At) (need : Need) → StandsBy m unpack names shown p held at need → StandsBy m unpack (names ++ more) shown p held at need
  stands_more shown p held (Asking stage) need stands = record { plan = stands.plan; placed = stage_more stage stands.placed; asks = stands.asks }
  stands_more shown p held Replying need stands = ends_more p held need stands
  stands_more shown p held Quitting need stands = quits_more p held need stands
  stands_more shown p held Idle need stands = absurd stands
  stands_more shown p held Marked need stands = absurd stands

  -- another session names states
  pub leads_grown : (w : World) (shown : List State) (whole : Plan) (held : Held) (at : At) (need : Need) → Leads w m unpack names shown whole held at need → Leads w m unpack (names ++ more) shown whole held at need
  leads_grown w shown whole held at need leads = record {
    left = leads.left;
    stands = stands_more shown leads.left held at need leads.stands;
    placed = held_more held leads.placed;
    same = leads.same;
  }
