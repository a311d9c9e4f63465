-- What a session holds belongs to the engine's machine: packed states are its states, keys are accepted.
use Rattle.std.specs.Prelude.{◌≡◌, ℕ, List, [], ◌∷◌, length, Some}
use Rattle.std.specs.List.{AllByRecursion}
use Rattle.engine_face.specs.Answers.{HoldsResult}
use Rattle.engine_face.specs.Meaning.{Meaning, IsAccepted, IsAskable, IsPredicateOf}
use Rattle.engine_face.specs.Packing.{Unpacking, IsPacked}
use Rattle.engine_face.specs.Typing.{IsOpOf}
use Rattle.engine_face.specs.declared.answers.Step.{Step}
use Rattle.engine_face.specs.declared.answers.Found.{Found}
use Rattle.engine_face.specs.declared.answers.Found.TheVariants as found
use Rattle.engine_face.specs.declared.keys.Scope.TheVariants as scope
use Rattle.session_words.specs.Replies.{dests}
use Rattle.session_words.specs.declared.replies.Numbered.{Numbered}
use Rattle.session_core.specs.declared.core_of.At.{At}
use Rattle.session_core.specs.declared.core_of.At.TheVariants.{Asking}
use Rattle.session_core.specs.declared.core_of.SessionCore.{SessionCore}
use Rattle.session_core.specs.declared.held.KeptTrace.{KeptTrace}
use Rattle.session_core.specs.declared.held.Held.{Held}
use Rattle.session_core.specs.declared.stages.Change.{Change}
use Rattle.session_core.specs.declared.stages.Change.TheVariants.{Add, Put, Subscribe, Keep}
use Rattle.session_core.specs.declared.stages.Stage.{Stage}
use Rattle.session_core.specs.declared.stages.Stage.TheVariants.{NamingLists, NamingStep, Evaluating, Subscribing, Finding, Telling}
use Rattle.session_core.specs.declared.stages.Next.{Next}
use Rattle.session_core.specs.declared.stages.Next.TheVariants.{Goes, Ends}
use Rattle.session_core.specs.declared.stages.Need.{Need}
use Rattle.session_core.specs.declared.stages.Need.TheVariants as needs
use Rattle.session_core.specs.declared.stages.Answer.{Answer}
use Rattle.session_core.specs.declared.stages.Answer.TheVariants as given
use Rattle.session_core.specs.Moving.{packed_steps}

module _ (m : Meaning) (unpack : Unpacking) where
  -- the root is packed from the state before the first step
  abbrev pub RootFits : Numbered → Type 0
  RootFits root = unpack root.state ≡ Some m.root

  abbrev pub StepsFit : List (Step Numbered) → Type 0
  StepsFit = AllByRecursion (λ step. IsPacked unpack step.dest.state)

  pub record HeldFits (held : Held) : Type 0 where
    pub trace : StepsFit held.trace.steps
    pub kept : AllByRecursion (λ (one : KeptTrace). StepsFit one.trace.steps) held.kept
    pub subs : AllByRecursion (λ sub. IsAccepted m scope.State sub.key) held.subs.list

  abbrev pub ChangeFits : Change → Type 0
  ChangeFits (Add step) = IsPacked unpack step.dest.state
  ChangeFits (Put trace) = StepsFit trace.steps
  ChangeFits (Subscribe key) = IsAccepted m scope.State key
  ChangeFits (Keep kept) = StepsFit kept.trace.steps
  ChangeFits _ = Unit {0}

  abbrev pub StageFits : Stage → Type 0
  StageFits (NamingLists lists) = AllByRecursion (IsPacked unpack) (dests (packed_steps lists.lists))
  StageFits (NamingStep step) = IsPacked unpack step.dest
  StageFits (Evaluating key) = IsAccepted m scope.State key
  StageFits (Subscribing key) = IsAccepted m scope.State key
  StageFits (Finding op preds) = IsOpOf m.face op × AllByRecursion (IsPredicateOf m op) preds
  StageFits (Telling arrival told) = IsPacked unpack arrival.at.state × ChangeFits arrival.change
  StageFits _ = Unit {0}

  abbrev pub AtFits : At → Type 0
  AtFits (Asking stage) = StageFits stage
  AtFits _ = Unit {0}

  -- a session of this machine
  pub record CoreFits (core : SessionCore) : Type 0 where
    pub root : RootFits core.root
    pub held : HeldFits core.held
    pub at : AtFits core.at

  abbrev pub NextFits : Next → Type 0
  NextFits (Goes stage) = StageFits stage
  NextFits (Ends change reply) = ChangeFits change
  NextFits _ = Unit {0}

  abbrev pub FoundFits : Found (List ℕ) → Type 0
  FoundFits (found.Step step) = IsPacked unpack step.dest
  FoundFits _ = Unit {0}

  -- the states of an answer are the machine's
  abbrev pub AnswerFits : Answer → Type 0
  AnswerFits (given.Steps lists) = AllByRecursion (IsPacked unpack) (dests (packed_steps lists.lists))
  AnswerFits (given.Find found) = FoundFits found
  AnswerFits _ = Unit {0}

  -- the question may be put to the engine
  abbrev pub IsAskableNeed : Need → Type 0
  IsAskableNeed (needs.Steps at) = IsPacked unpack at
  IsAskableNeed (needs.Value at key) = IsPacked unpack at × IsAskable m key
  IsAskableNeed (needs.Names states) = AllByRecursion (IsPacked unpack) states
  IsAskableNeed (needs.Find at op preds) = IsPacked unpack at × IsOpOf m.face op × AllByRecursion (IsPredicateOf m op) preds
  IsAskableNeed _ = Unit {0}
