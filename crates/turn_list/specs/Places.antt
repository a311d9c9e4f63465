-- A job under one turn of a list.
use Rattle.std.specs.Prelude.{◌≡◌, ℕ, List, slice_get, slice_set, Some}
use Rattle.std.specs.Borrow.{MutBor}
use Rattle.std.specs.Fn.{Once}
use Rattle.turn_lock.specs.declared.turn.Turn.{Turn}
use Rattle.turn_lock.specs.Histories.{Begins}
use Rattle.turn_lock.specs.Passes.{Known}
use Rattle.turn_lock.specs.Jobs.{Keeps, Ran}
use Rattle.turn_lock.specs.Turns.{tag_of}

module _ {Value Tag Entry Answer Job : Type 0} (tag : Value → Tag) (fits : Tag → Value → Type 0) (history_of : Value → List Entry)
    (call : Once Job (MutBor Value × Unit {0}) (Answer × (MutBor Value × Unit {0}))) (turns : List (Turn Value Tag Entry)) where
  -- the job may run under the turn at this place, whose pass knows what stands at this place
  abbrev pub KeepsAt : List (Known Entry) → ℕ → Job → Type 0
  KeepsAt before place job = (turn : Turn Value Tag Entry) (known : Known Entry) → slice_get turns place ≡ Some turn → slice_get before place ≡ Some known
      → Keeps (fits (tag_of tag turn)) history_of call known.seen job

  -- the job ran under the turn at this place, with its pass, and every other pass is as before
  pub record RanAt (before after : List (Known Entry)) (place : ℕ) (job : Job) (answer : Answer) : Type 0 where
    pub turn : Turn Value Tag Entry
    pub knew : Known Entry
    pub knows : Known Entry
    pub turn_is : slice_get turns place ≡ Some turn
    pub knew_is : slice_get before place ≡ Some knew
    pub ran : Ran (fits (tag_of tag turn)) history_of call job answer knew knows
    pub begins : Begins knew.seen knows.seen
    pub only : after ≡ slice_set before place knows
