-- What stands between the steps of one hold.
use Rattle.std.specs.Prelude.{◌≡◌, ℕ, ◌+◌, ◌%◌, ◌^◌, ◌<◌, List, [], ◌∷◌, length}
use Rattle.std.specs.Borrow.{MutBor}
use Rattle.std.specs.Fn.{Once, FnOnceReturnsAtMut}
use Rattle.turn_lock.specs.declared.view.Stage.TheVariants.{Waiting, Holding}
use Rattle.turn_lock.specs.Histories.{Begins}
use Rattle.turn_lock.specs.Views.{view_of}
use Rattle.turn_lock.specs.Steps.{Seated}

module _ {Value Entry Tag : Type 0} where
  -- the pass waits with a ticket, whose number this is, and holds nothing
  abbrev pub IsWaiting : Seated Value Entry Tag → ℕ → Type 0
  IsWaiting seated number = (ticket : ℕ) × (number ≡ ticket % 2 ^ 64) × (seated.0.stage ≡ Waiting ticket) × (seated.1 ≡ [])

  -- the pass holds this value, and nothing else
  abbrev pub IsHolding : Seated Value Entry Tag → Value → Type 0
  IsHolding seated value = ((ticket : ℕ) × (seated.0.stage ≡ Holding ticket)) × (seated.1 ≡ (0, value) ∷ [])

  -- the turn came: the pass holds a value that fits, whose history it has now seen, and which begins with what it had seen
  pub record Came (fits : Tag → Value → Type 0) (history_of : Value → List Entry) (tag : Tag) (before after : Seated Value Entry Tag) : Type 0 where
    pub value : Value
    pub ticket : ℕ
    pub view_is : after.0 ≡ view_of before.0.shares before.0.own (history_of value) (Holding ticket) before.0.tag
    pub held : after.1 ≡ (0, value) ∷ []
    pub fitted : fits tag value
    pub begins : Begins before.0.seen (history_of value)

-- the job ran on the one value and left the other, whose history has as many entries more
pub record Worked {Value Entry Answer Job : Type 0} (history_of : Value → List Entry) (call : Once Job (MutBor Value × Unit {0}) (Answer × (MutBor Value × Unit {0})))
    (job : Job) (lent left : Value) (answer : Answer) (added : ℕ) : Type 0 where
  pub ran : FnOnceReturnsAtMut call job lent answer left
  pub count : added + length (history_of lent) ≡ length (history_of left)
  pub counted : length (history_of left) < 2 ^ 64
