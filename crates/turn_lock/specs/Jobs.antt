-- What a job under a turn may do, and what a hold says of it.
use Rattle.std.specs.Prelude.{◌≡◌, ◌+◌, List, length}
use Rattle.std.specs.Borrow.{MutBor}
use Rattle.std.specs.Fn.{Once, FnOnceTakesAtMut, FnOnceReturnsAtMut}
use Rattle.turn_lock.specs.Histories.{Begins, GrowsByOne}
use Rattle.turn_lock.specs.Passes.{Known}

module _ {Value Entry Answer Job : Type 0} (fits : Value → Type 0) (history_of : Value → List Entry) (call : Once Job (MutBor Value × Unit {0}) (Answer × (MutBor Value × Unit {0}))) where
  -- the job may be called on this value, and leaves one that fits, whose history is the same or one entry longer
  pub record KeepsOn (job : Job) (lent : Value) : Type 0 where
    pub takes : FnOnceTakesAtMut call job lent
    pub leaves : (answer : Answer) (left : Value) → FnOnceReturnsAtMut call job lent answer left → fits left × GrowsByOne (history_of lent) (history_of left)

  -- so it does on every value that fits, and whose history begins with what was seen
  abbrev pub Keeps : List Entry → Job → Type 0
  Keeps seen job = (lent : Value) → fits lent → Begins seen (history_of lent) → KeepsOn job lent

  -- the job ran once, on such a value, and gave the answer; what the pass knew before, and what it knows afterwards
  pub record Ran (job : Job) (answer : Answer) (before after : Known Entry) : Type 0 where
    pub lent : Value
    pub left : Value
    pub lent_fits : fits lent
    pub lent_begins : Begins before.seen (history_of lent)
    pub answers : FnOnceReturnsAtMut call job lent answer left
    pub left_fits : fits left
    pub left_grows : GrowsByOne (history_of lent) (history_of left)
    pub sees : after.seen ≡ history_of left
    pub counts : after.own + length (history_of lent) ≡ before.own + length (history_of left)
    pub same_shares : after.shares ≡ before.shares
