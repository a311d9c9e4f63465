-- What each step tells: of the step, the seat before, the number found and the seat after.
use Rattle.std.specs.Prelude.{◌≡◌, ◌≢◌, ℕ, ◌+◌, ◌%◌, ◌^◌, ◌≤◌, List, [], ◌∷◌, length, Some}
use Rattle.atomic_table.specs.Table.{Me, Step}
use Rattle.turn_lock.specs.declared.view.Stage.TheVariants.{Idle, Waiting, Holding}
use Rattle.turn_lock.specs.declared.view.View.{View}
use Rattle.turn_lock.specs.Histories.{Begins}
use Rattle.turn_lock.specs.Passes.{all_shares}
use Rattle.turn_lock.specs.Views.{view_of, view_at, settled_view}

-- a pass's view, and the value that it holds with its slot
abbrev pub Seated : Type 0 → Type 0 → Type 0 → Type 0
Seated Value Entry Tag = Me Value (View Entry Tag)

module _ {Value Entry Tag : Type 0} where
  -- draw a ticket: the pass waits with a ticket, which is the number found
  abbrev pub DrawsTicket : Step Value → Seated Value Entry Tag → ℕ → Seated Value Entry Tag → Type 0
  DrawsTicket step before found after = (ticket : ℕ) × (found ≡ ticket % 2 ^ 64) × (after ≡ (view_at before.0 (Waiting ticket), before.1))

  -- take the value out: it fits each tag that the pass knows, and its history, which begins with what the pass had seen, is now seen
  abbrev pub TakesValue : (Tag → Value → Type 0) → (Value → List Entry) → ℕ → Seated Value Entry Tag → Seated Value Entry Tag → Type 0
  TakesValue fits history_of ticket before after = (value : Value) × (after ≡ (view_of before.0.shares before.0.own (history_of value) (Holding ticket) before.0.tag, (0, value) ∷ before.1))
      × ((tag : Tag) → before.0.tag ≡ Some tag → fits tag value) × Begins before.0.seen (history_of value)

  -- read the ticket that is served: where it is the pass's own, the value is taken out, else all is as before
  abbrev pub ReadsServing : (Tag → Value → Type 0) → (Value → List Entry) → Step Value → Seated Value Entry Tag → ℕ → Seated Value Entry Tag → Type 0
  ReadsServing fits history_of step before found after = (ticket : ℕ) → before.0.stage ≡ Waiting ticket
      → (found ≡ ticket % 2 ^ 64 → TakesValue fits history_of ticket before after) × (found ≢ ticket % 2 ^ 64 → after ≡ before)

  -- add entries: the pass has seen the history of the value that it holds, and counts the added entries as its own, which are then no more than the history has
  abbrev pub AddsEntries : (Value → List Entry) → Step Value → Seated Value Entry Tag → ℕ → Seated Value Entry Tag → Type 0
  AddsEntries history_of step before found after = (value : Value) → before.1 ≡ (0, value) ∷ []
      → (after ≡ (view_of before.0.shares (before.0.own + step.first) (history_of value) before.0.stage before.0.tag, before.1)) × (before.0.own + step.first ≤ length (history_of value))

  -- put the value back and pass the turn: the pass has no ticket
  abbrev pub PassesTurn : Step Value → Seated Value Entry Tag → ℕ → Seated Value Entry Tag → Type 0
  PassesTurn step before found after = after ≡ (view_at before.0 Idle, [])

  -- read the length: the pass settles on the longer of two histories, which both begin; it has no more entries than the history, and no more shares than the turn
  abbrev pub ReadsLength : Step Value → Seated Value Entry Tag → ℕ → Seated Value Entry Tag → Type 0
  ReadsLength step before found after = (after ≡ (settled_view before.0, before.1)) × (before.0.own ≤ found) × (before.0.shares ≤ all_shares)
      × Begins before.0.seen after.0.seen × Begins before.0.heard after.0.seen
