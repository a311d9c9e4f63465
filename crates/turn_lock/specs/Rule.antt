-- The rule of a turn, in four parts. Word 0 is the next ticket, word 1 the ticket that is served, word 2 the history's length; one slot has the value.
use Rattle.std.specs.Prelude.{◌≡◌, ◌≢◌, ℕ, ◌+◌, ◌%◌, ◌^◌, ◌<◌, ◌⊎◌, true, List, [], ◌∷◌, length, slice_index, cond, ◌&&◌, nat_lt, nat_le, Some}
use mathlib.Core.Option.{Option, some}
use lib.ListN.{get_elem?}
use Rattle.atomic_table.specs.Table.{State}
use Rattle.turn_lock.specs.declared.view.View.{View}
use Rattle.turn_lock.specs.Histories.{Begins}
use Rattle.turn_lock.specs.Passes.{all_shares}
use Rattle.turn_lock.specs.Views.{waits_with, holds_with, tickets_of, is_holding, no_view}

-- the weights of the elements, added up
abbrev pub total : {A : Type 0} → (A → ℕ) → List A → ℕ
total weight [] = 0
total weight (x ∷ xs) = weight x + total weight xs

-- 1 for each of the numbers from first on, count of them
abbrev pub within : ℕ → ℕ → ℕ → ℕ
within first count number = cond (nat_le first number && nat_lt number (first + count)) 1 0

module _ {Entry Tag : Type 0} where
  -- The shares of all passes are those of the turn. A pass without a share was joined away, and each other knows the tag.
  pub record HasAllShares (tag : Tag) (views : List (View Entry Tag)) : Type 0 where
    pub whole : total (λ view. view.shares) views ≡ all_shares
    pub each : (id : ℕ) (view : View Entry Tag) → get_elem? views id ≡ some view → (view ≡ no_view) ⊎ ((0 < view.shares) × (view.tag ≡ Some tag))

  -- The passes with a ticket have the numbers from first on, count of them, each one of them. The words have numbers modulo 2^64. Only the first can hold the value.
  pub record HasTicketsInOrder (words : List ℕ) (views : List (View Entry Tag)) : Type 0 where
    pub first : ℕ
    pub count : ℕ
    pub next_is : slice_index words 0 ≡ (first + count) % 2 ^ 64
    pub served_is : slice_index words 1 ≡ first % 2 ^ 64
    pub queue : (ticket : ℕ) → total (λ view. waits_with ticket view.stage) views + total (λ view. holds_with ticket view.stage) views ≡ within first count ticket
    pub counted : total (λ view. tickets_of view.stage) views ≡ count
    pub only_first : (ticket : ℕ) → ticket ≢ first → total (λ view. holds_with ticket view.stage) views ≡ 0

  -- There is one history. It begins with what each pass has seen or heard, and who holds the value has seen it all. Where nobody holds the value, it is at home, fits, and keeps the history.
  pub record HasOneHistory {Value : Type 0} (fits : Value → Type 0) (history_of : Value → List Entry) (words : List ℕ) (homes : List (Option Value)) (views : List (View Entry Tag)) : Type 0 where
    pub history : List Entry
    pub length_is : slice_index words 2 ≡ length history
    pub seen : (id : ℕ) (view : View Entry Tag) → get_elem? views id ≡ some view → Begins view.seen history
    pub heard : (id : ℕ) (view : View Entry Tag) → get_elem? views id ≡ some view → Begins view.heard history
    pub held : (id : ℕ) (view : View Entry Tag) → get_elem? views id ≡ some view → is_holding view.stage ≡ true → view.seen ≡ history
    pub home : ((id : ℕ) (view : View Entry Tag) → get_elem? views id ≡ some view → is_holding view.stage ≢ true)
        → (value : Value) × (get_elem? homes 0 ≡ some (some value)) × fits value × (history_of value ≡ history)

  -- Each entry was counted by one pass, once.
  pub record HasEntriesCounted (words : List ℕ) (views : List (View Entry Tag)) : Type 0 where
    pub sum : total (λ view. view.own) views ≡ slice_index words 2

  -- the rule
  pub record IsRuled {Value : Type 0} (fits : Tag → Value → Type 0) (history_of : Value → List Entry) (tag : Tag) (state : State Value (View Entry Tag)) : Type 0 where
    pub three_words : length state.words ≡ 3
    pub shares : HasAllShares tag state.views
    pub tickets : HasTicketsInOrder state.words state.views
    pub history : HasOneHistory (fits tag) history_of state.words state.homes state.views
    pub entries : HasEntriesCounted state.words state.views
