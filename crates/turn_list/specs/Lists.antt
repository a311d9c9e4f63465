-- What a clause says of a list of turns and a list of passes.
use Rattle.std.specs.Prelude.{◌≡◌, ◌+◌, ◌≤◌, ℕ, List, [], ◌∷◌, map, All, slice_get, Some}
use Rattle.std.specs.List.{AllZip}
use Rattle.turn_lock.specs.declared.kept.Kept.{Ghosts}
use Rattle.turn_lock.specs.declared.turn.Pass.{Pass}
use Rattle.turn_lock.specs.declared.turn.Turn.{Turn}
use Rattle.turn_lock.specs.Histories.{Begins, longer_of}
use Rattle.turn_lock.specs.Passes.{Known, joined_known, all_shares}
use Rattle.turn_lock.specs.Turns.{known, tag_of, IsPassOf}

-- each value fits its tag, and its history is empty
abbrev pub CanBeOpened : {Value Tag Entry : Type 0} → (Value → Tag) → (Tag → Value → Type 0) → (Value → List Entry) → List Value → Type 0
CanBeOpened tag fits history_of values = All (λ value. fits (tag value) value × (history_of value ≡ [])) values

module _ {Value Tag Entry : Type 0} where
  -- the tag of each turn
  abbrev pub all_tags : (Value → Tag) → List (Turn Value Tag Entry) → List Tag
  all_tags tag turns = map (tag_of tag) turns

  module _ {g : Ghosts Value Tag Entry} where
    -- there are as many passes as turns, and each pass is one of the turn at its place
    abbrev pub ArePassesOf : List (Turn Value Tag Entry) → List (Pass Value Tag Entry g) → Type 0
    ArePassesOf turns passes = AllZip IsPassOf turns passes

    -- what each pass knows
    abbrev pub all_known : List (Pass Value Tag Entry g) → List (Known Entry)
    all_known passes = map known passes

-- what passes know to which others were joined, each to the one at its place
abbrev pub joined_all : {Entry : Type 0} → List (Known Entry) → List (Known Entry) → List (Known Entry)
joined_all [] others = []
joined_all (known ∷ into) [] = known ∷ into
joined_all (known ∷ into) (other ∷ others) = joined_known known other ∷ joined_all into others

-- two passes of one turn: both have seen beginnings of one history, the longer of theirs, and they have no more shares than the turn
pub record AreOfOneTurn {Entry : Type 0} (known other : Known Entry) : Type 0 where
  pub begins : Begins known.seen (longer_of known.seen other.seen)
  pub other_begins : Begins other.seen (longer_of known.seen other.seen)
  pub within_all : known.shares + other.shares ≤ all_shares

-- so it is of the two at each place
abbrev pub AreOfOneTurnEach : {Entry : Type 0} → List (Known Entry) → List (Known Entry) → Type 0
AreOfOneTurnEach {Entry} into others = (place : ℕ) (known other : Known Entry) → slice_get into place ≡ Some known → slice_get others place ≡ Some other → AreOfOneTurn known other
