-- What a clause says of a turn and its passes.
use Rattle.std.specs.Prelude.{◌≡◌, Some}
use Rattle.turn_lock.specs.declared.kept.Kept.{Ghosts}
use Rattle.turn_lock.specs.declared.turn.Pass.{Pass}
use Rattle.turn_lock.specs.declared.turn.Turn.{Turn}
use Rattle.turn_lock.specs.Passes.{Known}
use Rattle.turn_lock.specs.Views.{known_of}

module _ {Value Tag Entry : Type 0} where
  -- the tag that the value under the turn fits: that of the value which the turn was made with
  abbrev pub tag_of : (Value → Tag) → Turn Value Tag Entry → Tag
  tag_of tag turn = tag turn.table.shared.key.value

  module _ {g : Ghosts Value Tag Entry} where
    -- what the pass knows
    abbrev pub known : Pass Value Tag Entry g → Known Entry
    known pass = known_of pass.seat.me.0

    -- the pass is one of the turn's: `new` gave it, or it was split from one that is
    abbrev pub IsPassOf : Turn Value Tag Entry → Pass Value Tag Entry g → Type 0
    IsPassOf turn pass = (pass.seat.table_id ≡ turn.table.shared.table_id) × (pass.seat.me.0.tag ≡ Some (tag_of g.tag turn))
