-- What a pass knows.
use Rattle.std.specs.Prelude.{ℕ, ◌+◌, ◌-◌, List, []}
use Rattle.turn_lock.specs.Histories.{longer_of}

-- the number of shares that a turn has, 2^32
abbrev pub all_shares : ℕ
all_shares = 4294967296

-- what a pass knows: its shares of the turn, the number of entries that were added under it, and the history that it has seen
pub record Known (Entry : Type 0) : Type 0 where
  pub shares : ℕ
  pub own : ℕ
  pub seen : List Entry

module _ {Entry : Type 0} where
  -- of a turn's first pass: it has all shares, and the history is empty
  abbrev pub first_known : Known Entry
  first_known = record { shares = all_shares; own = 0; seen = [] }

  -- of a pass from which another was split: one share less
  abbrev pub left_known : Known Entry → Known Entry
  left_known known = record { shares = known.shares - 1; own = known.own; seen = known.seen }

  -- of the pass that was split from it: one share, no entry of its own, and as much seen
  abbrev pub split_known : Known Entry → Known Entry
  split_known known = record { shares = 1; own = 0; seen = known.seen }

  -- of two passes that became one: the shares and the own entries of both, and the longer history
  abbrev pub joined_known : Known Entry → Known Entry → Known Entry
  joined_known into other = record { shares = into.shares + other.shares; own = into.own + other.own; seen = longer_of into.seen other.seen }
