-- What the table knows of a pass.
use Rattle.std.specs.Prelude.{ℕ, ◌+◌, ◌-◌, Bool, true, false, List, [], cond, ◌==◌, Option, None}
use Rattle.turn_lock.specs.declared.view.Stage.{Stage}
use Rattle.turn_lock.specs.declared.view.Stage.TheVariants.{Idle, Waiting, Holding}
use Rattle.turn_lock.specs.declared.view.View.{View}
use Rattle.turn_lock.specs.Histories.{longer_of}
use Rattle.turn_lock.specs.Passes.{Known}

-- 1 where the pass waits with this ticket
abbrev pub waits_with : ℕ → Stage → ℕ
waits_with ticket Idle = 0
waits_with ticket (Waiting t) = cond (t == ticket) 1 0
waits_with ticket (Holding t) = 0

-- 1 where the pass holds the value with this ticket
abbrev pub holds_with : ℕ → Stage → ℕ
holds_with ticket Idle = 0
holds_with ticket (Waiting t) = 0
holds_with ticket (Holding t) = cond (t == ticket) 1 0

-- 1 where the pass has a ticket
abbrev pub tickets_of : Stage → ℕ
tickets_of Idle = 0
tickets_of (Waiting t) = 1
tickets_of (Holding t) = 1

-- the pass holds the value
abbrev pub is_holding : Stage → Bool
is_holding Idle = false
is_holding (Waiting t) = false
is_holding (Holding t) = true

-- the pass has no ticket
abbrev pub is_idle : Stage → Bool
is_idle Idle = true
is_idle (Waiting t) = false
is_idle (Holding t) = false

module _ {Entry Tag : Type 0} where
  -- a view with nothing heard from another pass
  abbrev pub view_of : ℕ → ℕ → List Entry → Stage → Option Tag → View Entry Tag
  view_of shares own seen stage tag = record { shares = shares; own = own; seen = seen; stage = stage; tag = tag; heard = [] }

  -- what a caller is told of it
  abbrev pub known_of : View Entry Tag → Known Entry
  known_of view = record { shares = view.shares; own = view.own; seen = view.seen }

  -- of a pass that was joined away: no share, entry, history or ticket
  abbrev pub no_view : View Entry Tag
  no_view = view_of 0 0 [] Idle None

  -- one share less
  abbrev pub left_view : View Entry Tag → View Entry Tag
  left_view view = view_of (view.shares - 1) view.own view.seen view.stage view.tag

  -- of the pass that got the share
  abbrev pub split_view : View Entry Tag → View Entry Tag
  split_view view = view_of 1 0 view.seen Idle view.tag

  -- the shares and entries of both; what the other had seen is heard
  abbrev pub both_views : View Entry Tag → View Entry Tag → View Entry Tag
  both_views into other = record { shares = into.shares + other.shares; own = into.own + other.own; seen = into.seen; stage = into.stage; tag = into.tag; heard = other.seen }

  -- the longer of what was seen and heard is what was seen
  abbrev pub settled_view : View Entry Tag → View Entry Tag
  settled_view view = view_of view.shares view.own (longer_of view.seen view.heard) view.stage view.tag

  -- the same at another stage
  abbrev pub view_at : View Entry Tag → Stage → View Entry Tag
  view_at view stage = view_of view.shares view.own view.seen stage view.tag
