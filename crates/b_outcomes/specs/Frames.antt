-- Frames: the results and then the variables, each with its value or still without one.
use Rattle.std.specs.Prelude.{ℕ, ◌+◌, ◌-◌, List, [], ◌∷◌, ◌++◌, map, length, take, drop, Option, Some, None, slice_set, slice_index_or, Bool, false}
use Rattle.std.specs.Cmp.Lexicographic.{slice_cmp}
use Rattle.std.specs.List.{flat_map, AllByRecursion}
use Rattle.std.specs.Option.{option_cmp}
use Rattle.std.specs.Ordering.{is_eq}
use Rattle.std.specs.declared.cmp.Ordering.{Ordering}
use Rattle.ascending.specs.Ascending.{set_of}
use Rattle.b_places.specs.Scopes.{Slots}
use Rattle.b_values.specs.Values.{value_cmp, IsKept}
use Rattle.b_values.specs.declared.values.Value.{Value}
use Rattle.b_values.specs.declared.values.Value.TheVariants.{Truth}
use Rattle.b_outcomes.specs.declared.frames.Frame.{Frame}

-- a name's value, if it has one
abbrev pub Slot : Type 0
Slot = Option Value

-- a name without a value stands before every value
abbrev pub slot_cmp : Slot → Slot → Ordering
slot_cmp = option_cmp value_cmp

-- frames in dictionary order
abbrev pub frame_cmp : Frame → Frame → Ordering
frame_cmp a b = slice_cmp slot_cmp a.slots b.slots

abbrev pub same_frame : Frame → Frame → Bool
same_frame a b = is_eq (frame_cmp a b)

-- the frames in order, each once
abbrev pub in_order : List Frame → List Frame
in_order fs = set_of frame_cmp fs

-- what is read of a name: what a name without a value has is read by no machine that was checked
abbrev pub read : Slot → Value
read None = Truth false
read (Some v) = v

abbrev pub reads : Frame → List Value
reads f = map read f.slots

-- the values that a frame has may be kept
abbrev pub IsKeptFrame : Frame → Type 0
IsKeptFrame f = AllByRecursion IsKept (reads f)

-- ---- what is written: a target is a slot of the scope, in which so many constants come first

-- the frame with one name's value, or without one
abbrev pub put : ℕ → Slot → Frame → Frame
put at s f = record { slots = slice_set f.slots at s }

-- the frame with a value for each target
abbrev pub written : ℕ → List ℕ → List Value → Frame → Frame
written first (t ∷ ts) (v ∷ vs) f = written first ts vs (put (t - first) (Some v) f)
written first [] vs f = f
written first (t ∷ ts) [] f = f

-- x with what y has at the targets
abbrev pub joined : ℕ → List ℕ → Frame → Frame → Frame
joined first [] x y = x
joined first (t ∷ ts) x y = joined first ts (put (t - first) (slice_index_or y.slots (t - first) None) x) y

-- each of xs joined with each of ys
abbrev pub joins : ℕ → List ℕ → List Frame → List Frame → List Frame
joins first ts xs ys = flat_map (λ x. map (λ y. joined first ts x y) ys) xs

-- the slots of a middle state: those in scope, with the frame's values in the place of the earlier ones
abbrev pub middle : ℕ → Frame → Slots → Slots
middle first f env = (take first env ++ reads f) ++ drop (first + length f.slots) env
