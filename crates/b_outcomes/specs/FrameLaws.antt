-- Frames are totally ordered, and only equal frames tie.
use Rattle.std.proofs.Common.{◌≡◌, refl, ap, Option, Some, None, List}
use Rattle.std.specs.Cmp.{IsTotalOrder}
use Rattle.std.specs.Cmp.Lexicographic.{lists_total, options_total}
use Rattle.std.specs.FinSet.{IsAntisymmetric, slice_cmp-IsAntisymmetric}
use Rattle.std.proofs.lemmas.Cmp.{on_total}
use Rattle.b_values.specs.OrderLaws.{value_total, value_same}
use Rattle.b_outcomes.specs.Frames.{Slot, slot_cmp, frame_cmp}
use Rattle.b_outcomes.specs.declared.frames.Frame.{Frame}

pub frame_total : IsTotalOrder frame_cmp
frame_total = on_total (λ (f : Frame). f.slots) (lists_total (options_total value_total))

slot_same : IsAntisymmetric slot_cmp
slot_same None None e = refl
slot_same None (Some y) e = absurd (cc)
slot_same (Some x) None e = absurd (cc)
slot_same (Some x) (Some y) e = ap Some (value_same x y e)

pub frame_same : IsAntisymmetric frame_cmp
frame_same a b e = ap (λ (xs : List Slot). record { slots = xs }) (slice_cmp-IsAntisymmetric slot_same a.slots b.slots e)
