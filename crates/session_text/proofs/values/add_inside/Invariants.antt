use Rattle.std.proofs.Common.{◌≡◌, ◌++◌, drop, flat_map}
use Rattle.b_values.specs.Texts.{spelling_of}
use Rattle.session_text.proofs.values.add_inside.Given as goal

abbrev pub invariant-loop-b : goal.invariant-loop-b
invariant-loop-b l = l.out ++ flat_map spelling_of (drop l.b-index l.bytes) ≡ l.fn.out ++ flat_map spelling_of l.bytes
