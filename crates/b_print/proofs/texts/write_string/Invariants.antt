use Rattle.std.proofs.Common.{◌≡◌, ◌++◌, ◌∷◌, [], drop, flat_map}
use Rattle.b_print.specs.Texts.{spelling_of}
use Rattle.b_print.proofs.texts.write_string.Given as goal

-- what is written, and what is left
abbrev pub invariant-loop-b : goal.invariant-loop-b
invariant-loop-b l = l.out.items ++ flat_map spelling_of (drop l.b-index l.bytes) ≡ l.fn.out.items ++ 34 ∷ flat_map spelling_of l.bytes
