use Rattle.std.proofs.Common.{◌≡◌, ◌++◌, map, drop, cond}
use Rattle.b_values.specs.Texts.{text_of, commas, comma_each}
use Rattle.session_text.proofs.values.+write.Given as goal

abbrev pub invariant-add_values-loop-x : goal.invariant-add_values-loop-x
invariant-add_values-loop-x l =
    l.out ++ cond l.is_first (commas (map (text_of l.sets) (drop l.x-index l.xs))) (comma_each (map (text_of l.sets) (drop l.x-index l.xs))) ≡ l.fn.out ++ commas (map (text_of l.sets) l.xs)
