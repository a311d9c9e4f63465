use Rattle.std.proofs.Common.{◌≡◌, ◌++◌, map, drop, Bool, cond}
use Rattle.b_values.specs.Texts.{text_of, commas, comma_each}
use Rattle.b_values.proofs.texts.+write.Given as goal

abbrev pub invariant-write_all-loop-x : goal.invariant-write_all-loop-x
invariant-write_all-loop-x l =
    l.out.items ++ cond l.is_first (commas (map (text_of l.sets) (drop l.x-index l.xs))) (comma_each (map (text_of l.sets) (drop l.x-index l.xs))) ≡ l.fn.out.items ++ commas (map (text_of l.sets) l.xs)
