use Rattle.std.proofs.Common.{◌≡◌, ◌++◌, ◌+◌, ◌*◌, map, sum, take, drop}
use Rattle.std.specs.List.{AllByRecursion}
use Rattle.b_values.specs.Values.{node_count}
use Rattle.engine_face.specs.Words.{WordsFit}
use Rattle.pack_state.specs.Bytes.{values_bytes}
use Rattle.pack_state.specs.Packable.{IsShort}
use Rattle.pack_state.proofs.packing.+put.Given as goal

abbrev pub invariant-put_values-loop-x : goal.invariant-put_values-loop-x
invariant-put_values-loop-x l = record {
  short : AllByRecursion IsShort (drop l.x-index l.xs);
  bytes : l.out.items ++ values_bytes (drop l.x-index l.xs) ≡ l.fn.out.items ++ values_bytes l.xs;
  words : AllByRecursion WordsFit (take l.x-index l.xs);
}

abbrev pub decreases-put_value : goal.decreases-put_value
decreases-put_value l = 3 * node_count l.v.now

abbrev pub decreases-put_values : goal.decreases-put_values
decreases-put_values l = 3 * sum (map node_count l.xs.now) + 1

abbrev pub decreases-put_set : goal.decreases-put_set
decreases-put_set l = 3 * sum (map node_count l.xs.now) + 2
