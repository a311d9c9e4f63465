use Rattle.std.proofs.Common.{◌≡◌, ◌++◌, map, length}
use Rattle.std.specs.Vec.Iter.{into_iter_items, into_iter_len}
use Rattle.turn_lock.specs.Passes.{first_known}
use Rattle.turn_list.specs.Lists.{ArePassesOf, all_known, all_tags, CanBeOpened}
use Rattle.turn_list.proofs.open_all.Given as goal

abbrev pub invariant-loop-value : goal.invariant-loop-value
invariant-loop-value g l = record {
  length_is : into_iter_len l.value-iterator ≡ length (into_iter_items l.value-iterator);
  rest : CanBeOpened g.V.Kept.tag g.V.Kept.fits g.V.Kept.history (into_iter_items l.value-iterator);
  turns : ArePassesOf l.turns.items l.passes.items;
  tags : all_tags g.V.Kept.tag l.turns.items ++ map g.V.Kept.tag (into_iter_items l.value-iterator) ≡ map g.V.Kept.tag (into_iter_items l.initial.value-iterator);
  passes : all_known l.passes.items ++ map (λ _. first_known) (into_iter_items l.value-iterator) ≡ map (λ _. first_known) (into_iter_items l.initial.value-iterator);
}
