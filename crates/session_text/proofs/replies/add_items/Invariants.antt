use Rattle.std.proofs.Common.{◌≡◌, ◌++◌, drop, flat_map}
use Rattle.session_words.specs.Replies.{item_line}
use Rattle.session_text.proofs.replies.add_items.Given as goal

abbrev pub invariant-loop-item : goal.invariant-loop-item
invariant-loop-item l = l.out ++ flat_map (item_line l.face) (drop l.item-index l.items) ≡ l.fn.out ++ flat_map (item_line l.face) l.items
