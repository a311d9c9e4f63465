use Rattle.std.proofs.Common.{◌≡◌, ◌++◌, drop, flat_map}
use Rattle.session_words.specs.Replies.{sub_line}
use Rattle.session_text.proofs.replies.add_subs.Given as goal

abbrev pub invariant-loop-sub : goal.invariant-loop-sub
invariant-loop-sub l = l.out ++ flat_map (sub_line l.face) (drop l.sub-index l.subs) ≡ l.fn.out ++ flat_map (sub_line l.face) l.subs
