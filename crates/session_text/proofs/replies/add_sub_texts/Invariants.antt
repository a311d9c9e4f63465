use Rattle.std.proofs.Common.{◌≡◌, ◌++◌, drop, flat_map}
use Rattle.session_words.specs.Replies.{sub_text}
use Rattle.session_text.proofs.replies.add_sub_texts.Given as goal

abbrev pub invariant-loop-sub : goal.invariant-loop-sub
invariant-loop-sub l = l.out ++ flat_map sub_text (drop l.sub-index l.subs) ≡ l.fn.out ++ flat_map sub_text l.subs
