use Rattle.std.proofs.Common.{◌≡◌, ◌≤◌, ◌+◌, ◌*◌, ◌^◌, ◌++◌, drop}
use Rattle.session_words.specs.Replies.{list_lines}
use Rattle.session_text.specs.Writing.{its_number}
use Rattle.session_text.proofs.replies.add_lists.Given as goal

-- the lines that are left stand behind those that are written; each list has fewer than 2^63 steps
abbrev pub invariant-loop-list : goal.invariant-loop-list
invariant-loop-list l = record {
  text : l.out ++ list_lines l.face its_number l.k (drop l.list-index l.lists) ≡ l.fn.out ++ list_lines l.face its_number 1 l.lists;
  bounded : l.k ≤ 1 + 2 ^ 63 * l.list-index;
}
