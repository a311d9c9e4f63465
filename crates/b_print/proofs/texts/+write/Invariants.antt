use Rattle.std.proofs.Common.{◌≡◌, ◌++◌, map, drop, Bool, cond}
use Rattle.b_print.specs.Texts.{text_at, link_text, after_text, links, afters, commas, comma_each}
use Rattle.b_print.proofs.texts.+write.Given as goal

-- what is written, and what is left
abbrev pub invariant-write_all-loop-tree : goal.invariant-write_all-loop-tree
invariant-write_all-loop-tree l =
    l.out.items ++ cond l.is_first (commas (map text_at (drop l.tree-index l.trees))) (comma_each (map text_at (drop l.tree-index l.trees))) ≡ l.fn.out.items ++ commas (map text_at l.trees)

abbrev pub invariant-write_links-loop-link : goal.invariant-write_links-loop-link
invariant-write_links-loop-link l = l.out.items ++ links (map link_text (drop l.link-index l.links)) ≡ l.fn.out.items ++ links (map link_text l.links)

abbrev pub invariant-write_forms-loop-form : goal.invariant-write_forms-loop-form
invariant-write_forms-loop-form l = l.out.items ++ afters (map after_text (drop l.form-index l.forms)) ≡ l.fn.out.items ++ afters (map after_text l.forms)
