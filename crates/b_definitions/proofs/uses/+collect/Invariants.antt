use Rattle.std.proofs.Common.{◌≡◌, ◌++◌, map, drop}
use Rattle.b_definitions.specs.Uses.{joined, used_in, used_in_link, used_in_form}
use Rattle.b_definitions.proofs.uses.+collect.Given as goal

-- those so far, and then the rest
abbrev pub invariant-collect_all-loop-tree : goal.invariant-collect_all-loop-tree
invariant-collect_all-loop-tree l = l.all ++ joined (map (used_in l.body.table.now l.body.params.now) (drop l.tree-index l.trees)) ≡ l.fn.found ++ joined (map (used_in l.body.table.now l.body.params.now) l.trees)

abbrev pub invariant-collect_links-loop-link : goal.invariant-collect_links-loop-link
invariant-collect_links-loop-link l = l.all ++ joined (map (used_in_link l.body.table.now l.body.params.now) (drop l.link-index l.links)) ≡ l.fn.found ++ joined (map (used_in_link l.body.table.now l.body.params.now) l.links)

abbrev pub invariant-collect_forms-loop-form : goal.invariant-collect_forms-loop-form
invariant-collect_forms-loop-form l = l.all ++ joined (map (used_in_form l.body.table.now l.body.params.now) (drop l.form-index l.forms)) ≡ l.fn.found ++ joined (map (used_in_form l.body.table.now l.body.params.now) l.forms)
