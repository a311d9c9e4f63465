use Rattle.std.proofs.Common.{◌≡◌, map, drop}
use Rattle.b_ast.specs.Sorts as spec
use Rattle.b_ast.proofs.sorts.+sort.Given as goal

-- what is left decides
abbrev pub invariant-links_fit-loop-link : goal.invariant-links_fit-loop-link
invariant-links_fit-loop-link l = spec.links_fit (map spec.link_of (drop l.link-index l.links)) ≡ spec.links_fit (map spec.link_of l.links)

abbrev pub invariant-forms_fit-loop-form : goal.invariant-forms_fit-loop-form
invariant-forms_fit-loop-form l = spec.all_true (map spec.after_of (drop l.form-index l.forms)) ≡ spec.all_true (map spec.after_of l.forms)

abbrev pub invariant-all_fit-loop-tree : goal.invariant-all_fit-loop-tree
invariant-all_fit-loop-tree l = spec.all_fit l.wanted (map spec.sort_of (drop l.tree-index l.trees)) ≡ spec.all_fit l.wanted (map spec.sort_of l.trees)
