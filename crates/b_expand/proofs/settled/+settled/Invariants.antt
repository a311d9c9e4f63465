use Rattle.std.proofs.Common.{◌≡◌, map, drop}
use Rattle.b_expand.specs.Settled as spec
use Rattle.b_expand.proofs.settled.+settled.Given as goal

-- what is left decides
abbrev pub invariant-are_settled-loop-tree : goal.invariant-are_settled-loop-tree
invariant-are_settled-loop-tree l = spec.all_true (map (spec.is_settled l.index) (drop l.tree-index l.trees)) ≡ spec.all_true (map (spec.is_settled l.index) l.trees)

abbrev pub invariant-are_links_settled-loop-link : goal.invariant-are_links_settled-loop-link
invariant-are_links_settled-loop-link l = spec.all_true (map (spec.is_settled_link l.index) (drop l.link-index l.links)) ≡ spec.all_true (map (spec.is_settled_link l.index) l.links)

abbrev pub invariant-are_forms_settled-loop-form : goal.invariant-are_forms_settled-loop-form
invariant-are_forms_settled-loop-form l = spec.all_true (map (spec.is_settled_form l.index) (drop l.form-index l.forms)) ≡ spec.all_true (map (spec.is_settled_form l.index) l.forms)
