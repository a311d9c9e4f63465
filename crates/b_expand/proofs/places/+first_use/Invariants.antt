use Rattle.std.proofs.Common.{◌≡◌, map, drop}
use Rattle.b_expand.specs.Using as spec
use Rattle.b_expand.proofs.places.+first_use.Given as goal

-- what is left decides
abbrev pub invariant-first_use_of-loop-tree : goal.invariant-first_use_of-loop-tree
invariant-first_use_of-loop-tree l = spec.first_of (map (spec.first_use l.index) (drop l.tree-index l.trees)) ≡ spec.first_of (map (spec.first_use l.index) l.trees)

abbrev pub invariant-first_use_of_links-loop-link : goal.invariant-first_use_of_links-loop-link
invariant-first_use_of_links-loop-link l = spec.first_of (map (spec.first_use_of_link l.index) (drop l.link-index l.links)) ≡ spec.first_of (map (spec.first_use_of_link l.index) l.links)

abbrev pub invariant-first_use_of_forms-loop-form : goal.invariant-first_use_of_forms-loop-form
invariant-first_use_of_forms-loop-form l = spec.first_of (map (spec.first_use_of_form l.index) (drop l.form-index l.forms)) ≡ spec.first_of (map (spec.first_use_of_form l.index) l.forms)
