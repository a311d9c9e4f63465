use Rattle.std.proofs.Common.{◌≡◌, ◌+◌, ◌*◌, ◌++◌, map, sum, drop}
use Rattle.std.specs.List.{list_all}
use Rattle.b_expand.specs.Places.{node_total, nodes_of_link, nodes_of_after}
use Rattle.b_use_forms.specs.Forms as spec
use Rattle.b_use_forms.specs.Standing.{reading_in, behind_in, side_in}
use Rattle.b_use_forms.proofs.walk.+walk.Given as goal

-- what is left decides
abbrev pub invariant-walk_all-loop-tree : goal.invariant-walk_all-loop-tree
invariant-walk_all-loop-tree l = spec.all_forms l.wanted (map (reading_in l.text) (drop l.tree-index l.trees)) ≡ spec.all_forms l.wanted (map (reading_in l.text) l.trees)

abbrev pub invariant-walk_links-loop-link : goal.invariant-walk_links-loop-link
invariant-walk_links-loop-link l = list_all spec.side_fits (map (side_in l.text) (drop l.link-index l.links)) ≡ list_all spec.side_fits (map (side_in l.text) l.links)

abbrev pub invariant-walk_forms-loop-form : goal.invariant-walk_forms-loop-form
invariant-walk_forms-loop-form l = list_all (λ b. b.right) (map (behind_in l.text) (drop l.form-index l.forms)) ≡ list_all (λ b. b.right) (map (behind_in l.text) l.forms)

-- what is found, and then the rest
abbrev pub invariant-walk_operands-loop-link : goal.invariant-walk_operands-loop-link
invariant-walk_operands-loop-link l = l.forms ++ map (λ k. k.operand) (map (side_in l.text) (drop l.link-index l.links)) ≡ l.fn.found ++ map (λ k. k.operand) (map (side_in l.text) l.links)

-- the nodes that are left
abbrev pub decreases-walk : goal.decreases-walk
decreases-walk l = 8 * node_total l.tree.now + 1

abbrev pub decreases-walk_as : goal.decreases-walk_as
decreases-walk_as l = 8 * node_total l.tree.now + 2

abbrev pub decreases-walk_all : goal.decreases-walk_all
decreases-walk_all l = 8 * sum (map node_total l.trees.now) + 3

abbrev pub decreases-walk_bound : goal.decreases-walk_bound
decreases-walk_bound l = 8 * node_total l.tree.now + 3

abbrev pub decreases-walk_collected : goal.decreases-walk_collected
decreases-walk_collected l = 8 * (node_total l.test.now + node_total l.tree.now) + 3

abbrev pub decreases-walk_if : goal.decreases-walk_if
decreases-walk_if l = 8 * (node_total l.test.now + (node_total l.tree.now + node_total l.other.now)) + 3

abbrev pub decreases-walk_chain : goal.decreases-walk_chain
decreases-walk_chain l = 8 * (node_total l.first.now + sum (map nodes_of_link l.links.now)) + 5

abbrev pub decreases-walk_links : goal.decreases-walk_links
decreases-walk_links l = 8 * sum (map nodes_of_link l.links.now) + 4

abbrev pub decreases-walk_link : goal.decreases-walk_link
decreases-walk_link l = 8 * nodes_of_link l.link.now + 3

abbrev pub decreases-walk_forms : goal.decreases-walk_forms
decreases-walk_forms l = 8 * sum (map nodes_of_after l.forms.now) + 4

abbrev pub decreases-walk_form : goal.decreases-walk_form
decreases-walk_form l = 8 * nodes_of_after l.form.now + 3

abbrev pub decreases-walk_row : goal.decreases-walk_row
decreases-walk_row l = 8 * (node_total l.head.now + sum (map nodes_of_after l.forms.now)) + 8

abbrev pub decreases-walk_called : goal.decreases-walk_called
decreases-walk_called l = 8 * (node_total l.head.now + sum (map nodes_of_after l.forms.now)) + 7

abbrev pub decreases-walk_rest : goal.decreases-walk_rest
decreases-walk_rest l = 8 * sum (map nodes_of_after l.forms.now) + 6

abbrev pub decreases-walk_after : goal.decreases-walk_after
decreases-walk_after l = 8 * sum (map nodes_of_after l.forms.now) + 5

abbrev pub decreases-walk_arguments : goal.decreases-walk_arguments
decreases-walk_arguments l = 8 * node_total l.tree.now + 4

abbrev pub decreases-walk_several : goal.decreases-walk_several
decreases-walk_several l = 8 * (node_total l.first.now + sum (map nodes_of_link l.links.now)) + 5

abbrev pub decreases-walk_operands : goal.decreases-walk_operands
decreases-walk_operands l = 8 * sum (map nodes_of_link l.links.now) + 4

abbrev pub decreases-walk_operand : goal.decreases-walk_operand
decreases-walk_operand l = 8 * nodes_of_link l.link.now + 3
