use Rattle.std.proofs.Common.{◌≡◌, ◌+◌, ◌*◌, take}
use Rattle.std.specs.Prelude.{option_map}
use Rattle.b_expand.specs.Standing.{insert_at, called_in, trees_in, links_in, forms_in, steps_in, steps_of_all, steps_of_link, steps_of_links, steps_of_form, steps_of_forms, steps_of_use, steps_of_body, steps_of_call, params_in, means_in, argument_steps_in}
use Rattle.b_expand.specs.Filling.{named_steps}
use Rattle.b_expand.proofs.expander.+fill.Given as goal

-- those so far
abbrev pub invariant-fill_all-loop-tree : goal.invariant-fill_all-loop-tree
invariant-fill_all-loop-tree l = l.filled ≡ trees_in l.text (take l.tree-index l.trees)

abbrev pub invariant-fill_links-loop-link : goal.invariant-fill_links-loop-link
invariant-fill_links-loop-link l = l.filled ≡ links_in l.text (take l.link-index l.links)

abbrev pub invariant-fill_forms-loop-form : goal.invariant-fill_forms-loop-form
invariant-fill_forms-loop-form l = l.filled ≡ forms_in l.text (take l.form-index l.forms)

-- the steps that are left
abbrev pub decreases-fill : goal.decreases-fill
decreases-fill l = 8 * steps_in l.text.now l.tree.now + 1

abbrev pub decreases-fill_part : goal.decreases-fill_part
decreases-fill_part l = 8 * steps_in l.text.now l.tree.now + 2

abbrev pub decreases-fill_all : goal.decreases-fill_all
decreases-fill_all l = 8 * steps_of_all l.text.now l.trees.now + 2

abbrev pub decreases-fill_links : goal.decreases-fill_links
decreases-fill_links l = 8 * steps_of_links l.text.now l.links.now + 3

abbrev pub decreases-fill_link : goal.decreases-fill_link
decreases-fill_link l = 8 * steps_of_link l.text.now l.link.now + 2

abbrev pub decreases-fill_forms : goal.decreases-fill_forms
decreases-fill_forms l = 8 * steps_of_forms l.text.now l.forms.now + 3

abbrev pub decreases-fill_form : goal.decreases-fill_form
decreases-fill_form l = 8 * steps_of_form l.text.now l.form.now + 2

abbrev pub decreases-fill_name : goal.decreases-fill_name
decreases-fill_name l = 8 * named_steps (means_in l.text.now l.name.now) l.name.now (params_in l.text.now) (argument_steps_in l.text.now)

abbrev pub decreases-fill_row : goal.decreases-fill_row
decreases-fill_row l = 8 * (steps_in l.text.now l.head.now + (steps_of_forms l.text.now l.forms.now + steps_of_call l.text.now (called_in l.text.now l.head.now) l.forms.now)) + 7

abbrev pub decreases-fill_called : goal.decreases-fill_called
decreases-fill_called l = 8 * (steps_in l.text.now l.head.now + (steps_of_forms l.text.now l.forms.now + steps_of_call l.text.now (option_map (λ m. (l.depth, m)) (insert_at l.text.now l.i)) l.forms.now)) + 6

abbrev pub decreases-fill_plain_row : goal.decreases-fill_plain_row
decreases-fill_plain_row l = 8 * (steps_in l.text.now l.head.now + steps_of_forms l.text.now l.forms.now) + 5

abbrev pub decreases-fill_use : goal.decreases-fill_use
decreases-fill_use l = 8 * steps_of_use l.text.now l.i l.arguments + 4

abbrev pub decreases-fill_body : goal.decreases-fill_body
decreases-fill_body l = 8 * steps_of_body l.text.now l.body.now + 2
