use Rattle.std.proofs.Common.{◌≡◌, ℕ, ◌≤◌, List, map, Option, Some, get_or, sym, ap, subst, ◌∙◌, arith}
use Rattle.std.specs.Prelude.{IfOk}
use Rattle.b_expand.specs.Places.{raised_place, raised, moved}
use Rattle.b_expand.specs.Expansion.{tree_of}
use Rattle.b_expand.specs.Filling.{Part, Filling, Form, Side, named, argument_steps, insert_of}
use Rattle.b_expand.specs.Standing.{frames_of, frames_from, insert_at, means_in, params_in, argument_steps_in, scope_of, filling_in, form_in, side_in, parts_in, body_of, round_in, tree_in, raise, raise_link, raise_form, used_in, steps_in, steps_of_all, steps_of_link, steps_of_links, steps_of_form, steps_of_forms, steps_of_use, means_at, params_at, steps_at}
use Rattle.b_expand.proofs.Indexing.{insert_unknown}
use Rattle.b_expand.proofs.Texts.{called_row, plain_row, raised_named, named_use, ok_along, next_part, part_of_total, link_of_total, form_of_total, use_steps, use_tree}
use Rattle.b_expand.proofs.expander.+fill.Goals as goal

-- ---- lists

pub fill_all-fill-requires : goal.fill_all-fill-requires
fill_all-fill-requires t c =
    let k : steps_in c.args.text.now (get_or c.args.trees.now c.loop-tree.tree-index c.tree-item.result) ≤ steps_of_all c.args.text.now c.args.trees.now =
    part_of_total (means_in c.args.text.now) (params_in c.args.text.now) (argument_steps_in c.args.text.now) c.args.trees.now c.loop-tree.tree-index c.tree-item.result c.loop-tree-test.true in
    let e : steps_in c.args.text.now c.tree-item.result ≡ steps_in c.args.text.now (get_or c.args.trees.now c.loop-tree.tree-index c.tree-item.result) = ap (steps_in c.args.text.now) c.tree-item.is in
    (omega arith, c.requires)

pub fill_all-loop-tree-preserved : goal.fill_all-loop-tree-preserved
fill_all-loop-tree-preserved t c =
    next_part (raise c.args.text.now) (λ (r : Filling). r.part.tree (scope_of c.args.text.now)) (filling_in c.args.text.now) c.args.trees.now c.loop-tree.tree-index c.tree-item.result c.loop-tree-test.true c.tree-item.is
    c.loop-tree.filled c.loop-tree.invariant c.in_ok-part.part c.in_ok-part.ensures _ c.in_ok-push.ensures.ok

pub fill_links-fill_link-requires : goal.fill_links-fill_link-requires
fill_links-fill_link-requires t c =
    let k : steps_of_link c.args.text.now (get_or c.args.links.now c.loop-link.link-index c.link-item.result) ≤ steps_of_links c.args.text.now c.args.links.now =
    link_of_total (means_in c.args.text.now) (params_in c.args.text.now) (argument_steps_in c.args.text.now) c.args.links.now c.loop-link.link-index c.link-item.result c.loop-link-test.true in
    let e : steps_of_link c.args.text.now c.link-item.result ≡ steps_of_link c.args.text.now (get_or c.args.links.now c.loop-link.link-index c.link-item.result) = ap (steps_of_link c.args.text.now) c.link-item.is in
    (omega arith, c.requires)

pub fill_links-loop-link-preserved : goal.fill_links-loop-link-preserved
fill_links-loop-link-preserved t c =
    next_part (raise_link c.args.text.now) (λ (r : Side). r.link (scope_of c.args.text.now)) (side_in c.args.text.now) c.args.links.now c.loop-link.link-index c.link-item.result c.loop-link-test.true c.link-item.is
    c.loop-link.filled c.loop-link.invariant c.in_ok-part.part c.in_ok-part.ensures _ c.in_ok-push.ensures.ok

pub fill_forms-fill_form-requires : goal.fill_forms-fill_form-requires
fill_forms-fill_form-requires t c =
    let k : steps_of_form c.args.text.now (get_or c.args.forms.now c.loop-form.form-index c.form-item.result) ≤ steps_of_forms c.args.text.now c.args.forms.now =
    form_of_total (means_in c.args.text.now) (params_in c.args.text.now) (argument_steps_in c.args.text.now) c.args.forms.now c.loop-form.form-index c.form-item.result c.loop-form-test.true in
    let e : steps_of_form c.args.text.now c.form-item.result ≡ steps_of_form c.args.text.now (get_or c.args.forms.now c.loop-form.form-index c.form-item.result) = ap (steps_of_form c.args.text.now) c.form-item.is in
    (omega arith, c.requires)

pub fill_forms-loop-form-preserved : goal.fill_forms-loop-form-preserved
fill_forms-loop-form-preserved t c =
    next_part (raise_form c.args.text.now) (λ (r : Form). r.form (scope_of c.args.text.now)) (form_in c.args.text.now) c.args.forms.now c.loop-form.form-index c.form-item.result c.loop-form-test.true c.form-item.is
    c.loop-form.filled c.loop-form.invariant c.in_ok-part.part c.in_ok-part.ensures _ c.in_ok-push.ensures.ok

-- ---- names

pub fill_name-returns-in-Some : goal.fill_name-returns-in-Some
fill_name-returns-in-Some t c =
    raised_named c.args.text.now.extra (means_in c.args.text.now c.args.name.now) (scope_of c.args.text.now) c.args.at c.args.name.now (tree_of (scope_of c.args.text.now) c.args.name.now) (tree_in c.in-Some.standing c.in-Some.tree.now)
    (sym c.in-Some.ensures.tree) c.fill.result
    (subst (λ (o : Option ℕ). IfOk c.fill.result (λ r. r ≡ moved (raised_place o) (tree_in c.in-Some.standing c.in-Some.tree.now)))
    (c.in-Some.ensures.extra ∙ ap (λ (n : ℕ). Some n) (c.raised.ensures ∙ ap (raised c.args.text.now.extra) c.brackets.ensures)) c.fill.ensures)

pub fill_name-fill-requires : goal.fill_name-fill-requires
fill_name-fill-requires t c =
    let k : steps_in c.in-Some.standing c.in-Some.tree.now ≡ argument_steps (params_in c.args.text.now) (argument_steps_in c.args.text.now) c.args.name.now = c.in-Some.ensures.steps in
    (omega arith, c.in-Some.ensures.ready)

pub fill_name-returns-in-Some-meaning_of : goal.fill_name-returns-in-Some-meaning_of
fill_name-returns-in-Some-meaning_of t c =
    ok_along c.fill_use.result (raise c.args.text.now (used_in c.args.text.now c.in-Some-meaning_of.i c.args.at.depth c.no_arguments.result))
    (raise c.args.text.now (named (means_in c.args.text.now c.args.name.now) (tree_of (scope_of c.args.text.now) c.args.name.now) (scope_of c.args.text.now) c.args.at c.args.name.now))
    (ap (raise c.args.text.now)
    (ap (λ (args : List Part). body_of (insert_at c.args.text.now c.in-Some-meaning_of.i) (round_in c.args.text.now c.args.at.depth) (map (λ (a : Part). a.tree (scope_of c.args.text.now)) args)) (c.no_arguments.ensures (means_in c.args.text.now))
    ∙ named_use (insert_at c.args.text.now c.in-Some-meaning_of.i) (means_in c.args.text.now c.args.name.now) c.in-Some-meaning_of.ensures.known c.in-Some-meaning_of.ensures.value
    (tree_of (scope_of c.args.text.now) c.args.name.now) (sym c.in-None.ensures.tree) (scope_of c.args.text.now) c.args.at c.args.name.now)) c.fill_use.ensures

-- ---- rows

pub fill_called-returns-in_ok-rest-in-Some : goal.fill_called-returns-in_ok-rest-in-Some
fill_called-returns-in_ok-rest-in-Some t c =
    called_row (raised_place c.args.text.now.extra) (insert_at c.args.text.now c.args.i) c.requires.known c.args.depth (filling_in c.args.text.now c.args.head.now) (map (form_in c.args.text.now) c.args.forms.now)
    (map (form_in c.args.text.now) c.in-Some.rest.now) (parts_in (means_in c.args.text.now) c.in-Some.arguments) (scope_of c.args.text.now) c.in-Some.ensures.arguments c.in-Some.ensures.rest
    c.in_ok-used-in-Some.used c.in_ok-used-in-Some.ensures c.in_ok-rest-in-Some.rest c.in_ok-rest-in-Some.ensures
    c.row_of.result c.row_of.ensures

pub fill_called-returns-in-None : goal.fill_called-returns-in-None
fill_called-returns-in-None t c =
    plain_row (raised_place c.args.text.now.extra) (insert_at c.args.text.now c.args.i) c.args.depth (filling_in c.args.text.now c.args.head.now) (map (form_in c.args.text.now) c.args.forms.now) (scope_of c.args.text.now)
    c.in-None.ensures.arguments c.fill_plain_row.result c.fill_plain_row.ensures

-- ---- uses

pub fill_use-fill_body-requires : goal.fill_use-fill_body-requires
fill_use-fill_body-requires t c =
    let k : steps_of_use c.args.text.now c.args.i c.args.arguments
    ≡ (insert_of (means_at c.args.text.now.table.defs.now c.args.i) (params_at c.args.text.now.table.defs.now c.args.i) c.in-Some.def.now.body).steps
    (steps_at c.args.text.now.table.defs.now (record { place = c.args.i; round = c.round_of_use.result; arguments = c.args.arguments }) (frames_from c.caller_of-caller.result)) =
    use_steps c.args.text.now.table.defs.now c.args.text.now.here (record { place = c.args.i; round = c.round_of_use.result; arguments = c.args.arguments }) (frames_of c.args.text.now.callers) (frames_from c.caller_of-caller.result) c.args.i c.in-Some.def.now
    c.in-Some.ensures c.requires.known c.caller_of-caller.ensures in
    (omega arith, c.requires.ready)

pub fill_use-returns-in-Some : goal.fill_use-returns-in-Some
fill_use-returns-in-Some t c =
    ok_along c.fill_body.result _ (raise c.args.text.now (used_in c.args.text.now c.args.i c.args.depth c.args.arguments))
    (ap (raise c.args.text.now)
    (use_tree c.args.text.now.table.defs.now c.args.text.now.here (record { place = c.args.i; round = c.round_of_use.result; arguments = c.args.arguments }) (frames_of c.args.text.now.callers) (frames_from c.caller_of-caller.result) c.args.i c.in-Some.def.now c.in-Some.ensures c.requires.known c.caller_of-caller.ensures
    (round_in c.args.text.now c.args.depth) c.round_of_use.result c.round_of_use.ensures)) c.fill_body.ensures

pub fill_use-returns-in-None : goal.fill_use-returns-in-None
fill_use-returns-in-None t c = absurd (insert_unknown c.args.text.now.table.defs.now c.args.text.now.here.place c.args.i c.in-None.ensures c.requires.known)
