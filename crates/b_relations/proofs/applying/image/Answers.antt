use Rattle.std.proofs.Common.{sym, subst}
use Rattle.ascending.specs.Ascending.{In, IsAscending}
use Rattle.b_values.specs.ValueLaws.{elements_ascend}
use Rattle.b_values.specs.Values.{elements, value_cmp}
use Rattle.b_values.specs.declared.values.Value.{Value}
use Rattle.set_making.specs.MakingLaws.{answers_same, answers_kept, answers_law}
use Rattle.b_relations.specs.Relations.{Relates, image_members}
use Rattle.b_relations.proofs.ImageLaws.{images_found}
use Rattle.b_relations.proofs.RowLaws.{in_image}
use Rattle.b_relations.proofs.RowValues.{image_values}
use Rattle.b_relations.proofs.applying.image.Goals as goal

pub images-requires : goal.images-requires
images-requires c = subst (IsAscending value_cmp) (sym c.members.ensures) (elements_ascend c.args.r.now c.requires.relation.value)

pub returns-in-Ok-clause-value : goal.returns-in-Ok-clause-value
returns-in-Ok-clause-value c = answers_same c.in-Ok.found.items (image_members c.args.r.now c.args.s.now) c.set_with.result
    (images_found c.args.r.now c.args.s.now c.members.result.now c.members-2.result.now c.in-Ok.found.items c.members.ensures c.members-2.ensures c.in-Ok.ensures) c.set_with.ensures

pub returns-in-Ok-clause-kept : goal.returns-in-Ok-clause-kept
returns-in-Ok-clause-kept c = answers_kept (image_members c.args.r.now c.args.s.now) c.set_with.result (image_values c.args.r.now c.args.s.now c.requires.relation.value)
    (answers_same c.in-Ok.found.items (image_members c.args.r.now c.args.s.now) c.set_with.result
    (images_found c.args.r.now c.args.s.now c.members.result.now c.members-2.result.now c.in-Ok.found.items c.members.ensures c.members-2.ensures c.in-Ok.ensures) c.set_with.ensures)

pub returns-in-Ok-clause-members : goal.returns-in-Ok-clause-members
returns-in-Ok-clause-members c = answers_law (λ y. (x : Value) × In x (elements c.args.s.now) × Relates c.args.r.now x y) (image_members c.args.r.now c.args.s.now) c.set_with.result (in_image c.args.r.now c.args.s.now)
    (answers_same c.in-Ok.found.items (image_members c.args.r.now c.args.s.now) c.set_with.result
    (images_found c.args.r.now c.args.s.now c.members.result.now c.members-2.result.now c.in-Ok.found.items c.members.ensures c.members-2.ensures c.in-Ok.ensures) c.set_with.ensures)
