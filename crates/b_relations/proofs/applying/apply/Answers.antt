use Rattle.std.proofs.Common.{length, arith, sym, subst}
use Rattle.ascending.specs.Ascending.{IsAscending}
use Rattle.b_values.specs.ValueLaws.{elements_ascend}
use Rattle.b_values.specs.Values.{value_cmp}
use Rattle.set_making.specs.Making.{Answers}
use Rattle.b_relations.proofs.ImageLaws.{one_image, no_image, apply_image, apply_kept, other_than_one}
use Rattle.b_relations.proofs.Steps.{one_item}
use Rattle.b_relations.proofs.applying.apply.Goals as goal

pub couples_from-images-requires : goal.couples_from-images-requires
couples_from-images-requires c = subst (IsAscending value_cmp) (sym c.members.ensures) (elements_ascend c.args.f.now c.requires.function.value)

pub returns-then-images-eq1-clause-value : goal.returns-then-images-eq1-clause-value
returns-then-images-eq1-clause-value c = (subst (λ row. Answers row c.second_of.result)
    (one_image c.args.f.now c.args.x.now c.index-images-0.result c.members.result.now c.couples_from-images.result.now c.members.ensures c.couples_from-images.ensures
    (one_item c.couples_from-images.result.now c.index-images-0.result (omega arith) (omega arith) c.index-images-0.is))
    c.second_of.ensures)

pub returns-then-images-eq1-clause-kept : goal.returns-then-images-eq1-clause-kept
returns-then-images-eq1-clause-kept c = apply_kept c.args.f.now c.args.x.now c.second_of.result c.requires.function (subst (λ row. Answers row c.second_of.result)
    (one_image c.args.f.now c.args.x.now c.index-images-0.result c.members.result.now c.couples_from-images.result.now c.members.ensures c.couples_from-images.ensures
    (one_item c.couples_from-images.result.now c.index-images-0.result (omega arith) (omega arith) c.index-images-0.is))
    c.second_of.ensures)

pub returns-then-images-eq1-clause-image : goal.returns-then-images-eq1-clause-image
returns-then-images-eq1-clause-image c = apply_image c.args.f.now c.args.x.now c.second_of.result (subst (λ row. Answers row c.second_of.result)
    (one_image c.args.f.now c.args.x.now c.index-images-0.result c.members.result.now c.couples_from-images.result.now c.members.ensures c.couples_from-images.ensures
    (one_item c.couples_from-images.result.now c.index-images-0.result (omega arith) (omega arith) c.index-images-0.is))
    c.second_of.ensures)

pub returns-else-images-eq1-clause-value : goal.returns-else-images-eq1-clause-value
returns-else-images-eq1-clause-value c = no_image c.args.f.now c.args.x.now c.members.result.now c.couples_from-images.result.now c.members.ensures c.couples_from-images.ensures
    (other_than_one (length c.couples_from-images.result.now) c.if-images-eq1.false)
