use Rattle.std.proofs.Common.{ap, ◌∙◌, subst, ◌<◌, sum, map}
use Rattle.ascending.specs.Ascending.{set_of, IsAscending}
use Rattle.b_values.specs.OrderLaws.{value_same}
use Rattle.b_values.specs.Values.{value_cmp, node_count}
use Rattle.set_making.specs.MakingLaws.{set_of_twice, too_many}
use Rattle.set_making.proofs.gathering.Gathering.settle.Goals as goal

pub make_ascending-requires : goal.make_ascending-requires
make_ascending-requires c = value_same

pub returns-in-Some-clause-unchanged : goal.returns-in-Some-clause-unchanged
returns-in-Some-clause-unchanged c = ap (set_of value_cmp) c.make_ascending.ensures.set ∙ set_of_twice c.self.inside.items.items ∙ c.self.view_is

pub returns-in-None-clause-fault : goal.returns-in-None-clause-fault
returns-in-None-clause-fault c =
    let same = c.make_ascending.ensures.set ∙ c.self.view_is in
    let many = subst (λ xs. 999999 < sum (map node_count xs)) c.as_slice.ensures.value c.in-None.ensures in
    too_many _ (subst (IsAscending value_cmp) same c.make_ascending.ensures.ascends) (subst (λ xs. 999999 < sum (map node_count xs)) same many)

pub returns-in-None-clause-unchanged : goal.returns-in-None-clause-unchanged
returns-in-None-clause-unchanged c = ap (set_of value_cmp) c.make_ascending.ensures.set ∙ set_of_twice c.self.inside.items.items ∙ c.self.view_is
