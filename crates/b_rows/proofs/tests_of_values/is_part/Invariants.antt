use Rattle.std.proofs.Common.{◌≡◌, drop}
use Rattle.std.specs.List.{list_all}
use Rattle.b_values.specs.Values.{elements}
use Rattle.set_making.specs.Making.{is_among}
use Rattle.b_rows.proofs.tests_of_values.is_part.Given as goal

abbrev pub invariant-loop-x : goal.invariant-loop-x
invariant-loop-x l = list_all (λ x. is_among (elements l.t) x) l.xs ≡ list_all (λ x. is_among (elements l.t) x) (drop l.x-index l.xs)
