use Rattle.std.proofs.Common.{◌≡◌, pos, rules, arith, sym, ap, ◌∙◌, subst}
use Rattle.std.proofs.lemmas.Int.{ints, to_z-of_z}
use Rattle.b_values.specs.declared.values.Value.TheVariants.{Int}
use Rattle.set_making.specs.Making.{Answers}
use Rattle.b_relations.specs.Relations.{iterate_row}
use Rattle.b_relations.proofs.IterateLaws.{iterate_at, iterate_kept, iterate_leads}
use Rattle.b_relations.proofs.iterating.iterate.Goals as goal

pub returns-in-Some-clause-kept : goal.returns-in-Some-clause-kept
returns-in-Some-clause-kept c = iterate_kept c.args.r.now c.in-Some.times c.iterated.result c.requires.relation c.iterated.ensures

pub returns-in-Some-clause-members : goal.returns-in-Some-clause-members
returns-in-Some-clause-members c =
    let f : c.in-Int.number ≡ pos c.in-Some.times = first_of (search (rules, c.in-Some.ensures), omega (arith, ints, c.in-Some.ensures), grind (arith, ints, to_z-of_z, c.in-Some.ensures)) in
    let a : Answers (iterate_row c.args.r.now c.args.n.now) c.iterated.result =
    subst (λ row. Answers row c.iterated.result) (sym (iterate_at c.args.r.now c.args.n.now c.in-Some.times (c.in-Int.is ∙ ap Int f))) c.iterated.ensures in
    λ k e. iterate_leads c.args.r.now c.args.n.now k c.iterated.result e a
