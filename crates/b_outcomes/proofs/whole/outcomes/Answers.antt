use Rattle.std.proofs.Common.{◌≡◌, Ok, subst}
use Rattle.b_meaning.specs.Meaning.{tuple_limit}
use Rattle.b_places.specs.Scopes.{slots_of}
use Rattle.b_outcomes.specs.Gathered.{Gathered, gathers}
use Rattle.b_outcomes.specs.Outcomes.{effect_of}
use Rattle.b_outcomes.proofs.whole.outcomes.Goals as goal

pub returns-in-Ok-clause-value : goal.returns-in-Ok-clause-value
returns-in-Ok-clause-value c =
    let whole = effect_of tuple_limit c.args.first c.args.s.now c.args.before.now (slots_of c.args.env.now) in
    c.told.ensures.value whole (subst (λ (g : Gathered). gathers g whole ≡ Ok c.run.new.out) c.limited-out.ensures c.in-Ok.ensures)
