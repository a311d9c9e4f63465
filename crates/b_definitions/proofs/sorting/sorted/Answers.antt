use Rattle.std.proofs.lemmas.List.Sorted.{answers_always}
use Rattle.b_definitions.specs.declared.sorting.Ranked.{Ranked}
use Rattle.b_definitions.proofs.sorting.sorted.Goals as goal

-- each call of the closure gives the rank
pub returns-clause-same : goal.returns-clause-same
returns-clause-same c = c.sort_by_key.ensures.stable (λ (r : Ranked). r.rank) (answers_always _ _ _ (λ f a r f' k. k.met))
