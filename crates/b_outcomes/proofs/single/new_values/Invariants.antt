use Rattle.std.proofs.Common.{◌≡◌, ◌++◌, drop, map, Ok}
use Rattle.std.specs.List.{AllByRecursion}
use Rattle.b_meaning.specs.Meaning.{tuple_limit, values_of}
use Rattle.b_places.specs.Scopes.{slots_of}
use Rattle.b_rows.specs.Answers.{bind}
use Rattle.b_values.specs.Values.{IsKept}
use Rattle.b_outcomes.proofs.single.new_values.Given as goal

abbrev pub invariant-loop-a : goal.invariant-loop-a
invariant-loop-a l = record {
  state : values_of tuple_limit (map (λ a. a.value) l.assignments) (slots_of l.env) ≡ bind (values_of tuple_limit (map (λ a. a.value) (drop l.a-index l.assignments)) (slots_of l.env)) (λ vs. Ok (l.values.items ++ vs));
  kept : AllByRecursion IsKept l.values.items;
}
