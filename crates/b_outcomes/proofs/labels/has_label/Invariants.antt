use Rattle.std.proofs.Common.{◌≡◌, drop, map}
use Rattle.b_meaning.specs.Meaning.{tuple_limit, value_of}
use Rattle.b_places.specs.Scopes.{slots_of}
use Rattle.b_outcomes.specs.Outcomes.{has_label}
use Rattle.b_outcomes.proofs.labels.has_label.Given as goal

abbrev pub invariant-loop-label : goal.invariant-loop-label
invariant-loop-label l = has_label (map (value_of tuple_limit) l.labels) l.v (slots_of l.env) ≡ has_label (map (value_of tuple_limit) (drop l.label-index l.labels)) l.v (slots_of l.env)
