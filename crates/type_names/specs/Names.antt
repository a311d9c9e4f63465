-- Names with the parts that they mean.
use Rattle.std.specs.Prelude.{ℕ, ◌+◌, Bool, not, cond, List, [], ◌∷◌, map, filter, Option, Some, None, is_some, bytes_eq}
use Rattle.type_demands.specs.declared.demands.Meaning.{Meaning}
use Rattle.type_demands.specs.Scopes.{Scope, nothing_known, bound_at, bind}
use Rattle.type_names.specs.declared.listing.Named.{Named}

abbrev pub meaning : ℕ → List ℕ → Named
meaning p x = record { name = x; part = p }

-- what each name means; of equal ones the first counts
abbrev pub scope_named : List Named → Scope
scope_named [] x = None
scope_named (k ∷ ks) x = cond (bytes_eq x k.name) (Some (bound_at k.part)) (scope_named ks x)

-- names whose parts follow one another
abbrev pub in_order : ℕ → List (List ℕ) → List Named
in_order p [] = []
in_order p (x ∷ xs) = meaning p x ∷ in_order (p + 1) xs

-- names that mean one part: all elements of a set are of one type
abbrev pub alike : ℕ → List (List ℕ) → List Named
alike p xs = map (meaning p) xs

abbrev pub is_among : List (List ℕ) → List ℕ → Bool
is_among xs x = is_some (bind xs 0 nothing_known x)

-- those that aren't hidden
abbrev pub free : List (List ℕ) → List (List ℕ) → List (List ℕ)
free hiding xs = filter (λ x. not (is_among hiding x)) xs
