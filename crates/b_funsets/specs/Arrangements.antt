-- Permutations and one-to-one sequences: functions from the places 1, 2, .. n.
use Rattle.std.specs.Prelude.{◌≤◌, ℕ, zero, suc, pos, ◌&&◌, List, [], ◌∷◌, ◌++◌, map, filter, length, Result}
use Rattle.b_values.specs.Values.{elements}
use Rattle.b_values.specs.declared.values.FaultKind.{FaultKind}
use Rattle.b_values.specs.declared.values.Value.{Value}
use Rattle.b_values.specs.declared.values.Value.TheVariants.{Int, Set}
use Rattle.set_making.specs.Making.{set_with}
use Rattle.b_funsets.specs.Families.{couples, sublists}
use Rattle.b_funsets.specs.Arrows.{is_function, is_total, is_one_to_one, bijections_row, IsTotalInjection, IsBijection}

-- the places 1, 2, .. n
abbrev pub places : ℕ → List Value
places zero = []
places (suc n) = places n ++ Int (pos (suc n)) ∷ []

-- perm(S): the bijections from the places 1, 2, .. card(S) to S
abbrev pub perm_row : Value → Result Value FaultKind
perm_row s = bijections_row (Set (places (length (elements s)))) s

-- the one-to-one total functions from s to t
abbrev pub injections : List Value → List Value → List (List Value)
injections s t = filter (λ r. is_function r && is_total s r && is_one_to_one r) (sublists (couples s t))

-- those from the places 1, 2, .. k to t, for each k below n
abbrev pub injections_below : ℕ → List Value → List (List Value)
injections_below zero t = []
injections_below (suc n) t = injections_below n t ++ injections (places n) t

-- iseq(S): the one-to-one sequences of members of S, of each length up to card(S)
abbrev pub iseq_row : Value → Result Value FaultKind
iseq_row s = set_with (map Set (injections_below (suc (length (elements s))) (elements s)))

-- v is a sequence of all members of S, each once
abbrev pub IsPermutation : Value → Value → Type 0
IsPermutation s v = IsBijection (Set (places (length (elements s)))) s v

-- v is a sequence of members of S, none twice
pub record IsArrangement (s v : Value) : Type 0 where
  pub size : ℕ
  pub within : size ≤ length (elements s)
  pub injection : IsTotalInjection (Set (places size)) s v
