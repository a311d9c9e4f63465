-- What the operators on relations and functions give: which members, or the fault.
use Rattle.std.specs.Prelude.{◌≡◌, ◌⊎◌, ℕ, zero, suc, ◌+◌, not, List, [], ◌∷◌, ◌++◌, map, length, Option, Some, None, Result, Ok, Err, pos}
use Rattle.std.specs.List.{filter, filter_map, flat_map, range_with_len}
use Rattle.ascending.specs.Ascending.{In}
use Rattle.b_values.specs.Values.{elements, same_value}
use Rattle.b_values.specs.declared.values.FaultKind.{FaultKind}
use Rattle.b_values.specs.declared.values.FaultKind.TheVariants.{IllDefined}
use Rattle.b_values.specs.declared.values.Value.{Value, out-Value}
use Rattle.b_values.specs.declared.values.Value.TheOpen.{Value-F}
use Rattle.b_values.specs.declared.values.Value.TheVariants.{Pair}
use Rattle.set_making.specs.Making.{set_with, is_among}

-- ---- relations

-- the two parts of a couple's layer
abbrev pub parts_of : {X : Type 0} → Value-F X → Option (X × X)
parts_of (Value-F.Pair a b) = Some (a, b)
parts_of x = None

-- the two parts of a couple
abbrev pub parts : Value → Option (Value × Value)
parts v = parts_of (out-Value v)

-- the couple with these parts
abbrev pub couple : Value × Value → Value
couple p = Pair p.0 p.1

-- the couples among these, each as its parts
abbrev pub couples_in : List Value → List (Value × Value)
couples_in xs = filter_map parts xs

-- a relation's couples
abbrev pub couples : Value → List (Value × Value)
couples r = couples_in (elements r)

-- x is related to y
abbrev pub Relates : Value → Value → Value → Type 0
Relates r x y = In (Pair x y) (elements r)

-- x is in the domain
abbrev pub InDomain : Value → Value → Type 0
InDomain r x = (y : Value) × Relates r x y

-- y is in the range
abbrev pub InRange : Value → Value → Type 0
InRange r y = (x : Value) × Relates r x y

-- ---- rows: the members of what is asked for, and the set of them

-- dom(r)
abbrev pub dom_members : Value → List Value
dom_members r = map (λ p. p.0) (couples r)

abbrev pub dom_row : Value → Result Value FaultKind
dom_row r = set_with (dom_members r)

-- ran(r)
abbrev pub ran_members : Value → List Value
ran_members r = map (λ p. p.1) (couples r)

abbrev pub ran_row : Value → Result Value FaultKind
ran_row r = set_with (ran_members r)

-- r~
abbrev pub converse_members : Value → List Value
converse_members r = map (λ p. Pair p.1 p.0) (couples r)

abbrev pub converse_row : Value → Result Value FaultKind
converse_row r = set_with (converse_members r)

-- id(S)
abbrev pub identity_members : Value → List Value
identity_members s = map (λ x. Pair x x) (elements s)

abbrev pub identity_row : Value → Result Value FaultKind
identity_row s = set_with (identity_members s)

-- r[S]
abbrev pub image_members : Value → Value → List Value
image_members r s = map (λ p. p.1) (filter (λ p. is_among (elements s) p.0) (couples r))

abbrev pub image_row : Value → Value → Result Value FaultKind
image_row r s = set_with (image_members r s)

-- S <| r
abbrev pub dom_restrict_members : Value → Value → List Value
dom_restrict_members s r = map couple (filter (λ p. is_among (elements s) p.0) (couples r))

abbrev pub dom_restrict_row : Value → Value → Result Value FaultKind
dom_restrict_row s r = set_with (dom_restrict_members s r)

-- S <<| r
abbrev pub dom_subtract_members : Value → Value → List Value
dom_subtract_members s r = map couple (filter (λ p. not (is_among (elements s) p.0)) (couples r))

abbrev pub dom_subtract_row : Value → Value → Result Value FaultKind
dom_subtract_row s r = set_with (dom_subtract_members s r)

-- r |> S
abbrev pub ran_restrict_members : Value → Value → List Value
ran_restrict_members r s = map couple (filter (λ p. is_among (elements s) p.1) (couples r))

abbrev pub ran_restrict_row : Value → Value → Result Value FaultKind
ran_restrict_row r s = set_with (ran_restrict_members r s)

-- r |>> S
abbrev pub ran_subtract_members : Value → Value → List Value
ran_subtract_members r s = map couple (filter (λ p. not (is_among (elements s) p.1)) (couples r))

abbrev pub ran_subtract_row : Value → Value → Result Value FaultKind
ran_subtract_row r s = set_with (ran_subtract_members r s)

-- r <+ s: dom(s) <<| r, and s
abbrev pub overwrite_members : Value → Value → List Value
overwrite_members r s = map couple (filter (λ p. not (is_among (dom_members s) p.0)) (couples r) ++ couples s)

abbrev pub overwrite_row : Value → Value → Result Value FaultKind
overwrite_row r s = set_with (overwrite_members r s)

-- a couple of ps, then one of qs that begins where it ends
abbrev pub composed : List (Value × Value) → List (Value × Value) → List (Value × Value)
composed ps qs = flat_map (λ p. map (λ q. (p.0, q.1)) (filter (λ q. same_value q.0 p.1) qs)) ps

-- r ; s
abbrev pub compose_members : Value → Value → List Value
compose_members r s = map couple (composed (couples r) (couples s))

abbrev pub compose_row : Value → Value → Result Value FaultKind
compose_row r s = set_with (compose_members r s)

-- r >< s
abbrev pub direct_members : Value → Value → List Value
direct_members r s = flat_map (λ p. map (λ q. Pair p.0 (Pair p.1 q.1)) (filter (λ q. same_value q.0 p.0) (couples s))) (couples r)

abbrev pub direct_row : Value → Value → Result Value FaultKind
direct_row r s = set_with (direct_members r s)

-- r || s
abbrev pub parallel_members : Value → Value → List Value
parallel_members r s = flat_map (λ p. map (λ q. Pair (Pair p.0 q.0) (Pair p.1 q.1)) (couples s)) (couples r)

abbrev pub parallel_row : Value → Value → Result Value FaultKind
parallel_row r s = set_with (parallel_members r s)

-- prj1(S,T)
abbrev pub prj1_members : Value → Value → List Value
prj1_members s t = flat_map (λ x. map (λ y. Pair (Pair x y) x) (elements t)) (elements s)

abbrev pub prj1_row : Value → Value → Result Value FaultKind
prj1_row s t = set_with (prj1_members s t)

-- prj2(S,T)
abbrev pub prj2_members : Value → Value → List Value
prj2_members s t = flat_map (λ x. map (λ y. Pair (Pair x y) y) (elements t)) (elements s)

abbrev pub prj2_row : Value → Value → Result Value FaultKind
prj2_row s t = set_with (prj2_members s t)

-- the only one of these
abbrev pub only : List Value → Result Value FaultKind
only [] = Err IllDefined
only (y ∷ []) = Ok y
only (y ∷ z ∷ more) = Err IllDefined

-- f(x)
abbrev pub apply_row : Value → Value → Result Value FaultKind
apply_row f x = only (map (λ p. p.1) (filter (λ p. same_value p.0 x) (couples f)))

-- ---- iterates

-- all that stands in a couple
abbrev pub field : List (Value × Value) → List Value
field ps = map (λ p. p.0) ps ++ map (λ p. p.1) ps

-- n couples one after the other; none leaves each where it is
abbrev pub iterated : List (Value × Value) → ℕ → List (Value × Value)
iterated ps zero = map (λ x. (x, x)) (field ps)
iterated ps (suc n) = composed (iterated ps n) ps

-- the iterate for a number of steps, which is no less than 0
abbrev pub iterate_layer : List (Value × Value) → Value-F Value → Result Value FaultKind
iterate_layer ps (Value-F.Int (pos n)) = set_with (map couple (iterated ps n))
iterate_layer ps x = Err IllDefined

-- iterate(r,n)
abbrev pub iterate_row : Value → Value → Result Value FaultKind
iterate_row r n = iterate_layer (couples r) (out-Value n)

-- closure1(r): the iterates from 1 to the number of couples
abbrev pub closure1_members : Value → List Value
closure1_members r = map couple (flat_map (iterated (couples r)) (range_with_len 1 (length (couples r))))

abbrev pub closure1_row : Value → Result Value FaultKind
closure1_row r = set_with (closure1_members r)

-- closure(r): the iterates from 0 to the number of couples
abbrev pub closure_members : Value → List Value
closure_members r = map couple (flat_map (iterated (couples r)) (range_with_len 0 (length (couples r) + 1)))

abbrev pub closure_row : Value → Result Value FaultKind
closure_row r = set_with (closure_members r)

-- ---- what iterates and closures are

-- n couples lead from x to z, each beginning where the one before ends; none, from what stands in a couple to itself
abbrev pub Leads : Value → ℕ → Value → Value → Type 0
Leads r zero x z = (x ≡ z) × (InDomain r x ⊎ InRange r x)
Leads r (suc n) x z = (y : Value) × Leads r n x y × Relates r y z

-- t relates all that r relates
abbrev pub Includes : Value → Value → Type 0
Includes t r = (x y : Value) → Relates r x y → Relates t x y

-- what is related by way of a third is related
abbrev pub IsTransitive : Value → Type 0
IsTransitive t = (x y z : Value) → Relates t x y → Relates t y z → Relates t x z

-- v is the least transitive relation that includes r
pub record IsTransitiveClosure (r v : Value) : Type 0 where
  pub contains : Includes v r
  pub transitive : IsTransitive v
  pub least : (t : Value) → Includes t r → IsTransitive t → Includes t v

-- each value that stands in a couple of r is related to itself
abbrev pub IsReflexiveOn : Value → Value → Type 0
IsReflexiveOn r t = (x : Value) → InDomain r x ⊎ InRange r x → Relates t x x

-- v is the least such transitive relation that includes r
pub record IsReflexiveClosure (r v : Value) : Type 0 where
  pub contains : Includes v r
  pub reflexive : IsReflexiveOn r v
  pub transitive : IsTransitive v
  pub least : (t : Value) → Includes t r → IsReflexiveOn r t → IsTransitive t → Includes t v
