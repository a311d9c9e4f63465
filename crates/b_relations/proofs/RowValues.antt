-- What the rows list are values, where the operands are.
use Rattle.std.proofs.Common.{Bool, not, List, ◌++◌, map, sym, subst, inl, inr}
use Rattle.std.specs.List.{filter, flat_map, AllByRecursion}
use Rattle.ascending.specs.Ascending.{In}
use Rattle.ascending.specs.Members.{all_in, all_from, in_append}
use Rattle.b_values.specs.ValueLaws.{elements_are_values, is_couple, couple_parts}
use Rattle.b_values.specs.Values.{elements, same_value, IsValue}
use Rattle.b_values.specs.declared.values.Value.{Value}
use Rattle.b_values.specs.declared.values.Value.TheVariants.{Pair}
use Rattle.set_making.specs.Making.{is_among}
use Rattle.set_making.specs.ListMembers.{in_map, in_filter, in_flat_map}
use Rattle.b_relations.specs.CoupleLaws.{in_couples}
use Rattle.b_relations.specs.Relations.{couple, couples, composed, dom_members, ran_members, converse_members, identity_members, image_members, overwrite_members, compose_members, direct_members, parallel_members, prj1_members, prj2_members}
use Rattle.b_relations.proofs.RowLaws.{in_composed}

-- both parts of each are values
abbrev pub PartsAreValues : List (Value × Value) → Type 0
PartsAreValues ps = (p : Value × Value) → In p ps → IsValue p.0 × IsValue p.1

pub couples_values : (r : Value) → IsValue r → PartsAreValues (couples r)
couples_values r h p m = couple_parts p.0 p.1 (all_in IsValue (elements r) (elements_are_values r h) (couple p) ((in_couples (elements r) p).0 m))

pub filter_values : (t : Value × Value → Bool) (ps : List (Value × Value)) → PartsAreValues ps → PartsAreValues (filter t ps)
filter_values t ps h p m = h p ((in_filter t p ps).0 m).0

pub append_values : (ps qs : List (Value × Value)) → PartsAreValues ps → PartsAreValues qs → PartsAreValues (ps ++ qs)
append_values ps qs h k p m = elim ((in_append p ps qs).0 m) [ inl f ↦ h p f | inr f ↦ k p f ]

pub composed_values : (ps qs : List (Value × Value)) → PartsAreValues ps → PartsAreValues qs → PartsAreValues (composed ps qs)
composed_values ps qs h k p m =
    let f = (in_composed ps qs p.0 p.1).0 m in
    ((h (p.0, f.0) f.1).0, (k (f.0, p.1) f.2).1)

-- what is made of values that are parts
pub map_values : (f : Value × Value → Value) (ps : List (Value × Value)) → PartsAreValues ps → ((p : Value × Value) → IsValue p.0 × IsValue p.1 → IsValue (f p)) → AllByRecursion IsValue (map f ps)
map_values f ps h k = all_from IsValue (map f ps) (λ z m. let w = (in_map f z ps).0 m in subst IsValue (sym w.2) (k w.0 (h w.0 w.1)))

pub couple_map_values : (ps : List (Value × Value)) → PartsAreValues ps → AllByRecursion IsValue (map couple ps)
couple_map_values ps h = map_values couple ps h (λ p k. is_couple p.0 p.1 k.0 k.1)

pub flat_values : {X : Type 0} (f : X → List Value) (xs : List X) → ((x : X) → In x xs → AllByRecursion IsValue (f x)) → AllByRecursion IsValue (flat_map f xs)
flat_values f xs h = all_from IsValue (flat_map f xs) (λ z m. let k = (in_flat_map f z xs).0 m in all_in IsValue (f k.0) (h k.0 k.1) z k.2)

-- ---- the rows

pub dom_values : (r : Value) → IsValue r → AllByRecursion IsValue (dom_members r)
dom_values r h = map_values (λ p. p.0) (couples r) (couples_values r h) (λ p k. k.0)

pub ran_values : (r : Value) → IsValue r → AllByRecursion IsValue (ran_members r)
ran_values r h = map_values (λ p. p.1) (couples r) (couples_values r h) (λ p k. k.1)

pub converse_values : (r : Value) → IsValue r → AllByRecursion IsValue (converse_members r)
converse_values r h = map_values (λ p. Pair p.1 p.0) (couples r) (couples_values r h) (λ p k. is_couple p.1 p.0 k.1 k.0)

pub identity_values : (s : Value) → IsValue s → AllByRecursion IsValue (identity_members s)
identity_values s h = all_from IsValue (identity_members s) (λ z m.
    let k = (in_map (λ (w : Value). Pair w w) z (elements s)).0 m in
    let v = all_in IsValue (elements s) (elements_are_values s h) k.0 k.1 in
    subst IsValue (sym k.2) (is_couple k.0 k.0 v v))

pub image_values : (r s : Value) → IsValue r → AllByRecursion IsValue (image_members r s)
image_values r s h = map_values (λ p. p.1) _ (filter_values (λ p. is_among (elements s) p.0) (couples r) (couples_values r h)) (λ p k. k.1)

-- the couples that pass a test
pub chosen_values : (t : Value × Value → Bool) (r : Value) → IsValue r → AllByRecursion IsValue (map couple (filter t (couples r)))
chosen_values t r h = couple_map_values (filter t (couples r)) (filter_values t (couples r) (couples_values r h))

pub overwrite_values : (r s : Value) → IsValue r → IsValue s → AllByRecursion IsValue (overwrite_members r s)
overwrite_values r s h k =
    let t : Value × Value → Bool = λ p. not (is_among (dom_members s) p.0) in
    couple_map_values (filter t (couples r) ++ couples s) (append_values (filter t (couples r)) (couples s) (filter_values t (couples r) (couples_values r h)) (couples_values s k))

pub compose_values : (r s : Value) → IsValue r → IsValue s → AllByRecursion IsValue (compose_members r s)
compose_values r s h k = couple_map_values (composed (couples r) (couples s)) (composed_values (couples r) (couples s) (couples_values r h) (couples_values s k))

pub direct_values : (r s : Value) → IsValue r → IsValue s → AllByRecursion IsValue (direct_members r s)
direct_values r s h k = flat_values (λ p. map (λ q. Pair p.0 (Pair p.1 q.1)) (filter (λ q. same_value q.0 p.0) (couples s))) (couples r) (λ p m.
    let v = couples_values r h p m in
    map_values (λ q. Pair p.0 (Pair p.1 q.1)) _ (filter_values (λ q. same_value q.0 p.0) (couples s) (couples_values s k))
    (λ q w. is_couple p.0 (Pair p.1 q.1) v.0 (is_couple p.1 q.1 v.1 w.1)))

pub parallel_values : (r s : Value) → IsValue r → IsValue s → AllByRecursion IsValue (parallel_members r s)
parallel_values r s h k = flat_values (λ p. map (λ q. Pair (Pair p.0 q.0) (Pair p.1 q.1)) (couples s)) (couples r) (λ p m.
    let v = couples_values r h p m in
    map_values (λ q. Pair (Pair p.0 q.0) (Pair p.1 q.1)) (couples s) (couples_values s k)
    (λ q w. is_couple (Pair p.0 q.0) (Pair p.1 q.1) (is_couple p.0 q.0 v.0 w.0) (is_couple p.1 q.1 v.1 w.1)))

-- what is made of a member of each of two sets
products_values : (make : Value → Value → Value) → ((x y : Value) → IsValue x → IsValue y → IsValue (make x y)) → (s t : Value) → IsValue s → IsValue t
    → AllByRecursion IsValue (flat_map (λ x. map (make x) (elements t)) (elements s))
products_values make f s t h k = flat_values (λ x. map (make x) (elements t)) (elements s) (λ x m. all_from IsValue _ (λ z n.
    let w = (in_map (make x) z (elements t)).0 n in
    subst IsValue (sym w.2) (f x w.0 (all_in IsValue (elements s) (elements_are_values s h) x m) (all_in IsValue (elements t) (elements_are_values t k) w.0 w.1))))

pub prj1_values : (s t : Value) → IsValue s → IsValue t → AllByRecursion IsValue (prj1_members s t)
prj1_values s t = products_values (λ x y. Pair (Pair x y) x) (λ x y h k. is_couple (Pair x y) x (is_couple x y h k) h) s t

pub prj2_values : (s t : Value) → IsValue s → IsValue t → AllByRecursion IsValue (prj2_members s t)
prj2_values s t = products_values (λ x y. Pair (Pair x y) y) (λ x y h k. is_couple (Pair x y) y (is_couple x y h k) k) s t
