-- The loops that join couples give the members of the rows.
use Rattle.std.proofs.Common.{◌≡◌, ◌↔◌, ◌≤◌, ℕ, List, [], ◌∷◌, ◌++◌, map, length, take, Result, Ok, refl, sym, ap, ◌∙◌, subst}
use Rattle.std.specs.Prelude.{OnOk, IfErr, IfOk}
use Rattle.std.specs.List.{filter, flat_map, cons_option}
use Rattle.std.proofs.lemmas.List.{take_all}
use Rattle.ascending.specs.Ascending.{In, insert}
use Rattle.b_values.specs.Values.{elements, same_value, value_cmp}
use Rattle.b_values.specs.declared.values.Value.{Value}
use Rattle.b_values.specs.declared.values.Value.TheVariants.{Pair}
use Rattle.set_making.specs.declared.OpFault.{OpFault}
use Rattle.set_making.specs.Making.{set_with, Answers, FaultOf}
use Rattle.b_relations.specs.CoupleLaws.{parts-Pair}
use Rattle.b_relations.specs.Joining.{Adds, made, joined, projection}
use Rattle.b_relations.specs.declared.joining.Join.{Join}
use Rattle.b_relations.specs.declared.joining.Join.TheVariants.{Compose, Direct, Parallel}
use Rattle.b_relations.specs.declared.walking.Side.{Side}
use Rattle.b_relations.specs.declared.walking.Side.TheVariants.{Left, Right}
use Rattle.b_relations.specs.Relations.{Relates, parts, couple, couples_in, composed, compose_row, direct_row, parallel_row, prj1_row, prj2_row, direct_members, parallel_members, prj1_members, prj2_members}
use Rattle.b_relations.proofs.Gathers.{adds_one}
use Rattle.b_relations.proofs.Results.{answers_fact}
use Rattle.b_relations.proofs.RowLaws.{all_joined, in_direct, in_parallel, in_prj1, in_prj2}
use Rattle.b_relations.proofs.Steps.{map_append}

-- ---- the loops

-- one couple
pub made_adds : (how : Join) (p : Value × Value) (m c d x y v : Value) (old new : List Value) (r : Result (Unit {0}) OpFault) → m ≡ Pair c d → x ≡ c → y ≡ d → v ≡ made how p (x, y)
    → OnOk r (new ≡ insert value_cmp v old) → IfErr r (λ e. FaultOf (set_with old) e) → Adds old (map (made how p) (couples_in (m ∷ []))) r new
made_adds how p m c d x y v old new r e f g h a b =
    let one : couples_in (m ∷ []) ≡ (c, d) ∷ [] = ap (λ o. cons_option o []) (ap parts e ∙ parts-Pair c d) in
    let same : v ∷ [] ≡ map (made how p) (couples_in (m ∷ [])) = rw (one, h, f, g) refl in
    subst (λ l. Adds old l r new) same (adds_one old new v r a b)

-- one projection
pub projection_adds : (old new : List Value) (v w : Value) (r : Result (Unit {0}) OpFault) → v ≡ w → OnOk r (new ≡ insert value_cmp v old) → IfErr r (λ e. FaultOf (set_with old) e) → Adds old (w ∷ []) r new
projection_adds old new v w r e a b = subst (λ u. Adds old (u ∷ []) r new) e (adds_one old new v r a b)

-- at the end of a loop
pub adds_end : {X : Type 0} (F : X → List Value) (xs : List X) (i : ℕ) (old new : List Value) → length xs ≤ i → Adds old (flat_map F (take i xs)) (Ok tt) new → Adds old (flat_map F xs) (Ok tt) new
adds_end {X} F xs i old new h a = subst (λ (l : List X). Adds old (flat_map F l) (Ok tt) new) (take_all i xs h) a

-- ---- the rows

map_twice : (p : Value × Value) (qs : List (Value × Value)) → map (made Compose p) qs ≡ map couple (map (λ q. (p.0, q.1)) qs)
map_twice p [] = refl
map_twice p (q ∷ qs) = ap (λ l. Pair p.0 q.1 ∷ l) (map_twice p qs)

pub composed_values : (ps qs : List (Value × Value)) → joined Compose ps qs ≡ map couple (composed ps qs)
composed_values [] qs = refl
composed_values (p ∷ ps) qs =
    ap (λ l. l ++ joined Compose ps qs) (map_twice p (filter (λ q. same_value q.0 p.1) qs))
    ∙ ap (λ l. map couple (map (λ q. (p.0, q.1)) (filter (λ q. same_value q.0 p.1) qs)) ++ l) (composed_values ps qs)
    ∙ sym (map_append couple (map (λ q. (p.0, q.1)) (filter (λ q. same_value q.0 p.1) qs)) (composed ps qs))

at_members : (how : Join) (r s : Value) (ms ns : List Value) → ms ≡ elements r → ns ≡ elements s → joined how (couples_in ms) (couples_in ns) ≡ joined how (couples_in (elements r)) (couples_in (elements s))
at_members how r s ms ns e f = rw (e, f) refl

pub compose_is : (r s : Value) (ms ns : List Value) (result : Result Value OpFault) → ms ≡ elements r → ns ≡ elements s → Answers (set_with (joined Compose (couples_in ms) (couples_in ns))) result → Answers (compose_row r s) result
compose_is r s ms ns result e f a = subst (λ l. Answers (set_with l) result) (at_members Compose r s ms ns e f ∙ composed_values (couples_in (elements r)) (couples_in (elements s))) a

pub direct_is : (r s : Value) (ms ns : List Value) (result : Result Value OpFault) → ms ≡ elements r → ns ≡ elements s → Answers (set_with (joined Direct (couples_in ms) (couples_in ns))) result → Answers (direct_row r s) result
direct_is r s ms ns result e f a = subst (λ l. Answers (set_with l) result) (at_members Direct r s ms ns e f) a

pub parallel_is : (r s : Value) (ms ns : List Value) (result : Result Value OpFault) → ms ≡ elements r → ns ≡ elements s → Answers (set_with (joined Parallel (couples_in ms) (couples_in ns))) result → Answers (parallel_row r s) result
parallel_is r s ms ns result e f a =
    subst (λ l. Answers (set_with l) result)
    (at_members Parallel r s ms ns e f ∙ all_joined (λ p q. Pair (Pair p.0 q.0) (Pair p.1 q.1)) (couples_in (elements r)) (couples_in (elements s))) a

products : (side : Side) (s t : Value) (xs ys : List Value) → xs ≡ elements s → ys ≡ elements t → flat_map (λ x. map (projection side x) ys) xs ≡ flat_map (λ x. map (projection side x) (elements t)) (elements s)
products side s t xs ys e f = rw (e, f) refl

pub prj1_is : (s t : Value) (xs ys : List Value) (result : Result Value OpFault) → xs ≡ elements s → ys ≡ elements t → Answers (set_with (flat_map (λ x. map (projection Left x) ys) xs)) result → Answers (prj1_row s t) result
prj1_is s t xs ys result e f a = subst (λ l. Answers (set_with l) result) (products Left s t xs ys e f) a

pub prj2_is : (s t : Value) (xs ys : List Value) (result : Result Value OpFault) → xs ≡ elements s → ys ≡ elements t → Answers (set_with (flat_map (λ x. map (projection Right x) ys) xs)) result → Answers (prj2_row s t) result
prj2_is s t xs ys result e f a = subst (λ l. Answers (set_with l) result) (products Right s t xs ys e f) a

-- ---- the laws

both : {A B C : Type 0} → A ↔ B → B ↔ C → A ↔ C
both f g = (λ h. g.0 (f.0 h), λ h. f.1 (g.1 h))

pub direct_law : (r s : Value) (result : Result Value OpFault) → Answers (direct_row r s) result → IfOk result (λ v. (x y z : Value) → Relates v x (Pair y z) ↔ (Relates r x y × Relates s x z))
direct_law r s result a = answers_fact (λ v. (x y z : Value) → Relates v x (Pair y z) ↔ (Relates r x y × Relates s x z)) (direct_members r s) result
    (λ v m x y z. both (m (Pair x (Pair y z))) (in_direct r s x y z)) a

pub parallel_law : (r s : Value) (result : Result Value OpFault) → Answers (parallel_row r s) result → IfOk result (λ v. (x y z w : Value) → Relates v (Pair x y) (Pair z w) ↔ (Relates r x z × Relates s y w))
parallel_law r s result a = answers_fact (λ v. (x y z w : Value) → Relates v (Pair x y) (Pair z w) ↔ (Relates r x z × Relates s y w)) (parallel_members r s) result
    (λ v m x y z w. both (m (Pair (Pair x y) (Pair z w))) (in_parallel r s x y z w)) a

pub prj1_law : (s t : Value) (result : Result Value OpFault) → Answers (prj1_row s t) result → IfOk result (λ v. (x y z : Value) → Relates v (Pair x y) z ↔ (In x (elements s) × In y (elements t) × (z ≡ x)))
prj1_law s t result a = answers_fact (λ v. (x y z : Value) → Relates v (Pair x y) z ↔ (In x (elements s) × In y (elements t) × (z ≡ x))) (prj1_members s t) result
    (λ v m x y z. both (m (Pair (Pair x y) z)) (in_prj1 s t x y z)) a

pub prj2_law : (s t : Value) (result : Result Value OpFault) → Answers (prj2_row s t) result → IfOk result (λ v. (x y z : Value) → Relates v (Pair x y) z ↔ (In x (elements s) × In y (elements t) × (z ≡ y)))
prj2_law s t result a = answers_fact (λ v. (x y z : Value) → Relates v (Pair x y) z ↔ (In x (elements s) × In y (elements t) × (z ≡ y))) (prj2_members s t) result
    (λ v m x y z. both (m (Pair (Pair x y) z)) (in_prj2 s t x y z)) a
