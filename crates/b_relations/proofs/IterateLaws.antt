-- Iterates by squaring, and compositions that are gathered with doubles taken out.
use Rattle.std.proofs.Common.{◌≡◌, ◌↔◌, ◌+◌, ◌/◌, ◌%◌, ◌<◌, ◌≤◌, ℕ, pos, negsuc, zero, suc, List, [], ◌∷◌, ◌++◌, map, length, get_or, take, Result, Ok, Err, arith, append-nil, refl, sym, ap, ◌∙◌, subst, inl, inr}
use Rattle.std.specs.Prelude.{IfOk}
use Rattle.std.specs.List.{flat_map, filter, cons_option}
use Rattle.std.specs.declared.alloc.AllocError.{AllocError}
use Rattle.std.proofs.lemmas.List.{take_all}
use Rattle.ascending.specs.Ascending.{In, set_of}
use Rattle.ascending.specs.Members.{in_append}
use Rattle.ascending.specs.AscendingLaws.{in_set_of, set_of_same}
use Rattle.b_values.specs.OrderLaws.{value_total, value_same}
use Rattle.b_values.specs.Values.{IsKept, elements, value_cmp, same_value}
use Rattle.b_values.specs.declared.values.FaultKind.TheVariants.{IllDefined}
use Rattle.b_values.specs.declared.values.Value.{Value, out-Value}
use Rattle.b_values.specs.declared.values.Value.TheVariants.{Int, Pair, outs-Int}
use Rattle.set_making.specs.declared.OpFault.{OpFault}
use Rattle.set_making.specs.Making.{set_with, Answers}
use Rattle.set_making.specs.MakingLaws.{answers_kept}
use Rattle.b_relations.specs.CoupleLaws.{in_couples, in_couple_map, parts-Pair}
use Rattle.b_relations.specs.Joining.{joined, joined_to}
use Rattle.b_relations.specs.declared.joining.Join.TheVariants.{Compose}
use Rattle.set_making.specs.ListMembers.{in_map}
use Rattle.b_relations.specs.Listed.{SameMembers}
use Rattle.b_relations.specs.Relations.{Relates, Leads, parts, couple, couples, couples_in, composed, field, iterated, iterate_layer, iterate_row}
use Rattle.b_relations.proofs.ClosureLaws.{same_couples, iterated_are_values}
use Rattle.b_relations.proofs.Gathers.{flat_at, by_members}
use Rattle.b_relations.proofs.JoinLaws.{composed_values}
use Rattle.b_relations.proofs.Paths.{iterated_add, iterated_split, iterated_next}
use Rattle.b_relations.proofs.Reaching.{Parts, leads}
use Rattle.b_relations.proofs.Results.{answers_relation}
use Rattle.b_relations.proofs.RowLaws.{in_composed}

-- ---- lists with the same members

pub same_on : {X : Type 0} (xs ys zs : List X) → SameMembers xs ys → SameMembers ys zs → SameMembers xs zs
same_on xs ys zs f g z = (λ h. (g z).0 ((f z).0 h), λ h. (f z).1 ((g z).1 h))

pub same_from : {X : Type 0} (xs ys : List X) → xs ≡ ys → SameMembers xs ys
same_from xs ys e = subst (λ l. SameMembers xs l) e (λ z. (λ h. h, λ h. h))

pub set_same : (xs ys zs : List Value) → zs ≡ set_of value_cmp xs → SameMembers xs ys → zs ≡ set_of value_cmp ys
set_same xs ys zs e f = e ∙ set_of_same value_cmp value_total value_same xs ys f

pub set_members : (xs ys : List Value) → ys ≡ set_of value_cmp xs → SameMembers ys xs
set_members xs ys e = subst (λ l. SameMembers l xs) (sym e) (λ z. in_set_of value_cmp value_total value_same z xs)

-- the couples of a set of couples
pub made_pairs : (qs : Parts) (h : List Value) → h ≡ set_of value_cmp (map couple qs) → SameMembers (couples_in h) qs
made_pairs qs h e p =
    let m = set_members (map couple qs) h e (couple p) in
    (λ k. (in_couple_map qs p).0 (m.0 ((in_couples h p).0 k)), λ k. (in_couples h p).1 (m.1 ((in_couple_map qs p).1 k)))

-- ---- squaring

pub square : (ps : Parts) (k : ℕ) (half items : List Value) → half ≡ set_of value_cmp (map couple (iterated ps k)) → items ≡ set_of value_cmp (map couple (composed (couples_in half) (couples_in half)))
    → items ≡ set_of value_cmp (map couple (iterated ps (k + k)))
square ps k half items e f =
    let m = made_pairs (iterated ps k) half e in
    set_same (map couple (composed (couples_in half) (couples_in half))) (map couple (iterated ps (k + k))) items f
    (same_couples (composed (couples_in half) (couples_in half)) (iterated ps (k + k)) (λ p. (
      λ h. let c = (in_composed (couples_in half) (couples_in half) p.0 p.1).0 h in iterated_add ps k k p.0 c.0 p.1 ((m (p.0, c.0)).0 c.1) ((m (c.0, p.1)).0 c.2),
      λ h. let c = iterated_split ps k k p.0 p.1 h in (in_composed (couples_in half) (couples_in half) p.0 p.1).1 (c.0, (m (p.0, c.0)).1 c.1, (m (c.0, p.1)).1 c.2),
    )))

-- and one step more
pub once_more : (ps : Parts) (k : ℕ) (whole items : List Value) → whole ≡ set_of value_cmp (map couple (iterated ps k)) → items ≡ set_of value_cmp (map couple (composed (couples_in whole) ps))
    → items ≡ set_of value_cmp (map couple (iterated ps (suc k)))
once_more ps k whole items e f =
    let m = made_pairs (iterated ps k) whole e in
    set_same (map couple (composed (couples_in whole) ps)) (map couple (iterated ps (suc k))) items f
    (same_couples (composed (couples_in whole) ps) (iterated ps (suc k)) (λ p. (
      λ h. let c = (in_composed (couples_in whole) ps p.0 p.1).0 h in (iterated_next ps k p.0 p.1).1 (c.0, (m (p.0, c.0)).0 c.1, c.2),
      λ h. let c = (iterated_next ps k p.0 p.1).0 h in (in_composed (couples_in whole) ps p.0 p.1).1 (c.0, (m (p.0, c.0)).1 c.1, c.2),
    )))

at_times : (ps : Parts) (m n : ℕ) (items : List Value) → m ≡ n → items ≡ set_of value_cmp (map couple (iterated ps m)) → items ≡ set_of value_cmp (map couple (iterated ps n))
at_times ps m n items e = subst (λ i. items ≡ set_of value_cmp (map couple (iterated ps i))) e

pub even_times : (ps : Parts) (n : ℕ) (half items : List Value) → n % 2 ≡ 0 → half ≡ set_of value_cmp (map couple (iterated ps (n / 2))) → items ≡ set_of value_cmp (map couple (composed (couples_in half) (couples_in half)))
    → items ≡ set_of value_cmp (map couple (iterated ps n))
even_times ps n half items r e f = at_times ps (n / 2 + n / 2) n items (omega arith) (square ps (n / 2) half items e f)

pub odd_times : (ps : Parts) (n : ℕ) (half whole items : List Value) → (n % 2 ≡ 0 → ⊥) → half ≡ set_of value_cmp (map couple (iterated ps (n / 2))) → whole ≡ set_of value_cmp (map couple (composed (couples_in half) (couples_in half)))
    → items ≡ set_of value_cmp (map couple (composed (couples_in whole) ps)) → items ≡ set_of value_cmp (map couple (iterated ps n))
odd_times ps n half whole items r e f g =
    let one : n % 2 ≡ 1 = rest_one (n % 2) r (omega arith) in
    at_times ps (suc (n / 2 + n / 2)) n items (omega arith) (once_more ps (n / 2 + n / 2) whole items (square ps (n / 2) half whole e f) g)
  where
    rest_one : (m : ℕ) → (m ≡ 0 → ⊥) → m < 2 → m ≡ 1
    rest_one zero h l = absurd (h refl)
    rest_one (suc zero) h l = refl
    rest_one (suc (suc m)) h l = absurd (omega arith)

-- ---- what stands in a couple

pub standing_made : (ps : Parts) (found stands pairs items : List Value) → found ≡ map (λ p. p.0) ps ++ map (λ p. p.1) ps → stands ≡ set_of value_cmp found → pairs ≡ map (λ x. Pair x x) stands → items ≡ set_of value_cmp pairs
    → items ≡ set_of value_cmp (map couple (iterated ps 0))
standing_made ps found stands pairs items e f g h =
    set_same pairs (map couple (iterated ps 0)) items h (λ z.
    let left = in_map (λ (x : Value). Pair x x) z stands in
    let outer = in_map couple z (iterated ps 0) in
    let m = set_members found stands f in (
      λ k. let w = left.0 (subst (In z) g k) in outer.1 ((w.0, w.0), (in_map (λ (x : Value). (x, x)) (w.0, w.0) (field ps)).1 (w.0, subst (In w.0) e ((m w.0).0 w.1), refl), w.2),
      λ k. let w = outer.0 k in
          let v = (in_map (λ (x : Value). (x, x)) w.0 (field ps)).0 w.1 in
          subst (In z) (sym g) (left.1 (v.0, (m v.0).1 (subst (In v.0) (sym e) v.1), w.2 ∙ ap couple v.2)),
    ))

-- ---- gathering compositions

pub joined_members : (ps qs : Parts) → joined Compose ps qs ≡ map couple (composed ps qs)
joined_members = composed_values

-- one member's compositions, where it is a couple
pub ends_joined : (m a b : Value) (s : List Value) (group old new : List Value) (x y : Value) → m ≡ Pair a b → x ≡ a → y ≡ b
    → new ≡ old ++ map (λ q. couple (x, q.1)) (couples_in group) → couples_in group ≡ filter (λ q. same_value q.0 y) (couples_in s) → new ≡ old ++ joined Compose (couples_in (m ∷ [])) (couples_in s)
ends_joined m a b s group old new x y e f g h k =
    let one : couples_in (m ∷ []) ≡ (a, b) ∷ [] = ap (λ o. cons_option o []) (ap parts e ∙ parts-Pair a b) in
    let inner : map (λ q. couple (x, q.1)) (couples_in group) ≡ map (λ q. couple (a, q.1)) (filter (λ q. same_value q.0 b) (couples_in s)) = rw (k, f, g) refl in
    h ∙ ap (λ l. old ++ l) (inner ∙ sym (append-nil _) ∙ ap (λ l. joined Compose l (couples_in s)) (sym one))

-- a loop's step
pub compose_step : (r s : List Value) (i : ℕ) (m : Value) (found pushed new : List Value) → i < length r → m ≡ get_or r i m
    → SameMembers found (flat_map (λ m. joined Compose (couples_in (m ∷ [])) (couples_in s)) (take i r)) → pushed ≡ found ++ joined Compose (couples_in (m ∷ [])) (couples_in s) → SameMembers new pushed
    → SameMembers new (flat_map (λ m. joined Compose (couples_in (m ∷ [])) (couples_in s)) (take (i + 1) r))
compose_step r s i m found pushed new h e f g k =
    let F : Value → List Value = λ m. joined Compose (couples_in (m ∷ [])) (couples_in s) in
    subst (SameMembers new) (sym (flat_at F r i m h e)) (λ z.
    let outer = k z in
    let both = in_append z found (F m) in
    let whole = in_append z (flat_map F (take i r)) (F m) in (
      λ n. whole.1 (elim (both.0 (subst (In z) g (outer.0 n))) [ inl a ↦ inl ((f z).0 a) | inr b ↦ inr b ]),
      λ n. outer.1 (subst (In z) (sym g) (both.1 (elim (whole.0 n) [ inl a ↦ inl ((f z).1 a) | inr b ↦ inr b ]))),
    ))

-- a loop's end
pub compose_end : (r s : List Value) (i : ℕ) (found items : List Value) → length r ≤ i → SameMembers found (flat_map (λ m. joined Compose (couples_in (m ∷ [])) (couples_in s)) (take i r)) → items ≡ set_of value_cmp found
    → items ≡ set_of value_cmp (map couple (composed (couples_in r) (couples_in s)))
compose_end r s i found items h f e =
    let F : Value → List Value = λ m. joined Compose (couples_in (m ∷ [])) (couples_in s) in
    let whole : flat_map F (take i r) ≡ map couple (composed (couples_in r) (couples_in s)) =
    ap (flat_map F) (take_all i r h) ∙ by_members (joined_to Compose (couples_in s)) r ∙ composed_values (couples_in r) (couples_in s) in
    set_same found (map couple (composed (couples_in r) (couples_in s))) items e (subst (SameMembers found) whole f)

-- ---- the row

pub iterate_at : (r n : Value) (k : ℕ) → n ≡ Int (pos k) → iterate_row r n ≡ set_with (map couple (iterated (couples r) k))
iterate_at r n k e = ap (iterate_layer (couples r)) (ap out-Value e ∙ outs-Int (pos k))

pub iterate_below : (r n : Value) (m : ℕ) → n ≡ Int (negsuc m) → iterate_row r n ≡ Err IllDefined
iterate_below r n m e = ap (iterate_layer (couples r)) (ap out-Value e ∙ outs-Int (negsuc m))

pub iterate_kept : (r : Value) (k : ℕ) (result : Result Value OpFault) → IsKept r → Answers (set_with (map couple (iterated (couples r) k))) result → IfOk result (λ v. IsKept v)
iterate_kept r k result h a = answers_kept (map couple (iterated (couples r) k)) result (iterated_are_values r h.value k) a

pub iterate_leads : (r n : Value) (k : ℕ) (result : Result Value OpFault) → n ≡ Int (pos k) → Answers (iterate_row r n) result → IfOk result (λ v. (x z : Value) → Relates v x z ↔ Leads r k x z)
iterate_leads r n k result e a = answers_relation (Leads r k) (map couple (iterated (couples r) k)) result (λ x z.
    let whole = in_couple_map (iterated (couples r) k) (x, z) in
    let l = leads r k x z in
    (λ h. l.0 (whole.0 h), λ h. whole.1 (l.1 h))) (subst (λ row. Answers row result) (iterate_at r n k e) a)

-- the iterate of a relation's members
pub at_relation : (r : Value) (k : ℕ) (relation items : List Value) → relation ≡ elements r → items ≡ set_of value_cmp (map couple (iterated (couples_in relation) k)) → items ≡ set_of value_cmp (map couple (iterated (couples r) k))
at_relation r k relation items e f = f ∙ ap (λ l. set_of value_cmp (map couple (iterated (couples_in l) k))) e

if_ok : {T E : Type 0} (P Q : T → Type 0) → ((v : T) → P v → Q v) → (r : Result T E) → IfOk r P → IfOk r Q
if_ok P Q f (Ok v) h = f v h
if_ok P Q f (Err e) h = tt

-- the last step of an even number of times
pub even_steps : (ps : Parts) (n : ℕ) (half xs ys items : List Value) → n % 2 ≡ 0 → half ≡ set_of value_cmp (map couple (iterated ps (n / 2))) → xs ≡ half → ys ≡ half
    → items ≡ set_of value_cmp (map couple (composed (couples_in xs) (couples_in ys))) → items ≡ set_of value_cmp (map couple (iterated ps n))
even_steps ps n half xs ys items r e f g h =
    even_times ps n half items r e (h ∙ ap (λ l. set_of value_cmp (map couple (composed (couples_in l) (couples_in ys)))) f ∙ ap (λ l. set_of value_cmp (map couple (composed (couples_in half) (couples_in l)))) g)

-- and of an odd number
pub odd_steps : (relation : List Value) (n : ℕ) (half xs ys whole zs : List Value) (result : Result (List Value) AllocError) → (n % 2 ≡ 0 → ⊥) → half ≡ set_of value_cmp (map couple (iterated (couples_in relation) (n / 2))) → xs ≡ half → ys ≡ half
    → whole ≡ set_of value_cmp (map couple (composed (couples_in xs) (couples_in ys))) → zs ≡ whole
    → IfOk result (λ items. items ≡ set_of value_cmp (map couple (composed (couples_in zs) (couples_in relation)))) → IfOk result (λ items. items ≡ set_of value_cmp (map couple (iterated (couples_in relation) n)))
odd_steps relation n half xs ys whole zs result r e f g h k =
    if_ok (λ items. items ≡ set_of value_cmp (map couple (composed (couples_in zs) (couples_in relation)))) (λ items. items ≡ set_of value_cmp (map couple (iterated (couples_in relation) n)))
    (λ items m. odd_times (couples_in relation) n half whole items r e
    (h ∙ ap (λ l. set_of value_cmp (map couple (composed (couples_in l) (couples_in ys)))) f ∙ ap (λ l. set_of value_cmp (map couple (composed (couples_in half) (couples_in l)))) g)
    (m ∙ ap (λ l. set_of value_cmp (map couple (composed (couples_in l) (couples_in relation)))) k))
    result
