-- The closures by growing: each step has the same closure, and where nothing grows the closure is there.
use Rattle.std.proofs.Common.{◌≡◌, ◌≢◌, ◌⊎◌, ◌↔◌, ◌-◌, ◌<◌, ◌≤◌, ℕ, zero, suc, Bool, true, false, List, [], ◌∷◌, ◌++◌, map, length, arith, refl, sym, ap, ◌∙◌, subst, inl, inr, Result, Ok, Err}
use Rattle.std.specs.Prelude.{IfOk}
use Rattle.std.specs.List.{AllByRecursion, IsDistinct}
use Rattle.std.specs.declared.cmp.Ordering.TheVariants.{Less}
use Rattle.std.specs.Ordering.{is_eq}
use Rattle.ascending.specs.Ascending.{In, IsAscending, set_of}
use Rattle.ascending.specs.Members.{all_from, all_weaker, in_append}
use Rattle.ascending.specs.AscendingLaws.{ascending_head, ascending_tail, in_set_of}
use Rattle.b_values.specs.OrderLaws.{value_total, value_same}
use Rattle.b_values.specs.SameLaws.{value_decides}
use Rattle.b_values.specs.SizeLaws.{count_at, count-elements}
use Rattle.b_values.specs.ValueLaws.{elements_ascend}
use Rattle.b_values.specs.Values.{IsKept, IsValue, elements, node_count, same_value, value_cmp}
use Rattle.b_values.specs.declared.values.Value.{Value, out-Value}
use Rattle.b_values.specs.declared.values.Value.TheOpen.{Value-F}
use Rattle.b_values.specs.declared.values.Value.TheVariants.{Pair}
use Rattle.set_making.specs.declared.OpFault.{OpFault}
use Rattle.set_making.specs.declared.OpFault.TheVariants.{Fault, Memory}
use Rattle.set_making.specs.Making.{set_with, Answers, FaultOf}
use Rattle.set_making.specs.MakingLaws.{set_with_members, set_with_same, set_with_kept, fault_of_more, answers_same}
use Rattle.set_making.specs.Sums.{length_below_sum}
use Rattle.b_relations.specs.Closing.{IsRelation}
use Rattle.b_relations.specs.CoupleLaws.{in_couples, in_couple_map}
use Rattle.set_making.specs.ListMembers.{in_map}
use Rattle.b_relations.specs.Listed.{SameMembers}
use Rattle.b_relations.specs.Relations.{Relates, IsTransitiveClosure, IsReflexiveClosure, couple, couples, couples_in, composed, compose_members, compose_row, field, iterated, closure1_members, closure1_row, closure_members, closure_row}
use Rattle.b_relations.proofs.Paths.{Reaches, iterated_none, no_longer}
use Rattle.b_relations.proofs.Reaching.{Parts, Within, from_one, from_none, in_from_one, in_from_none, in_closure1, in_closure, reaches_first, reaches_on, reaches_least, square_reaches, closed_reaches, same_reaches, stands}
use Rattle.b_relations.proofs.Gathers.{answer_of_fault}
use Rattle.b_relations.proofs.Results.{answers_fact}
use Rattle.b_relations.proofs.RowLaws.{related, in_composed}
use Rattle.b_relations.proofs.RowValues.{PartsAreValues, couples_values, composed_values, couple_map_values}

-- ---- lists of couples

-- couples with the same parts are the same members
pub same_couples : (ps qs : Parts) → SameMembers ps qs → SameMembers (map couple ps) (map couple qs)
same_couples ps qs f z = (
  λ h. let k = (in_map couple z ps).0 h in (in_map couple z qs).1 (k.0, (f k.0).0 k.1, k.2),
  λ h. let k = (in_map couple z qs).0 h in (in_map couple z ps).1 (k.0, (f k.0).1 k.1, k.2),
)

-- a relation's members are the couples of its parts
pub relation_members : (s : Value) → IsRelation s → SameMembers (elements s) (map couple (couples s))
relation_members s rel z = (
  λ h. let k = rel z h in (in_map couple z (couples s)).1 (k.0, (in_couples (elements s) k.0).1 (subst (λ w. In w (elements s)) k.1 h), k.1),
  λ h. let k = (in_map couple z (couples s)).0 h in subst (λ w. In w (elements s)) (sym k.2) ((in_couples (elements s) k.0).0 k.1),
)

-- the set of couples is a relation, with these parts
pub made_relation : (ps : Parts) (v : Value) → set_with (map couple ps) ≡ Ok v → IsRelation v
made_relation ps v e z h = let k = (in_map couple z ps).0 ((set_with_members (map couple ps) v e z).0 h) in (k.0, k.2)

pub made_parts : (ps : Parts) (v : Value) → set_with (map couple ps) ≡ Ok v → SameMembers (couples v) ps
made_parts ps v e p = (
  λ h. (in_couple_map ps p).0 ((set_with_members (map couple ps) v e (couple p)).0 ((in_couples (elements v) p).0 h)),
  λ h. (in_couples (elements v) p).1 ((set_with_members (map couple ps) v e (couple p)).1 ((in_couple_map ps p).1 h)),
)

-- ---- one step of growing

-- a relation and its square
abbrev pub squared : Value → Parts
squared s = couples s ++ composed (couples s) (couples s)

pub doubled_members : (s : Value) → IsRelation s → SameMembers (elements s ++ compose_members s s) (map couple (squared s))
doubled_members s rel z =
    let all = in_append z (elements s) (compose_members s s) in
    let m = relation_members s rel z in
    let ps = couples s in
    let cs = composed ps ps in (
      λ h. elim (all.0 h) [
        | inl k ↦ (let f = (in_map couple z ps).0 (m.0 k) in (in_map couple z (ps ++ cs)).1 (f.0, (in_append f.0 ps cs).1 (inl f.1), f.2))
        | inr k ↦ (let f = (in_map couple z cs).0 k in (in_map couple z (ps ++ cs)).1 (f.0, (in_append f.0 ps cs).1 (inr f.1), f.2))
      ],
      λ h. let f = (in_map couple z (ps ++ cs)).0 h in all.1 (elim ((in_append f.0 ps cs).0 f.1) [
        | inl k ↦ inl (m.1 ((in_map couple z ps).1 (f.0, k, f.2)))
        | inr k ↦ inr ((in_map couple z cs).1 (f.0, k, f.2))
      ]),
    )

-- the step's result is the set of the relation and its square
pub doubled_row : (s : Value) → IsRelation s → set_with (elements s ++ compose_members s s) ≡ set_with (map couple (squared s))
doubled_row s rel = set_with_same (elements s ++ compose_members s s) (map couple (squared s)) (doubled_members s rel)

in_squared : (s x y : Value) → In (x, y) (squared s) ↔ (In (x, y) (couples s) ⊎ In (x, y) (composed (couples s) (couples s)))
in_squared s x y = in_append (x, y) (couples s) (composed (couples s) (couples s))

-- what the step made has the same closure
pub step_closure : (s more : Value) → IsRelation s → set_with (elements s ++ compose_members s s) ≡ Ok more → SameMembers (closure1_members more) (closure1_members s)
step_closure s more rel e =
    let parts = made_parts (squared s) more (sym (doubled_row s rel) ∙ e) in
    same_couples (from_one (couples more)) (from_one (couples s)) (λ p.
    let left = in_from_one (couples more) p.0 p.1 in
    let right = in_from_one (couples s) p.0 p.1 in
    let mid = square_reaches (couples s) (couples more) (λ x y.
    let m = parts (x, y) in
    let n = in_squared s x y in
    (λ h. n.0 (m.0 h), λ h. m.1 (n.1 h))) p.0 p.1 in
    (λ h. right.1 (mid.0 (left.0 h)), λ h. left.1 (mid.1 (right.0 h))))

-- all that the step lists is in the closure
pub step_within : (s : Value) → IsRelation s → (z : Value) → In z (elements s ++ compose_members s s) → In z (closure1_members s)
step_within s rel z h =
    let k = (in_map couple z (squared s)).0 ((doubled_members s rel z).0 h) in
    (in_map couple z (from_one (couples s))).1 (
      k.0,
      (in_from_one (couples s) k.0.0 k.0.1).1 (elim ((in_squared s k.0.0 k.0.1).0 k.1) [
        | inl m ↦ reaches_first (couples s) k.0.0 k.0.1 m
        | inr m ↦ (let c = (in_composed (couples s) (couples s) k.0.0 k.0.1).0 m in
            reaches_on (couples s) k.0.0 c.0 k.0.1 (reaches_first (couples s) k.0.0 c.0 c.1) (reaches_first (couples s) c.0 k.0.1 c.2))
      ]),
      k.2,
    )

pub square_within : (s : Value) → (z : Value) → In z (compose_members s s) → In z (elements s ++ compose_members s s)
square_within s z h = (in_append z (elements s) (compose_members s s)).1 (inr h)

-- ---- where nothing grows

distinct : (xs : List Value) → IsAscending value_cmp xs → IsDistinct same_value xs
unfolding IsDistinct
distinct [] a = tt
distinct (x ∷ xs) a = (all_weaker (λ y. value_cmp x y ≡ Less) (λ y. same_value x y ≡ false) (λ y e. ap is_eq e) xs (ascending_head value_cmp x xs a), distinct xs (ascending_tail value_cmp x xs a))

pub part_length : (xs ys : List Value) → IsAscending value_cmp xs → ((z : Value) → In z xs → In z ys) → length xs ≤ length ys
part_length xs ys a f = no_longer xs ys (distinct xs a) f

not_listed : (z : Value) (xs : List Value) → (In z xs → ⊥) → AllByRecursion (λ y. same_value z y ≡ false) xs
not_listed z xs n = all_from (λ y. same_value z y ≡ false) xs (λ y m. go y m (same_value z y) refl)
  where
    go : (y : Value) → In y xs → (b : Bool) → same_value z y ≡ b → b ≡ false
    go y m true e = absurd (n (subst (λ w. In w xs) (sym ((value_decides z y).0 e)) m))
    go y m false e = refl

decide : (z : Value) (xs : List Value) → In z xs ⊎ (In z xs → ⊥)
decide z [] = inr (λ m. m)
decide z (x ∷ xs) = go (same_value z x) refl (decide z xs)
  where
    go : (b : Bool) → same_value z x ≡ b → In z xs ⊎ (In z xs → ⊥) → In z (x ∷ xs) ⊎ (In z (x ∷ xs) → ⊥)
    go true e more = inl (inl ((value_decides z x).0 e))
    go false e (inl m) = inl (inr m)
    go false e (inr n) = inr (λ m. elim m [ inl f ↦ (let g = (value_decides z x).1 f in cc) | inr k ↦ n k ])

-- an ascending part that is as long as the whole is the whole
pub as_long : (xs ys : List Value) → IsAscending value_cmp xs → ((z : Value) → In z xs → In z ys) → length ys ≤ length xs → (z : Value) → In z ys → In z xs
unfolding IsDistinct
as_long xs ys a f h z m = elim (decide z xs) [
  | inl k ↦ k
  | inr n ↦ absurd (let l = no_longer (z ∷ xs) ys (not_listed z xs n, distinct xs a) (λ w k. elim k [ inl e ↦ subst (λ v. In v ys) (sym e) m | inr g ↦ f w g ]) in omega arith)
]

grows : (s more : Value) → set_with (elements s ++ compose_members s s) ≡ Ok more → (z : Value) → In z (elements s) → In z (elements more)
grows s more e z h = (set_with_members (elements s ++ compose_members s s) more e z).1 ((in_append z (elements s) (compose_members s s)).1 (inl h))

-- where the step made nothing new, it made the closure
pub grown_whole : (s more : Value) → IsKept s → IsRelation s → set_with (elements s ++ compose_members s s) ≡ Ok more → length (elements more) ≡ length (elements s) → closure1_row s ≡ Ok more
grown_whole s more k rel e l =
    let back = as_long (elements s) (elements more) (elements_ascend s k.value) (grows s more e) (omega arith) in
    let closed : Within (composed (couples s) (couples s)) (couples s) = λ x y m.
    (in_couples (elements s) (x, y)).1 (back (Pair x y) ((set_with_members (elements s ++ compose_members s s) more e (Pair x y)).1
    (square_within s (Pair x y) ((in_couple_map (composed (couples s) (couples s)) (x, y)).1 m)))) in
    let same : SameMembers (closure1_members s) (elements s ++ compose_members s s) = λ z. (
      λ h. let f = (in_map couple z (from_one (couples s))).0 h in
          (in_append z (elements s) (compose_members s s)).1 (inl ((relation_members s rel z).1 ((in_map couple z (couples s)).1
          (f.0, closed_reaches (couples s) closed f.0.0 f.0.1 ((in_from_one (couples s) f.0.0 f.0.1).0 f.1), f.2)))),
      step_within s rel z,
    ) in
    set_with_same (closure1_members s) (elements s ++ compose_members s s) same ∙ e

node_positive : (v : Value) → 1 ≤ node_count v
node_positive v = go (out-Value v) refl
  where
    go : (x : Value-F Value) → out-Value v ≡ x → 1 ≤ node_count v
    go (Value-F.Int n) e = omega (arith, count_at v (Value-F.Int n) e)
    go (Value-F.Truth b) e = omega (arith, count_at v (Value-F.Truth b) e)
    go (Value-F.Text s) e = omega (arith, count_at v (Value-F.Text s) e)
    go (Value-F.Elem s i) e = omega (arith, count_at v (Value-F.Elem s i) e)
    go (Value-F.Pair a b) e = omega (arith, count_at v (Value-F.Pair a b) e)
    go (Value-F.Set xs) e = omega (arith, count_at v (Value-F.Set xs) e)

-- a kept set has at most a million members
pub few_members : (v : Value) → IsKept v → length (elements v) ≤ 1000000
few_members v k = let s = k.size in omega (arith, length_below_sum node_count node_positive (elements v), count-elements v)

-- ---- what a step owes

pub step_kept : (s more : Value) → IsKept s → IsRelation s → set_with (elements s ++ compose_members s s) ≡ Ok more → IsKept more
step_kept s more k rel e = set_with_kept (map couple (squared s)) more
    (couple_map_values (squared s) (λ p m. elim ((in_append p (couples s) (composed (couples s) (couples s))).0 m) [
      | inl f ↦ couples_values s k.value p f
      | inr f ↦ composed_values (couples s) (couples s) (couples_values s k.value) (couples_values s k.value) p f
    ]))
    (sym (doubled_row s rel) ∙ e)

pub step_relation : (s more : Value) → IsRelation s → set_with (elements s ++ compose_members s s) ≡ Ok more → IsRelation more
step_relation s more rel e = made_relation (squared s) more (sym (doubled_row s rel) ∙ e)

pub step_shorter : (s more : Value) → IsKept s → IsRelation s → set_with (elements s ++ compose_members s s) ≡ Ok more → length (elements more) ≢ length (elements s)
    → 1000000 - length (elements more) < 1000000 - length (elements s)
step_shorter s more k rel e n =
    let l = part_length (elements s) (elements more) (elements_ascend s k.value) (grows s more e) in
    let u = few_members more (step_kept s more k rel e) in
    omega arith

pub step_answer : (s more : Value) (r : Result Value OpFault) → IsRelation s → set_with (elements s ++ compose_members s s) ≡ Ok more → Answers (closure1_row more) r → Answers (closure1_row s) r
step_answer s more r rel e a = answers_same (closure1_members more) (closure1_members s) r (step_closure s more rel e) a

fault_of_answer : (xs : List Value) (f : OpFault) → Answers (set_with xs) (Err f) → FaultOf (set_with xs) f
fault_of_answer xs (Fault k) a = a
fault_of_answer xs Memory a = a

-- a fault at part of the members is that of all
pub part_fault : (xs ys : List Value) (f : OpFault) → ((z : Value) → In z xs → In z ys) → Answers (set_with xs) (Err f) → Answers (set_with ys) (Err f)
part_fault xs ys f h a = answer_of_fault ys f (fault_of_more xs ys f h (fault_of_answer xs f a))

-- ---- from the couples alone

pub alone_closure : (r v : Value) (result : Result Value OpFault) → set_with (map couple (couples r)) ≡ Ok v → Answers (closure1_row v) result → Answers (closure1_row r) result
alone_closure r v result e a = answers_same (closure1_members v) (closure1_members r) result (same_couples (from_one (couples v)) (from_one (couples r)) (λ p.
    let left = in_from_one (couples v) p.0 p.1 in
    let right = in_from_one (couples r) p.0 p.1 in
    let mid = same_reaches (couples v) (couples r) (λ x y. made_parts (couples r) v e (x, y)) p.0 p.1 in
    (λ h. right.1 (mid.0 (left.0 h)), λ h. left.1 (mid.1 (right.0 h))))) a

pub alone_kept : (r v : Value) → IsKept r → set_with (map couple (couples r)) ≡ Ok v → IsKept v
alone_kept r v k e = set_with_kept (map couple (couples r)) v (couple_map_values (couples r) (couples_values r k.value)) e

pub alone_within : (r z : Value) → In z (map couple (couples r)) → In z (closure1_members r)
alone_within r z h = let k = (in_map couple z (couples r)).0 h in
    (in_map couple z (from_one (couples r))).1 (k.0, (in_from_one (couples r) k.0.0 k.0.1).1 (reaches_first (couples r) k.0.0 k.0.1 k.1), k.2)

-- ---- the laws

field_values : (ps : Parts) → PartsAreValues ps → (w : Value) → In w (field ps) → IsValue w
field_values ps h w m = elim ((in_append w (map (λ (q : Value × Value). q.0) ps) (map (λ (q : Value × Value). q.1) ps)).0 m) [
  | inl f ↦ (let k = (in_map (λ (q : Value × Value). q.0) w ps).0 f in subst IsValue (sym k.2) (h k.0 k.1).0)
  | inr f ↦ (let k = (in_map (λ (q : Value × Value). q.1) w ps).0 f in subst IsValue (sym k.2) (h k.0 k.1).1)
]

twin_values : (p : Value × Value) (w : Value) → p ≡ (w, w) → IsValue w → IsValue p.0 × IsValue p.1
twin_values p w e v = (subst IsValue (sym (ap (λ q. q.0) e)) v, subst IsValue (sym (ap (λ q. q.1) e)) v)

iterated_values : (ps : Parts) → PartsAreValues ps → (n : ℕ) → PartsAreValues (iterated ps n)
iterated_values ps h zero = λ p m. let k = (in_map (λ (w : Value). (w, w)) p (field ps)).0 m in twin_values p k.0 k.2 (field_values ps h k.0 k.1)
iterated_values ps h (suc n) = composed_values (iterated ps n) ps (iterated_values ps h n) h

pub iterated_are_values : (r : Value) → IsValue r → (n : ℕ) → AllByRecursion IsValue (map couple (iterated (couples r) n))
iterated_are_values r h n = couple_map_values (iterated (couples r) n) (iterated_values (couples r) (couples_values r h) n)

reached_values : (ps : Parts) → PartsAreValues ps → (x z : Value) → Reaches ps x z → IsValue x × IsValue z
reached_values ps h x z m = iterated_values ps h (suc m.0) (x, z) m.1

pub closure1_values : (r : Value) → IsValue r → AllByRecursion IsValue (closure1_members r)
closure1_values r h = couple_map_values (from_one (couples r)) (λ p m. reached_values (couples r) (couples_values r h) p.0 p.1 ((in_from_one (couples r) p.0 p.1).0 m))

pub closure_values : (r : Value) → IsValue r → AllByRecursion IsValue (closure_members r)
closure_values r h = couple_map_values (from_none (couples r)) (λ p m. elim ((in_from_none (couples r) p.0 p.1).0 m) [
  | inl f ↦ iterated_values (couples r) (couples_values r h) 0 p f
  | inr f ↦ reached_values (couples r) (couples_values r h) p.0 p.1 f
])

pub closure1_law : (r : Value) (result : Result Value OpFault) → Answers (closure1_row r) result → IfOk result (λ v. IsTransitiveClosure r v)
closure1_law r result a = answers_fact (λ v. IsTransitiveClosure r v) (closure1_members r) result (λ v m.
    let same : (x z : Value) → Relates v x z ↔ Reaches (couples r) x z = λ x z. (λ h. (in_closure1 r x z).0 ((m (Pair x z)).0 h), λ h. (m (Pair x z)).1 ((in_closure1 r x z).1 h)) in
    record {
      contains = λ x y h. (same x y).1 (reaches_first (couples r) x y ((related r x y).1 h));
      transitive = λ x y z h k. (same x z).1 (reaches_on (couples r) x y z ((same x y).0 h) ((same y z).0 k));
      least = λ t i on x z h. reaches_least (couples r) (Relates t) (λ a b k. i a b ((related r a b).0 k)) on x z ((same x z).0 h);
    }) a

pub closure_law : (r : Value) (result : Result Value OpFault) → Answers (closure_row r) result → IfOk result (λ v. IsReflexiveClosure r v)
closure_law r result a = answers_fact (λ v. IsReflexiveClosure r v) (closure_members r) result (λ v m.
    let ps = couples r in
    let same : (x z : Value) → Relates v x z ↔ (In (x, z) (iterated (couples r) 0) ⊎ Reaches (couples r) x z) = λ x z. (λ h. (in_closure r x z).0 ((m (Pair x z)).0 h), λ h. (m (Pair x z)).1 ((in_closure r x z).1 h)) in
    record {
      contains = λ x y h. (same x y).1 (inr (reaches_first ps x y ((related r x y).1 h)));
      reflexive = λ x h. (same x x).1 (inl ((iterated_none ps x x).1 (refl, (stands r x).1 h)));
      transitive = λ x y z h k. (same x z).1 (elim ((same x y).0 h) [
        | inl f ↦ (let e = ((iterated_none ps x y).0 f).0 in subst (λ w. In (w, z) (iterated (couples r) 0) ⊎ Reaches (couples r) w z) (sym e) ((same y z).0 k))
        | inr f ↦ elim ((same y z).0 k) [
          | inl g ↦ (let e = ((iterated_none ps y z).0 g).0 in inr (subst (λ w. Reaches (couples r) x w) e f))
          | inr g ↦ inr (reaches_on ps x y z f g)
        ]
      ]);
      least = λ t i self on x z h. elim ((same x z).0 h) [
        | inl f ↦ (let e = (iterated_none ps x z).0 f in subst (λ w. Relates t x w) e.0 (self x ((stands r x).0 e.1)))
        | inr f ↦ reaches_least ps (Relates t) (λ a b k. i a b ((related r a b).0 k)) on x z f
      ];
    }) a

-- ---- the closure with each value that stands in a couple

pub with_standing_members : (r ways : Value) → closure1_row r ≡ Ok ways → SameMembers (elements ways ++ set_of value_cmp (map couple (iterated (couples r) 0))) (closure_members r)
with_standing_members r ways e z =
    let all = in_append z (elements ways) (set_of value_cmp (map couple (iterated (couples r) 0))) in
    let w = set_with_members (closure1_members r) ways e z in
    let o = in_set_of value_cmp value_total value_same z (map couple (iterated (couples r) 0)) in
    let whole = in_map couple z (from_none (couples r)) in (
      λ h. elim (all.0 h) [
        | inl k ↦ (let f = (in_map couple z (from_one (couples r))).0 (w.0 k) in whole.1 (f.0, (in_from_none (couples r) f.0.0 f.0.1).1 (inr ((in_from_one (couples r) f.0.0 f.0.1).0 f.1)), f.2))
        | inr k ↦ (let f = (in_map couple z (iterated (couples r) 0)).0 (o.0 k) in whole.1 (f.0, (in_from_none (couples r) f.0.0 f.0.1).1 (inl f.1), f.2))
      ],
      λ h. let f = whole.0 h in all.1 (elim ((in_from_none (couples r) f.0.0 f.0.1).0 f.1) [
        | inl k ↦ inr (o.1 ((in_map couple z (iterated (couples r) 0)).1 (f.0, k, f.2)))
        | inr k ↦ inl (w.1 ((in_map couple z (from_one (couples r))).1 (f.0, (in_from_one (couples r) f.0.0 f.0.1).1 k, f.2)))
      ]),
    )

pub closure1_within : (r z : Value) → In z (closure1_members r) → In z (closure_members r)
closure1_within r z h = let f = (in_map couple z (from_one (couples r))).0 h in
    (in_map couple z (from_none (couples r))).1 (f.0, (in_from_none (couples r) f.0.0 f.0.1).1 (inr ((in_from_one (couples r) f.0.0 f.0.1).0 f.1)), f.2)

-- the relation and its square, united
pub doubled_is : (s square : Value) (xs ys : List Value) (r : Result Value OpFault) → compose_row s s ≡ Ok square → xs ≡ elements s → ys ≡ elements square → Answers (set_with (xs ++ ys)) r → Answers (set_with (elements s ++ compose_members s s)) r
doubled_is s square xs ys r e f g a = answers_same (xs ++ ys) (elements s ++ compose_members s s) r (λ z.
    let left = in_append z xs ys in
    let right = in_append z (elements s) (compose_members s s) in
    let m = set_with_members (compose_members s s) square e z in (
      λ h. right.1 (elim (left.0 h) [ inl k ↦ inl (subst (In z) f k) | inr k ↦ inr (m.0 (subst (In z) g k)) ]),
      λ h. left.1 (elim (right.0 h) [ inl k ↦ inl (subst (In z) (sym f) k) | inr k ↦ inr (subst (In z) (sym g) (m.1 k)) ]),
    )) a

-- the ways and what stands, united
pub standing_is : (r ways : Value) (xs ys items relation : List Value) (result : Result Value OpFault) → relation ≡ elements r → items ≡ set_of value_cmp (map couple (iterated (couples_in relation) 0)) → xs ≡ elements ways → ys ≡ items
    → Answers (set_with (xs ++ ys)) result → Answers (set_with (elements ways ++ set_of value_cmp (map couple (iterated (couples r) 0)))) result
standing_is r ways xs ys items relation result e f g h a =
    let rest : ys ≡ set_of value_cmp (map couple (iterated (couples r) 0)) = h ∙ f ∙ ap (λ l. set_of value_cmp (map couple (iterated (couples_in l) 0))) e in
    subst (λ l. Answers (set_with l) result) (ap (λ l. l ++ ys) g ∙ ap (λ l. elements ways ++ l) rest) a
