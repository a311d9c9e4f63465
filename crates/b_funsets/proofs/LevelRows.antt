-- The rows of a level are the functions over its elements that can be completed: each is one, and each one is there.
use Rattle.std.proofs.Common.{◌≡◌, ◌↔◌, ℕ, ◌+◌, ◌≤◌, Bool, true, false, List, [], ◌∷◌, map, length, arith, refl, sym, ap, ◌∙◌, subst, inl, inr}
use Rattle.std.specs.Prelude.{◌&&◌, ◌||◌, not, nat_lt, reverse, filter, if◌then◌else◌}
use Rattle.std.specs.List.{flat_map}
use Rattle.std.proofs.lemmas.List.{reverse-append}
use Rattle.std.proofs.lemmas.Bool.{lt-ltb}
use Rattle.std.specs.declared.cmp.Ordering.TheVariants.{Less}
use Rattle.ascending.specs.Ascending.{In, IsAscending}
use Rattle.ascending.specs.Members.{all_in, all_from, in_append}
use Rattle.ascending.specs.AscendingLaws.{ascending_none, ascending_cons, ascending_head, ascending_tail, not_below_itself}
use Rattle.b_values.specs.OrderLaws.{value_total}
use Rattle.b_values.specs.SameLaws.{value_decides}
use Rattle.b_values.specs.SizeLaws.{count-Set}
use Rattle.b_values.specs.Values.{node_count, same_value, value_cmp}
use Rattle.b_values.specs.declared.values.Value.{Value}
use Rattle.b_values.specs.declared.values.Value.TheVariants.{Pair, Set}
use Rattle.b_funsets.specs.declared.levels.Arrow.{Arrow}
use Rattle.b_funsets.specs.declared.levels.Row.{Row}
use Rattle.b_funsets.specs.Arrows.{first, second}
use Rattle.b_funsets.specs.Levels.{read, hits, counts, viable, left_after, takes, skips, extended, children, level}
use Rattle.b_funsets.proofs.SublistLaws.{in_map, map_from, ComesFrom}
use Rattle.b_funsets.proofs.SubsetSizes.{count_with_first}
use Rattle.b_funsets.proofs.CoupleLaws.{IsOf, lower_left}
use Rattle.b_funsets.proofs.ArrowTests.{and_parts, both_true, implies, implied, not_true, either_way, any_true, true_any, in_filter, in_reverse, first-Pair, second-Pair, OneImage, OneArgument, AllFirst}
use Rattle.b_funsets.proofs.Counting.{free, left_of, hits_reverse, left_next, free_fresh, IsReady, ready_means}

-- ---- lists of lists

pub record FromOne {X Y : Type 0} (f : X → List Y) (xs : List X) (z : Y) : Type 0 where
  pub source : X
  pub member : In source xs
  pub part : In z (f source)

pub flat_map_from : {X Y : Type 0} (f : X → List Y) (z : Y) (xs : List X) → In z (flat_map f xs) → FromOne f xs z
flat_map_from f z [] h = absurd h
flat_map_from f z (x ∷ xs) h = elim ((in_append z (f x) (flat_map f xs)).0 h) [
  | inl m ↦ record { source = x; member = inl refl; part = m }
  | inr m ↦ (let c = flat_map_from f z xs m in record { source = c.source; member = inr c.member; part = c.part })
]

pub in_flat_map : {X Y : Type 0} (f : X → List Y) (z : Y) (xs : List X) (x : X) → In x xs → In z (f x) → In z (flat_map f xs)
in_flat_map f z [] x h k = absurd h
in_flat_map f z (y ∷ ys) x (inl e) k = (in_append z (f y) (flat_map f ys)).1 (inl (subst (λ w. In z (f w)) e k))
in_flat_map f z (y ∷ ys) x (inr h) k = (in_append z (f y) (flat_map f ys)).1 (inr (in_flat_map f z ys x h k))

-- ---- what a row is

-- r is a function over s that k more elements can complete, with what the row notes of it
pub record IsPart (a : Arrow) (s t : List Value) (k : ℕ) (r : List Value) (left nodes : ℕ) : Type 0 where
  pub within : (z : Value) → In z r → IsOf s t z
  pub ascends : IsAscending value_cmp r
  pub one_image : OneImage r
  pub all_first : a.total ≡ true → AllFirst s r
  pub one_argument : a.one_to_one ≡ true → OneArgument r
  pub counted : left ≡ left_of a t r
  pub ready : IsReady a k left (nat_lt 0 (length t))
  pub weighed : nodes ≡ node_count (Set r)

abbrev pub IsPartRow : Arrow → List Value → List Value → ℕ → Row → Type 0
IsPartRow a s t k row = IsPart a s t k (read row) row.left row.nodes

pub read_extended : (row : Row) (c : Value) → read (extended row c) ≡ c ∷ read row
read_extended row c = reverse-append row.couples (c ∷ [])

pub first_of : {s t : List Value} (z : Value) (o : IsOf s t z) → first z ≡ o.first
first_of z o = ap first o.parts ∙ first-Pair o.first o.second

pub wider : {s t : List Value} (x z : Value) → IsOf s t z → IsOf (x ∷ s) t z
wider x z o = record { first = o.first; second = o.second; parts = o.parts; left = inr o.left; right = o.right }

-- an element is not among those above it
pub not_later : (x : Value) (s : List Value) → IsAscending value_cmp (x ∷ s) → In x s → ⊥
not_later x s a h = not_below_itself value_cmp value_total x (all_in (λ w. value_cmp x w ≡ Less) s (ascending_head value_cmp x s a) x h)

-- the row may take the couple where it is fresh, if it has to be, and the longer row can be completed
pub takes_means : (a : Arrow) (k : ℕ) (some : Bool) (row : Row) (c : Value) →
    (takes a k some row c ≡ true) ↔ ((a.one_to_one ≡ true → hits (read row) (second c) ≡ false) × IsReady a k (left_after row.left (hits (read row) (second c))) some)
takes_means a k some row c =
    let turned : hits (read row) (second c) ≡ hits row.couples (second c) = hits_reverse row.couples (second c) in
    let means = ready_means a k (left_after row.left (hits row.couples (second c))) some in (
      λ e. (let p = and_parts _ _ e in
          (λ o. turned ∙ not_true _ (implies a.one_to_one (not (hits row.couples (second c))) p.0 o), subst (λ b. IsReady a k (left_after row.left b) some) (sym turned) (means.0 p.1))),
      λ h. both_true _ _ (implied a.one_to_one (not (hits row.couples (second c))) (λ o. ap not (sym turned ∙ h.0 o))) (means.1 (subst (λ b. IsReady a k (left_after row.left b) some) turned h.1)),
    )

module _ (a : Arrow) (t : List Value) (rising : IsAscending value_cmp t) where
  -- a part with another couple in front
  pub part_extended : (s r : List Value) (k left nodes : ℕ) (x y : Value) → IsAscending value_cmp (x ∷ s) → In y t → IsPart a s t (k + 1) r left nodes
      → (a.one_to_one ≡ true → hits r (second (Pair x y)) ≡ false)
      → IsReady a k (left_after left (hits r (second (Pair x y)))) (nat_lt 0 (length t))
      → IsPart a (x ∷ s) t k (Pair x y ∷ r) (left_after left (hits r (second (Pair x y)))) (nodes + node_count (Pair x y))
  part_extended s r k left nodes x y up m h fresh ready = record {
    within = λ z n. elim n [
      | inl e ↦ record { first = x; second = y; parts = e; left = inl refl; right = m }
      | inr n ↦ wider x z (h.within z n)
    ];
    ascends = ascending_cons value_cmp (Pair x y) r
        (all_from (λ z. value_cmp (Pair x y) z ≡ Less) r (λ z n. let o = h.within z n in
        subst (λ w. value_cmp (Pair x y) w ≡ Less) (sym o.parts)
        (lower_left x y o.first o.second (all_in (λ w. value_cmp x w ≡ Less) s (ascending_head value_cmp x s up) o.first o.left))))
        h.ascends;
    one_image = λ p q n l e. elim n [
      | inl f ↦ elim l [
        | inl g ↦ f ∙ sym g
        | inr l ↦ absurd (clash q l (sym (first-Pair x y) ∙ ap first (sym f) ∙ e))
      ]
      | inr n ↦ elim l [
        | inl g ↦ absurd (clash p n (sym (first-Pair x y) ∙ ap first (sym g) ∙ sym e))
        | inr l ↦ h.one_image p q n l e
      ]
    ];
    all_first = λ o w n. elim n [
      | inl e ↦ record { couple = Pair x y; member = inl refl; is = first-Pair x y ∙ sym e }
      | inr n ↦ (let g = h.all_first o w n in record { couple = g.couple; member = inr g.member; is = g.is })
    ];
    one_argument = λ o p q n l e. elim n [
      | inl f ↦ elim l [
        | inl g ↦ f ∙ sym g
        | inr l ↦ absurd (again o q l (sym e ∙ ap second f))
      ]
      | inr n ↦ elim l [
        | inl g ↦ absurd (again o p n (e ∙ ap second g))
        | inr l ↦ h.one_argument o p q n l e
      ]
    ];
    counted = ap (λ n. left_after n (hits r (second (Pair x y)))) h.counted ∙ left_next a t r (Pair x y) rising (subst (λ w. In w t) (sym (second-Pair x y)) m);
    ready = ready;
    weighed = (let w = h.weighed in omega (arith, count_with_first (Pair x y) r));
  }
    where
      clash : (q : Value) → In q r → x ≡ first q → ⊥
      clash q l e = not_later x s up (let o = h.within q l in subst (λ w. In w s) (sym (e ∙ first_of q o)) o.left)

      again : a.one_to_one ≡ true → (q : Value) → In q r → second q ≡ second (Pair x y) → ⊥
      again o q l e = let f = fresh o in let g = true_any (λ p. same_value (second p) (second (Pair x y))) r q l ((value_decides (second q) (second (Pair x y))).1 e) in cc

  -- a part that passes over an element
  pub part_skipped : (s r : List Value) (k left nodes : ℕ) (x : Value) → a.total ≡ false → IsPart a s t (k + 1) r left nodes → IsReady a k left (nat_lt 0 (length t)) → IsPart a (x ∷ s) t k r left nodes
  part_skipped s r k left nodes x off h ready = record {
    within = λ z n. wider x z (h.within z n);
    ascends = h.ascends;
    one_image = h.one_image;
    all_first = λ o. absurd cc;
    one_argument = h.one_argument;
    counted = h.counted;
    ready = ready;
    weighed = h.weighed;
  }

  all_free : (ys : List Value) → filter (λ y. not (hits [] y)) ys ≡ ys
  all_free [] = refl
  all_free (y ∷ ys) = ap (λ zs. y ∷ zs) (all_free ys)

  left_start : left_of a t [] ≡ (if counts a then length t else 0)
  left_start = ap (λ n. if counts a then n else 0) (ap length (all_free t))

  -- the empty part
  part_start : (k : ℕ) → viable a k (if counts a then length t else 0) (nat_lt 0 (length t)) ≡ true → IsPart a [] t k [] (if counts a then length t else 0) 1
  part_start k e = record {
    within = λ z n. absurd n;
    ascends = ascending_none value_cmp;
    one_image = λ p q n. absurd n;
    all_first = λ o x n. absurd n;
    one_argument = λ o p q n. absurd n;
    counted = sym left_start;
    ready = (ready_means a k (if counts a then length t else 0) (nat_lt 0 (length t))).0 e;
    weighed = sym (count-Set []);
  }

  -- what the row of a child is
  child_is_part : (s : List Value) (k : ℕ) (x : Value) (row child : Row) → IsAscending value_cmp (x ∷ s) → IsPartRow a s t (k + 1) row
      → In child (children a k (nat_lt 0 (length t)) (map (λ y. Pair x y) t) row) → IsPartRow a (x ∷ s) t k child
  child_is_part s k x row child up h m = elim ((in_append child (map (extended row) (filter (takes a k (nat_lt 0 (length t)) row) (map (λ y. Pair x y) t))) (if skips a k (nat_lt 0 (length t)) row then row ∷ [] else [])).0 m) [
    | inl n ↦ longer (map_from (extended row) child (filter (takes a k (nat_lt 0 (length t)) row) (map (λ y. Pair x y) t)) n)
    | inr n ↦ same (skips a k (nat_lt 0 (length t)) row) refl n
  ]
    where
      longer_by : (y : Value) → In y t → takes a k (nat_lt 0 (length t)) row (Pair x y) ≡ true → IsPartRow a (x ∷ s) t k (extended row (Pair x y))
      longer_by y l e =
          let both = (takes_means a k (nat_lt 0 (length t)) row (Pair x y)).0 e in
          let part = part_extended s (read row) k row.left row.nodes x y up l h both.0 both.1 in
          let turned : hits (read row) (second (Pair x y)) ≡ hits row.couples (second (Pair x y)) = hits_reverse row.couples (second (Pair x y)) in
          subst (λ b. IsPart a (x ∷ s) t k (read (extended row (Pair x y))) (left_after row.left b) (row.nodes + node_count (Pair x y))) turned
          (subst (λ r. IsPart a (x ∷ s) t k r (left_after row.left (hits (read row) (second (Pair x y)))) (row.nodes + node_count (Pair x y))) (sym (read_extended row (Pair x y))) part)

      longer : ComesFrom (extended row) (filter (takes a k (nat_lt 0 (length t)) row) (map (λ y. Pair x y) t)) child → IsPartRow a (x ∷ s) t k child
      longer c =
          let f = (in_filter (takes a k (nat_lt 0 (length t)) row) c.source (map (λ y. Pair x y) t)).0 c.member in
          let d = map_from (λ y. Pair x y) c.source t f.0 in
          subst (IsPartRow a (x ∷ s) t k) (sym (c.is ∙ ap (extended row) d.is))
          (longer_by d.source d.member (subst (λ w. takes a k (nat_lt 0 (length t)) row w ≡ true) d.is f.1))

      same : (b : Bool) → skips a k (nat_lt 0 (length t)) row ≡ b → In child (if b then row ∷ [] else []) → IsPartRow a (x ∷ s) t k child
      same false e n = absurd n
      same true e n = elim n [
        | inl f ↦ (let p = and_parts _ _ e in
            subst (IsPartRow a (x ∷ s) t k) (sym f) (part_skipped s (read row) k row.left row.nodes x (not_true a.total p.0) h ((ready_means a k row.left (nat_lt 0 (length t))).0 p.1)))
        | inr f ↦ absurd f
      ]

  -- each row of a level is a part
  pub rows_are_parts : (s : List Value) (k : ℕ) (row : Row) → IsAscending value_cmp s → In row (level a t k s) → IsPartRow a s t k row
  rows_are_parts [] k row up m = go (viable a k (if counts a then length t else 0) (nat_lt 0 (length t))) refl m
    where
      go : (b : Bool) → viable a k (if counts a then length t else 0) (nat_lt 0 (length t)) ≡ b
          → In row (if b then record { couples = []; left = if counts a then length t else 0; nodes = 1 } ∷ [] else []) → IsPartRow a [] t k row
      go false e n = absurd n
      go true e n = elim n [ inl f ↦ subst (IsPartRow a [] t k) (sym f) (part_start k e) | inr f ↦ absurd f ]
  rows_are_parts (x ∷ s) k row up m =
      let c = flat_map_from (children a k (nat_lt 0 (length t)) (map (λ y. Pair x y) t)) row (reverse (level a t (k + 1) s)) m in
      child_is_part s k x c.source row up
      (rows_are_parts s (k + 1) c.source (ascending_tail value_cmp x s up) ((in_reverse c.source (level a t (k + 1) s)).0 c.member)) c.part

  -- ---- each part is there

  -- r is a function over s that k more elements can complete
  pub record IsWanted (s : List Value) (k : ℕ) (r : List Value) : Type 0 where
    pub within : (z : Value) → In z r → IsOf s t z
    pub ascends : IsAscending value_cmp r
    pub one_image : OneImage r
    pub all_first : a.total ≡ true → AllFirst s r
    pub one_argument : a.one_to_one ≡ true → OneArgument r
    pub ready : IsReady a k (left_of a t r) (nat_lt 0 (length t))

  pub record Reached (rows : List Row) (r : List Value) : Type 0 where
    pub row : Row
    pub member : In row rows
    pub is : read row ≡ r

  pub some_there : (y : Value) (ys : List Value) → In y ys → nat_lt 0 (length ys) ≡ true
  some_there y [] m = absurd m
  some_there y (z ∷ ys) m = lt-ltb 0 (length (z ∷ ys)) (omega arith)

  skip_case : (s : List Value) (k : ℕ) (x : Value) (r : List Value) → IsAscending value_cmp (x ∷ s) → IsWanted (x ∷ s) k r → ((z : Value) → In z r → IsOf s t z)
      → (IsWanted s (k + 1) r → Reached (level a t (k + 1) s) r) → Reached (level a t k (x ∷ s)) r
  skip_case s k x r up h narrow ih = elim (either_way a.total) [
    | inl o ↦ absurd (let g = h.all_first o x (inl refl) in let c = narrow g.couple g.member in
        not_later x s up (subst (λ w. In w s) (sym (first_of g.couple c) ∙ g.is) c.left))
    | inr o ↦ over o (ih (narrowed o))
  ]
    where
      narrowed : a.total ≡ false → IsWanted s (k + 1) r
      narrowed o = record {
        within = narrow;
        ascends = h.ascends;
        one_image = h.one_image;
        all_first = λ f. absurd cc;
        one_argument = h.one_argument;
        ready = record { hit = λ f. (let l = h.ready.hit f in omega arith); enough = λ f g. absurd cc; any = λ f. absurd cc };
      }

      over : a.total ≡ false → Reached (level a t (k + 1) s) r → Reached (level a t k (x ∷ s)) r
      over o c =
          let part = rows_are_parts s (k + 1) c.row (ascending_tail value_cmp x s up) c.member in
          let left : c.row.left ≡ left_of a t r = part.counted ∙ ap (left_of a t) c.is in
          let ready : IsReady a k c.row.left (nat_lt 0 (length t)) = subst (λ n. IsReady a k n (nat_lt 0 (length t))) (sym left) h.ready in
          let may : skips a k (nat_lt 0 (length t)) c.row ≡ true = both_true (not a.total) (viable a k c.row.left (nat_lt 0 (length t))) (ap not o) ((ready_means a k c.row.left (nat_lt 0 (length t))).1 ready) in
          record {
            row = c.row;
            member = in_flat_map (children a k (nat_lt 0 (length t)) (map (λ y. Pair x y) t)) c.row (reverse (level a t (k + 1) s)) c.row ((in_reverse c.row (level a t (k + 1) s)).1 c.member)
                ((in_append c.row (map (extended c.row) (filter (takes a k (nat_lt 0 (length t)) c.row) (map (λ y. Pair x y) t))) (if skips a k (nat_lt 0 (length t)) c.row then c.row ∷ [] else [])).1
                (inr (subst (λ b. In c.row (if b then c.row ∷ [] else [])) (sym may) (inl refl))));
            is = c.is;
          }

  at_least : (n : ℕ) (b : Bool) → n ≤ left_after n b + 1
  at_least n true = omega arith
  at_least n false = omega arith

  pub all_counted : (b c d : Bool) → c ≡ true → d ≡ true → (b || (c && d)) ≡ true
  all_counted true c d e f = refl
  all_counted false c d e f = both_true c d e f

  pub left_is : (r : List Value) → counts a ≡ true → left_of a t r ≡ length (free t r)
  left_is r e = ap (λ b. if b then length (free t r) else 0) e

  pub child_there : (k : ℕ) (x y : Value) (row : Row) → In y t → takes a k (nat_lt 0 (length t)) row (Pair x y) ≡ true → In (extended row (Pair x y)) (children a k (nat_lt 0 (length t)) (map (λ y. Pair x y) t) row)
  child_there k x y row m may = (in_append (extended row (Pair x y)) (map (extended row) (filter (takes a k (nat_lt 0 (length t)) row) (map (λ y. Pair x y) t))) (if skips a k (nat_lt 0 (length t)) row then row ∷ [] else [])).1
      (inl (in_map (extended row) (Pair x y) (filter (takes a k (nat_lt 0 (length t)) row) (map (λ y. Pair x y) t))
      ((in_filter (takes a k (nat_lt 0 (length t)) row) (Pair x y) (map (λ y. Pair x y) t)).1 (in_map (λ y. Pair x y) y t m, may))))

  -- where the first couple begins above x, all do
  narrow_all : (s : List Value) (k : ℕ) (x z : Value) (q : List Value) → IsAscending value_cmp (x ∷ s) → IsWanted (x ∷ s) k (z ∷ q) → (o : IsOf (x ∷ s) t z) → In o.first s → (w : Value) → In w (z ∷ q) → IsOf s t w
  narrow_all s k x z q up h o l w n = let p = h.within w n in elim p.left [
    | inr g ↦ record { first = p.first; second = p.second; parts = p.parts; left = g; right = p.right }
    | inl e ↦ elim n [
      | inl f ↦ absurd (not_later x s up (subst (λ v. In v s) (sym (first_of z o) ∙ ap first (sym f) ∙ first_of w p ∙ e) l))
      | inr g ↦ absurd (not_below_itself value_cmp value_total z (value_total.trans z w z
          (all_in (λ v. value_cmp z v ≡ Less) q (ascending_head value_cmp z q h.ascends) w g)
          (subst (λ v. value_cmp w v ≡ Less) (sym o.parts) (subst (λ v. value_cmp v (Pair o.first o.second) ≡ Less) (sym (p.parts ∙ ap (λ v. Pair v p.second) e))
          (lower_left x p.second o.first o.second (all_in (λ v. value_cmp x v ≡ Less) s (ascending_head value_cmp x s up) o.first l))))))
    ]
  ]

  take_case : (s : List Value) (k : ℕ) (x y : Value) (q : List Value) → IsAscending value_cmp (x ∷ s) → In y t → IsWanted (x ∷ s) k (Pair x y ∷ q)
      → (IsWanted s (k + 1) q → Reached (level a t (k + 1) s) q) → Reached (level a t k (x ∷ s)) (Pair x y ∷ q)
  take_case s k x y q up m h ih = with_row (ih rest)
    where
      above : (z : Value) → In z q → value_cmp (Pair x y) z ≡ Less
      above = all_in (λ w. value_cmp (Pair x y) w ≡ Less) q (ascending_head value_cmp (Pair x y) q h.ascends)

      not_again : (z : Value) → In z q → z ≡ Pair x y → ⊥
      not_again z n e = not_below_itself value_cmp value_total (Pair x y) (subst (λ w. value_cmp (Pair x y) w ≡ Less) e (above z n))

      narrow : (z : Value) → In z q → IsOf s t z
      narrow z n = let o = h.within z (inr n) in elim o.left [
        | inl e ↦ absurd (not_again z n (h.one_image z (Pair x y) (inr n) (inl refl) (first_of z o ∙ e ∙ sym (first-Pair x y))))
        | inr l ↦ record { first = o.first; second = o.second; parts = o.parts; left = l; right = o.right }
      ]

      fresh : a.one_to_one ≡ true → hits q (second (Pair x y)) ≡ false
      fresh o = elim (either_way (hits q (second (Pair x y)))) [
        | inl e ↦ absurd (let f = any_true (λ p. same_value (second p) (second (Pair x y))) q e in
            not_again f.item f.member (h.one_argument o f.item (Pair x y) (inr f.member) (inl refl) ((value_decides (second f.item) (second (Pair x y))).0 f.passes)))
        | inr e ↦ e
      ]

      at_second : In (second (Pair x y)) t
      at_second = subst (λ w. In w t) (sym (second-Pair x y)) m

      next : left_after (left_of a t q) (hits q (second (Pair x y))) ≡ left_of a t (Pair x y ∷ q)
      next = left_next a t q (Pair x y) rising at_second

      one_more : a.total ≡ true → a.one_to_one ≡ true → left_of a t (Pair x y ∷ q) + 1 ≡ left_of a t q
      one_more o w = let e = all_counted a.onto a.total a.one_to_one o w in
          ap (λ n. n + 1) (left_is (Pair x y ∷ q) e) ∙ free_fresh t q (Pair x y) rising at_second (fresh w) ∙ sym (left_is q e)

      rest : IsWanted s (k + 1) q
      rest = record {
        within = narrow;
        ascends = ascending_tail value_cmp (Pair x y) q h.ascends;
        one_image = λ p r n l e. h.one_image p r (inr n) (inr l) e;
        all_first = λ o w n. (let g = h.all_first o w (inr n) in elim g.member [
          | inl e ↦ absurd (not_later x s up (subst (λ v. In v s) (sym g.is ∙ ap first e ∙ first-Pair x y) n))
          | inr l ↦ record { couple = g.couple; member = l; is = g.is }
        ]);
        one_argument = λ o p r n l e. h.one_argument o p r (inr n) (inr l) e;
        ready = record {
          hit = λ o. (let l = h.ready.hit o in omega (arith, at_least (left_of a t q) (hits q (second (Pair x y))), next));
          enough = λ o w. (let l = h.ready.enough o w in omega (arith, one_more o w));
          any = λ o. inr (some_there y t m);
        };
      }

      with_row : Reached (level a t (k + 1) s) q → Reached (level a t k (x ∷ s)) (Pair x y ∷ q)
      with_row c =
          let part = rows_are_parts s (k + 1) c.row (ascending_tail value_cmp x s up) c.member in
          let left : c.row.left ≡ left_of a t q = part.counted ∙ ap (left_of a t) c.is in
          let there : (a.one_to_one ≡ true → hits q (second (Pair x y)) ≡ false) × IsReady a k (left_after (left_of a t q) (hits q (second (Pair x y)))) (nat_lt 0 (length t)) =
          (fresh, subst (λ n. IsReady a k n (nat_lt 0 (length t))) (sym next) h.ready) in
          let counted = subst (λ n. (a.one_to_one ≡ true → hits q (second (Pair x y)) ≡ false) × IsReady a k (left_after n (hits q (second (Pair x y)))) (nat_lt 0 (length t))) (sym left) there in
          let here = subst (λ (r : List Value). (a.one_to_one ≡ true → hits r (second (Pair x y)) ≡ false) × IsReady a k (left_after c.row.left (hits r (second (Pair x y)))) (nat_lt 0 (length t))) (sym c.is) counted in
          let may = (takes_means a k (nat_lt 0 (length t)) c.row (Pair x y)).1 here in
          record {
            row = extended c.row (Pair x y);
            member = in_flat_map (children a k (nat_lt 0 (length t)) (map (λ y. Pair x y) t)) (extended c.row (Pair x y)) (reverse (level a t (k + 1) s)) c.row ((in_reverse c.row (level a t (k + 1) s)).1 c.member)
                (child_there k x y c.row m may);
            is = read_extended c.row (Pair x y) ∙ ap (λ r. Pair x y ∷ r) c.is;
          }

  -- ---- an induction over the elements

  pub all_there : (s : List Value) (k : ℕ) (r : List Value) → IsAscending value_cmp s → IsWanted s k r → Reached (level a t k s) r
  all_there [] k [] up h =
      let v = (ready_means a k (if counts a then length t else 0) (nat_lt 0 (length t))).1 (subst (λ n. IsReady a k n (nat_lt 0 (length t))) left_start h.ready) in
      record {
        row = record { couples = []; left = if counts a then length t else 0; nodes = 1 };
        member = (let row : Row = record { couples = []; left = if counts a then length t else 0; nodes = 1 } in subst (λ b. In {K = Row} row (if b then row ∷ [] else [])) (sym v) (inl refl));
        is = refl;
      }
  all_there [] k (z ∷ q) up h = absurd ((h.within z (inl refl)).left)
  all_there (x ∷ s) k [] up h = skip_case s k x [] up h (λ z n. absurd n) (λ w. all_there s (k + 1) [] (ascending_tail value_cmp x s up) w)
  all_there (x ∷ s) k (z ∷ q) up h = let o = h.within z (inl refl) in elim o.left [
    | inl e ↦ (let is : z ≡ Pair x o.second = o.parts ∙ ap (λ w. Pair w o.second) e in
        subst (λ w. Reached (level a t k (x ∷ s)) (w ∷ q)) (sym is)
        (take_case s k x o.second q up o.right (subst (λ w. IsWanted (x ∷ s) k (w ∷ q)) is h) (λ w. all_there s (k + 1) q (ascending_tail value_cmp x s up) w)))
    | inr l ↦ skip_case s k x (z ∷ q) up h (narrow_all s k x z q up h o l) (λ w. all_there s (k + 1) (z ∷ q) (ascending_tail value_cmp x s up) w)
  ]
