-- No function stands twice in a level, so the set of them has the nodes of the rows.
use Rattle.std.proofs.Common.{◌≡◌, ◌⊎◌, ℕ, ◌+◌, Bool, true, false, List, [], ◌∷◌, ◌++◌, map, length, arith, refl, sym, ap, ◌∙◌, subst, inl, inr}
use Rattle.std.specs.Prelude.{nat_lt, reverse, filter, if◌then◌else◌}
use Rattle.std.specs.List.{flat_map}
use Rattle.std.specs.declared.cmp.Ordering.{Ordering}
use Rattle.std.specs.declared.cmp.Ordering.TheVariants.{Less, Equal, Greater}
use Rattle.std.proofs.lemmas.List.{reverse-append}
use Rattle.ascending.specs.Ascending.{In, IsAscending, placed, insert, set_of}
use Rattle.ascending.specs.Members.{all_in, in_append}
use Rattle.ascending.specs.AscendingLaws.{ascending_head, ascending_tail, not_below_itself, in_set_of}
use Rattle.b_values.specs.OrderLaws.{value_total, value_same}
use Rattle.b_values.specs.Values.{node_count, value_cmp, elements}
use Rattle.b_values.specs.ValueLaws.{elements-Set}
use Rattle.b_values.specs.declared.values.Value.{Value}
use Rattle.b_values.specs.declared.values.Value.TheVariants.{Pair, Set}
use Rattle.set_making.specs.Sums.{map_cons_sum}
use Rattle.b_funsets.specs.declared.levels.Arrow.{Arrow}
use Rattle.b_funsets.specs.declared.levels.Row.{Row}
use Rattle.b_funsets.specs.Levels.{read, viable, counts, takes, skips, extended, children, level}
use Rattle.b_funsets.proofs.SublistLaws.{map_from}
use Rattle.b_funsets.proofs.SubsetSizes.{total}
use Rattle.b_funsets.proofs.CoupleLaws.{row_ascends, IsOf}
use Rattle.b_funsets.proofs.ArrowTests.{first-Pair, in_filter, in_reverse}
use Rattle.b_funsets.proofs.LevelRows.{flat_map_from, read_extended, rows_are_parts, IsPartRow, first_of, not_later}

-- no two elements have one key
abbrev pub Apart : {X K : Type 0} → (X → K) → List X → Type 0
Apart f [] = Unit {0}
Apart f (x ∷ xs) = ((z : _) → In z xs → f x ≡ f z → ⊥) × Apart f xs

module _ {X K : Type 0} (f : X → K) where
  apart_append : (xs ys : List X) → Apart f xs → Apart f ys → ((x z : X) → In x xs → In z ys → f x ≡ f z → ⊥) → Apart f (xs ++ ys)
  apart_append [] ys a b h = b
  apart_append (x ∷ xs) ys a b h = (
    λ z m e. elim ((in_append z xs ys).0 m) [ inl n ↦ a.0 z n e | inr n ↦ h x z (inl refl) n e ],
    apart_append xs ys a.1 b (λ w z m n e. h w z (inr m) n e),
  )

  apart_one : (x : X) → Apart f (x ∷ [])
  apart_one x = (λ z m e. m, tt)

  apart_reverse : (xs : List X) → Apart f xs → Apart f (reverse xs)
  apart_reverse [] a = tt
  apart_reverse (x ∷ xs) a = subst (Apart f) (sym (reverse-append (x ∷ []) xs))
      (apart_append (reverse xs) (x ∷ []) (apart_reverse xs a.1) (apart_one x)
      (λ w z m n e. elim n [ inl g ↦ a.0 w ((in_reverse w xs).0 m) (sym (e ∙ ap f g)) | inr g ↦ g ]))

  apart_filter : (p : X → Bool) (xs : List X) → Apart f xs → Apart f (filter p xs)
  apart_filter p [] a = tt
  apart_filter p (x ∷ xs) a = go (p x) (apart_filter p xs a.1)
    where
      go : (b : Bool) → Apart f (filter p xs) → Apart f (if b then x ∷ filter p xs else filter p xs)
      go true more = (λ z m e. a.0 z ((in_filter p z xs).0 m).0 e, more)
      go false more = more

module _ {X Y K L : Type 0} (f : X → K) (h : Y → L) where
  apart_map : (g : X → Y) → ((x z : X) → h (g x) ≡ h (g z) → f x ≡ f z) → (xs : List X) → Apart f xs → Apart h (map g xs)
  apart_map g one [] a = tt
  apart_map g one (x ∷ xs) a = (
    λ z m e. (let c = map_from g z xs m in a.0 c.source c.member (one x c.source (e ∙ ap h c.is))),
    apart_map g one xs a.1,
  )

  apart_flat : (g : X → List Y) (xs : List X) → Apart f xs → ((x : X) → In x xs → Apart h (g x))
      → ((x w : X) → In x xs → In w xs → (y z : Y) → In y (g x) → In z (g w) → h y ≡ h z → f x ≡ f w) → Apart h (flat_map g xs)
  apart_flat g [] a b one = tt
  apart_flat g (x ∷ xs) a b one = apart_append h (g x) (flat_map g xs) (b x (inl refl))
      (apart_flat g xs a.1 (λ w m. b w (inr m)) (λ v w m n y z k l e. one v w (inr m) (inr n) y z k l e))
      (λ y z m n e. let c = flat_map_from g z xs n in a.0 c.source c.member (one x c.source (inl refl) (inr c.member) y z m c.part e))

-- an ascending list has each element once
apart_ascending : (xs : List Value) → IsAscending value_cmp xs → Apart (λ (z : Value). z) xs
apart_ascending [] a = tt
apart_ascending (x ∷ xs) a = (
  λ z m e. not_below_itself value_cmp value_total x (subst (λ w. value_cmp x w ≡ Less) (sym e) (all_in (λ w. value_cmp x w ≡ Less) xs (ascending_head value_cmp x xs a) z m)),
  apart_ascending xs (ascending_tail value_cmp x xs a),
)

longer_is_not : (c : Value) (r : List Value) → c ∷ r ≡ r → ⊥
longer_is_not c r e = let l = ap length e in omega arith

module _ (a : Arrow) (t : List Value) (rising : IsAscending value_cmp t) where
  -- a child is the row, or the row with a couple of x
  child_cases : (k : ℕ) (x : Value) (row child : Row) → In child (children a k (nat_lt 0 (length t)) (map (λ y. Pair x y) t) row) → (read child ≡ read row) ⊎ ((y : Value) × (read child ≡ Pair x y ∷ read row))
  child_cases k x row child m = elim ((in_append child (map (extended row) (filter (takes a k (nat_lt 0 (length t)) row) (map (λ y. Pair x y) t))) (if skips a k (nat_lt 0 (length t)) row then row ∷ [] else [])).0 m) [
    | inl n ↦ (let c = map_from (extended row) child (filter (takes a k (nat_lt 0 (length t)) row) (map (λ y. Pair x y) t)) n in
        let d = map_from (λ y. Pair x y) c.source t ((in_filter (takes a k (nat_lt 0 (length t)) row) c.source (map (λ y. Pair x y) t)).0 c.member).0 in
        inr (d.source, ap read c.is ∙ read_extended row c.source ∙ ap (λ w. w ∷ read row) d.is))
    | inr n ↦ inl (same (skips a k (nat_lt 0 (length t)) row) n)
  ]
    where
      same : (b : Bool) → In child (if b then row ∷ [] else []) → read child ≡ read row
      same true n = elim n [ inl e ↦ ap read e | inr e ↦ absurd e ]
      same false n = absurd n

  children_apart : (k : ℕ) (x : Value) (row : Row) → Apart read (children a k (nat_lt 0 (length t)) (map (λ y. Pair x y) t) row)
  children_apart k x row = apart_append read (map (extended row) (filter (takes a k (nat_lt 0 (length t)) row) (map (λ y. Pair x y) t))) (if skips a k (nat_lt 0 (length t)) row then row ∷ [] else [])
      (apart_map (λ (c : Value). c) read (extended row)
      (λ c d e. let g : c ∷ read row ≡ d ∷ read row = sym (read_extended row c) ∙ e ∙ read_extended row d in cc)
      (filter (takes a k (nat_lt 0 (length t)) row) (map (λ y. Pair x y) t))
      (apart_filter (λ (c : Value). c) (takes a k (nat_lt 0 (length t)) row) (map (λ y. Pair x y) t) (apart_ascending (map (λ y. Pair x y) t) (row_ascends x t rising))))
      (alone (skips a k (nat_lt 0 (length t)) row))
      (λ y z m n e. across (skips a k (nat_lt 0 (length t)) row) y z m n e)
    where
      alone : (b : Bool) → Apart read (if b then row ∷ [] else [])
      alone true = (λ z m e. m, tt)
      alone false = tt

      across : (b : Bool) (y z : Row) → In y (map (extended row) (filter (takes a k (nat_lt 0 (length t)) row) (map (λ y. Pair x y) t))) → In z (if b then row ∷ [] else []) → read y ≡ read z → ⊥
      across false y z m n e = n
      across true y z m n e = elim n [
        | inl g ↦ (let c = map_from (extended row) y (filter (takes a k (nat_lt 0 (length t)) row) (map (λ y. Pair x y) t)) m in
            longer_is_not c.source (read row) (sym (ap read c.is ∙ read_extended row c.source) ∙ e ∙ ap read g))
        | inr g ↦ g
      ]

  -- rows that give one function come from one row
  one_parent : (s : List Value) (k : ℕ) (x : Value) (v w y z : Row) → IsAscending value_cmp (x ∷ s) → IsPartRow a s t (k + 1) v → IsPartRow a s t (k + 1) w
      → In y (children a k (nat_lt 0 (length t)) (map (λ y. Pair x y) t) v) → In z (children a k (nat_lt 0 (length t)) (map (λ y. Pair x y) t) w) → read y ≡ read z → read v ≡ read w
  one_parent s k x v w y z up h j m n e = elim (child_cases k x v y m) [
    | inl f ↦ elim (child_cases k x w z n) [
      | inl g ↦ sym f ∙ e ∙ g
      | inr g ↦ absurd (clash (read v) h.within g.0 (read w) (sym f ∙ e ∙ g.1))
    ]
    | inr f ↦ elim (child_cases k x w z n) [
      | inl g ↦ absurd (clash (read w) j.within f.0 (read v) (sym g ∙ sym e ∙ f.1))
      | inr g ↦ (let both : Pair x f.0 ∷ read v ≡ Pair x g.0 ∷ read w = sym f.1 ∙ e ∙ g.1 in cc)
    ]
  ]
    where
      clash : (r : List Value) → ((c : Value) → In c r → IsOf s t c) → (b : Value) (q : List Value) → r ≡ Pair x b ∷ q → ⊥
      clash r within b q g =
          let o = within (Pair x b) (subst (In (Pair x b)) (sym g) (inl refl)) in
          not_later x s up (subst (λ c. In c s) (sym (first_of (Pair x b) o) ∙ first-Pair x b) o.left)

  -- no function stands twice in a level
  pub level_apart : (s : List Value) (k : ℕ) → IsAscending value_cmp s → Apart read (level a t k s)
  level_apart [] k up = go (viable a k (if counts a then length t else 0) (nat_lt 0 (length t)))
    where
      go : (b : Bool) → Apart read (if b then record { couples = []; left = if counts a then length t else 0; nodes = 1 } ∷ [] else [])
      go true = (λ z m e. m, tt)
      go false = tt
  level_apart (x ∷ s) k up =
      let tail = ascending_tail value_cmp x s up in
      let part : (v : Row) → In v (reverse (level a t (k + 1) s)) → IsPartRow a s t (k + 1) v = λ v m. rows_are_parts a t rising s (k + 1) v tail ((in_reverse v (level a t (k + 1) s)).0 m) in
      apart_flat read read (children a k (nat_lt 0 (length t)) (map (λ y. Pair x y) t)) (reverse (level a t (k + 1) s))
      (apart_reverse read (level a t (k + 1) s) (level_apart s (k + 1) tail))
      (λ v m. children_apart k x v)
      (λ v w m n y z l o e. one_parent s k x v w y z up (part v m) (part w n) l o e)

-- ---- the nodes of the set

insert_fresh : (x : Value) (ys : List Value) → (In x ys → ⊥) → total (insert value_cmp x ys) ≡ node_count x + total ys
insert_fresh x [] f = map_cons_sum node_count x []
insert_fresh x (y ∷ ys) f = go (value_cmp x y) refl (insert_fresh x ys (λ m. f (inr m)))
  where
    go : (o : Ordering) → value_cmp x y ≡ o → total (insert value_cmp x ys) ≡ node_count x + total ys → total (placed o x y ys (insert value_cmp x ys)) ≡ node_count x + total (y ∷ ys)
    go Less e more = map_cons_sum node_count x (y ∷ ys)
    go Equal e more = absurd (f (inl (value_same x y e)))
    go Greater e more = omega (arith, map_cons_sum node_count y (insert value_cmp x ys), map_cons_sum node_count y ys)

pub set_total : (zs : List Value) → Apart (λ (z : Value). z) zs → total (set_of value_cmp zs) ≡ total zs
set_total [] a = refl
set_total (z ∷ zs) a = omega (
  arith,
  insert_fresh z (set_of value_cmp zs) (λ m. a.0 z ((in_set_of value_cmp value_total value_same z zs).0 m) refl),
  set_total zs a.1,
  map_cons_sum node_count z zs,
)

-- the sets of rows stand apart where the rows do
pub sets_apart : (rows : List Row) → Apart read rows → Apart (λ (z : Value). z) (map (λ row. Set (read row)) rows)
sets_apart rows h = apart_map read (λ (z : Value). z) (λ row. Set (read row)) (λ v w e. sym (elements-Set (read v)) ∙ ap elements e ∙ elements-Set (read w)) rows h
