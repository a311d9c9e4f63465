-- Places stay as a list grows, true names stay true, and the place of a packed state is that of its state.
use Rattle.std.proofs.Common.{◌≡◌, ◌∙◌, ◌<◌, sym, ap, refl, ℕ, zero, suc, ◌+◌, Bool, true, false, cond, not, ◌||◌, List, [], ◌∷◌, ◌++◌, map, length, slice_get, Option, Some, None, IsSome, arith, if◌then◌else◌}
use Rattle.std.specs.List.{list_any, AllByRecursion, IsDistinct, position_or_len}
use Rattle.std.specs.Cmp.Lexicographic.{nat_list_eq_equiv}
use Rattle.b_values.specs.SameLaws.{state_decides}
use Rattle.b_values.specs.Values.{same_state}
use Rattle.b_values.specs.declared.values.State.{State}
use Rattle.engine_face.specs.Keys.{same_bytes, bytes_same}
use Rattle.engine_face.specs.Meaning.{Meaning}
use Rattle.engine_face.specs.Packing.{Unpacking, IsPacked, IsOneSpelling, state_of, state_or_root}
use Rattle.names_list.specs.Naming.{place, AreDistinct, with_state, AreTrueNames}

-- ---- places

place_step : (b : Bool) (m n : ℕ) → m ≡ n → cond b 0 (suc m) ≡ cond (not b) (1 + n) 0
place_step true m n same = refl
place_step false m n same = omega arith

place_last : (names : List (List ℕ)) (s : List ℕ) → place (names ++ s ∷ []) s ≡ position_or_len (same_bytes s) names
place_last [] s = rw (nat_list_eq_equiv.refl s) refl
place_last (n ∷ names) s = place_step (same_bytes s n) _ _ (place_last names s)

place_there : (names : List (List ℕ)) (s : List ℕ) → place names s ≡ position_or_len (same_bytes s) names
place_there [] s = refl
place_there (n ∷ names) s = place_step (same_bytes s n) _ _ (place_there names s)

place_by : (b : Bool) (names : List (List ℕ)) (s : List ℕ) → place (cond b names (names ++ s ∷ [])) s ≡ position_or_len (same_bytes s) names
place_by true names s = place_there names s
place_by false names s = place_last names s

pub place_with : (names : List (List ℕ)) (s : List ℕ) → place (with_state names s) s ≡ position_or_len (same_bytes s) names
place_with names s = place_by (list_any (same_bytes s) names) names s

kept_step : (b : Bool) (m n k : ℕ) → (n < k → m ≡ n) → cond b 0 (suc n) < suc k → cond b 0 (suc m) ≡ cond b 0 (suc n)
kept_step true m n k on h = refl
kept_step false m n k on h = ap suc (on (omega (arith, h)))

-- a number stays as names are added
pub place_kept : (names more : List (List ℕ)) (s : List ℕ) → place names s < length names → place (names ++ more) s ≡ place names s
place_kept [] more s h = absurd (omega (arith, h))
place_kept (n ∷ names) more s h = kept_step (same_bytes s n) _ _ (length names) (place_kept names more s) h

grown_by : (b : Bool) (names : List (List ℕ)) (s : List ℕ) → (more : List (List ℕ)) × (cond b names (names ++ s ∷ []) ≡ names ++ more)
grown_by true names s = ([], append_none names)
  where
    append_none : (names : List (List ℕ)) → names ≡ names ++ []
    append_none [] = refl
    append_none (n ∷ names) = ap (λ ns. n ∷ ns) (append_none names)
grown_by false names s = (s ∷ [], refl)

-- names only grow
pub names_grow : (names : List (List ℕ)) (s : List ℕ) → (more : List (List ℕ)) × (with_state names s ≡ names ++ more)
names_grow names s = grown_by (list_any (same_bytes s) names) names s

-- ---- distinct

differ : (x s : List ℕ) (xs : List (List ℕ)) (i : ℕ) → AllByRecursion (λ y. same_bytes x y ≡ false) xs → slice_get xs i ≡ Some s → same_bytes x s ≡ false
differ x s [] i all is = cc
differ x s (y ∷ xs) zero all is = let same : y ≡ s = cc in ap (same_bytes x) (sym same) ∙ all.0
differ x s (y ∷ xs) (suc i) all is = differ x s xs i all.1 is

clash : (x s : List ℕ) → x ≡ s → same_bytes x s ≡ false → ⊥
clash x s same other = let equal : same_bytes x s ≡ true = ap (same_bytes x) (sym same) ∙ nat_list_eq_equiv.refl x in cc

pub one_place : (names : List (List ℕ)) → IsDistinct same_bytes names → AreDistinct names
unfolding IsDistinct
one_place [] d i j s a b = cc
one_place (x ∷ xs) d zero zero s a b = refl
one_place (x ∷ xs) d zero (suc j) s a b = let same : x ≡ s = cc in absurd (clash x s same (differ x s xs j d.0 b))
one_place (x ∷ xs) d (suc i) zero s a b = let same : x ≡ s = cc in absurd (clash x s same (differ x s xs i d.0 a))
one_place (x ∷ xs) d (suc i) (suc j) s a b = ap suc (one_place xs d.1 i j s a b)

-- ---- true names

packed_last : (unpack : Unpacking) (names : List (List ℕ)) (s : List ℕ) → AllByRecursion (IsPacked unpack) names → IsPacked unpack s → AllByRecursion (IsPacked unpack) (names ++ s ∷ [])
packed_last unpack [] s all h = (h, tt)
packed_last unpack (n ∷ names) s all h = (all.0, packed_last unpack names s all.1 h)

packed_by : (unpack : Unpacking) (b : Bool) (names : List (List ℕ)) (s : List ℕ) → AllByRecursion (IsPacked unpack) names → IsPacked unpack s → AllByRecursion (IsPacked unpack) (cond b names (names ++ s ∷ []))
packed_by unpack true names s all h = all
packed_by unpack false names s all h = packed_last unpack names s all h

first_kept : (b : Bool) (names : List (List ℕ)) (root s : List ℕ) → slice_get names 0 ≡ Some root → slice_get (cond b names (names ++ s ∷ [])) 0 ≡ Some root
first_kept true names root s h = h
first_kept false [] root s h = cc
first_kept false (n ∷ names) root s h = h

-- a state of the machine is added, and the names stay true
pub named_true : (m : Meaning) (unpack : Unpacking) (names : List (List ℕ)) (s : List ℕ) → AreTrueNames m unpack names → IsPacked unpack s → AreDistinct (with_state names s) → AreTrueNames m unpack (with_state names s)
named_true m unpack names s true_names h distinct = record {
  root = true_names.root;
  first = first_kept (list_any (same_bytes s) names) names true_names.root s true_names.first;
  is_root = true_names.is_root;
  packed = packed_by unpack (list_any (same_bytes s) names) names s true_names.packed h;
  distinct = distinct;
}

-- ---- the states behind

some_state : (o : Option State) → IsSome o → o ≡ Some (state_or_root o)
some_state None h = absurd (cc)
some_state (Some s) h = refl

pub packed_state : (unpack : Unpacking) (p : List ℕ) → IsPacked unpack p → unpack p ≡ Some (state_of unpack p)
packed_state unpack p h = some_state (unpack p) h

told : (b c : Bool) → (b ≡ true → c ≡ true) → (c ≡ true → b ≡ true) → b ≡ c
told true c f g = sym (f refl)
told false true f g = g refl
told false false f g = refl

-- packed states are the same exactly where their states are
pub same_spelled : (unpack : Unpacking) (p q : List ℕ) → IsOneSpelling unpack → IsPacked unpack p → IsPacked unpack q → same_bytes p q ≡ same_state (state_of unpack q) (state_of unpack p)
same_spelled unpack p q once h k = told _ _
    (λ e. (state_decides _ _).1 (ap (state_of unpack) (sym (bytes_same p q e))))
    (λ e. let states : state_of unpack q ≡ state_of unpack p = (state_decides _ _).0 e in
    let equal : p ≡ q = once p q (state_of unpack q) (packed_state unpack p h ∙ ap (λ (s : State). Some s) (sym states)) (packed_state unpack q k) in
    ap (same_bytes p) (sym equal) ∙ nat_list_eq_equiv.refl p)

-- The place in the list of states, for whatever function goes by that name.
module _ (state_place : List State → State → ℕ) (none : (s : State) → state_place [] s ≡ 0)
    (more : (n : State) (names : List State) (s : State) → state_place (n ∷ names) s ≡ (if same_state n s then 0 else suc (state_place names s))) where
  pub place_is : (unpack : Unpacking) (names : List (List ℕ)) (p : List ℕ) → IsOneSpelling unpack → AllByRecursion (IsPacked unpack) names → IsPacked unpack p
      → place names p ≡ state_place (map (state_of unpack) names) (state_of unpack p)
  place_is unpack [] p once all h = sym (none (state_of unpack p))
  place_is unpack (n ∷ names) p once all h =
      ap (λ (b : Bool). cond b 0 (suc (place names p))) (same_spelled unpack p n once h all.0)
      ∙ ap (λ (k : ℕ). cond (same_state (state_of unpack n) (state_of unpack p)) 0 (suc k)) (place_is unpack names p once all.1 h)
      ∙ sym (more (state_of unpack n) (map (state_of unpack) names) (state_of unpack p))
