-- Places of names, from a place of the table on.
use Rattle.std.proofs.Common.{◌≡◌, ℕ, zero, suc, ◌<◌, ◌⊎◌, inl, inr, Bool, true, false, cond, List, [], ◌∷◌, ◌++◌, length, get_or, nat_lt, bytes_eq, Vec, Option, Some, None, sym, refl, ap, ◌∙◌, subst, arith}
use borrow.Author.Tests.{ltb-true}
use Rattle.std.specs.Prelude.{IfSome, position, slice_get}
use Rattle.std.specs.HashMap.{HashMap, UpdatesBy}
use Rattle.std.specs.Map.{lookup, IsKeyTest, AreApart, KeepsOthers}
use Rattle.std.specs.List.{position_from, position_or_len}
use Rattle.std.specs.Cmp.Lexicographic.{bytes_decides, nat_list_eq_equiv}
use Rattle.std.proofs.lemmas.Iterator.Adapters.{position_from-zero}
use Rattle.b_ast.specs.declared.machine.Def.{Def}
use Rattle.b_names.specs.declared.places.Index.{Index}
use Rattle.b_names.specs.Index.{place_in, place_of, answer_of, IsIndexOfNames, AreOfParameters}

-- the place of the first definition of a name from a place of the table on
abbrev pub place_after : ℕ → List Def → List ℕ → Option ℕ
place_after n ds x = position_from (λ d. bytes_eq x d.name) n ds

-- from the table's beginning on it is the place in the table
pub place_from_start : (ds : List Def) (x : List ℕ) → place_after 0 ds x ≡ place_of ds x
place_from_start ds x = sym (position_from-zero (λ d. bytes_eq x d.name) ds)

-- the first place of a name among names from a place on
abbrev pub place_among_after : ℕ → List (List ℕ) → List ℕ → Option ℕ
place_among_after n xs x = position_from (bytes_eq x) n xs

-- from the beginning on it is the place in the list
pub place_among_start : (xs : List (List ℕ)) (x : List ℕ) → place_among_after 0 xs x ≡ position (bytes_eq x) xs
place_among_start xs x = sym (position_from-zero (bytes_eq x) xs)

-- a name with other bytes isn't a key that has the bytes of a third
apart : (x name key : List ℕ) → bytes_eq x name ≡ false → bytes_eq name key ≡ true → bytes_eq x key ≡ false
apart x name key n y = nat_list_eq_equiv.symm x key ∙ sym (nat_list_eq_equiv.congr name key x y) ∙ (nat_list_eq_equiv.symm name x ∙ n)

-- a look-up of another key finds what it found before
others : {K : Type 0} (eq : K → K → Bool) (test : K → Bool) (old new : List (K × ℕ)) → KeepsOthers eq test old new → (other : K → Bool) → IsKeyTest eq other → AreApart test other → lookup other new ≡ lookup other old
unfolding KeepsOthers
others eq test old new h = h

-- what a map has at any name after a place is put at one
pub put_at : {Y S : Type 0} (name : List ℕ) (old new : HashMap (Vec ℕ Y) ℕ S) (place : ℕ) → UpdatesBy (λ k l. bytes_eq k.items l.items) (λ k. bytes_eq name k.items) old new (Some place) → (x : List ℕ) → place_in new x ≡ cond (bytes_eq x name) (Some place) (place_in old x)
put_at name old new place h x = cases (bytes_eq x name) refl
  where
    cases : (b : Bool) → bytes_eq x name ≡ b → place_in new x ≡ cond b (Some place) (place_in old x)
    cases true e = subst (λ y. place_in new y ≡ Some place) (sym ((bytes_decides x name).0 e)) h.1
    cases false e = others _ _ _ _ h.3 (λ k. bytes_eq x k.items) (λ k l. nat_list_eq_equiv.congr x k.items l.items) (λ k. apart x name k.items e)

-- a place that is found lies within the list
found_within : (n m : ℕ) (b : Bool) → nat_lt n m ≡ b → IfSome (cond b (Some n) None) (λ i. i < m)
found_within n m true e = ltb-true n m e
found_within n m false e = tt

-- a name's place lies within the table
pub place_within : (ds : List Def) (x : List ℕ) → IfSome (place_of ds x) (λ i. i < length ds)
place_within ds x = found_within (position_or_len (λ d. bytes_eq x d.name) ds) (length ds) (nat_lt (position_or_len (λ d. bytes_eq x d.name) ds) (length ds)) refl

-- what an index of names answers is the place in them
pub answer_among : (xs : List (List ℕ)) (i : Index) → IsIndexOfNames xs i → (x : List ℕ) → answer_of i x ≡ position (bytes_eq x) xs
unfolding IsIndexOfNames
answer_among xs i h = h

-- ---- the parameters of definitions

-- the last of a list, or one before it
at_last : {X : Type 0} (xs : List X) (x u : X) (k : ℕ) → slice_get (xs ++ x ∷ []) k ≡ Some u → (slice_get xs k ≡ Some u) ⊎ ((k ≡ length xs) × (x ≡ u))
at_last [] x u zero h = let e : x ≡ u = cc in inr (omega arith, e)
at_last [] x u (suc k) h = absurd (cc)
at_last (y ∷ xs) x u zero h = inl h
at_last (y ∷ xs) x u (suc k) h = elim (at_last xs x u k h) [ inl j ↦ inl j | inr j ↦ inr (omega arith, j.1) ]

-- no definition has an index yet
pub none_indexed : (ds : List Def) (is : List Index) → is ≡ [] → AreOfParameters ds is
unfolding AreOfParameters
none_indexed ds [] e k i h = none k h
  where
    none : (k : ℕ) → slice_get [] k ≡ Some i → IfSome (slice_get ds k) (λ d. IsIndexOfNames d.params i)
    none zero h = absurd (cc)
    none (suc k) h = absurd (cc)
none_indexed ds (j ∷ is) e k i h = absurd (cc)

-- one more definition has its index
pub one_indexed : (ds : List Def) (is : List Index) → AreOfParameters ds is → (d : Def) → slice_get ds (length is) ≡ Some d → (i : Index) → IsIndexOfNames d.params i → AreOfParameters ds (is ++ i ∷ [])
unfolding AreOfParameters
one_indexed ds is h d at i known k j e = elim (at_last is i j k e) [ inl f ↦ h k j f | inr f ↦ last f ]
  where
    last : (k ≡ length is) × (i ≡ j) → IfSome (slice_get ds k) (λ d. IsIndexOfNames d.params j)
    last f =
        subst (λ (o : Option Def). IfSome o (λ d. IsIndexOfNames d.params j)) (sym (ap (slice_get ds) f.0 ∙ at))
        (subst (λ (j : Index). IsIndexOfNames d.params j) f.1 known)

-- what stands at a place within
pub get_there : {X : Type 0} (xs : List X) (k : ℕ) (x : X) → k < length xs → x ≡ get_or xs k x → slice_get xs k ≡ Some x
get_there [] k x h e = absurd (omega arith)
get_there (y ∷ xs) zero x h e = ap (λ y. Some y) (sym e)
get_there (y ∷ xs) (suc k) x h e = get_there xs k x (omega arith) e
