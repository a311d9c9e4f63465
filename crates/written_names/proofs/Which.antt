-- Tests of names, and sets of names.
use Rattle.std.proofs.Common.{◌≡◌, ℕ, Bool, true, false, ◌&&◌, ◌||◌, not, cond, List, [], ◌∷◌, ◌++◌, Vec, bytes_eq, sym, refl, ap, ◌∙◌, subst}
use Rattle.std.proofs.Math.Path.{fun_ext}
use Rattle.std.specs.Prelude.{filter}
use Rattle.std.specs.List.{list_any}
use Rattle.std.specs.HashSet.{HashSet, UpdatesBy}
use Rattle.std.specs.Map.{IsKeyTest, AreApart}
use Rattle.std.specs.Set.{KeepsOthers}
use Rattle.std.specs.Cmp.Lexicographic.{bytes_decides, nat_list_eq_equiv}
use Rattle.std.proofs.lemmas.List.Folds.{list_any-append}
use Rattle.b_ast.specs.declared.Bound.{Bound}
use Rattle.written_names.specs.declared.names.Names.{Names}
use Rattle.written_names.specs.Names.{Which, none, either, both, without, among, added, in_set, has}

-- ---- tests

pub either-none : (p : Which) → either p none ≡ p
unfolding either none
either-none p = fun_ext (λ x. cases (p x))
  where
    cases : (a : Bool) → (a || false) ≡ a
    cases true = refl
    cases false = refl

pub none-either : (p : Which) → either none p ≡ p
unfolding either none
none-either p = refl

pub either_assoc : (p q r : Which) → either (either p q) r ≡ either p (either q r)
unfolding either
either_assoc p q r = fun_ext (λ x. cases (p x) (q x) (r x))
  where
    cases : (a b c : Bool) → ((a || b) || c) ≡ (a || (b || c))
    cases true b c = refl
    cases false b c = refl

pub either_comm : (p q : Which) → either p q ≡ either q p
unfolding either
either_comm p q = fun_ext (λ x. cases (p x) (q x))
  where
    cases : (a b : Bool) → (a || b) ≡ (b || a)
    cases true true = refl
    cases true false = refl
    cases false true = refl
    cases false false = refl

pub both-none : (p : Which) → both p none ≡ none
unfolding both none
both-none p = fun_ext (λ x. cases (p x))
  where
    cases : (a : Bool) → (a && false) ≡ false
    cases true = refl
    cases false = refl

-- ---- lists

pub among-none : among [] ≡ none
unfolding among none
among-none = refl

pub among-cons : (x : List ℕ) (xs : List (List ℕ)) → among (x ∷ xs) ≡ either (among (x ∷ [])) (among xs)
unfolding among either
among-cons x xs = fun_ext (λ y. cases (bytes_eq y x) (list_any (bytes_eq y) xs))
  where
    cases : (a b : Bool) → (a || b) ≡ ((a || false) || b)
    cases true b = refl
    cases false b = refl

pub among-append : (xs ys : List (List ℕ)) → among (xs ++ ys) ≡ either (among xs) (among ys)
unfolding among either
among-append xs ys = fun_ext (λ x. list_any-append (bytes_eq x) xs ys)

-- one more name and the rest
pub adding : (p : Which) (x : List ℕ) (xs : List (List ℕ)) → either p (among (x ∷ xs)) ≡ either (either (among (x ∷ [])) p) (among xs)
adding p x xs =
    ap (either p) (among-cons x xs)
    ∙ sym (either_assoc p (among (x ∷ [])) (among xs))
    ∙ ap (λ q. either q (among xs)) (either_comm p (among (x ∷ [])))

-- one after another are all of them
pub added_all : (p : Which) (xs : List (List ℕ)) → added p xs ≡ either p (among xs)
added_all p [] = sym (ap (either p) among-none ∙ either-none p)
added_all p (x ∷ xs) = added_all (either (among (x ∷ [])) p) xs ∙ sym (adding p x xs)

-- a list with one more name
pub among-push : (xs : List (List ℕ)) (x : List ℕ) → among (xs ++ x ∷ []) ≡ either (among xs) (among (x ∷ []))
among-push xs x = among-append xs (x ∷ [])

-- a test of names goes by their bytes
same_answer : (p : Which) (x y : List ℕ) → bytes_eq y x ≡ true → p y ≡ p x
same_answer p x y e = ap p ((bytes_decides y x).0 e)

and_false : (a : Bool) → (a && false) ≡ false
and_false true = refl
and_false false = refl

one_passes : (p : Which) (x y : List ℕ) (fs xs : List (List ℕ)) (t : Bool) → p x ≡ t → (e : Bool) → bytes_eq y x ≡ e → list_any (bytes_eq y) fs ≡ (list_any (bytes_eq y) xs && p y)
    → list_any (bytes_eq y) (cond t (x ∷ fs) fs) ≡ ((e || list_any (bytes_eq y) xs) && p y)
one_passes p x y fs xs true h true e rest = ap (λ b. b || list_any (bytes_eq y) fs) e ∙ sym (same_answer p x y e ∙ h)
one_passes p x y fs xs true h false e rest = ap (λ b. b || list_any (bytes_eq y) fs) e ∙ rest
one_passes p x y fs xs false h true e rest =
    rest
    ∙ ap (λ b. list_any (bytes_eq y) xs && b) (same_answer p x y e ∙ h)
    ∙ and_false (list_any (bytes_eq y) xs)
    ∙ sym (same_answer p x y e ∙ h)
one_passes p x y fs xs false h false e rest = rest

among_filter_at : (p : Which) (xs : List (List ℕ)) (y : List ℕ) → list_any (bytes_eq y) (filter p xs) ≡ (list_any (bytes_eq y) xs && p y)
among_filter_at p [] y = refl
among_filter_at p (x ∷ xs) y = one_passes p x y (filter p xs) xs (p x) refl (bytes_eq y x) refl (among_filter_at p xs y)

-- the names of a list that pass a test
pub among-filter : (p : Which) (xs : List (List ℕ)) → among (filter p xs) ≡ both (among xs) p
unfolding among both
among-filter p xs = fun_ext (λ y. among_filter_at p xs y)

-- ---- sets

-- a name with other bytes isn't a key that has the bytes of a third
apart : (x name key : List ℕ) → bytes_eq x name ≡ false → bytes_eq name key ≡ true → bytes_eq x key ≡ false
apart x name key n y = nat_list_eq_equiv.symm x key ∙ sym (nat_list_eq_equiv.congr name key x y) ∙ (nat_list_eq_equiv.symm name x ∙ n)

-- a look-up of another key finds what it found before
others : {K : Type 0} (eq : K → K → Bool) (test : K → Bool) (old new : List K) → KeepsOthers eq test old new → (other : K → Bool) → IsKeyTest eq other → AreApart test other → list_any other new ≡ list_any other old
unfolding KeepsOthers
others eq test old new h = h

-- the names of a set after one is put
pub put_name : {Y S : Type 0} (name : List ℕ) (old new : HashSet (Vec ℕ Y) S) → UpdatesBy (λ k l. bytes_eq k.items l.items) (λ k. bytes_eq name k.items) old new true → (x : List ℕ) → in_set new x ≡ (bytes_eq x name || in_set old x)
put_name name old new h x = cases (bytes_eq x name) refl
  where
    cases : (b : Bool) → bytes_eq x name ≡ b → in_set new x ≡ (b || in_set old x)
    cases true e = subst (λ y. in_set new y ≡ true) (sym ((bytes_decides x name).0 e)) h.1
    cases false e = others _ _ _ _ h.3 (λ k. bytes_eq x k.items) (λ k l. nat_list_eq_equiv.congr x k.items l.items) (λ k. apart x name k.items e)

-- a set without keys has no names
pub emptied : (n : Names) → n.set.keys ≡ [] → has n ≡ none
unfolding has none
emptied n e = fun_ext (λ x. ap (list_any (λ k. bytes_eq x k.items)) e)

-- the names after one is put
pub putting : (n m : Names) (name : List ℕ) → ((x : List ℕ) → in_set m.set x ≡ (bytes_eq x name || in_set n.set x)) → has m ≡ either (among (name ∷ [])) (has n)
unfolding has either among
putting n m name h = fun_ext (λ x. h x ∙ cases (bytes_eq x name) (in_set n.set x))
  where
    cases : (a b : Bool) → (a || b) ≡ ((a || false) || b)
    cases true b = refl
    cases false b = refl

-- what gathering names takes
pub ruleset gathers = (either-none, none-either, among-none, adding)

pub ruleset of_nothing = (among-none, both-none)

pub ruleset joins = (among-append)

pub ruleset keeps = (among-filter)
