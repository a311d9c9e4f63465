-- What the tests of relations say, by membership.
use Rattle.std.proofs.Common.{◌≡◌, ◌⊎◌, ◌↔◌, Bool, true, false, List, [], ◌∷◌, ◌++◌, refl, sym, ap, ◌∙◌, subst, inl, inr}
use Rattle.std.specs.Prelude.{◌&&◌, ◌||◌, not, reverse, filter, if◌then◌else◌}
use Rattle.std.specs.List.{list_all, list_any}
use Rattle.std.proofs.lemmas.List.{reverse-append}
use Rattle.ascending.specs.Ascending.{In}
use Rattle.ascending.specs.Members.{in_append}
use Rattle.b_values.specs.SameLaws.{value_decides}
use Rattle.b_values.specs.Values.{same_value}
use Rattle.b_values.specs.declared.values.Value.{Value}
use Rattle.b_values.specs.declared.values.Value.TheVariants.{Pair, outs-Pair}
use Rattle.b_funsets.specs.Arrows.{first_at, second_at, first, second, is_function, is_one_to_one, is_total, is_onto}

-- ---- truth values

pub and_parts : (a b : Bool) → (a && b) ≡ true → (a ≡ true) × (b ≡ true)
and_parts true b e = (refl, e)
and_parts false b e = cc

pub both_true : (a b : Bool) → a ≡ true → b ≡ true → (a && b) ≡ true
both_true true b e f = f
both_true false b e f = cc

pub implies : (a b : Bool) → (not a || b) ≡ true → a ≡ true → b ≡ true
implies true b e f = e
implies false b e f = cc

pub implied : (a b : Bool) → (a ≡ true → b ≡ true) → (not a || b) ≡ true
implied true b f = f refl
implied false b f = refl

pub same_truth : (a b : Bool) → (a ≡ true → b ≡ true) → (b ≡ true → a ≡ true) → a ≡ b
same_truth true true f g = refl
same_truth true false f g = sym (f refl)
same_truth false true f g = g refl
same_truth false false f g = refl

pub not_true : (a : Bool) → not a ≡ true → a ≡ false
not_true true e = cc
not_true false e = refl

pub either_way : (a : Bool) → (a ≡ true) ⊎ (a ≡ false)
either_way true = inl refl
either_way false = inr refl

-- ---- tests of each and of some

pub all_true : {X : Type 0} (p : X → Bool) (xs : List X) → list_all p xs ≡ true → (x : X) → In x xs → p x ≡ true
all_true p [] e x h = absurd h
all_true p (y ∷ ys) e x (inl f) = ap p f ∙ (and_parts (p y) (list_all p ys) e).0
all_true p (y ∷ ys) e x (inr h) = all_true p ys (and_parts (p y) (list_all p ys) e).1 x h

pub true_all : {X : Type 0} (p : X → Bool) (xs : List X) → ((x : X) → In x xs → p x ≡ true) → list_all p xs ≡ true
true_all p [] f = refl
true_all p (y ∷ ys) f = both_true (p y) (list_all p ys) (f y (inl refl)) (true_all p ys (λ x h. f x (inr h)))

pub record Found {X : Type 0} (p : X → Bool) (xs : List X) : Type 0 where
  pub item : X
  pub member : In item xs
  pub passes : p item ≡ true

pub any_true : {X : Type 0} (p : X → Bool) (xs : List X) → list_any p xs ≡ true → Found p xs
any_true p [] e = absurd (cc)
any_true p (y ∷ ys) e = go (p y) refl (any_true p ys) e
  where
    go : (b : Bool) → p y ≡ b → (list_any p ys ≡ true → Found p ys) → (b || list_any p ys) ≡ true → Found p (y ∷ ys)
    go true f more g = record { item = y; member = inl refl; passes = f }
    go false f more g = let m = more g in record { item = m.item; member = inr m.member; passes = m.passes }

pub true_any : {X : Type 0} (p : X → Bool) (xs : List X) (x : X) → In x xs → p x ≡ true → list_any p xs ≡ true
true_any p [] x h e = absurd h
true_any p (y ∷ ys) x (inl f) e = let g : p y ≡ true = ap p (sym f) ∙ e in ap (λ b. b || list_any p ys) g
true_any p (y ∷ ys) x (inr h) e = or_right (p y) (list_any p ys) (true_any p ys x h e)
  where
    or_right : (a b : Bool) → b ≡ true → (a || b) ≡ true
    or_right true b e = refl
    or_right false b e = e

-- ---- a filter

pub in_filter : {X : Type 0} (p : X → Bool) (z : X) (xs : List X) → In z (filter p xs) ↔ (In z xs × (p z ≡ true))
in_filter p z [] = (λ h. absurd h, λ h. h.0)
in_filter p z (x ∷ xs) = go (p x) refl (in_filter p z xs)
  where
    go : (b : Bool) → p x ≡ b → In z (filter p xs) ↔ (In z xs × (p z ≡ true)) → In z (if b then x ∷ filter p xs else filter p xs) ↔ (In z (x ∷ xs) × (p z ≡ true))
    go true e more = (
      λ h. elim h [ inl f ↦ (inl f, ap p f ∙ e) | inr m ↦ (inr (more.0 m).0, (more.0 m).1) ],
      λ h. elim h.0 [ inl f ↦ inl f | inr m ↦ inr (more.1 (m, h.1)) ],
    )
    go false e more = (
      λ h. (inr (more.0 h).0, (more.0 h).1),
      λ h. elim h.0 [ inl f ↦ absurd (let g : p x ≡ true = ap p (sym f) ∙ h.1 in cc) | inr m ↦ more.1 (m, h.1) ],
    )

pub filter_same : {X : Type 0} (p q : X → Bool) (xs : List X) → ((z : X) → In z xs → p z ≡ q z) → filter p xs ≡ filter q xs
filter_same p q [] f = refl
filter_same p q (x ∷ xs) f = step (p x) (q x) (f x (inl refl)) (filter_same p q xs (λ z h. f z (inr h)))
  where
    step : (a b : Bool) → a ≡ b → filter p xs ≡ filter q xs → (if a then x ∷ filter p xs else filter p xs) ≡ (if b then x ∷ filter q xs else filter q xs)
    step true true e g = ap (λ ys. x ∷ ys) g
    step true false e g = cc
    step false true e g = cc
    step false false e g = g

-- ---- a list turned round

pub in_reverse : {X : Type 0} (z : X) (xs : List X) → In z (reverse xs) ↔ In z xs
in_reverse z [] = (λ h. h, λ h. h)
in_reverse z (x ∷ xs) =
    let turned : reverse (x ∷ xs) ≡ reverse xs ++ x ∷ [] = reverse-append (x ∷ []) xs in
    let both = in_append z (reverse xs) (x ∷ []) in
    let more = in_reverse z xs in (
      λ h. elim (both.0 (subst (In z) turned h)) [ inl m ↦ inr (more.0 m) | inr m ↦ elim m [ inl e ↦ inl e | inr k ↦ absurd k ] ],
      λ h. subst (In z) (sym turned) (both.1 (elim h [ inl e ↦ inr (inl e) | inr m ↦ inl (more.1 m) ])),
    )

-- ---- the parts of couples

pub first-Pair : (a b : Value) → first (Pair a b) ≡ a
first-Pair a b = ap (first_at (Pair a b)) (outs-Pair a b)

pub second-Pair : (a b : Value) → second (Pair a b) ≡ b
second-Pair a b = ap (second_at (Pair a b)) (outs-Pair a b)

-- ---- what the tests say

pub record HasFirst (r : List Value) (x : Value) : Type 0 where
  pub couple : Value
  pub member : In couple r
  pub is : first couple ≡ x

pub record HasSecond (r : List Value) (y : Value) : Type 0 where
  pub couple : Value
  pub member : In couple r
  pub is : second couple ≡ y

abbrev pub OneImage : List Value → Type 0
OneImage r = (p q : Value) → In p r → In q r → first p ≡ first q → p ≡ q

abbrev pub OneArgument : List Value → Type 0
OneArgument r = (p q : Value) → In p r → In q r → second p ≡ second q → p ≡ q

abbrev pub AllFirst : List Value → List Value → Type 0
AllFirst s r = (x : Value) → In x s → HasFirst r x

abbrev pub AllSecond : List Value → List Value → Type 0
AllSecond t r = (y : Value) → In y t → HasSecond r y

module _ (f : Value → Value) where
  apart : List Value → Bool
  apart r = list_all (λ p. list_all (λ q. not (same_value (f p) (f q)) || same_value p q) r) r

  apart_says : (r : List Value) → list_all (λ p. list_all (λ q. not (same_value (f p) (f q)) || same_value p q) r) r ≡ true → (p q : Value) → In p r → In q r → f p ≡ f q → p ≡ q
  apart_says r e p q h k g =
      let row = all_true (λ p. list_all (λ q. not (same_value (f p) (f q)) || same_value p q) r) r e p h in
      let cell = all_true (λ q. not (same_value (f p) (f q)) || same_value p q) r row q k in
      (value_decides p q).0 (implies (same_value (f p) (f q)) (same_value p q) cell ((value_decides (f p) (f q)).1 g))

  says_apart : (r : List Value) → ((p q : Value) → In p r → In q r → f p ≡ f q → p ≡ q) → list_all (λ p. list_all (λ q. not (same_value (f p) (f q)) || same_value p q) r) r ≡ true
  says_apart r one = true_all (λ p. list_all (λ q. not (same_value (f p) (f q)) || same_value p q) r) r (λ p h.
      true_all (λ q. not (same_value (f p) (f q)) || same_value p q) r (λ q k.
      implied (same_value (f p) (f q)) (same_value p q) (λ e. (value_decides p q).1 (one p q h k ((value_decides (f p) (f q)).0 e)))))

pub function_means : (r : List Value) → (is_function r ≡ true) ↔ OneImage r
function_means r = (apart_says first r, says_apart first r)

pub one_to_one_means : (r : List Value) → (is_one_to_one r ≡ true) ↔ OneArgument r
one_to_one_means r = (apart_says second r, says_apart second r)

pub total_means : (s r : List Value) → (is_total s r ≡ true) ↔ AllFirst s r
total_means s r = (
  λ e x h. (let g = any_true (λ p. same_value (first p) x) r (all_true (λ x. list_any (λ p. same_value (first p) x) r) s e x h) in
      record { couple = g.item; member = g.member; is = (value_decides (first g.item) x).0 g.passes }),
  λ f. true_all (λ x. list_any (λ p. same_value (first p) x) r) s (λ x h.
      let g = f x h in true_any (λ p. same_value (first p) x) r g.couple g.member ((value_decides (first g.couple) x).1 g.is)),
)

pub onto_means : (t r : List Value) → (is_onto t r ≡ true) ↔ AllSecond t r
onto_means t r = (
  λ e y h. (let g = any_true (λ p. same_value (second p) y) r (all_true (λ y. list_any (λ p. same_value (second p) y) r) t e y h) in
      record { couple = g.item; member = g.member; is = (value_decides (second g.item) y).0 g.passes }),
  λ f. true_all (λ y. list_any (λ p. same_value (second p) y) r) t (λ y h.
      let g = f y h in true_any (λ p. same_value (second p) y) r g.couple g.member ((value_decides (second g.couple) y).1 g.is)),
)
