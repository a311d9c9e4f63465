-- Steps of loops that gather, and lists of one element.
use Rattle.std.proofs.Common.{◌≡◌, ◌<◌, ◌≤◌, ◌+◌, ℕ, suc, Bool, true, cond, List, [], ◌∷◌, ◌++◌, map, length, get_or, drop, drop-cons, add-one, append_assoc, Result, Ok, Err, arith, refl, sym, ap, ◌∙◌}
use Rattle.std.specs.Prelude.{OnOk}
use Rattle.std.specs.List.{filter, flat_map}

-- what is left from a place begins with the element there
pub rest_at : {X : Type 0} (xs : List X) (i : ℕ) (x : X) → i < length xs → x ≡ get_or xs i x → drop i xs ≡ x ∷ drop (i + 1) xs
rest_at xs i x h e = rw (add-one, drop-cons xs i x) (ap (λ y. y ∷ drop (suc i) xs) (sym e))

-- one more piece of what is gathered
pub gather_step : {X Y : Type 0} (F : X → List Y) (xs : List X) (i : ℕ) (x : X) (old new piece whole : List Y) → i < length xs → x ≡ get_or xs i x
    → new ≡ old ++ piece → piece ≡ F x → old ++ flat_map F (drop i xs) ≡ whole → new ++ flat_map F (drop (i + 1) xs) ≡ whole
gather_step F xs i x old new piece whole h e f g k =
    rw (f, g, append_assoc) (ap (λ l. old ++ flat_map F l) (sym (rest_at xs i x h e)) ∙ k)

pub map_append : {X Y : Type 0} (f : X → Y) (xs ys : List X) → map f (xs ++ ys) ≡ map f xs ++ map f ys
map_append f [] ys = refl
map_append f (x ∷ xs) ys = ap (λ more. f x ∷ more) (map_append f xs ys)

pub filter_same : {X : Type 0} (t u : X → Bool) → ((x : X) → t x ≡ u x) → (xs : List X) → filter t xs ≡ filter u xs
filter_same t u e [] = refl
filter_same t u e (x ∷ xs) = ap (λ b. cond b (x ∷ filter t xs) (filter t xs)) (e x) ∙ ap (λ more. cond (u x) (x ∷ more) more) (filter_same t u e xs)

-- a list of one element
pub one_item : {X : Type 0} (xs : List X) (x : X) → 1 ≤ length xs → length xs < 2 → x ≡ get_or xs 0 x → xs ≡ x ∷ []
one_item [] x h l e = absurd (omega arith)
one_item (y ∷ []) x h l e = ap (λ z. z ∷ []) (sym e)
one_item (y ∷ z ∷ ys) x h l e = absurd (omega arith)

-- what passes a test that all pass
pub all_pass : {X : Type 0} (xs : List X) → filter (λ x. true) xs ≡ xs
all_pass [] = refl
all_pass (x ∷ xs) = ap (λ more. x ∷ more) (all_pass xs)

-- what follows from the fact of a success
pub on_ok : {P Q : Type 0} {T E : Type 0} (r : Result T E) → (P → Q) → OnOk r P → OnOk r Q
on_ok (Ok v) f h = f h
on_ok (Err e) f h = tt
