-- Lists of turns and passes.
use Rattle.std.proofs.Common.{◌≡◌, ℕ, zero, suc, ◌+◌, ◌<◌, ◌≤◌, List, [], ◌∷◌, ◌++◌, length, map, take, drop, refl, sym, ap, ◌∙◌, subst, arith, Some, append-nil}
use Rattle.std.specs.Prelude.{slice_get, slice_index_or, All}
use Rattle.std.specs.List.{AllZip}
use Rattle.std.proofs.lemmas.List.{take_at}
use Rattle.std.proofs.lemmas.List.Elements.{All-head, All-tail, All-map}
use Rattle.std.proofs.lemmas.Slice.Zip.{AllZip-long}
use Rattle.turn_lock.specs.Passes.{Known, first_known}
use Rattle.turn_lock.specs.Histories.{GrowsByOne}
use Rattle.turn_list.specs.Lists.{CanBeOpened}
use Rattle.turn_rows.specs.Histories.{AreGood, raised}
use Rattle.std.proofs.lemmas.Grind.{replicate_next}
use native.Mathlib.Decide.{ℕ_discrete}
use mathlib.Core.Logic.{dite}
use Rattle.turn_rows.specs.declared.judged.Judged.{Judged}

-- a fact about the mapped elements holds at a place
pub mapped_all : {A B : Type 0} (P : B → Type 0) (f : A → B) (xs : List A) (place : ℕ) (x : A) → slice_get xs place ≡ Some x → All P (map f xs) → P (f x)
mapped_all P f [] place x e h = absurd (none e)
  where
    none : slice_get [] place ≡ Some x → ⊥
    none e = cc
mapped_all P f (y ∷ xs) zero x e h = let same : y ≡ x = cc in subst (λ z. P (f z)) same (All-head P (f y) (map f xs) h)
mapped_all P f (y ∷ xs) (suc place) x e h = mapped_all P f xs place x e (All-tail P (f y) (map f xs) h)

module _ {A B : Type 0} (R : A → B → Type 0) where
  -- a slice of a whole vector, written back
  pub written_back : (xs : List A) (items new : List B) (n : ℕ) → AllZip R xs items → n ≡ length items → AllZip R xs new → AllZip R xs (take n (new ++ drop (length new) items))
  written_back xs items new n before whole z = subst (AllZip R xs) (sym (take_at new (drop (length new) items) n (AllZip-long R xs new z ∙ (sym (AllZip-long R xs items before) ∙ sym whole)))) z

  -- the last of each list, taken away
  pub both_last : (xs : List A) (ys : List B) (x : A) (y : B) → AllZip R (xs ++ x ∷ []) (ys ++ y ∷ []) → AllZip R xs ys × R x y
  both_last [] [] x y z = (tt, z.0)
  both_last [] (b ∷ ys) x y z = absurd (none_left ys z.1)
    where
      none_left : (l : List B) → AllZip R [] (l ++ y ∷ []) → ⊥
      none_left [] t = t
      none_left (c ∷ l) t = t
  both_last (a ∷ xs) [] x y z = absurd (none_left xs z.1)
    where
      none_left : (l : List A) → AllZip R (l ++ x ∷ []) [] → ⊥
      none_left [] t = t
      none_left (c ∷ l) t = t
  both_last (a ∷ xs) (b ∷ ys) x y z = let t = both_last xs ys x y z.1 in ((z.0, t.0), t.1)

  pub popped : (xs xs' : List A) (ys ys' : List B) (x : A) (y : B) → xs ≡ xs' ++ x ∷ [] → ys ≡ ys' ++ y ∷ [] → AllZip R xs ys → AllZip R xs' ys' × R x y
  popped xs xs' ys ys' x y e e' z = both_last xs' ys' x y (subst (λ l. AllZip R l (ys' ++ y ∷ [])) e (subst (AllZip R xs) e' z))

-- lists that are empty and have this judge
abbrev pub AreEmptyOf : {J : Type 0} → J → List (Judged J) → Type 0
AreEmptyOf judge lists = All (λ judged. (judged.by.value ≡ judge) × (judged.items.items ≡ [])) lists

module _ {J : Type 0} (good : J → ℕ → Type 0) (judge : J) where
  pub can_be_opened : (lists : List (Judged J)) → AreEmptyOf judge lists
      → CanBeOpened (λ judged. judged.by.value) (λ of judged. (judged.by.value ≡ of) × AreGood (good of) judged.items.items) (λ judged. judged.items.items) lists
  can_be_opened lists h = λ k d within. let t = h k d within in ((refl, subst (AreGood (good _)) (sym t.1) (λ j none. absurd (omega arith))), t.1)

  pub tags_are : (tags : List J) (lists : List (Judged J)) → tags ≡ map (λ judged. judged.by.value) lists → AreEmptyOf judge lists → All (λ tag. tag ≡ judge) tags
  tags_are tags lists e h = subst (All (λ (tag : J). tag ≡ judge)) (sym e)
      (All-map (λ (tag : J). tag ≡ judge) (λ (judged : Judged J). judged.by.value) lists (λ k d within. (h k d within).0))

pub two_each : {A E : Type 0} (knowns : List (Known E)) (lists : List A) → knowns ≡ map (λ _. first_known) lists → All (λ known. 2 ≤ known.shares) knowns
two_each {A} {E} knowns lists e = subst (All (λ (known : Known E). 2 ≤ known.shares)) (sym e)
    (All-map (λ (known : Known E). 2 ≤ known.shares) (λ (_ : A). first_known) lists (λ k d within. omega arith))

raised_next : (n : ℕ) → raised (n + 1) ≡ raised n ++ tt ∷ []
raised_next n = replicate_next n tt

-- a count that one or nothing is added to
pub grows_few : (n k : ℕ) → k ≤ 1 → GrowsByOne (raised n) (raised (n + k))
grows_few n k few = dite (ℕ_discrete k 0)
    (λ none. ([], ap raised (omega arith) ∙ sym (append-nil (raised n)), omega arith))
    (λ one. (tt ∷ [], ap raised (omega arith) ∙ raised_next n, omega arith))
