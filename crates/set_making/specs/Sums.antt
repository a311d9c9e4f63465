-- Sums over ascending lists: more members have more nodes.
use Rattle.std.proofs.Common.{◌≡◌, ◌≤◌, ◌+◌, ℕ, List, [], ◌∷◌, ◌++◌, map, sum, length, arith, refl, sym, ap, ◌∙◌, subst, inl, inr}
use Rattle.std.specs.declared.cmp.Ordering.{Ordering}
use Rattle.std.specs.declared.cmp.Ordering.TheVariants.{Less}
use Rattle.std.specs.Cmp.{IsTotalOrder}
use Rattle.std.proofs.lemmas.List.Sums.{sum_by-cons}
use Rattle.ascending.specs.Ascending.{In, IsAscending}
use Rattle.ascending.specs.Members.{all_in}
use Rattle.ascending.specs.AscendingLaws.{ascending_head, ascending_tail, not_below_itself}

pub map_cons_sum : {X : Type 0} (f : X → ℕ) (x : X) (xs : List X) → sum (map f (x ∷ xs)) ≡ f x + sum (map f xs)
map_cons_sum f x xs = sum_by-cons (λ n. n) (f x) (map f xs)

pub map_append_sum : {X : Type 0} (f : X → ℕ) (xs ys : List X) → sum (map f (xs ++ ys)) ≡ sum (map f xs) + sum (map f ys)
map_append_sum f [] ys = omega arith
map_append_sum f (x ∷ xs) ys = omega (arith, map_append_sum f xs ys, map_cons_sum f x xs, map_cons_sum f x (xs ++ ys))

-- what a member counts is within the sum
pub map_member_sum : {X : Type 0} (f : X → ℕ) (z : X) (xs : List X) → In z xs → f z ≤ sum (map f xs)
map_member_sum f z [] h = absurd h
map_member_sum f z (x ∷ xs) (inl e) = omega (arith, map_cons_sum f x xs, ap f e)
map_member_sum f z (x ∷ xs) (inr h) = omega (arith, map_cons_sum f x xs, map_member_sum f z xs h)

-- where each counts at least one, there are no more members than their sum
pub length_below_sum : {X : Type 0} (f : X → ℕ) → ((x : X) → 1 ≤ f x) → (xs : List X) → length xs ≤ sum (map f xs)
length_below_sum f one [] = omega arith
length_below_sum f one (x ∷ xs) = omega (arith, map_cons_sum f x xs, one x, length_below_sum f one xs)

module _ {K : Type 0} (R : K → K → Ordering) (o : IsTotalOrder R) (f : K → ℕ) where
  -- an ascending list whose members are among those of another sums to no more
  pub part_sum : (xs ys : List K) → IsAscending R xs → IsAscending R ys → ((z : K) → In z xs → In z ys) → sum (map f xs) ≤ sum (map f ys)
  part_sum [] ys a b among = omega arith
  part_sum (x ∷ xs) [] a b among = absurd (among x (inl refl))
  part_sum (x ∷ xs) (y ∷ ys) a b among =
      go (λ more. part_sum xs ys (ascending_tail R x xs a) (ascending_tail R y ys b) more) (λ more. part_sum (x ∷ xs) ys a (ascending_tail R y ys b) more) (among x (inl refl))
    where
      go : (((z : K) → In z xs → In z ys) → sum (map f xs) ≤ sum (map f ys))
          → (((z : K) → In z (x ∷ xs) → In z ys) → sum (map f (x ∷ xs)) ≤ sum (map f ys))
          → In x (y ∷ ys) → sum (map f (x ∷ xs)) ≤ sum (map f (y ∷ ys))
      go both right (inl e) =
          let tails : (z : K) → In z xs → In z ys = λ z h. elim (among z (inr h)) [
            | inl g ↦ absurd (not_below_itself R o x (subst (λ w. R x w ≡ Less) (g ∙ sym e) (all_in (λ w. R x w ≡ Less) xs (ascending_head R x xs a) z h)))
            | inr g ↦ g
          ] in
          omega (arith, both tails, map_cons_sum f x xs, map_cons_sum f y ys, ap f e)
      go both right (inr h) =
          let above : R y x ≡ Less = all_in (λ w. R y w ≡ Less) ys (ascending_head R y ys b) x h in
          let rest : (z : K) → In z (x ∷ xs) → In z ys = λ z k. elim k [
            | inl e ↦ subst (λ w. In w ys) (sym e) h
            | inr m ↦ elim (among z (inr m)) [
              | inl g ↦ absurd (not_below_itself R o y (o.trans y x y above (subst (λ w. R x w ≡ Less) g (all_in (λ w. R x w ≡ Less) xs (ascending_head R x xs a) z m))))
              | inr g ↦ g
            ]
          ] in
          omega (arith, right rest, map_cons_sum f y ys)
