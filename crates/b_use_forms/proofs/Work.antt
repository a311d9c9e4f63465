-- What is left of a walk, and what was found.
use Rattle.std.proofs.Common.{◌≡◌, ℕ, zero, suc, ◌+◌, ◌<◌, ◌≤◌, List, [], ◌∷◌, map, sum, length, get_or, ◌++◌, append_assoc, arith}
use Rattle.std.proofs.lemmas.List.{append-nil}
use Rattle.std.proofs.lemmas.List.Sums.{sum_by-cons}

sum-more : (n : ℕ) (ns : List ℕ) → sum (n ∷ ns) ≡ n + sum ns
sum-more n ns = sum_by-cons (λ n. n) n ns

-- a part has at most what all have
pub part_of_sum : {X : Type 0} (f : X → ℕ) (xs : List X) (i : ℕ) (d : X) → i < length xs → f (get_or xs i d) ≤ sum (map f xs)
part_of_sum f [] i d h = absurd (omega arith)
part_of_sum f (x ∷ xs) zero d h = rw (sum-more (f x) (map f xs)) (omega arith)
part_of_sum f (x ∷ xs) (suc i) d h = let k = part_of_sum f xs i d (omega arith) in rw (sum-more (f x) (map f xs)) (omega arith)

-- ---- lists

pub one_more : {X : Type 0} (xs : List X) (x : X) (ys : List X) → (xs ++ x ∷ []) ++ ys ≡ xs ++ x ∷ ys
one_more xs x ys = append_assoc xs (x ∷ []) ys

pub nothing_more : {X : Type 0} (xs : List X) → xs ++ [] ≡ xs
nothing_more xs = append-nil xs
