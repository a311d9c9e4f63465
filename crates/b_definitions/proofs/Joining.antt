-- Places one after the other.
use Rattle.std.proofs.Common.{◌≡◌, ℕ, List, [], ◌++◌, append_assoc}
use Rattle.std.proofs.lemmas.List.{append-nil}

pub nothing_more : (xs : List ℕ) → xs ++ [] ≡ xs
nothing_more xs = append-nil xs

pub joined_two : (xs ys zs : List ℕ) → (xs ++ ys) ++ zs ≡ xs ++ (ys ++ zs)
joined_two xs ys zs = append_assoc xs ys zs
