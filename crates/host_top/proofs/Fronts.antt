-- Runs of bytes at the front of a text.
use Rattle.std.proofs.Common.{◌≡◌, ◌∙◌, sym, ap, refl, ℕ, ◌+◌, ◌≤◌, ◌<◌, nat_lt, Bool, true, false, cond, not, ◌&&◌, ◌||◌, List, [], ◌∷◌, ◌++◌, length, take, drop, suc, inl, inr, arith}
use Rattle.std.specs.Prelude.{Option, Some, None, unwrap_or, ◌⊎◌}
use Rattle.std.specs.List.{prefix_len, position, list_all}
use Rattle.std.proofs.lemmas.Bool.Decides.{nat_tests}
use Rattle.host_top.specs.Reading.{front}

pub and_left : (a b : Bool) → (a && b) ≡ true → a ≡ true
and_left true b h = refl
and_left false b h = h

pub and_right : (a b : Bool) → (a && b) ≡ true → b ≡ true
and_right true b h = h
and_right false b h = cc

pub or_none : (a b : Bool) → (a || b) ≡ false → (a ≡ false) × (b ≡ false)
or_none true b h = cc
or_none false b h = (refl, h)

pub or_some : (a b : Bool) → (a || b) ≡ true → (a ≡ true) ⊎ (b ≡ true)
or_some true b h = inl refl
or_some false b h = inr h

-- the bytes end, or the next one does not pass
abbrev pub Stops : (ℕ → Bool) → List ℕ → Type 0
Stops q [] = Unit {0}
Stops q (b ∷ rest) = q b ≡ false

-- how many bytes from the front on pass
abbrev pub run : (ℕ → Bool) → List ℕ → ℕ
run q xs = front (λ b. not (q b)) xs

abbrev pub passing : (ℕ → Bool) → List ℕ → ℕ
passing q xs = prefix_len (λ x. not (not (q x))) xs

no_more : (q : ℕ → Bool) (xs : List ℕ) → passing q xs ≤ length xs
no_more q [] = omega arith
no_more q (x ∷ xs) = step (q x) (no_more q xs)
  where
    step : (t : Bool) → passing q xs ≤ length xs → cond (not (not t)) (1 + passing q xs) 0 ≤ length (x ∷ xs)
    step true h = omega arith
    step false h = omega arith

run_is : (q : ℕ → Bool) (xs : List ℕ) → run q xs ≡ passing q xs
run_is q xs = let h : passing q xs ≤ length xs = no_more q xs in grind (arith, nat_tests)

passing_of : (q : ℕ → Bool) (a rest : List ℕ) → list_all q a ≡ true → Stops q rest → passing q (a ++ rest) ≡ length a
passing_of q [] [] h s = refl
passing_of q [] (b ∷ rest) h s = rw s refl
passing_of q (b ∷ a) rest h s =
    let first : q b ≡ true = and_left (q b) (list_all q a) h in
    let more : passing q (a ++ rest) ≡ length a = passing_of q a rest (and_right (q b) (list_all q a) h) s in
    rw (first, more) (omega arith)

passes : (q : ℕ → Bool) (xs : List ℕ) → list_all q (take (passing q xs) xs) ≡ true
passes q [] = refl
passes q (x ∷ xs) = step (q x) refl (passes q xs)
  where
    step : (t : Bool) → q x ≡ t → list_all q (take (passing q xs) xs) ≡ true → list_all q (take (cond (not (not t)) (1 + passing q xs) 0) (x ∷ xs)) ≡ true
    step true e h = let n : 1 + passing q xs ≡ suc (passing q xs) = omega arith in rw (n, e) h
    step false e h = refl

stops : (q : ℕ → Bool) (xs : List ℕ) → Stops q (drop (passing q xs) xs)
stops q [] = tt
stops q (x ∷ xs) = step (q x) refl (stops q xs)
  where
    step : (t : Bool) → q x ≡ t → Stops q (drop (passing q xs) xs) → Stops q (drop (cond (not (not t)) (1 + passing q xs) 0) (x ∷ xs))
    step true e h = let n : 1 + passing q xs ≡ suc (passing q xs) = omega arith in rw n h
    step false e h = e

-- a run of bytes that pass, up to the first that does not
pub run_of : (q : ℕ → Bool) (a rest : List ℕ) → list_all q a ≡ true → Stops q rest → run q (a ++ rest) ≡ length a
run_of q a rest h s = run_is q (a ++ rest) ∙ passing_of q a rest h s

pub run_within : (q : ℕ → Bool) (xs : List ℕ) → run q xs ≤ length xs
run_within q xs = let h : passing q xs ≤ length xs = no_more q xs in let e : run q xs ≡ passing q xs = run_is q xs in omega arith

pub run_passes : (q : ℕ → Bool) (xs : List ℕ) → list_all q (take (run q xs) xs) ≡ true
run_passes q xs = rw (run_is q xs) (passes q xs)

pub run_stops : (q : ℕ → Bool) (xs : List ℕ) → Stops q (drop (run q xs) xs)
run_stops q xs = rw (run_is q xs) (stops q xs)
