-- Amounts that are counted up to a limit.
use Rattle.std.proofs.Common.{◌≡◌, ℕ, zero, suc, ◌+◌, ◌*◌, ◌≤◌, ◌⊎◌, inl, inr, min, refl, sym, ap, ◌∙◌, arith}
use Rattle.std.proofs.Math.Nat.{mul_comm, mul_assoc, add-mul, mul-zero, mul-suc}

either : (k x : ℕ) → (x ≤ k) ⊎ (k ≤ x)
either zero x = inr (omega arith)
either (suc k) zero = inl (omega arith)
either (suc k) (suc x) = elim (either k x) [ inl h ↦ inl (omega arith) | inr h ↦ inr (omega arith) ]

module _ (k : ℕ) where
  -- a factor may be limited or not
  pub limited-times : (x y : ℕ) → min k (min k x * y) ≡ min k (x * y)
  limited-times x zero = rw (mul-zero (min k x), mul-zero x) refl
  limited-times x (suc y) = elim (either k x) [ inl h ↦ low h | inr h ↦ high h ]
    where
      low : x ≤ k → min k (min k x * suc y) ≡ min k (x * suc y)
      low h = let e : min k x ≡ x = omega arith in ap (λ z. min k (z * suc y)) e

      high : k ≤ x → min k (min k x * suc y) ≡ min k (x * suc y)
      high h = let m = mul-suc (min k x) y in let n = mul-suc x y in omega arith

  -- the other one
  pub times-limited : (x y : ℕ) → min k (x * min k y) ≡ min k (x * y)
  times-limited x y = ap (min k) (mul_comm x (min k y)) ∙ limited-times y x ∙ ap (min k) (mul_comm y x)

  pub plus-limited : (x y : ℕ) → min k (min k x + min k y) ≡ min k (x + y)
  plus-limited x y = omega arith

  -- a limited sum so many times
  pub times-sum : (c x y : ℕ) → min k (c * min k (x + y)) ≡ min k (min k (c * x) + min k (c * y))
  times-sum c x y =
      let e = times-limited c (x + y) in
      let f : c * (x + y) ≡ c * x + c * y = mul_comm c (x + y) ∙ (add-mul x y c ∙ (ap (λ z. z + y * c) (mul_comm x c) ∙ ap (λ z. c * x + z) (mul_comm y c))) in
      let g = ap (min k) f in
      omega arith

  -- so many times and so many more
  pub sum-times : (c d x : ℕ) → min k (min k (c + d) * x) ≡ min k (min k (c * x) + min k (d * x))
  sum-times c d x = let e = limited-times (c + d) x in let g = ap (min k) (add-mul c d x) in omega arith

  -- so many times so many times
  pub times-times : (c d x : ℕ) → min k (min k (c * d) * x) ≡ min k (c * min k (d * x))
  times-times c d x = limited-times (c * d) x ∙ (ap (min k) (mul_assoc c d x) ∙ sym (times-limited c (d * x)))
