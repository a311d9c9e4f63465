-- There is one quotient and one remainder.
use Rattle.std.proofs.Common.{◌≡◌, ◌≢◌, ℕ, zero, suc, ◌+◌, ◌*◌, ◌/◌, ◌%◌, ◌<◌, ◌≤◌, Bool, true, false, not, ℤ, pos, negsuc, ◌+ℤ◌, ◌*ℤ◌, ◌<ℤ◌, neg_ℤ, unsigned_abs, int_div, int_rem, refl, sym, subst, ◌∙◌, ap, arith, ◌⊎◌, inl, inr, Ok}
use Rattle.std.specs.Int.{is_negative}
use Rattle.std.proofs.lemmas.Int.{unsigned_abs-mul, ints, quot-rem, rem_below}
use Rattle.std.proofs.lemmas.Nat.{div-mul-add, mod-mul-add}
use Rattle.std.proofs.Math.Nat.{mul_comm, div-add-mod}
use Rattle.std.proofs.Math.IntN.{*ℤ_comm, *ℤ-zero, +ℤ_idl}
use Rattle.b_arith.specs.Division.{IsQuotient, IsRemainder}
use Rattle.b_arith.specs.Rows.{kept, quotient_of, remainder_of}

-- a number by its size and sign
signed : Bool → ℕ → ℤ
signed true n = neg_ℤ (pos n)
signed false n = pos n

-- one of the two holds, and not both
either : Bool → Bool → Bool
either true b = not b
either false b = b

pos-sign : (n : ℕ) → is_negative (pos n) ≡ false
pos-sign n = grind arith

negated-sign : (n : ℕ) → 0 < n → is_negative (neg_ℤ (pos n)) ≡ true
negated-sign zero h = absurd (omega arith)
negated-sign (suc n) h = refl

negated-size : (n : ℕ) → unsigned_abs (neg_ℤ (pos n)) ≡ n
negated-size zero = refl
negated-size (suc n) = refl

signed-is : (z : ℤ) → z ≡ signed (is_negative z) (unsigned_abs z)
unfolding signed
signed-is (pos n) = rw (pos-sign n) refl
signed-is (negsuc n) = refl

quotient-is : (a b : ℤ) → int_div a b ≡ signed (either (is_negative a) (is_negative b)) (unsigned_abs a / unsigned_abs b)
unfolding signed either
quotient-is (pos a) (pos b) = rw (pos-sign a, pos-sign b) refl
quotient-is (pos a) (negsuc b) = rw (pos-sign a) refl
quotient-is (negsuc a) (pos b) = rw (pos-sign b) refl
quotient-is (negsuc a) (negsuc b) = refl

product-sign : (b q : ℤ) → 0 < unsigned_abs b → 0 < unsigned_abs q → is_negative (b *ℤ q) ≡ either (is_negative b) (is_negative q)
unfolding either
product-sign (pos b) (pos q) hb hq = rw (pos-sign b, pos-sign q, pos-sign (b * q)) refl
product-sign (pos b) (negsuc q) hb hq = rw (pos-sign b) (negated-sign (b * suc q) (grind arith))
product-sign (negsuc b) (pos q) hb hq = rw (pos-sign q) (negated-sign (suc b * q) (grind arith))
product-sign (negsuc b) (negsuc q) hb hq = pos-sign (suc b * suc q)

-- a smaller summand doesn't turn the sign
sum-sign : (z r : ℤ) → unsigned_abs r < unsigned_abs z → is_negative (z +ℤ r) ≡ is_negative z
sum-sign (pos z) (pos r) h = grind arith
sum-sign (pos z) (negsuc r) h = grind arith
sum-sign (negsuc z) (pos r) h = grind arith
sum-sign (negsuc z) (negsuc r) h = refl

-- a summand of the same sign adds to the size
sum-size : (z r : ℤ) → (r ≡ pos 0) ⊎ (is_negative r ≡ is_negative z) → unsigned_abs (z +ℤ r) ≡ unsigned_abs z + unsigned_abs r
sum-size (pos z) (pos r) h = refl
sum-size (pos z) (negsuc r) (inl h) = cc
sum-size (pos z) (negsuc r) (inr h) = let e = pos-sign z in cc
sum-size (negsuc z) (pos r) (inl h) = ap (λ t. unsigned_abs (negsuc z +ℤ t)) h ∙ (grind arith)
sum-size (negsuc z) (pos r) (inr h) = let e = pos-sign r in cc
sum-size (negsuc z) (negsuc r) h = omega arith

same-either : (a b q : Bool) → a ≡ either b q → q ≡ either a b
unfolding either
same-either a true true h = ap (λ t. either t true) (sym h)
same-either a true false h = ap (λ t. either t true) (sym h)
same-either a false true h = ap (λ t. either t false) (sym h)
same-either a false false h = ap (λ t. either t false) (sym h)

-- no multiple of n but 0 is smaller than n
multiple : (n k : ℕ) → (k ≡ 0) ⊎ ((0 < k) × (n ≤ n * k))
multiple n zero = inl refl
multiple n (suc k) = inr (grind arith, grind arith)

no-size : (z : ℤ) → unsigned_abs z ≡ 0 → z ≡ pos 0
no-size (pos n) h = ap pos h
no-size (negsuc n) h = absurd (omega arith)

signed-none : (s : Bool) → signed s 0 ≡ pos 0
unfolding signed
signed-none true = refl
signed-none false = refl

module _ (a b q : ℤ) (is : IsQuotient a b q) where
  -- where q isn't 0, the product is no smaller than b, so it has a's sign
  whole_sign : 0 < unsigned_abs q → unsigned_abs b ≤ unsigned_abs (b *ℤ q) → is_negative (b *ℤ q) ≡ is_negative a
  whole_sign p h =
      let lt : unsigned_abs is.rest < unsigned_abs (b *ℤ q) = let s = is.small in omega arith in
      sym (ap is_negative is.whole ∙ sum-sign (b *ℤ q) is.rest lt)

  unique_some : 0 < unsigned_abs q → unsigned_abs b ≤ unsigned_abs b * unsigned_abs q → q ≡ int_div a b
  unique_some p h =
      let times : unsigned_abs (b *ℤ q) ≡ unsigned_abs b * unsigned_abs q = unsigned_abs-mul b q in
      let sign : is_negative (b *ℤ q) ≡ is_negative a = whole_sign p (omega arith) in
      let small : unsigned_abs is.rest < unsigned_abs b = is.small in
      let same : (is.rest ≡ pos 0) ⊎ (is_negative is.rest ≡ is_negative (b *ℤ q)) = elim is.sign [ inl z ↦ inl z | inr s ↦ inr (s ∙ sym sign) ] in
      let size : unsigned_abs a ≡ unsigned_abs q * unsigned_abs b + unsigned_abs is.rest =
      ap unsigned_abs is.whole ∙ (sum-size (b *ℤ q) is.rest same ∙ ap (λ t. t + unsigned_abs is.rest) (times ∙ mul_comm (unsigned_abs b) (unsigned_abs q))) in
      let digits : unsigned_abs a / unsigned_abs b ≡ unsigned_abs q = ap (λ t. t / unsigned_abs b) size ∙ div-mul-add (unsigned_abs q) (unsigned_abs b) (unsigned_abs is.rest) small in
      let turned : is_negative q ≡ either (is_negative a) (is_negative b) =
      same-either (is_negative a) (is_negative b) (is_negative q) (sym sign ∙ product-sign b q (omega arith) p) in
      signed-is q ∙ (ap (λ s. signed s (unsigned_abs q)) turned ∙ (ap (signed (either (is_negative a) (is_negative b))) (sym digits) ∙ sym (quotient-is a b)))

  unique_none : unsigned_abs q ≡ 0 → q ≡ int_div a b
  unique_none p =
      let none : q ≡ pos 0 = no-size q p in
      let left : a ≡ is.rest = is.whole ∙ (ap (λ t. b *ℤ t +ℤ is.rest) none ∙ (ap (λ t. t +ℤ is.rest) (*ℤ-zero b) ∙ +ℤ_idl is.rest)) in
      let small : unsigned_abs is.rest < unsigned_abs b = is.small in
      let digits : unsigned_abs a / unsigned_abs b ≡ 0 = ap (λ t. unsigned_abs t / unsigned_abs b) left ∙ (ap (λ t. t / unsigned_abs b) (grind arith) ∙ div-mul-add 0 (unsigned_abs b) (unsigned_abs is.rest) small) in
      none ∙ (sym (signed-none (either (is_negative a) (is_negative b))) ∙ (ap (signed (either (is_negative a) (is_negative b))) (sym digits) ∙ sym (quotient-is a b)))

-- the one quotient
pub quotient_unique : (a b q : ℤ) → IsQuotient a b q → int_div a b ≡ q
quotient_unique a b q is = elim (multiple (unsigned_abs b) (unsigned_abs q)) [ inl z ↦ sym (unique_none a b q is z) | inr w ↦ sym (unique_some a b q is w.0 w.1) ]

rest-sign : (a b : ℤ) → (int_rem a b ≡ pos 0) ⊎ (is_negative (int_rem a b) ≡ is_negative a)
rest-sign (pos a) b = inr (pos-sign (a % unsigned_abs b) ∙ sym (pos-sign a))
rest-sign (negsuc a) b = negated (suc a % unsigned_abs b) where
  negated : (n : ℕ) → (neg_ℤ (pos n) ≡ pos 0) ⊎ (is_negative (neg_ℤ (pos n)) ≡ true)
  negated zero = inl refl
  negated (suc n) = inr refl

-- there is a quotient, unless b is 0
pub quotient_exists : (a b : ℤ) → b ≢ pos 0 → IsQuotient a b (int_div a b)
quotient_exists a b h = record {
  rest = int_rem a b;
  whole = sym (quot-rem a b) ∙ ap (λ t. t +ℤ int_rem a b) (*ℤ_comm (int_div a b) b);
  small = rem_below a b (some-size b h);
  sign = rest-sign a b;
} where
  some-size : (z : ℤ) → z ≢ pos 0 → 0 < unsigned_abs z
  some-size (pos zero) n = absurd (n refl)
  some-size (pos (suc k)) n = omega arith
  some-size (negsuc k) n = omega arith

-- ---- remainders

rest-is : (a b m : ℕ) (t : ℤ) → pos a ≡ pos (suc b) *ℤ t +ℤ pos m → m < suc b → a % suc b ≡ m
rest-is a b m (pos k) e h =
    let same : a ≡ suc b * k + m = cc in
    ap (λ t. t % suc b) (same ∙ ap (λ t. t + m) (mul_comm (suc b) k)) ∙ mod-mul-add k (suc b) m h
rest-is a b m (negsuc k) e h =
    let size : unsigned_abs (neg_ℤ (pos (suc b * suc k))) ≡ suc b * suc k = negated-size (suc b * suc k) in
    let more : suc b ≤ suc b * suc k = grind arith in
    let sign : is_negative (neg_ℤ (pos (suc b * suc k)) +ℤ pos m) ≡ is_negative (neg_ℤ (pos (suc b * suc k))) = sum-sign (neg_ℤ (pos (suc b * suc k))) (pos m) (omega arith) in
    let below : is_negative (neg_ℤ (pos (suc b * suc k))) ≡ true = negated-sign (suc b * suc k) (omega arith) in
    let no : false ≡ true = sym (pos-sign a) ∙ (ap is_negative e ∙ (sign ∙ below)) in
    cc

-- the one remainder
pub remainder_unique : (a b r : ℤ) → IsRemainder a b r → remainder_of a b ≡ Ok r
remainder_unique (pos a) (pos (suc b)) (pos m) is = ap (λ t. Ok (pos t)) (rest-is a b m is.times is.whole (let h : pos m <ℤ pos (suc b) = is.high in omega (arith, ints)))
remainder_unique (pos a) (pos (suc b)) (negsuc m) is = absurd is.low.le
remainder_unique (pos a) (pos zero) (pos m) is = absurd (let h : pos m <ℤ pos 0 = is.high in omega (arith, ints))
remainder_unique (pos a) (pos zero) (negsuc m) is = absurd is.low.le
remainder_unique (pos a) (negsuc b) (pos m) is = absurd is.high.lt
remainder_unique (pos a) (negsuc b) (negsuc m) is = absurd is.low.le
remainder_unique (negsuc a) b r is = absurd is.dividend.le

rest-of : (a b : ℕ) → IsRemainder (pos a) (pos (suc b)) (pos (a % suc b))
rest-of a b = record {
  times = pos (a / suc b);
  whole = ap pos (sym (div-add-mod a (suc b)));
  dividend = omega (arith, ints);
  low = omega (arith, ints);
  high = omega (arith, ints);
}

pub remainder_exists : (a b r : ℤ) → remainder_of a b ≡ Ok r → IsRemainder a b r
remainder_exists (pos a) (pos (suc b)) r h =
    let is : pos (a % suc b) ≡ r = cc in
    subst (λ t. IsRemainder (pos a) (pos (suc b)) t) is (rest-of a b)
remainder_exists (pos a) (pos zero) r h = absurd (cc)
remainder_exists (pos a) (negsuc b) r h = absurd (cc)
remainder_exists (negsuc a) b r h = absurd (cc)

-- what the row of `/` answers, where q is the quotient
pub quotient_kept : (a b q : ℤ) → IsQuotient a b q → quotient_of a b ≡ kept q
quotient_kept a b q is = nonzero b is.small ∙ ap kept (quotient_unique a b q is) where
  nonzero : (d : ℤ) → unsigned_abs is.rest < unsigned_abs d → quotient_of a d ≡ kept (int_div a d)
  nonzero (pos zero) h = absurd (omega arith)
  nonzero (pos (suc n)) h = grind arith
  nonzero (negsuc n) h = refl
