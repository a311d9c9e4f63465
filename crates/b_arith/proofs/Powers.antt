-- Powers by halves: a power is the square of the half power, and does not fit where that does not.
use Rattle.std.proofs.Common.{◌≡◌, ◌≢◌, ℕ, zero, suc, ◌+◌, ◌*◌, ◌/◌, ◌%◌, ◌^◌, ◌<◌, ◌≤◌, Bool, true, false, ℤ, pos, negsuc, ◌*ℤ◌, neg_ℤ, unsigned_abs, refl, sym, ◌∙◌, ap, arith, ◌⊎◌, inl, inr, Ok, Err, if◌then◌else◌}
use Rattle.std.proofs.Math.Nat.{pow-le-pow_right, pow-suc, pow-zero, mul-le-mul, pow-le-pow_left}
use Rattle.std.proofs.lemmas.Nat.{pow-add}
use Rattle.std.proofs.lemmas.Int.{unsigned_abs-mul}
use Rattle.b_values.specs.declared.values.FaultKind.{FaultKind}
use Rattle.b_values.specs.declared.values.FaultKind.TheVariants.{Overflow}
use Rattle.b_arith.specs.Rows.{fits, kept, natural_power}

-- the size of a power is the power of the size
pub size-power : (a : ℤ) (n : ℕ) → unsigned_abs (natural_power a n) ≡ unsigned_abs a ^ n
unfolding natural_power
size-power a zero = sym (pow-zero (unsigned_abs a))
size-power a (suc n) = unsigned_abs-mul (natural_power a n) a ∙ (ap (λ k. k * unsigned_abs a) (size-power a n) ∙ sym (pow-suc (unsigned_abs a) n))

-- a square is the square of the size
pub square-is : (z : ℤ) → z *ℤ z ≡ pos (unsigned_abs z * unsigned_abs z)
square-is (pos n) = refl
square-is (negsuc n) = refl

negated-times : (k x : ℕ) → neg_ℤ (pos k) *ℤ negsuc x ≡ pos (k * suc x)
negated-times zero x = grind arith
negated-times (suc k) x = refl

-- two more factors of one sign
pub twice-times : (p : ℕ) (a : ℤ) → (pos p *ℤ a) *ℤ a ≡ pos (p * unsigned_abs a * unsigned_abs a)
twice-times p (pos x) = refl
twice-times p (negsuc x) = negated-times (p * suc x) x

-- an even power is never negative
pub even-power : (a : ℤ) (h : ℕ) → natural_power a (h + h) ≡ pos (unsigned_abs a ^ (h + h))
unfolding natural_power
even-power a zero = ap pos (sym (pow-zero (unsigned_abs a)))
even-power a (suc h) =
    let e : suc h + suc h ≡ suc (suc (h + h)) = omega arith in
    rw e
    (ap (λ z. z *ℤ a *ℤ a) (even-power a h) ∙ (twice-times (unsigned_abs a ^ (h + h)) a ∙ ap pos (sym (pow-suc (unsigned_abs a) (suc (h + h)) ∙ ap (λ k. k * unsigned_abs a) (pow-suc (unsigned_abs a) (h + h))))))

-- a power of twice a number is a square
pub doubled-power : (a : ℤ) (h : ℕ) → natural_power a (h + h) ≡ natural_power a h *ℤ natural_power a h
doubled-power a h =
    even-power a h ∙ (ap pos (pow-add (unsigned_abs a) h h) ∙ sym (square-is (natural_power a h) ∙ ap (λ k. pos (k * k)) (size-power a h)))

pub even-is : (a : ℤ) (e : ℕ) → e % 2 ≡ 0 → natural_power a e ≡ natural_power a (e / 2) *ℤ natural_power a (e / 2)
even-is a e even =
    let twice : e ≡ e / 2 + e / 2 = omega arith in
    ap (natural_power a) twice ∙ doubled-power a (e / 2)

pub odd-is : (a : ℤ) (e : ℕ) → e % 2 ≢ 0 → natural_power a e ≡ natural_power a (e / 2) *ℤ natural_power a (e / 2) *ℤ a
unfolding natural_power
odd-is a e odd =
    let twice : e ≡ suc (e / 2 + e / 2) = omega arith in
    ap (natural_power a) twice ∙ ap (λ z. z *ℤ a) (doubled-power a (e / 2))

-- what does not fit is as large as 2^127, and what is larger does not fit
pub large-unfit : (z : ℤ) → fits z ≡ false → 2 ^ 127 ≤ unsigned_abs z
large-unfit z h = grind arith

pub unfit-large : (z : ℤ) → 2 ^ 127 < unsigned_abs z → fits z ≡ false
unfit-large z h = grind arith

-- ---- what the answers at the half and at its square say of the answer

from-ok : (z x : ℤ) → kept z ≡ Ok x → z ≡ x
from-ok z x h = elim-fit (fits z) h where
  elim-fit : (b : Bool) → (if b then Ok z else Err Overflow) ≡ Ok x → z ≡ x
  elim-fit true e = cc
  elim-fit false e = cc

from-err : (z : ℤ) (f : FaultKind) → kept z ≡ Err f → (fits z ≡ false) × (f ≡ Overflow)
from-err z f h = elim-fit (fits z) h where
  elim-fit : (b : Bool) → (if b then Ok z else Err Overflow) ≡ Err f → (b ≡ false) × (f ≡ Overflow)
  elim-fit true e = cc
  elim-fit false e = (refl, cc)

unfit : (z : ℤ) → 2 ^ 127 < unsigned_abs z → kept z ≡ Err Overflow
unfit z h = rw (unfit-large z h) refl

-- a product of two large numbers is larger
larger : (m x y : ℕ) → 2 ≤ m → m ≤ x → 2 ≤ y → m < x * y
larger m x y h p q = let e : m * 2 ≤ x * y = mul-le-mul p q in omega arith

one-pow : (h : ℕ) → 1 ^ h ≡ 1
one-pow zero = pow-zero 1
one-pow (suc h) = pow-suc 1 h ∙ ap (λ k. k * 1) (one-pow h)

-- a power that is large has a base of size 2 or more
base-size : (n h : ℕ) → 2 ≤ n ^ h → 2 ≤ n
base-size zero h p = absurd (omega (arith, pow-le-pow_left {n = 0} {m = 1} (omega arith) h, one-pow h))
base-size (suc zero) h p = absurd (omega (arith, one-pow h))
base-size (suc (suc n)) h p = omega arith

-- a power of a large power is large
tower : (n k e : ℕ) → 2 ^ 127 ≤ n ^ k → k + k ≤ e → 2 ^ 127 < n ^ e
tower n k e h le =
    let base : 2 ≤ n = base-size n k (omega arith) in
    let square : 2 ^ 127 < n ^ k * n ^ k = larger (2 ^ 127) (n ^ k) (n ^ k) (omega arith) h (omega arith) in
    let more : n ^ (k + k) ≤ n ^ e = pow-le-pow_right (omega arith) le in
    omega (arith, pow-add n k k)

-- an even number or an odd one
parity : (e : ℕ) → (e ≡ e / 2 + e / 2) ⊎ (e ≡ suc (e / 2 + e / 2))
parity e = cases (e % 2) refl where
  cases : (m : ℕ) → e % 2 ≡ m → (e ≡ e / 2 + e / 2) ⊎ (e ≡ suc (e / 2 + e / 2))
  cases zero h = inl (omega arith)
  cases (suc zero) h = inr (omega arith)
  cases (suc (suc m)) h = absurd (omega arith)

pub zeroth : (a : ℤ) (e : ℕ) → e ≡ 0 → natural_power a e ≡ pos 1
unfolding natural_power
zeroth a e h = ap (natural_power a) h

pub half-fault : (a : ℤ) (e : ℕ) (f : FaultKind) → kept (natural_power a (e / 2)) ≡ Err f → kept (natural_power a e) ≡ Err f
half-fault a e f h =
    let no = from-err (natural_power a (e / 2)) f h in
    let large : 2 ^ 127 ≤ unsigned_abs a ^ (e / 2) = rw size-power at (large-unfit (natural_power a (e / 2)) no.0) in
    let size : 2 ^ 127 < unsigned_abs a ^ e = tower (unsigned_abs a) (e / 2) e large (omega arith) in
    unfit (natural_power a e) (rw size-power size) ∙ ap Err (sym no.1)

pub square-fault : (a : ℤ) (e : ℕ) (half : ℤ) (f : FaultKind) → kept (natural_power a (e / 2)) ≡ Ok half → kept (half *ℤ half) ≡ Err f → kept (natural_power a e) ≡ Err f
square-fault a e half f h s =
    let is : natural_power a (e / 2) ≡ half = from-ok _ _ h in
    let twice : natural_power a (e / 2 + e / 2) ≡ half *ℤ half = doubled-power a (e / 2) ∙ ap (λ z. z *ℤ z) is in
    let no = from-err (half *ℤ half) f s in
    let large : 2 ^ 127 ≤ unsigned_abs a ^ (e / 2 + e / 2) = rw size-power at (rw (← twice) at (large-unfit (half *ℤ half) no.0)) in
    elim (parity e) [
      | inl even ↦ ap (λ n. kept (natural_power a n)) even ∙ (ap kept twice ∙ s)
      | inr odd ↦
          let base : 2 ≤ unsigned_abs a = base-size (unsigned_abs a) (e / 2 + e / 2) (omega arith) in
          let size : 2 ^ 127 < unsigned_abs a ^ (e / 2 + e / 2) * unsigned_abs a = larger (2 ^ 127) (unsigned_abs a ^ (e / 2 + e / 2)) (unsigned_abs a) (omega arith) large base in
          ap (λ n. kept (natural_power a n)) odd ∙ (unfit (natural_power a (suc (e / 2 + e / 2))) (rw (size-power, pow-suc) size) ∙ ap Err (sym no.1))
    ]

pub even-answer : (a : ℤ) (e : ℕ) (half square : ℤ) → e % 2 ≡ 0 → kept (natural_power a (e / 2)) ≡ Ok half → kept (half *ℤ half) ≡ Ok square → kept (natural_power a e) ≡ Ok square
even-answer a e half square even h s =
    ap kept (even-is a e even ∙ ap (λ z. z *ℤ z) (from-ok _ _ h)) ∙ s

pub odd-answer : (a : ℤ) (e : ℕ) (half square : ℤ) → e % 2 ≢ 0 → kept (natural_power a (e / 2)) ≡ Ok half → kept (half *ℤ half) ≡ Ok square → kept (natural_power a e) ≡ kept (square *ℤ a)
odd-answer a e half square odd h s =
    ap kept (odd-is a e odd ∙ ap (λ z. z *ℤ a) (ap (λ z. z *ℤ z) (from-ok _ _ h) ∙ from-ok _ _ s))
