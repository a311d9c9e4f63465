-- Numbers as bytes and back, and the front of a list of bytes.
use Rattle.std.proofs.Common.{◌≡◌, ◌∙◌, ◌<◌, ◌≤◌, sym, ap, subst, refl, ℕ, zero, suc, ◌+◌, ◌*◌, ◌/◌, ◌%◌, ◌^◌, arith, Bool, true, false, cond, ◌&&◌, ℤ, pos, negsuc, List, [], ◌∷◌, ◌++◌, take, drop, length, get_or, nat_le, nat_lt, ◌==◌, Option, Some, None, if◌then◌else◌}
use Rattle.std.proofs.lemmas.Nat.{be_bytes_4, be_bytes_8, from_be_bytes-to_be_bytes_4, from_be_bytes-to_be_bytes_8}
use Rattle.std.proofs.lemmas.Int.{to_z-of_z, of_z-to_z}
use Rattle.std.proofs.lemmas.List.{take-append-drop, length-take-le}
use Rattle.std.proofs.lemmas.List.Folds.{list_all-append}
use Rattle.std.proofs.lemmas.Bool.Decides.{nat_tests}
use Rattle.std.specs.List.{list_all}
use Rattle.std.specs.Int.{w32, w64, w128, cast_unsigned, cast_signed, to_be_bytes, from_be_bytes}
use Rattle.b_values.specs.ReadingDescent.{Found, with_found}
use Rattle.b_values.specs.Reading.{FitsNumber}
use Rattle.pack_state.specs.Bytes.{int_bytes, word_bytes, count_bytes}
use Rattle.pack_state.specs.Unpacking.{first_bytes, count_or_none, read_count, word_of, are_bytes}

-- ---- what was found

pub found_is : {A B : Type 0} (o : Found A) (go : A → List ℕ → Found B) (r : B × List ℕ) → with_found o go ≡ Some r → (p : A × List ℕ) × ((o ≡ Some p) × (go p.0 p.1 ≡ Some r))
found_is None go r e = absurd (cc)
found_is (Some p) go r e = (p, (refl, e))

pub if_is : {A : Type 0} (b : Bool) (x y : A) → (if b then Some x else None) ≡ Some y → (b ≡ true) × (x ≡ y)
if_is true x y e = (refl, cc)
if_is false x y e = absurd (cc)

pub le_true : (a b : ℕ) → a ≤ b → nat_le a b ≡ true
le_true a b h = grind (arith, nat_tests)

pub le_from : (a b : ℕ) → nat_le a b ≡ true → a ≤ b
le_from a b h = grind (arith, nat_tests)

pub lt_true : (a b : ℕ) → a < b → nat_lt a b ≡ true
lt_true a b h = grind (arith, nat_tests)

pub lt_from : (a b : ℕ) → nat_lt a b ≡ true → a < b
lt_from a b h = grind (arith, nat_tests)

pub eq_from : (a b : ℕ) → (a == b) ≡ true → a ≡ b
eq_from a b h = grind (arith, nat_tests)

-- ---- bytes

pub both_true : (p q : Bool) → (p && q) ≡ true → (p ≡ true) × (q ≡ true)
both_true true true h = (refl, refl)
both_true true false h = absurd (cc)
both_true false q h = absurd (cc)

pub bytes_parts : (xs ys : List ℕ) → are_bytes (xs ++ ys) ≡ true → (are_bytes xs ≡ true) × (are_bytes ys ≡ true)
bytes_parts xs ys h = both_true _ _ (sym (list_all-append (λ b. nat_lt b 256) xs ys) ∙ h)

pub small_bytes : (xs : List ℕ) → are_bytes xs ≡ true → (i : ℕ) → get_or xs i 0 < 256
small_bytes [] h i = omega arith
small_bytes (x ∷ xs) h zero = lt_from x 256 (both_true _ _ h).0
small_bytes (x ∷ xs) h (suc i) = small_bytes xs (both_true _ _ h).1 i

-- ---- the front

-- what was taken from the front, with what follows
pub record IsFront (n : ℕ) (bytes front rest : List ℕ) : Type 0 where
  pub size : length front ≡ n
  pub whole : bytes ≡ front ++ rest

pub first_is : (n : ℕ) (bytes : List ℕ) (p : List ℕ × List ℕ) → first_bytes n bytes ≡ Some p → IsFront n bytes p.0 p.1
first_is n bytes p e =
    let h = if_is (nat_le n (length bytes)) (take n bytes, drop n bytes) p e in
    subst (λ (q : List ℕ × List ℕ). IsFront n bytes q.0 q.1) h.1
    (record { size = length-take-le n bytes (le_from n (length bytes) h.0); whole = sym (take-append-drop n bytes) })

taken_front : (front rest : List ℕ) → take (length front) (front ++ rest) ≡ front
taken_front [] rest = refl
taken_front (b ∷ front) rest = ap (λ bs. b ∷ bs) (taken_front front rest)

dropped_front : (front rest : List ℕ) → drop (length front) (front ++ rest) ≡ rest
dropped_front [] rest = refl
dropped_front (b ∷ front) rest = dropped_front front rest

front_within : (front rest : List ℕ) → length front ≤ length (front ++ rest)
front_within [] rest = omega arith
front_within (b ∷ front) rest = let h = front_within front rest in omega (arith, h)

pub first_all : (front rest : List ℕ) → first_bytes (length front) (front ++ rest) ≡ Some (front, rest)
first_all front rest =
    ap (λ (b : Bool). if b then Some (take (length front) (front ++ rest), drop (length front) (front ++ rest)) else None) (le_true _ _ (front_within front rest))
    ∙ ap (λ (t : List ℕ). Some (t, drop (length front) (front ++ rest))) (taken_front front rest)
    ∙ ap (λ (d : List ℕ). Some (front, d)) (dropped_front front rest)

pub first_of_size : (n : ℕ) (front rest : List ℕ) → length front ≡ n → first_bytes n (front ++ rest) ≡ Some (front, rest)
first_of_size n front rest e = ap (λ (k : ℕ). first_bytes k (front ++ rest)) (sym e) ∙ first_all front rest

-- ---- counts

pub record IsCount (bytes : List ℕ) (n : ℕ) (rest : List ℕ) : Type 0 where
  pub whole : bytes ≡ count_bytes n ++ rest
  pub small : n < 2 ^ 32

four_small : (a b c d : ℕ) → a < 256 → b < 256 → c < 256 → d < 256 → from_be_bytes w32 (a ∷ b ∷ c ∷ d ∷ []) < 2 ^ 32
four_small a b c d h i j k = omega (arith, h, i, j, k)

count_small : (front : List ℕ) → length front ≡ 4 → are_bytes front ≡ true → from_be_bytes w32 front < 2 ^ 32
count_small front e h = let s = small_bytes front h in four_small (get_or front 0 0) (get_or front 1 0) (get_or front 2 0) (get_or front 3 0) (s 0) (s 1) (s 2) (s 3)

pub count_is : (bytes : List ℕ) (p : ℕ × List ℕ) → read_count bytes ≡ Some p → IsCount bytes p.0 p.1
count_is bytes p e =
    let f = found_is (first_bytes 4 bytes) count_or_none p e in
    let front = f.0.0 in
    let rest = f.0.1 in
    let is = first_is 4 bytes f.0 f.1.0 in
    let t = if_is (are_bytes front) (from_be_bytes w32 front, rest) p f.1.1 in
    subst (λ (q : ℕ × List ℕ). IsCount bytes q.0 q.1) t.1 (record {
      whole = is.whole ∙ ap (λ (xs : List ℕ). xs ++ rest) (sym (be_bytes_4 front (from_be_bytes w32 front) is.size (small_bytes front t.0) refl));
      small = count_small front is.size t.0;
    })

low_byte : (n : ℕ) → nat_lt (n % 256) 256 ≡ true
low_byte n = lt_true (n % 256) 256 (omega arith)

pub four_bytes : (n : ℕ) → are_bytes (to_be_bytes w32 n) ≡ true
four_bytes n = rw (low_byte (n / 256 ^ 3), low_byte (n / 256 ^ 2), low_byte (n / 256 ^ 1), low_byte n) refl

pub eight_bytes : (n : ℕ) → are_bytes (to_be_bytes w64 n) ≡ true
eight_bytes n = rw (low_byte (n / 256 ^ 7), low_byte (n / 256 ^ 6), low_byte (n / 256 ^ 5), low_byte (n / 256 ^ 4), low_byte (n / 256 ^ 3), low_byte (n / 256 ^ 2), low_byte (n / 256 ^ 1), low_byte n) refl

pub word_are_bytes : (n : ℕ) → are_bytes (word_bytes n) ≡ true
word_are_bytes n = list_all-append (λ b. nat_lt b 256) (to_be_bytes w64 (n / 2 ^ 64)) (to_be_bytes w64 (n % 2 ^ 64)) ∙ rw (eight_bytes (n / 2 ^ 64), eight_bytes (n % 2 ^ 64)) refl

pub count_read : (n : ℕ) (rest : List ℕ) → n < 2 ^ 32 → read_count (count_bytes n ++ rest) ≡ Some (n, rest)
count_read n rest h =
    ap (λ (o : Found (List ℕ)). with_found o count_or_none) (first_of_size 4 (count_bytes n) rest refl)
    ∙ ap (λ (b : Bool). if b then Some (from_be_bytes w32 (count_bytes n), rest) else None) (four_bytes n)
    ∙ ap (λ (m : ℕ). Some (m, rest)) (from_be_bytes-to_be_bytes_4 n h)

-- ---- words of 16 bytes

eight_small : (a b c d e f g h : ℕ) → a < 256 → b < 256 → c < 256 → d < 256 → e < 256 → f < 256 → g < 256 → h < 256 → from_be_bytes w64 (a ∷ b ∷ c ∷ d ∷ e ∷ f ∷ g ∷ h ∷ []) < 2 ^ 64
eight_small a b c d e f g h i j k l m n o p = omega (arith, i, j, k, l, m, n, o, p)

half_small : (half : List ℕ) → are_bytes half ≡ true → from_be_bytes w64 half < 2 ^ 64
half_small half h =
    let s = small_bytes half h in
    eight_small (get_or half 0 0) (get_or half 1 0) (get_or half 2 0) (get_or half 3 0) (get_or half 4 0) (get_or half 5 0) (get_or half 6 0) (get_or half 7 0)
    (s 0) (s 1) (s 2) (s 3) (s 4) (s 5) (s 6) (s 7)

high_of : (a b : ℕ) → b < 2 ^ 64 → (a * 2 ^ 64 + b) / 2 ^ 64 ≡ a
high_of a b h = omega (arith, h)

low_of : (a b : ℕ) → b < 2 ^ 64 → (a * 2 ^ 64 + b) % 2 ^ 64 ≡ b
low_of a b h = omega (arith, h)

word_small : (a b : ℕ) → a < 2 ^ 64 → b < 2 ^ 64 → a * 2 ^ 64 + b < 2 ^ 128
word_small a b h k = omega (arith, h, k)

drop_size : (front : List ℕ) → length front ≡ 16 → length (drop 8 front) ≡ 8
drop_size front e = let h = take-append-drop 8 front in let k = length-take-le 8 front (omega (arith, e)) in sizes (take 8 front) (drop 8 front) front h k e
  where
    sizes : (xs ys zs : List ℕ) → xs ++ ys ≡ zs → length xs ≡ 8 → length zs ≡ 16 → length ys ≡ 8
    sizes xs ys zs h k e = let l = ap length h in let m = length_of xs ys in omega (arith, l, m, k, e)
      where
        length_of : (xs ys : List ℕ) → length (xs ++ ys) ≡ length xs + length ys
        length_of [] ys = omega arith
        length_of (x ∷ xs) ys = let h = length_of xs ys in omega (arith, h)

pub record IsWord (front : List ℕ) : Type 0 where
  pub bytes : word_bytes (word_of front) ≡ front
  pub small : word_of front < 2 ^ 128

pub word_is : (front : List ℕ) → length front ≡ 16 → are_bytes front ≡ true → IsWord front
word_is front e h =
    let parts = bytes_parts (take 8 front) (drop 8 front) (ap are_bytes (take-append-drop 8 front) ∙ h) in
    let high = from_be_bytes w64 (take 8 front) in
    let low = from_be_bytes w64 (drop 8 front) in
    let high_fits = half_small (take 8 front) parts.0 in
    let low_fits = half_small (drop 8 front) parts.1 in
    record {
      bytes = ap (λ (n : ℕ). to_be_bytes w64 n ++ to_be_bytes w64 (word_of front % 2 ^ 64)) (high_of high low low_fits)
          ∙ ap (λ (n : ℕ). to_be_bytes w64 high ++ to_be_bytes w64 n) (low_of high low low_fits)
          ∙ ap (λ (xs : List ℕ). xs ++ to_be_bytes w64 low) (be_bytes_8 (take 8 front) high (length-take-le 8 front (omega (arith, e))) (small_bytes (take 8 front) parts.0) refl)
          ∙ ap (λ (xs : List ℕ). take 8 front ++ xs) (be_bytes_8 (drop 8 front) low (drop_size front e) (small_bytes (drop 8 front) parts.1) refl)
          ∙ take-append-drop 8 front;
      small = word_small high low high_fits low_fits;
    }

halves : (n : ℕ) → n / 2 ^ 64 * 2 ^ 64 + n % 2 ^ 64 ≡ n
halves n = omega arith

pub word_read : (n : ℕ) → n < 2 ^ 128 → word_of (word_bytes n) ≡ n
word_read n h =
    ap (λ (m : ℕ). m * 2 ^ 64 + from_be_bytes w64 (to_be_bytes w64 (n % 2 ^ 64))) (from_be_bytes-to_be_bytes_8 (n / 2 ^ 64) (omega (arith, h)))
    ∙ ap (λ (m : ℕ). n / 2 ^ 64 * 2 ^ 64 + m) (from_be_bytes-to_be_bytes_8 (n % 2 ^ 64) (omega arith))
    ∙ halves n
