-- Loops that read one piece after the other.
use Rattle.std.proofs.Common.{◌≡◌, ◌<◌, ◌≤◌, ℕ, zero, suc, Bool, true, false, List, [], ◌∷◌, ◌++◌, length, map, Some, None, arith, refl, sym, ap, ◌∙◌, append_assoc, append-nil}
use Rattle.b_grammar.specs.declared.Lexeme.{Lexeme}
use Rattle.b_grammar.specs.Descent.{Found, Read, with_found, headed, starts, and_first, one_more, many, each, made}

-- these stand before what is read
abbrev pub after_these : {A : Type 0} → List A → Found (List A) → Found (List A)
after_these xs q = with_found q (λ ys rest. Some (xs ++ ys, rest))

nothing_before : {A : Type 0} (q : Found (List A)) → q ≡ after_these [] q
nothing_before None = refl
nothing_before (Some p) = refl

one_before : {A : Type 0} (xs : List A) (x : A) (q : Found (List A)) → after_these xs (and_first x q) ≡ after_these (xs ++ x ∷ []) q
one_before xs x None = refl
one_before xs x (Some p) = ap (λ l. Some (l, p.1)) (sym (append_assoc xs (x ∷ []) p.0))

-- Of what is read in all, these pieces are read, and this is left.
pub record IsReading {A : Type 0} (begins : Lexeme → Bool) (f : Lexeme → Read A) (whole : Found (List A)) (from : List Lexeme) (xs : List A) (ts : List Lexeme) : Type 0 where
  pub fuel : ℕ
  pub enough : length ts < fuel
  pub shorter : length ts ≤ length from
  pub same : whole ≡ after_these xs (many begins (headed f) fuel ts)

module _ {A : Type 0} (begins : Lexeme → Bool) (f : Lexeme → Read A) where
  pub begin_after : (whole : Found (List A)) (from : List Lexeme) (xs : List A) (ts : List Lexeme) → length ts ≤ length from → whole ≡ after_these xs (each begins f ts) → IsReading begins f whole from xs ts
  begin_after whole from xs ts h e = record { fuel = suc (length ts); enough = omega arith; shorter = h; same = e }

  pub begin : (ts : List Lexeme) → IsReading begins f (each begins f ts) ts [] ts
  begin ts = begin_after (each begins f ts) ts [] ts (omega arith) (nothing_before (each begins f ts))

  module _ (whole : Found (List A)) (from : List Lexeme) (xs : List A) (ts : List Lexeme) where
    end_from : (n : ℕ) → length ts < n → whole ≡ after_these xs (many begins (headed f) n ts) → starts begins ts ≡ false → whole ≡ Some (xs, ts)
    end_from zero h e b = absurd (omega arith)
    end_from (suc n) h e b = e ∙ ap (λ b. after_these xs (one_more b (headed f) (many begins (headed f) n) ts)) b ∙ ap (λ l. Some (l, ts)) (append-nil xs)

    pub ends : IsReading begins f whole from xs ts → starts begins ts ≡ false → whole ≡ Some (xs, ts)
    ends r b = end_from r.fuel r.enough r.same b

    stop_from : (n : ℕ) → length ts < n → whole ≡ after_these xs (many begins (headed f) n ts) → starts begins ts ≡ true → headed f ts ≡ None → whole ≡ None
    stop_from zero h e b k = absurd (omega arith)
    stop_from (suc n) h e b k =
        e ∙ ap (λ b. after_these xs (one_more b (headed f) (many begins (headed f) n) ts)) b ∙ ap (λ q. after_these xs (with_found q (λ x rest. and_first x (many begins (headed f) n rest)))) k

    pub fails : IsReading begins f whole from xs ts → starts begins ts ≡ true → headed f ts ≡ None → whole ≡ None
    fails r b k = stop_from r.fuel r.enough r.same b k

    module _ (x : A) (us : List Lexeme) where
      go_from : (n : ℕ) → length ts < n → whole ≡ after_these xs (many begins (headed f) n ts) → length ts ≤ length from → starts begins ts ≡ true → headed f ts ≡ Some (x, us) → length us < length ts
          → IsReading begins f whole from (xs ++ x ∷ []) us
      go_from zero h e s b k l = absurd (omega arith)
      go_from (suc n) h e s b k l = record {
        fuel = n;
        enough = omega arith;
        shorter = omega arith;
        same =
            e
            ∙ ap (λ b. after_these xs (one_more b (headed f) (many begins (headed f) n) ts)) b
            ∙ ap (λ q. after_these xs (with_found q (λ x rest. and_first x (many begins (headed f) n rest)))) k
            ∙ one_before xs x (many begins (headed f) n us);
      }

      pub goes : IsReading begins f whole from xs ts → starts begins ts ≡ true → headed f ts ≡ Some (x, us) → length us < length ts → IsReading begins f whole from (xs ++ x ∷ []) us
      goes r b k l = go_from r.fuel r.enough r.same r.shorter b k l

-- ---- each piece made into something

module _ {A B : Type 0} (begins : Lexeme → Bool) (k : A → B) (g : Lexeme → Read A) (h : Lexeme → Read B) (same : (s : Lexeme) (ts : List Lexeme) → made k (g s) ts ≡ h s ts) where
  first_as : (x : A) (q : Found (List A)) (r : Found (List B)) → with_found q (λ xs rest. Some (map k xs, rest)) ≡ r → with_found (and_first x q) (λ xs rest. Some (map k xs, rest)) ≡ and_first (k x) r
  first_as x None r e = ap (and_first (k x)) e
  first_as x (Some p) r e = ap (and_first (k x)) e

  many_as : (n : ℕ) (ts : List Lexeme) → with_found (many begins (headed g) n ts) (λ xs rest. Some (map k xs, rest)) ≡ many begins (headed h) n ts
  many_as zero ts = refl
  many_as (suc n) ts = go (starts begins ts) (many_as n)
    where
      one : (q : Found A) (r : Found B) → with_found q (λ x rest. Some (k x, rest)) ≡ r → ((us : List Lexeme) → with_found (many begins (headed g) n us) (λ xs rest. Some (map k xs, rest)) ≡ many begins (headed h) n us)
          → with_found (with_found q (λ x rest. and_first x (many begins (headed g) n rest))) (λ xs rest. Some (map k xs, rest)) ≡ with_found r (λ y rest. and_first y (many begins (headed h) n rest))
      one None r e more = ap (λ r. with_found r (λ y rest. and_first y (many begins (headed h) n rest))) e
      one (Some p) r e more = first_as p.0 (many begins (headed g) n p.1) (many begins (headed h) n p.1) (more p.1) ∙ ap (λ r. with_found r (λ y rest. and_first y (many begins (headed h) n rest))) e

      read : (us : List Lexeme) → with_found (headed g us) (λ x rest. Some (k x, rest)) ≡ headed h us
      read [] = refl
      read (s ∷ us) = same s us

      go : (b : Bool) → ((us : List Lexeme) → with_found (many begins (headed g) n us) (λ xs rest. Some (map k xs, rest)) ≡ many begins (headed h) n us)
          → with_found (one_more b (headed g) (many begins (headed g) n) ts) (λ xs rest. Some (map k xs, rest)) ≡ one_more b (headed h) (many begins (headed h) n) ts
      go false more = refl
      go true more = one (headed g ts) (headed h ts) (read ts) more

  pub each_as : (ts : List Lexeme) → with_found (each begins g ts) (λ xs rest. Some (map k xs, rest)) ≡ each begins h ts
  each_as ts = many_as (suc (length ts)) ts
