-- Blanks, signs, digits, names and strings at the front of a text.
use Rattle.std.proofs.Common.{◌≡◌, ◌≢◌, ◌==◌, ◌≤◌, ◌<◌, ◌+◌, ◌-◌, ◌&&◌, ◌||◌, ℕ, zero, suc, Bool, true, false, List, [], ◌∷◌, ◌++◌, Option, Some, None, cond, length, drop, arith, refl, sym, ap, ◌∙◌, subst, append_assoc, append-nil, eqb-true, eq-eqb, nat_le, rules}
use Rattle.std.specs.Prelude.{codes, IsTrue}
use Rattle.std.specs.List.{list_all}
use Rattle.std.specs.Char.{digit_value}
use Rattle.std.specs.Str.Parse.{IsNumeral, AllDigits, digits_value}
use Rattle.std.proofs.lemmas.Bool.Decides.{nat_tests}
use Rattle.b_values.specs.Reading.{blanks, sign, escape_of, Spells, ended, plain, escaped, is_letter, is_digit, is_name_byte, is_name}
use Rattle.b_values.specs.declared.reading.StringStep.{StringStep}
use Rattle.b_values.specs.declared.reading.StringStep.TheVariants.{Closes, Breaks, BeginsEscape, Gives}
use Rattle.b_values.specs.ReadingDescent.{Found, with_found, with_rest, skip, strip, after, run, past, digits_or, magnitude, escape_step, step_of, by_step, is_escaping, string_from}

-- ---- what a reader found

pub found_is : {A B : Type 0} (o : Found A) (go : A → List ℕ → Found B) (r : B × List ℕ) → with_found o go ≡ Some r → (a : A) × (l : List ℕ) × (o ≡ Some (a, l)) × (go a l ≡ Some r)
found_is None go r e = absurd (cc)
found_is (Some p) go r e = (p.0, p.1, refl, e)

pub rest_is : {B : Type 0} (o : Option (List ℕ)) (go : List ℕ → Found B) (r : B × List ℕ) → with_rest o go ≡ Some r → (l : List ℕ) × (o ≡ Some l) × (go l ≡ Some r)
rest_is None go r e = absurd (cc)
rest_is (Some l) go r e = (l, refl, e)

pub some_is : {A : Type 0} (a b : A) → Some a ≡ Some b → a ≡ b
some_is a b e = cc

pub taken_is : {A : Type 0} (b : Bool) (a r : A) → cond b (Some a) None ≡ Some r → (b ≡ true) × (a ≡ r)
taken_is true a r e = (refl, some_is a r e)
taken_is false a r e = absurd (cc)

-- ---- blanks and signs

pub skip_blanks : (n : ℕ) (t : List ℕ) → skip (blanks n ++ t) ≡ skip t
skip_blanks zero t = refl
skip_blanks (suc n) t = skip_blanks n t

pub skip_sound : (bs : List ℕ) → (n : ℕ) × (bs ≡ blanks n ++ skip bs)
skip_sound [] = (0, refl)
skip_sound (b ∷ bs) = go (b == 32) refl (skip_sound bs)
  where
    go : (t : Bool) → (b == 32) ≡ t → ((n : ℕ) × (bs ≡ blanks n ++ skip bs)) → (n : ℕ) × (b ∷ bs ≡ blanks n ++ cond t (skip bs) (b ∷ bs))
    go true f r = (suc r.0, let e = r.1 in let same : b ≡ 32 = eqb-true b 32 f in cc)
    go false f r = (0, refl)

pub strip_sound : (ps bs rest : List ℕ) → strip ps bs ≡ Some rest → bs ≡ ps ++ rest
strip_sound [] bs rest e = cc
strip_sound (p ∷ ps) [] rest e = cc
strip_sound (p ∷ ps) (b ∷ bs) rest e = go (p == b) refl e (strip_sound ps bs rest)
  where
    go : (t : Bool) → (p == b) ≡ t → cond t (strip ps bs) None ≡ Some rest → (strip ps bs ≡ Some rest → bs ≡ ps ++ rest) → b ∷ bs ≡ p ∷ (ps ++ rest)
    go true f g more = let same : p ≡ b = eqb-true p b f in let tail = more g in cc
    go false f g more = cc

pub strip_complete : (ps rest : List ℕ) → strip ps (ps ++ rest) ≡ Some rest
strip_complete [] rest = refl
strip_complete (p ∷ ps) rest = ap (λ t. cond t (strip ps (ps ++ rest)) None) (eq-eqb p p refl) ∙ strip_complete ps rest

pub sign_skip : (n : ℕ) (text rest : List ℕ) → skip (sign n text ++ rest) ≡ skip (text ++ rest)
sign_skip n text rest = ap skip (append_assoc (blanks n) text rest) ∙ skip_blanks n (text ++ rest)

pub after_sound : (text bs rest : List ℕ) → after text bs ≡ Some rest → (n : ℕ) × (bs ≡ sign n text ++ rest)
after_sound text bs rest e =
    let s = skip_sound bs in
    (s.0, s.1 ∙ ap (λ l. blanks s.0 ++ l) (strip_sound text (skip bs) rest e) ∙ sym (append_assoc (blanks s.0) text rest))

-- a sign that begins with no blank is found, and what begins otherwise isn't
pub after_complete : (text : List ℕ) (n : ℕ) (rest : List ℕ) → skip (text ++ rest) ≡ text ++ rest → after text (sign n text ++ rest) ≡ Some rest
after_complete text n rest e = ap (strip text) (sign_skip n text rest ∙ e) ∙ strip_complete text rest

pub after_is : (text : List ℕ) (n : ℕ) (other rest : List ℕ) (r : Option (List ℕ)) → strip text (skip (other ++ rest)) ≡ r → after text (sign n other ++ rest) ≡ r
after_is text n other rest r e = ap (strip text) (sign_skip n other rest) ∙ e

pub after_end : (text : List ℕ) (n : ℕ) → strip text [] ≡ None → after text (blanks n) ≡ None
after_end text n e = ap (strip text) (ap skip (sym (append-nil (blanks n))) ∙ skip_blanks n []) ∙ e

-- ---- runs of bytes

-- no byte that passes stands at the front
abbrev pub Stops : (ℕ → Bool) → List ℕ → Type 0
Stops p [] = Unit {0}
Stops p (b ∷ bs) = p b ≡ false

pub run_past : (p : ℕ → Bool) (bs : List ℕ) → bs ≡ run p bs ++ past p bs
run_past p [] = refl
run_past p (b ∷ bs) = go (p b) (run_past p bs)
  where
    go : (t : Bool) → bs ≡ run p bs ++ past p bs → b ∷ bs ≡ cond t (b ∷ run p bs) [] ++ cond t (past p bs) (b ∷ bs)
    go true e = ap (λ l. b ∷ l) e
    go false e = refl

pub run_passes : (p : ℕ → Bool) (bs : List ℕ) → list_all p (run p bs) ≡ true
run_passes p [] = refl
run_passes p (b ∷ bs) = go (p b) refl (run_passes p bs)
  where
    go : (t : Bool) → p b ≡ t → list_all p (run p bs) ≡ true → list_all p (cond t (b ∷ run p bs) []) ≡ true
    go true f e = rw (f, e) refl
    go false f e = refl

both_true : (a b : Bool) → (a && b) ≡ true → (a ≡ true) × (b ≡ true)
both_true true b e = (refl, e)
both_true false b e = cc

pub run_all : (p : ℕ → Bool) (ds rest : List ℕ) → list_all p ds ≡ true → Stops p rest → run p (ds ++ rest) ≡ ds
run_all p [] [] a s = refl
run_all p [] (b ∷ bs) a s = rw s refl
run_all p (d ∷ ds) rest a s = let h = both_true (p d) (list_all p ds) a in rw h.0 (ap (λ l. d ∷ l) (run_all p ds rest h.1 s))

pub past_all : (p : ℕ → Bool) (ds rest : List ℕ) → list_all p ds ≡ true → Stops p rest → past p (ds ++ rest) ≡ rest
past_all p [] [] a s = refl
past_all p [] (b ∷ bs) a s = rw s refl
past_all p (d ∷ ds) rest a s = let h = both_true (p d) (list_all p ds) a in rw h.0 (past_all p ds rest h.1 s)

-- ---- digits

pub is_digit_of : (c : ℕ) → digit_value c < 10 → is_digit c ≡ true
is_digit_of c h = grind (arith, nat_tests)

pub digit_of : (c : ℕ) → is_digit c ≡ true → digit_value c < 10
digit_of c h = grind (arith, nat_tests)

pub all_digits : (ds : List ℕ) → AllDigits 10 ds → list_all is_digit ds ≡ true
all_digits [] a = refl
all_digits (d ∷ ds) a = rw (is_digit_of d a.0, all_digits ds a.1) refl

pub digits_all : (ds : List ℕ) → list_all is_digit ds ≡ true → AllDigits 10 ds
digits_all [] a = tt
digits_all (d ∷ ds) a = let h = both_true (is_digit d) (list_all is_digit ds) a in (digit_of d h.0, digits_all ds h.1)

le_of : (a b : ℕ) → nat_le a b ≡ true → a ≤ b
le_of a b e = grind (arith, nat_tests)

of_le : (a b : ℕ) → a ≤ b → nat_le a b ≡ true
of_le a b h = grind (arith, nat_tests)

-- a run of digits was read
pub record IsMagnitude (most : ℕ) (bs : List ℕ) (n : ℕ) (rest : List ℕ) : Type 0 where
  pub digits : List ℕ
  pub whole : bs ≡ digits ++ rest
  pub numeral : IsNumeral 10 digits
  pub value : n ≡ digits_value 10 digits
  pub small : n ≤ most

pub pair_is : {A : Type 0} (a b : A) (l r : List ℕ) → ◌≡◌ {A = Found A} (Some (a, l)) (Some (b, r)) → (a ≡ b) × (l ≡ r)
pair_is {A} a b l r e =
    let both : ◌≡◌ {A = A × List ℕ} (a, l) (b, r) = some_is (a, l) (b, r) e in
    (ap (λ (p : A × List ℕ). p.0) both, ap (λ (p : A × List ℕ). p.1) both)

pub magnitude_sound : (most : ℕ) (bs : List ℕ) (n : ℕ) (rest : List ℕ) → magnitude most bs ≡ Some (n, rest) → IsMagnitude most bs n rest
magnitude_sound most bs n rest e = go (run is_digit bs) (run_past is_digit bs) (run_passes is_digit bs) e
  where
    go : (ds : List ℕ) → bs ≡ ds ++ past is_digit bs → list_all is_digit ds ≡ true → digits_or most ds (past is_digit bs) ≡ Some (n, rest) → IsMagnitude most bs n rest
    go [] f a g = absurd (cc)
    go (d ∷ ds) f a g =
        let t = taken_is (nat_le (digits_value 10 (d ∷ ds)) most) (digits_value 10 (d ∷ ds), past is_digit bs) (n, rest) g in
        let same : digits_value 10 (d ∷ ds) ≡ n = ap (λ (p : ℕ × List ℕ). p.0) t.1 in
        let left : past is_digit bs ≡ rest = ap (λ (p : ℕ × List ℕ). p.1) t.1 in
        record {
          digits = d ∷ ds;
          whole = f ∙ ap (λ l. (d ∷ ds) ++ l) left;
          numeral = (omega arith, digits_all (d ∷ ds) a);
          value = sym same;
          small = subst (λ m. m ≤ most) same (le_of (digits_value 10 (d ∷ ds)) most t.0);
        }

pub magnitude_complete : (most : ℕ) (digits rest : List ℕ) → IsNumeral 10 digits → digits_value 10 digits ≤ most → Stops is_digit rest → magnitude most (digits ++ rest) ≡ Some (digits_value 10 digits, rest)
magnitude_complete most [] rest i h s = absurd (let l = i.0 in omega arith)
magnitude_complete most (d ∷ ds) rest i h s =
    ap (λ l. digits_or most l (past is_digit ((d ∷ ds) ++ rest))) (run_all is_digit (d ∷ ds) rest (all_digits (d ∷ ds) i.1) s)
    ∙ ap (digits_or most (d ∷ ds)) (past_all is_digit (d ∷ ds) rest (all_digits (d ∷ ds) i.1) s)
    ∙ ap (λ t. cond t (Some (digits_value 10 (d ∷ ds), rest)) None) (of_le (digits_value 10 (d ∷ ds)) most h)

-- ---- strings

-- what is left of a spelling, after a backslash or not
abbrev pub spelled : Bool → List ℕ → List ℕ
spelled true t = 92 ∷ t
spelled false t = t

abbrev pub StringSound : Bool → List ℕ → List ℕ → List ℕ → Type 0
StringSound e bs s rest = (t : List ℕ) × (bs ≡ t ++ 34 ∷ rest) × Spells (spelled e t) s

not_eq : (a b : ℕ) → (a == b) ≡ false → a ≢ b
not_eq a b e = grind (arith, nat_tests)

ne_false : (a b : ℕ) → a ≢ b → (a == b) ≡ false
ne_false a b n = grind (arith, nat_tests)

step_sound : (e : Bool) (b : ℕ) (bs s rest : List ℕ) (p : StringStep) → step_of e b ≡ p → by_step p bs (string_from (is_escaping p) bs) ≡ Some (s, rest)
    → ((s : List ℕ) → string_from (is_escaping p) bs ≡ Some (s, rest) → StringSound (is_escaping p) bs s rest) → StringSound e (b ∷ bs) s rest
step_sound true b bs s rest p f h more = go (escape_of b) refl p f h more
  where
    go : (o : Option ℕ) → escape_of b ≡ o → (p : StringStep) → escape_step o ≡ p → by_step p bs (string_from (is_escaping p) bs) ≡ Some (s, rest)
        → ((s : List ℕ) → string_from (is_escaping p) bs ≡ Some (s, rest) → StringSound (is_escaping p) bs s rest) → StringSound true (b ∷ bs) s rest
    go None g p f h more = absurd (let k = subst (λ p. by_step p bs (string_from (is_escaping p) bs) ≡ Some (s, rest)) (sym f) h in cc)
    go (Some c) g p f h more =
        let k = subst (λ p. by_step p bs (string_from (is_escaping p) bs) ≡ Some (s, rest)) (sym f) h in
        let m = subst (λ p. (s : List ℕ) → string_from (is_escaping p) bs ≡ Some (s, rest) → StringSound (is_escaping p) bs s rest) (sym f) more in
        let w = found_is (string_from false bs) (λ bytes rest. Some (c ∷ bytes, rest)) (s, rest) k in
        let q = pair_is (c ∷ w.0) s w.1 rest w.3 in
        let r = m w.0 (w.2 ∙ ap (λ l. Some (w.0, l)) q.1) in
        (b ∷ r.0, ap (λ l. b ∷ l) r.1, subst (Spells (92 ∷ b ∷ r.0)) q.0 (escaped g r.2))
step_sound false b bs s rest p f h more = go (b == 34) (b == 10) (b == 92) refl refl refl f
  where
    go : (x y z : Bool) → (b == 34) ≡ x → (b == 10) ≡ y → (b == 92) ≡ z → cond x Closes (cond y Breaks (cond z BeginsEscape (Gives b))) ≡ p → StringSound false (b ∷ bs) s rest
    go true y z i j k f =
        let n = subst (λ p. by_step p bs (string_from (is_escaping p) bs) ≡ Some (s, rest)) (sym f) h in
        let q = pair_is [] s bs rest n in
        let same : b ≡ 34 = eqb-true b 34 i in
        ([], let e = q.1 in cc, subst (Spells []) q.0 ended)
    go false true z i j k f = absurd (let n = subst (λ p. by_step p bs (string_from (is_escaping p) bs) ≡ Some (s, rest)) (sym f) h in cc)
    go false false true i j k f =
        let n = subst (λ p. by_step p bs (string_from (is_escaping p) bs) ≡ Some (s, rest)) (sym f) h in
        let m = subst (λ p. (s : List ℕ) → string_from (is_escaping p) bs ≡ Some (s, rest) → StringSound (is_escaping p) bs s rest) (sym f) more in
        let r = m s n in
        let same : b ≡ 92 = eqb-true b 92 k in
        (b ∷ r.0, ap (λ l. b ∷ l) r.1, subst (λ c. Spells (c ∷ r.0) s) (sym same) r.2)
    go false false false i j k f =
        let n = subst (λ p. by_step p bs (string_from (is_escaping p) bs) ≡ Some (s, rest)) (sym f) h in
        let m = subst (λ p. (s : List ℕ) → string_from (is_escaping p) bs ≡ Some (s, rest) → StringSound (is_escaping p) bs s rest) (sym f) more in
        let w = found_is (string_from false bs) (λ bytes rest. Some (b ∷ bytes, rest)) (s, rest) n in
        let q = pair_is (b ∷ w.0) s w.1 rest w.3 in
        let r = m w.0 (w.2 ∙ ap (λ l. Some (w.0, l)) q.1) in
        (b ∷ r.0, ap (λ l. b ∷ l) r.1, subst (Spells (b ∷ r.0)) q.0 (plain (not_eq b 10 j) (not_eq b 34 i) (not_eq b 92 k) r.2))

pub string_sound : (e : Bool) (bs s rest : List ℕ) → string_from e bs ≡ Some (s, rest) → StringSound e bs s rest
string_sound e [] s rest h = absurd (cc)
string_sound e (b ∷ bs) s rest h = step_sound e b bs s rest (step_of e b) refl h (λ s k. string_sound (is_escaping (step_of e b)) bs s rest k)

pub string_complete : {t s : List ℕ} (rest : List ℕ) → Spells t s → string_from false (t ++ 34 ∷ rest) ≡ Some (s, rest)
string_complete rest ended = refl
string_complete rest (plain {b} i j k more) =
    rw (ne_false b 34 j, ne_false b 10 i, ne_false b 92 k) (ap (λ q. with_found q (λ bytes rest. Some (b ∷ bytes, rest))) (string_complete rest more))
string_complete rest (escaped {letter} {b} e more) =
    rw e (ap (λ q. with_found q (λ bytes rest. Some (b ∷ bytes, rest))) (string_complete rest more))
