-- Each way to read is sound and complete for its way to cut.
use Rattle.std.proofs.Common.{◌≡◌, ◌⊎◌, inl, inr, ◌<◌, ◌+◌, ℕ, zero, suc, Bool, true, false, List, [], ◌∷◌, ◌++◌, length, Some, None, arith, refl, sym, ap, ◌∙◌, subst, append_assoc, length-append}
use denote.Enum.Bare.{same_true, true_same}
use Rattle.b_ast.specs.declared.Place.{Place}
use Rattle.b_grammar.specs.contracts.Mark as mark_type
use Rattle.b_grammar.specs.declared.Mark.{Mark}
use Rattle.b_grammar.specs.declared.Symbol.{Symbol}
use Rattle.b_grammar.specs.declared.Symbol.TheVariants as symbol
use Rattle.b_grammar.specs.declared.Lexeme.{Lexeme}
use Rattle.b_grammar.specs.Cuts.{Stands, mark, IsNever, IsDone, IsHeaded, IsEnded, IsPair, IsEach, IsMade, IsSuch}
use Rattle.b_grammar.specs.Grammar.{mark_of}
use Rattle.b_grammar.specs.Descent.{Found, Read, with_found, never, done, headed, is_mark, closed, shut, ended, and_also, pair, starts, and_first, one_more, many, each, made, such, otherwise, or_else}

-- what is read is a text
abbrev pub IsSound : {A : Type 0} → Read A → Stands A → Type 0
IsSound {A} read R = (ts : List Lexeme) (x : A) (rest : List Lexeme) → read ts ≡ Some (x, rest) → (front : List Lexeme) × (ts ≡ front ++ rest) × R front x

-- a text is read, whatever follows it that may
abbrev pub IsComplete : {A : Type 0} → Read A → Stands A → (List Lexeme → Type 0) → Type 0
IsComplete {A} read R Ends = (front : List Lexeme) (x : A) (rest : List Lexeme) → R front x → Ends rest → read (front ++ rest) ≡ Some (x, rest)

abbrev pub Anything : List Lexeme → Type 0
Anything rest = Unit {0}

-- ---- what was found

pub found_from : {A B : Type 0} (q : Found A) (go : A → List Lexeme → Found B) (y : B × List Lexeme) → with_found q go ≡ Some y → (x : A) × (rest : List Lexeme) × (q ≡ Some (x, rest)) × (go x rest ≡ Some y)
found_from None go y e = absurd (cc)
found_from (Some p) go y e = (p.0, p.1, refl, e)

pub same_found : {A : Type 0} (x y : A) (l m : List Lexeme) → ◌≡◌ {A = Found A} (Some (x, l)) (Some (y, m)) → (x ≡ y) × (l ≡ m)
same_found {A} x y l m e =
    let both : ◌≡◌ {A = A × List Lexeme} (x, l) (y, m) = cc in
    (ap (λ (p : A × List Lexeme). p.0) both, ap (λ (p : A × List Lexeme). p.1) both)

-- ---- one by one

pub never_sound : {A : Type 0} → IsSound {A = A} never IsNever
never_sound ts x rest e = absurd (cc)

pub never_complete : {A : Type 0} (Ends : List Lexeme → Type 0) → IsComplete {A = A} never IsNever Ends
never_complete Ends front x rest r k = absurd r

pub done_sound : {A : Type 0} (a : A) → IsSound (done a) (IsDone a)
done_sound a ts x rest e = let s = same_found a x ts rest e in ([], s.1, (refl, sym s.0))

pub done_complete : {A : Type 0} (a : A) (Ends : List Lexeme → Type 0) → IsComplete (done a) (IsDone a) Ends
done_complete a Ends front x rest r k = rw (r.0, r.1) refl

pub headed_sound : {A : Type 0} (f : Lexeme → Read A) (F : Lexeme → Stands A) → ((s : Lexeme) → IsSound (f s) (F s)) → IsSound (headed f) (IsHeaded F)
headed_sound f F sound [] x rest e = absurd (cc)
headed_sound f F sound (s ∷ ts) x rest e = let d = sound s ts x rest e in (s ∷ d.0, ap (λ l. s ∷ l) d.1, d.2)

pub headed_complete : {A : Type 0} (f : Lexeme → Read A) (F : Lexeme → Stands A) (Ends : List Lexeme → Type 0) → ((s : Lexeme) → IsComplete (f s) (F s) Ends) → IsComplete (headed f) (IsHeaded F) Ends
headed_complete f F Ends complete [] x rest r k = absurd r
headed_complete f F Ends complete (s ∷ ts) x rest r k = complete s ts x rest r k

-- ---- a mark at the end

pub mark_named : (m : Mark) (y : Symbol) → is_mark m (mark_of y) ≡ true → y ≡ symbol.Mark m
mark_named m (symbol.Mark n) e = ap symbol.Mark (same_true mark_type.the_type tt n m e)
mark_named m y e = absurd (cc)

pub mark_read : (m : Mark) → is_mark m (Some m) ≡ true
mark_read m = true_same mark_type.the_type m m refl

pub shut_sound : {A : Type 0} (m : Mark) (x y : A) (ts rest : List Lexeme) → shut m x ts ≡ Some (y, rest) → (at : Place) × (ts ≡ mark m at ∷ rest) × (x ≡ y)
shut_sound m x y [] rest e = absurd (cc)
shut_sound m x y (s ∷ ts) rest e = go (is_mark m (mark_of s.symbol)) refl e
  where
    go : (b : Bool) → is_mark m (mark_of s.symbol) ≡ b → closed x b ts ≡ Some (y, rest) → (at : Place) × (s ∷ ts ≡ mark m at ∷ rest) × (x ≡ y)
    go false f e = absurd (cc)
    go true f e =
        let d = same_found x y ts rest e in
        let named : s.symbol ≡ symbol.Mark m = mark_named m s.symbol f in
        (s.at, ap (λ (z : Symbol). record { symbol = z; at = s.at } ∷ ts) named ∙ ap (λ l. mark m s.at ∷ l) d.1, d.0)

pub ended_sound : {A : Type 0} (m : Mark) (read : Read A) (R : Stands A) → IsSound read R → IsSound (ended m read) (IsEnded m R)
ended_sound m read R sound ts x rest e =
    let q = found_from (read ts) (shut m) (x, rest) e in
    let d = sound ts q.0 q.1 q.2 in
    let c = shut_sound m q.0 x q.1 rest q.3 in (
      d.0 ++ mark m c.0 ∷ [],
      d.1 ∙ ap (λ l. d.0 ++ l) c.1 ∙ sym (append_assoc d.0 (mark m c.0 ∷ []) rest),
      (d.0, c.0, refl, subst (R d.0) c.2 d.2),
    )

pub ended_complete : {A : Type 0} (m : Mark) (read : Read A) (R : Stands A) (Ends : List Lexeme → Type 0) → IsComplete read R Ends → ((at : Place) (rest : List Lexeme) → Ends (mark m at ∷ rest))
    → IsComplete (ended m read) (IsEnded m R) Anything
ended_complete m read R Ends complete ends front x rest r k =
    ap (λ l. with_found (read l) (shut m)) (ap (λ l. l ++ rest) r.2 ∙ append_assoc r.0 (mark m r.1 ∷ []) rest)
    ∙ ap (λ q. with_found q (shut m)) (complete r.0 x (mark m r.1 ∷ rest) r.3 (ends r.1 rest))
    ∙ ap (λ b. closed x b rest) (mark_read m)

-- ---- two parts

pub pair_sound : {A B : Type 0} (a : Read A) (R : Stands A) (b : Read B) (S : Stands B) → IsSound a R → IsSound b S → IsSound (pair a b) (IsPair R S)
pair_sound {A} {B} a R b S sound_a sound_b ts x rest e =
    let p = found_from (a ts) (λ x rest. and_also x (b rest)) (x, rest) e in
    let q = found_from (b p.1) (λ y rest. Some ((p.0, y), rest)) (x, rest) p.3 in
    let c = sound_a ts p.0 p.1 p.2 in
    let d = sound_b p.1 q.0 q.1 q.2 in
    let s = same_found (p.0, q.0) x q.1 rest q.3 in
    let t : A × B = (p.0, q.0) in
    let here : IsPair R S (c.0 ++ d.0) t = (c.0, d.0, refl, c.2, d.2) in (
      c.0 ++ d.0,
      c.1 ∙ ap (λ l. c.0 ++ l) (d.1 ∙ ap (λ l. d.0 ++ l) s.1) ∙ sym (append_assoc c.0 d.0 rest),
      subst (IsPair R S (c.0 ++ d.0)) s.0 here,
    )

pub pair_complete : {A B : Type 0} (a : Read A) (R : Stands A) (b : Read B) (S : Stands B) (Ends : List Lexeme → Type 0) (Last : List Lexeme → Type 0)
    → IsComplete a R Ends → IsComplete b S Last → ((ts : List Lexeme) (y : B) (rest : List Lexeme) → S ts y → Last rest → Ends (ts ++ rest)) → IsComplete (pair a b) (IsPair R S) Last
pair_complete a R b S Ends Last complete_a complete_b follow front x rest r k =
    ap (λ l. with_found (a l) (λ x rest. and_also x (b rest))) (ap (λ l. l ++ rest) r.2 ∙ append_assoc r.0 r.1 rest)
    ∙ ap (λ q. with_found q (λ x rest. and_also x (b rest))) (complete_a r.0 x.0 (r.1 ++ rest) r.3 (follow r.1 x.1 rest r.4 k))
    ∙ ap (and_also x.0) (complete_b r.1 x.1 rest r.4 k)

-- ---- several parts

many_sound : {A : Type 0} (begins : Lexeme → Bool) (read : Read A) (R : Stands A) → IsSound read R → (n : ℕ) → IsSound (many begins read n) (IsEach R)
many_sound begins read R sound zero ts xs rest e = absurd (cc)
many_sound {A} begins read R sound (suc n) ts xs rest e = go (starts begins ts) e (many_sound begins read R sound n)
  where
    go : (b : Bool) → one_more b read (many begins read n) ts ≡ Some (xs, rest) → IsSound (many begins read n) (IsEach R) → (front : List Lexeme) × (ts ≡ front ++ rest) × IsEach R front xs
    go false e more =
        let s = same_found [] xs ts rest e in
        let none : IsEach R [] [] = refl in
        ([], s.1, subst (IsEach R []) s.0 none)
    go true e more =
        let p = found_from (read ts) (λ x rest. and_first x (many begins read n rest)) (xs, rest) e in
        let q = found_from (many begins read n p.1) (λ xs rest. Some (p.0 ∷ xs, rest)) (xs, rest) p.3 in
        let c = sound ts p.0 p.1 p.2 in
        let d = more p.1 q.0 q.1 q.2 in
        let s = same_found (p.0 ∷ q.0) xs q.1 rest q.3 in
        let here : IsEach R (c.0 ++ d.0) (p.0 ∷ q.0) = (c.0, d.0, refl, c.2, d.2) in (
          c.0 ++ d.0,
          c.1 ∙ ap (λ l. c.0 ++ l) (d.1 ∙ ap (λ l. d.0 ++ l) s.1) ∙ sym (append_assoc c.0 d.0 rest),
          subst (IsEach R (c.0 ++ d.0)) s.0 here,
        )

pub each_sound : {A : Type 0} (begins : Lexeme → Bool) (f : Lexeme → Read A) (F : Lexeme → Stands A) → ((s : Lexeme) → IsSound (f s) (F s)) → IsSound (each begins f) (IsEach (IsHeaded F))
each_sound begins f F sound ts = many_sound begins (headed f) (IsHeaded F) (headed_sound f F sound) (suc (length ts)) ts

module _ {A : Type 0} (begins : Lexeme → Bool) (f : Lexeme → Read A) (F : Lexeme → Stands A) (Ends : List Lexeme → Type 0)
    (complete : (s : Lexeme) → IsComplete (f s) (F s) Ends) (opens : (s : Lexeme) (ts : List Lexeme) (x : A) → F s ts x → begins s ≡ true)
    (follow : (s : Lexeme) (ts : List Lexeme) → begins s ≡ true → Ends (s ∷ ts)) where
  pub next_ends : (xs : List A) (ts rest : List Lexeme) → IsEach (IsHeaded F) ts xs → Ends rest → Ends (ts ++ rest)
  next_ends [] ts rest r k = subst (λ l. Ends (l ++ rest)) (sym r) k
  next_ends (x ∷ xs) ts rest r k = go r.0 r.2 r.3
    where
      go : (front : List Lexeme) → ts ≡ front ++ r.1 → IsHeaded F front x → Ends (ts ++ rest)
      go [] e h = absurd h
      go (s ∷ front) e h = subst (λ l. Ends (l ++ rest)) (sym e) (follow s ((front ++ r.1) ++ rest) (opens s front x h))

  many_complete : (xs : List A) (n : ℕ) (ts rest : List Lexeme) → IsEach (IsHeaded F) ts xs → length ts < n → Ends rest → starts begins rest ≡ false → many begins (headed f) n (ts ++ rest) ≡ Some (xs, rest)
  many_complete xs zero ts rest r h k e = absurd (omega arith)
  many_complete [] (suc n) ts rest r h k e =
      ap (λ l. many begins (headed f) (suc n) (l ++ rest)) r ∙ ap (λ b. one_more b (headed f) (many begins (headed f) n) rest) e
  many_complete (x ∷ xs) (suc n) ts rest r h k e = go r.0 r.2 r.3 (many_complete xs n r.1 rest r.4)
    where
      go : (front : List Lexeme) → ts ≡ front ++ r.1 → IsHeaded F front x → (length r.1 < n → Ends rest → starts begins rest ≡ false → many begins (headed f) n (r.1 ++ rest) ≡ Some (xs, rest))
          → many begins (headed f) (suc n) (ts ++ rest) ≡ Some (x ∷ xs, rest)
      go [] i p more = absurd p
      go (s ∷ front) i p more =
          let long : length ts ≡ suc (length front + length r.1) = ap length i ∙ ap suc (length-append front r.1) in
          ap (λ l. many begins (headed f) (suc n) l) (ap (λ l. l ++ rest) i ∙ append_assoc (s ∷ front) r.1 rest)
          ∙ ap (λ b. one_more b (headed f) (many begins (headed f) n) (s ∷ (front ++ (r.1 ++ rest)))) (opens s front x p)
          ∙ ap (λ q. with_found q (λ x rest. and_first x (many begins (headed f) n rest))) (complete s front x (r.1 ++ rest) p (next_ends xs r.1 rest r.4 k))
          ∙ ap (and_first x) (more (omega arith) k e)

  pub each_complete : IsComplete (each begins f) (IsEach (IsHeaded F)) (λ rest. Ends rest × (starts begins rest ≡ false))
  each_complete ts xs rest r k = many_complete xs (suc (length (ts ++ rest))) ts rest r (omega (arith, length-append ts rest)) k.0 k.1

-- ---- made, tested, one of two

pub made_sound : {A B : Type 0} (f : A → B) (read : Read A) (R : Stands A) → IsSound read R → IsSound (made f read) (IsMade f R)
made_sound f read R sound ts t rest e =
    let q = found_from (read ts) (λ x rest. Some (f x, rest)) (t, rest) e in
    let d = sound ts q.0 q.1 q.2 in
    let s = same_found (f q.0) t q.1 rest q.3 in
    (d.0, d.1 ∙ ap (λ l. d.0 ++ l) s.1, (q.0, d.2, sym s.0))

pub made_complete : {A B : Type 0} (f : A → B) (read : Read A) (R : Stands A) (Ends : List Lexeme → Type 0) → IsComplete read R Ends → IsComplete (made f read) (IsMade f R) Ends
made_complete f read R Ends complete front t rest r k =
    ap (λ q. with_found q (λ x rest. Some (f x, rest))) (complete front r.0 rest r.1 k) ∙ ap (λ t. Some (t, rest)) (sym r.2)

pub such_sound : {A : Type 0} (test : A → Bool) (read : Read A) (R : Stands A) → IsSound read R → IsSound (such test read) (IsSuch test R)
such_sound {A} test read R sound ts x rest e = let q = found_from (read ts) (λ x rest. closed x (test x) rest) (x, rest) e in go q.0 q.1 q.2 (test q.0) refl q.3
  where
    go : (y : A) (left : List Lexeme) → read ts ≡ Some (y, left) → (b : Bool) → test y ≡ b → closed y b left ≡ Some (x, rest) → (front : List Lexeme) × (ts ≡ front ++ rest) × IsSuch test R front x
    go y left q false f e = absurd (cc)
    go y left q true f e =
        let d = sound ts y left q in
        let s = same_found y x left rest e in
        (d.0, d.1 ∙ ap (λ l. d.0 ++ l) s.1, subst (λ z. R d.0 z × (test z ≡ true)) s.0 (d.2, f))

pub such_complete : {A : Type 0} (test : A → Bool) (read : Read A) (R : Stands A) (Ends : List Lexeme → Type 0) → IsComplete read R Ends → IsComplete (such test read) (IsSuch test R) Ends
such_complete test read R Ends complete front x rest r k =
    ap (λ q. with_found q (λ x rest. closed x (test x) rest)) (complete front x rest r.0 k) ∙ ap (λ b. closed x b rest) r.1

pub either_sound : {A : Type 0} (a : Read A) (R : Stands A) (b : Read A) (S : Stands A) → IsSound a R → IsSound b S → IsSound (or_else a b) (λ ts x. R ts x ⊎ S ts x)
either_sound a R b S sound_a sound_b ts x rest e = go (a ts) refl e
  where
    go : (q : Found _) → a ts ≡ q → otherwise q (b ts) ≡ Some (x, rest) → (front : List Lexeme) × (ts ≡ front ++ rest) × (R front x ⊎ S front x)
    go None f e = let d = sound_b ts x rest e in (d.0, d.1, inr d.2)
    go (Some p) f e = let d = sound_a ts x rest (f ∙ e) in (d.0, d.1, inl d.2)

pub either_complete : {A : Type 0} (a : Read A) (R : Stands A) (b : Read A) (S : Stands A) (Ends : List Lexeme → Type 0)
    → IsComplete a R Ends → IsComplete b S Ends → ((ts : List Lexeme) (x : A) (rest : List Lexeme) → S ts x → Ends rest → a (ts ++ rest) ≡ None)
    → IsComplete (or_else a b) (λ ts x. R ts x ⊎ S ts x) Ends
either_complete a R b S Ends complete_a complete_b differ front x rest (inl r) k = ap (λ q. otherwise q (b (front ++ rest))) (complete_a front x rest r k)
either_complete a R b S Ends complete_a complete_b differ front x rest (inr s) k =
    ap (λ q. otherwise q (b (front ++ rest))) (differ front x rest s k) ∙ complete_b front x rest s k
