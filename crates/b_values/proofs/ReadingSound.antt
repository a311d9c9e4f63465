-- What is read at the front is a text of the value.
use Rattle.std.proofs.Common.{◌≡◌, ◌≢◌, ◌==◌, ◌≤◌, ◌<◌, ◌+◌, ◌-◌, ◌^◌, ◌&&◌, ◌||◌, ℕ, zero, suc, pos, neg_ℤ, Bool, true, false, List, [], ◌∷◌, ◌++◌, Option, Some, None, cond, length, arith, refl, sym, ap, ◌∙◌, subst, append_assoc, append-nil, eqb-true, nat_le, nat_lt, rules}
use Rattle.std.specs.Prelude.{codes, IsTrue, bytes_eq, position}
use Rattle.std.specs.Str.{is_utf8}
use Rattle.std.specs.Str.Parse.{IsNumeral, digits_value}
use Rattle.std.proofs.lemmas.Str.{IsUtf8-from_is_utf8}
use Rattle.std.proofs.lemmas.Bool.Decides.{nat_tests}
use Rattle.ascending.specs.Ascending.{set_of}
use Rattle.b_values.specs.declared.types.SetFace.{SetFace}
use Rattle.b_values.specs.declared.types.Ty.{Ty, roll-Ty, fold-Ty, fold-roll-Ty, map-Ty, ind-Ty}
use Rattle.b_values.specs.declared.types.Ty.TheOpen.{Ty-F}
use Rattle.b_values.specs.declared.types.Ty.TheVariants as ty
use Rattle.b_values.specs.declared.values.Value.{Value}
use Rattle.b_values.specs.declared.values.Value.TheVariants as value
use Rattle.b_values.specs.Types.{IsText}
use Rattle.b_values.specs.Values.{value_cmp}
use Rattle.b_values.specs.Texts.{names_of}
use Rattle.b_values.specs.Reading.{blanks, sign, Spells, is_name, is_name_byte, is_digit, Form, free, bracketed, numbered, IsPiece, IsList, truth, number, negative, text, element, couple, bracketed_couple, comma_couple, set, sequence, nothing, none, last, more}
use Rattle.b_values.specs.ReadingDescent.{Found, with_found, with_rest, skip, after, run, past, magnitude, number_or, read_number, falsehood, truth_or, read_truth, element_at, named, read_element, string_from, is_text, text_found, read_string, Chain, with_chain, chain_after, base, open_or, form_of, opened, is_whole, ended, front, closes_one, arrow_end, chain_rest, comma_end, by_comma, by_arrow, second, read_couple, and_first, goes_on, pieces, closing, list_or, list_up_to, inside, Reader, as_set, as_sequence, no_items, sequence_or, items_or, set_or, read_set, lone, read_layer, reader}
use Rattle.b_values.proofs.ReadingBytes.{found_is, rest_is, some_is, taken_is, pair_is, skip_sound, after_sound, run_past, magnitude_sound, string_sound}

-- ---- brackets at the front

-- so many opening brackets, with blanks before each
abbrev pub IsOpening : ℕ → List ℕ → Type 0
IsOpening zero p = p ≡ []
IsOpening (suc k) p = (n : ℕ) × (q : List ℕ) × (p ≡ sign n (codes "(") ++ q) × IsOpening k q

abbrev pub OpenedSound : ℕ → List ℕ → ℕ × List ℕ → Type 0
OpenedSound d bs r = (p : List ℕ) × (bs ≡ p ++ r.1) × IsOpening r.0 p × (r.0 ≤ d)

pub opened_sound : (d : ℕ) (bs : List ℕ) → OpenedSound d bs (opened d bs)
opened_sound zero bs = ([], refl, refl, omega arith)
opened_sound (suc d) bs = go (after (codes "(") bs) refl (opened_sound d)
  where
    go : (o : Option (List ℕ)) → after (codes "(") bs ≡ o → ((bs : List ℕ) → OpenedSound d bs (opened d bs)) → OpenedSound (suc d) bs (open_or o bs (opened d))
    go None e deeper = ([], refl, refl, omega arith)
    go (Some rest) e deeper =
        let a = after_sound (codes "(") bs rest e in
        let r = deeper rest in
        let small = r.3 in
        (sign a.0 (codes "(") ++ r.0, a.1 ∙ ap (λ l. sign a.0 (codes "(") ++ l) r.1 ∙ sym (append_assoc (sign a.0 (codes "(")) r.0 _), (a.0, r.0, refl, r.2), omega arith)

-- ---- chains

module _ (sets : List SetFace) where
  -- what may stand at the right side of a couple may stand anywhere
  pub freed : {t : Ty} {d : ℕ} {bs : List ℕ} {v : Value} → IsPiece sets bracketed t d bs v → IsPiece sets free t d bs v
  freed (truth n b) = truth n b
  freed (number n digits i h) = number n digits i h
  freed (negative n k digits i h) = negative n k digits i h
  freed (text n spelling bytes s i) = text n spelling bytes s i
  freed (element n s index name i e h) = element n s index name i e h
  freed (bracketed_couple n k m x y) = bracketed_couple n k m x y
  freed (comma_couple n k m x y) = comma_couple n k m x y
  freed (set n m xs) = set n m xs
  freed (sequence n m xs) = sequence n m xs
  freed (nothing a n) = nothing a n

  pub as_free : (b : Bool) {t : Ty} {d : ℕ} {bs : List ℕ} {v : Value} → IsPiece sets (form_of b) t d bs v → IsPiece sets free t d bs v
  as_free true p = freed p
  as_free false p = p

-- what a chain's reader gave: with an opening bracket before it for each that it closed, it is a text
pub record IsChained (sets : List SetFace) (t : Ty) (limit m : ℕ) (bs : List ℕ) (c : Chain) : Type 0 where
  pub body : List ℕ
  pub whole : bs ≡ body ++ c.rest
  pub closings : ℕ
  pub count : m ≡ closings + c.left
  pub piece : (p : List ℕ) → IsOpening closings p → IsPiece sets (form_of c.closed) t (limit - c.left) (p ++ body) c.value

abbrev pub ChainSound : List SetFace → Ty → (ℕ → ℕ → List ℕ → Option Chain) → Type 0
ChainSound sets t chain = (limit m : ℕ) (bs : List ℕ) (c : Chain) → chain limit m bs ≡ Some c → m ≤ limit → IsChained sets t limit m bs c

-- what was read at the front is a text of the form
abbrev pub IsFront : List SetFace → Form → Ty → ℕ → List ℕ → Value → List ℕ → Type 0
IsFront sets f t d bs v rest = (p : List ℕ) × (bs ≡ p ++ rest) × IsPiece sets f t d p v

abbrev pub FrontSound : List SetFace → Form → Ty → (ℕ → List ℕ → Found Value) → Type 0
FrontSound sets f t read = (d : ℕ) (bs : List ℕ) (v : Value) (rest : List ℕ) → read d bs ≡ Some (v, rest) → IsFront sets f t d bs v rest

pub same_front : (sets : List SetFace) (f : Form) (t : Ty) (d : ℕ) (bs : List ℕ) (v w : Value) (rest left : List ℕ) → ◌≡◌ {A = Found Value} (Some (v, left)) (Some (w, rest))
    → IsFront sets f t d bs v left → IsFront sets f t d bs w rest
same_front sets f t d bs v w rest left e h =
    let q = pair_is v w left rest e in
    (h.0, h.1 ∙ ap (λ l. h.0 ++ l) q.1, subst (IsPiece sets f t d h.0) q.0 h.2)

pub same_chained : (sets : List SetFace) (t : Ty) (limit m : ℕ) (bs : List ℕ) (c e : Chain) → Some c ≡ Some e → IsChained sets t limit m bs c → IsChained sets t limit m bs e
same_chained sets t limit m bs c e s h = subst (IsChained sets t limit m bs) (some_is c e s) h

chain_found : {A : Type 0} (o : Found A) (go : A → List ℕ → Option Chain) (c : Chain) → chain_after o go ≡ Some c → (a : A) × (l : List ℕ) × (o ≡ Some (a, l)) × (go a l ≡ Some c)
chain_found None go c e = absurd (cc)
chain_found (Some p) go c e = (p.0, p.1, refl, e)

rest_found : (o : Option (List ℕ)) (go : List ℕ → Option Chain) (c : Chain) → chain_rest o go ≡ Some c → (l : List ℕ) × (o ≡ Some l) × (go l ≡ Some c)
rest_found None go c e = absurd (cc)
rest_found (Some l) go c e = (l, refl, e)

module _ (sets : List SetFace) (t : Ty) where
  pub base_sound : (read : ℕ → List ℕ → Found Value) → FrontSound sets bracketed t read → ChainSound sets t (base read)
  base_sound read sound limit m bs c e h =
      let r = chain_found (read (limit - m) bs) (λ v rest. Some (record { value = v; left = m; closed = true; rest = rest })) c e in
      let s = sound (limit - m) bs r.0 r.1 r.2 in
      same_chained sets t limit m bs (record { value = r.0; left = m; closed = true; rest = r.1 }) c r.3 (record {
        body = s.0;
        whole = s.1;
        closings = 0;
        count = omega arith;
        piece = λ p o. subst (λ q. IsPiece sets bracketed t (limit - m) (q ++ s.0) r.0) (sym o) s.2;
      })

  whole_left : (f : Form) (c : Chain) → is_whole f c ≡ true → (c.left ≡ 0) × (f ≡ bracketed → c.closed ≡ true)
  whole_left free c e = (eqb-true c.left 0 e, λ k. absurd (cc))
  whole_left bracketed c e = go (c.left == 0) refl e
    where
      go : (b : Bool) → (c.left == 0) ≡ b → (b && c.closed) ≡ true → (c.left ≡ 0) × (bracketed ≡ bracketed → c.closed ≡ true)
      go true f e = (eqb-true c.left 0 f, λ k. e)
      go false f e = absurd (cc)

  in_form : (f : Form) (c : Chain) (d : ℕ) (bs : List ℕ) → (f ≡ bracketed → c.closed ≡ true) → IsPiece sets (form_of c.closed) t d bs c.value → IsPiece sets f t d bs c.value
  in_form free c d bs k p = as_free sets c.closed p
  in_form bracketed c d bs k p = subst (λ b. IsPiece sets (form_of b) t d bs c.value) (k refl) p

  pub front_sound : (chain : ℕ → ℕ → List ℕ → Option Chain) → ChainSound sets t chain → (f : Form) → FrontSound sets f t (front f chain)
  front_sound chain sound f d bs v rest e = go (chain d (opened d bs).0 (opened d bs).1) refl e
    where
      go : (o : Option Chain) → chain d (opened d bs).0 (opened d bs).1 ≡ o → ended f o ≡ Some (v, rest) → IsFront sets f t d bs v rest
      go None g e = absurd (cc)
      go (Some c) g e =
          let a = opened_sound d bs in
          let s = sound d (opened d bs).0 (opened d bs).1 c g a.3 in
          let w = taken_is (is_whole f c) (c.value, c.rest) (v, rest) e in
          let k = whole_left f c w.0 in
          let empty : c.left ≡ 0 = k.0 in
          let n = s.count in
          let all : s.closings ≡ (opened d bs).0 = omega arith in
          let depth : d - c.left ≡ d = omega arith in
          let p = s.piece a.0 (subst (λ n. IsOpening n a.0) (sym all) a.2) in
          same_front sets f t d bs c.value v rest c.rest (ap Some w.1)
          (a.0 ++ s.body, a.1 ∙ ap (λ l. a.0 ++ l) s.whole ∙ sym (append_assoc a.0 s.body c.rest), in_form f c d (a.0 ++ s.body) k.1 (subst (λ n. IsPiece sets (form_of c.closed) t n (a.0 ++ s.body) c.value) depth p))

-- ---- couples

module _ (sets : List SetFace) (a b : Ty) (first second' : ℕ → ℕ → List ℕ → Option Chain) (left_sound : ChainSound sets a first) (right_sound : ChainSound sets b second') where
  -- the first part, and the text of what follows it up to the second part's end
  plain_couple : (limit m : ℕ) (bs : List ℕ) (c : Chain) → IsChained sets a limit m bs c → (n : ℕ) (p : List ℕ) (y : Value) (rest : List ℕ) → c.rest ≡ sign n (codes "|->") ++ (p ++ rest) → IsPiece sets bracketed b (limit - c.left) p y
      → IsChained sets (ty.Pair a b) limit m bs (record { value = value.Pair c.value y; left = c.left; closed = false; rest = rest })
  plain_couple limit m bs c k n p y rest e r = record {
    body = k.body ++ (sign n (codes "|->") ++ p);
    whole = k.whole ∙ ap (λ l. k.body ++ l) (e ∙ sym (append_assoc (sign n (codes "|->")) p rest)) ∙ sym (append_assoc k.body (sign n (codes "|->") ++ p) rest);
    closings = k.closings;
    count = k.count;
    piece = λ q o. subst (λ l. IsPiece sets free (ty.Pair a b) (limit - c.left) l (value.Pair c.value y)) (append_assoc q k.body (sign n (codes "|->") ++ p)) (couple n (as_free sets c.closed (k.piece q o)) r);
  }

  regroup : (o q x s y t : List ℕ) → o ++ ((q ++ x) ++ (s ++ (y ++ t))) ≡ (o ++ q) ++ (x ++ (s ++ (y ++ t)))
  regroup o q x s y t = simp append_assoc

  shift : (limit m : ℕ) → suc m ≤ limit → suc (limit - suc m) ≡ limit - m
  shift limit m h = omega arith

  left_fits : (limit m : ℕ) (bs : List ℕ) (c : Chain) → IsChained sets a limit m bs c → m ≤ limit → c.left ≤ limit
  left_fits limit m bs c k h = let n = k.count in omega arith

  closed_body : List ℕ → ℕ → List ℕ → List ℕ → ℕ → List ℕ
  closed_body x n s p j = x ++ (sign n s ++ (p ++ sign j (codes ")")))

  closed_whole : (bs x : List ℕ) (n : ℕ) (s p : List ℕ) (j : ℕ) (front' rest next : List ℕ) → bs ≡ x ++ front' → front' ≡ sign n s ++ (p ++ rest) → rest ≡ sign j (codes ")") ++ next → bs ≡ closed_body x n s p j ++ next
  unfolding closed_body
  closed_whole bs x n s p j front' rest next e f g = rw (e, f, g) (simp append_assoc)

  -- a bracket closes: one bracket before the first part belongs to this couple
  closed_couple : (limit m : ℕ) (bs : List ℕ) (c : Chain) → IsChained sets a limit m bs c → m ≤ limit → (n : ℕ) (s p : List ℕ) (y : Value) (rest : List ℕ) → c.rest ≡ sign n s ++ (p ++ rest)
      → (j : ℕ) (next : List ℕ) → rest ≡ sign j (codes ")") ++ next → (l : ℕ) → c.left ≡ suc l
      → ((i : ℕ) (q : List ℕ) → IsPiece sets free a (limit - c.left) q c.value → IsPiece sets bracketed (ty.Pair a b) (suc (limit - c.left)) (sign i (codes "(") ++ (q ++ (sign n s ++ (p ++ sign j (codes ")"))))) (value.Pair c.value y))
      → IsChained sets (ty.Pair a b) limit m bs (record { value = value.Pair c.value y; left = l; closed = true; rest = next })
  unfolding closed_body
  closed_couple limit m bs c k h n s p y rest e j next g l f make =
      let fits = left_fits limit m bs c k h in
      let counted = k.count in
      let deep : suc (limit - c.left) ≡ limit - l = omega arith in
      record {
        body = closed_body k.body n s p j;
        whole = closed_whole bs k.body n s p j c.rest rest next k.whole e g;
        closings = suc k.closings;
        count = omega arith;
        piece = λ q o.
            subst (λ d. IsPiece sets bracketed (ty.Pair a b) d (q ++ closed_body k.body n s p j) (value.Pair c.value y)) deep
            (subst (λ z. IsPiece sets bracketed (ty.Pair a b) (suc (limit - c.left)) z (value.Pair c.value y))
            (regroup (sign o.0 (codes "(")) o.1 k.body (sign n s) p (sign j (codes ")")) ∙ ap (λ z. z ++ closed_body k.body n s p j) (sym o.2))
            (make o.0 (o.1 ++ k.body) (as_free sets c.closed (k.piece o.1 o.3))));
      }

  arrow_sound : (limit m : ℕ) (bs : List ℕ) (c : Chain) → IsChained sets a limit m bs c → m ≤ limit → (n : ℕ) (p : List ℕ) (y : Value) (rest : List ℕ) → c.rest ≡ sign n (codes "|->") ++ (p ++ rest) → IsPiece sets bracketed b (limit - c.left) p y
      → (o : Option (List ℕ)) → after (codes ")") rest ≡ o → (l : ℕ) → c.left ≡ l → IsChained sets (ty.Pair a b) limit m bs (closes_one o l (value.Pair c.value y) rest)
  arrow_sound limit m bs c k h n p y rest e r None f l g = subst (λ l. IsChained sets (ty.Pair a b) limit m bs (record { value = value.Pair c.value y; left = l; closed = false; rest = rest })) g (plain_couple limit m bs c k n p y rest e r)
  arrow_sound limit m bs c k h n p y rest e r (Some next) f zero g = subst (λ l. IsChained sets (ty.Pair a b) limit m bs (record { value = value.Pair c.value y; left = l; closed = false; rest = rest })) g (plain_couple limit m bs c k n p y rest e r)
  arrow_sound limit m bs c k h n p y rest e r (Some next) f (suc l) g =
      let w = after_sound (codes ")") rest next f in
      closed_couple limit m bs c k h n (codes "|->") p y rest e w.0 next w.1 l g (λ i q x. bracketed_couple i n w.0 x r)

  comma_sound : (limit m : ℕ) (bs : List ℕ) (c : Chain) → IsChained sets a limit m bs c → m ≤ limit → (l : ℕ) → c.left ≡ l → (o : Option (List ℕ)) → after (codes ",") c.rest ≡ o
      → (r : Chain) → by_comma (front free second') limit c l o ≡ Some r → IsChained sets (ty.Pair a b) limit m bs r
  comma_sound limit m bs c k h zero g o f r e = absurd (cc)
  comma_sound limit m bs c k h (suc l) g None f r e = absurd (cc)
  comma_sound limit m bs c k h (suc l) g (Some bs') f r e =
      let w = after_sound (codes ",") c.rest bs' f in
      let u = chain_found (front free second' (limit - c.left) bs') (comma_end c l) r e in
      let s = front_sound sets b second' right_sound free (limit - c.left) bs' u.0 u.1 u.2 in
      let v = rest_found (after (codes ")") u.1) (λ rest. Some (record { value = value.Pair c.value u.0; left = l; closed = true; rest = rest })) r u.3 in
      let z = after_sound (codes ")") u.1 v.0 v.1 in
      same_chained sets (ty.Pair a b) limit m bs (record { value = value.Pair c.value u.0; left = l; closed = true; rest = v.0 }) r v.2
      (closed_couple limit m bs c k h w.0 (codes ",") s.0 u.0 u.1 (w.1 ∙ ap (λ l. sign w.0 (codes ",") ++ l) s.1) z.0 v.0 z.1 l g (λ i q x. comma_couple i w.0 z.0 x s.2))

  pub couple_sound : ChainSound sets (ty.Pair a b) (read_couple first second')
  couple_sound limit m bs r e h = go (first limit m bs) refl e
    where
      second_part : (c : Chain) → IsChained sets a limit m bs c → (o : Option (List ℕ)) → after (codes "|->") c.rest ≡ o → by_arrow (front bracketed second') (front free second') limit c o ≡ Some r → IsChained sets (ty.Pair a b) limit m bs r
      second_part c k None f e = comma_sound limit m bs c k h c.left refl (after (codes ",") c.rest) refl r e
      second_part c k (Some bs') f e =
          let w = after_sound (codes "|->") c.rest bs' f in
          let u = chain_found (front bracketed second' (limit - c.left) bs') (arrow_end c) r e in
          let s = front_sound sets b second' right_sound bracketed (limit - c.left) bs' u.0 u.1 u.2 in
          same_chained sets (ty.Pair a b) limit m bs (closes_one (after (codes ")") u.1) c.left (value.Pair c.value u.0) u.1) r u.3
          (arrow_sound limit m bs c k h w.0 s.0 u.0 u.1 (w.1 ∙ ap (λ l. sign w.0 (codes "|->") ++ l) s.1) s.2 (after (codes ")") u.1) refl c.left refl)

      go : (o : Option Chain) → first limit m bs ≡ o → with_chain o (second second' limit) ≡ Some r → IsChained sets (ty.Pair a b) limit m bs r
      go None f e = absurd (cc)
      go (Some c) f e = second_part c (left_sound limit m bs c f h) (after (codes "|->") c.rest) refl e

-- ---- lists

-- what was read is a list of at least one text
abbrev pub IsRow : List SetFace → Ty → ℕ → List ℕ → List Value → List ℕ → Type 0
IsRow sets a d bs xs rest = (p : List ℕ) × (bs ≡ p ++ rest) × IsList sets a d p xs × (xs ≢ [])

abbrev pub IsItems : List SetFace → Ty → ℕ → List ℕ → List ℕ → List Value → List ℕ → Type 0
IsItems sets a d close bs xs rest = (p : List ℕ) × (n : ℕ) × (bs ≡ (p ++ sign n close) ++ rest) × IsList sets a d p xs

module _ (sets : List SetFace) (a : Ty) (d : ℕ) (read : List ℕ → Found Value) (sound : (bs : List ℕ) (v : Value) (rest : List ℕ) → read bs ≡ Some (v, rest) → IsFront sets free a d bs v rest) where
  one_more : (p : List ℕ) (x : Value) → IsPiece sets free a d p x → (n : ℕ) (q : List ℕ) (ys : List Value) → IsList sets a d q ys → ys ≢ [] → IsList sets a d (p ++ (sign n (codes ",") ++ q)) (x ∷ ys)
  one_more p x h n q [] l e = absurd (e refl)
  one_more p x h n q (y ∷ ys) l e = more n h l

  row_on : (bs : List ℕ) (x : Value) (rest : List ℕ) → IsFront sets free a d bs x rest → (o : Option (List ℕ)) → after (codes ",") rest ≡ o → (deeper : List ℕ → Found (List Value)) (xs : List Value) (left : List ℕ)
      → ((bs : List ℕ) (xs : List Value) → deeper bs ≡ Some (xs, left) → IsRow sets a d bs xs left) → goes_on deeper x rest o ≡ Some (xs, left) → IsRow sets a d bs xs left
  row_on bs x rest h None e deeper xs left rows f =
      let q = pair_is (x ∷ []) xs rest left f in
      (h.0, h.1 ∙ ap (λ l. h.0 ++ l) q.1, subst (IsList sets a d h.0) q.0 (last h.2), λ k. let z = q.0 ∙ k in cc)
  row_on bs x rest h (Some next) e deeper xs left rows f =
      let w = found_is (deeper next) (λ vs rest. Some (x ∷ vs, rest)) (xs, left) f in
      let q = pair_is (x ∷ w.0) xs w.1 left w.3 in
      let r = rows next w.0 (w.2 ∙ ap (λ l. Some (w.0, l)) q.1) in
      let s = after_sound (codes ",") rest next e in (
        h.0 ++ (sign s.0 (codes ",") ++ r.0),
        h.1 ∙ ap (λ l. h.0 ++ l) (s.1 ∙ ap (λ l. sign s.0 (codes ",") ++ l) r.1 ∙ sym (append_assoc (sign s.0 (codes ",")) r.0 left)) ∙ sym (append_assoc h.0 (sign s.0 (codes ",") ++ r.0) left),
        subst (IsList sets a d (h.0 ++ (sign s.0 (codes ",") ++ r.0))) q.0 (one_more h.0 x h.2 s.0 r.0 w.0 r.2 r.3),
        λ k. let z = q.0 ∙ k in cc,
      )

  pub pieces_sound : (n : ℕ) (bs : List ℕ) (xs : List Value) (left : List ℕ) → pieces read n bs ≡ Some (xs, left) → IsRow sets a d bs xs left
  pieces_sound zero bs xs left e = absurd (cc)
  pieces_sound (suc n) bs xs left e =
      let w = found_is (read bs) (λ v rest. goes_on (pieces read n) v rest (after (codes ",") rest)) (xs, left) e in
      row_on bs w.0 w.1 (sound bs w.0 w.1 w.2) (after (codes ",") w.1) refl (pieces read n) xs left (λ bs xs f. pieces_sound n bs xs left f) w.3

  pub list_sound : (close bs : List ℕ) (xs : List Value) (rest : List ℕ) → list_up_to close read bs ≡ Some (xs, rest) → IsItems sets a d close bs xs rest
  list_sound close bs xs rest e = go (after close bs) refl e
    where
      go : (o : Option (List ℕ)) → after close bs ≡ o → list_or o read close bs ≡ Some (xs, rest) → IsItems sets a d close bs xs rest
      go None f e =
          let w = found_is (pieces read (suc (length bs)) bs) (closing close) (xs, rest) e in
          let r = pieces_sound (suc (length bs)) bs w.0 w.1 w.2 in
          let u = rest_is (after close w.1) (λ rest. Some (w.0, rest)) (xs, rest) w.3 in
          let q = pair_is w.0 xs u.0 rest u.2 in
          let s = after_sound close w.1 u.0 u.1 in
          (r.0, s.0, r.1 ∙ ap (λ l. r.0 ++ l) (s.1 ∙ ap (λ l. sign s.0 close ++ l) q.1) ∙ sym (append_assoc r.0 (sign s.0 close) rest), subst (IsList sets a d r.0) q.0 r.2)
      go (Some left) f e =
          let q = pair_is [] xs left rest e in
          let s = after_sound close bs left f in
          ([], s.0, s.1 ∙ ap (λ l. sign s.0 close ++ l) q.1, subst (IsList sets a d []) q.0 none)

-- ---- sets and sequences

inside_is : (d : ℕ) (go : ℕ → Found Value) (r : Value × List ℕ) → inside d go ≡ Some r → (k : ℕ) × (d ≡ suc k) × (go k ≡ Some r)
inside_is zero go r e = absurd (cc)
inside_is (suc d) go r e = (d, refl, e)

-- the reader of a type reads its texts
pub record ReaderSound (sets : List SetFace) (t : Ty) (r : Reader) : Type 0 where
  pub chain : ChainSound sets t r.chain
  pub item : (read : ℕ → List ℕ → Found Value) → r.item ≡ Some read → (b : Ty) × (t ≡ ty.Pair ty.Int b) × FrontSound sets free b read
  pub number : r.is_number ≡ true → t ≡ ty.Int

module _ (sets : List SetFace) (a : Ty) (element' : Reader) (sound : ReaderSound sets a element') where
  bracketed_whole : (bs rest next left : List ℕ) (n : ℕ) (open' p : List ℕ) (k : ℕ) (close : List ℕ) → bs ≡ sign n open' ++ rest → rest ≡ (p ++ sign k close) ++ next → next ≡ left → bs ≡ (sign n open' ++ (p ++ sign k close)) ++ left
  bracketed_whole bs rest next left n open' p k close e f g = rw (e, f, g) (simp append_assoc)

  sequence_sound : (b : Ty) → a ≡ ty.Pair ty.Int b → (read : ℕ → List ℕ → Found Value) → FrontSound sets free b read → (d : ℕ) (bs : List ℕ) (v : Value) (rest : List ℕ) → (o : Option (List ℕ)) → after (codes "[") bs ≡ o
      → sequence_or read d bs o ≡ Some (v, rest) → IsFront sets bracketed (ty.Set a) d bs v rest
  sequence_sound b is read items d bs v rest None f e =
      let w = rest_is (after (codes "<>") bs) (λ rest. Some (value.Set [], rest)) (v, rest) e in
      let s = after_sound (codes "<>") bs w.0 w.1 in
      same_front sets bracketed (ty.Set a) d bs (value.Set []) v rest w.0 w.2 (sign s.0 (codes "<>"), s.1, subst (λ t. IsPiece sets bracketed (ty.Set t) d (sign s.0 (codes "<>")) (value.Set [])) (sym is) (nothing b s.0))
  sequence_sound b is read items d bs v rest (Some next) f e =
      let w = inside_is d (λ d. with_found (list_up_to (codes "]") (read d) next) as_sequence) (v, rest) e in
      let u = found_is (list_up_to (codes "]") (read w.0) next) as_sequence (v, rest) w.2 in
      let r = list_sound sets b w.0 (read w.0) (items w.0) (codes "]") next u.0 u.1 u.2 in
      let s = after_sound (codes "[") bs next f in
      same_front sets bracketed (ty.Set a) d bs (value.Set (numbered 1 u.0)) v rest u.1 u.3 (
        sign s.0 (codes "[") ++ (r.0 ++ sign r.1 (codes "]")),
        bracketed_whole bs next u.1 u.1 s.0 (codes "[") r.0 r.1 (codes "]") s.1 r.2 refl,
        subst (λ d. IsPiece sets bracketed (ty.Set a) d (sign s.0 (codes "[") ++ (r.0 ++ sign r.1 (codes "]"))) (value.Set (numbered 1 u.0))) (sym w.1)
            (subst (λ t. IsPiece sets bracketed (ty.Set t) (suc w.0) (sign s.0 (codes "[") ++ (r.0 ++ sign r.1 (codes "]"))) (value.Set (numbered 1 u.0))) (sym is) (sequence s.0 r.1 r.3)),
      )

  items_sound : (d : ℕ) (bs : List ℕ) (v : Value) (rest : List ℕ) → (o : Option (ℕ → List ℕ → Found Value)) → element'.item ≡ o → items_or o d bs ≡ Some (v, rest) → IsFront sets bracketed (ty.Set a) d bs v rest
  items_sound d bs v rest None f e = absurd (cc)
  items_sound d bs v rest (Some read) f e = let i = sound.item read f in sequence_sound i.0 i.1 read i.2 d bs v rest (after (codes "[") bs) refl e

  pub set_sound : FrontSound sets bracketed (ty.Set a) (read_set element')
  set_sound d bs v rest e = go (after (codes "{") bs) refl e
    where
      go : (o : Option (List ℕ)) → after (codes "{") bs ≡ o → set_or element' d bs o ≡ Some (v, rest) → IsFront sets bracketed (ty.Set a) d bs v rest
      go None f e = items_sound d bs v rest element'.item refl e
      go (Some next) f e =
          let w = inside_is d (λ d. with_found (list_up_to (codes "}") (front free element'.chain d) next) as_set) (v, rest) e in
          let u = found_is (list_up_to (codes "}") (front free element'.chain w.0) next) as_set (v, rest) w.2 in
          let r = list_sound sets a w.0 (front free element'.chain w.0) (front_sound sets a element'.chain sound.chain free w.0) (codes "}") next u.0 u.1 u.2 in
          let s = after_sound (codes "{") bs next f in
          same_front sets bracketed (ty.Set a) d bs (value.Set (set_of value_cmp u.0)) v rest u.1 u.3 (
            sign s.0 (codes "{") ++ (r.0 ++ sign r.1 (codes "}")),
            bracketed_whole bs next u.1 u.1 s.0 (codes "{") r.0 r.1 (codes "}") s.1 r.2 refl,
            subst (λ d. IsPiece sets bracketed (ty.Set a) d (sign s.0 (codes "{") ++ (r.0 ++ sign r.1 (codes "}"))) (value.Set (set_of value_cmp u.0))) (sym w.1) (set s.0 r.1 r.3),
          )

-- ---- numbers, truth values, texts, elements

module _ (sets : List SetFace) where
  skipped : (bs p rest : List ℕ) → skip bs ≡ p ++ rest → (n : ℕ) × (bs ≡ sign n p ++ rest)
  skipped bs p rest e = let s = skip_sound bs in (s.0, s.1 ∙ ap (λ l. blanks s.0 ++ l) e ∙ sym (append_assoc (blanks s.0) p rest))

  number_sound : FrontSound sets bracketed ty.Int (λ d. read_number)
  number_sound d bs v rest e = go (after (codes "-") bs) refl e
    where
      go : (o : Option (List ℕ)) → after (codes "-") bs ≡ o → number_or o bs ≡ Some (v, rest) → IsFront sets bracketed ty.Int d bs v rest
      go None f e =
          let w = found_is (magnitude (2 ^ 127 - 1) (skip bs)) (λ n rest. Some (value.Int (pos n), rest)) (v, rest) e in
          let m = magnitude_sound (2 ^ 127 - 1) (skip bs) w.0 w.1 w.2 in
          let s = skipped bs m.digits w.1 m.whole in
          let same = m.value in
          let small = m.small in
          same_front sets bracketed ty.Int d bs (value.Int (pos w.0)) v rest w.1 w.3
          (sign s.0 m.digits, s.1, subst (λ n. IsPiece sets bracketed ty.Int d (sign s.0 m.digits) (value.Int (pos n))) (sym m.value) (number s.0 m.digits m.numeral (omega arith)))
      go (Some next) f e =
          let w = found_is (magnitude (2 ^ 127) (skip next)) (λ n rest. Some (value.Int (neg_ℤ (pos n)), rest)) (v, rest) e in
          let m = magnitude_sound (2 ^ 127) (skip next) w.0 w.1 w.2 in
          let s = skipped next m.digits w.1 m.whole in
          let u = after_sound (codes "-") bs next f in
          let same = m.value in
          let small = m.small in
          same_front sets bracketed ty.Int d bs (value.Int (neg_ℤ (pos w.0))) v rest w.1 w.3 (
            sign u.0 (codes "-") ++ sign s.0 m.digits,
            u.1 ∙ ap (λ l. sign u.0 (codes "-") ++ l) s.1 ∙ sym (append_assoc (sign u.0 (codes "-")) (sign s.0 m.digits) w.1),
            subst (λ n. IsPiece sets bracketed ty.Int d (sign u.0 (codes "-") ++ sign s.0 m.digits) (value.Int (neg_ℤ (pos n)))) (sym m.value) (negative u.0 s.0 m.digits m.numeral (omega arith)),
          )

  truth_sound : FrontSound sets bracketed ty.Truth (λ d. read_truth)
  truth_sound d bs v rest e = go (after (codes "TRUE") bs) refl e
    where
      go : (o : Option (List ℕ)) → after (codes "TRUE") bs ≡ o → truth_or o bs ≡ Some (v, rest) → IsFront sets bracketed ty.Truth d bs v rest
      go (Some next) f e = let s = after_sound (codes "TRUE") bs next f in same_front sets bracketed ty.Truth d bs (value.Truth true) v rest next e (sign s.0 (codes "TRUE"), s.1, truth s.0 true)
      go None f e =
          let w = rest_is (after (codes "FALSE") bs) (λ rest. Some (value.Truth false, rest)) (v, rest) e in
          let s = after_sound (codes "FALSE") bs w.0 w.1 in
          same_front sets bracketed ty.Truth d bs (value.Truth false) v rest w.0 w.2 (sign s.0 (codes "FALSE"), s.1, truth s.0 false)

  lt_of : (a b : ℕ) → nat_lt a b ≡ true → a < b
  lt_of a b e = grind (arith, nat_tests)

  text_is : (bytes : List ℕ) → is_text bytes ≡ true → IsText bytes
  text_is bytes e = go (is_utf8 bytes) refl e
    where
      go : (b : Bool) → is_utf8 bytes ≡ b → (b && nat_lt (length bytes) (2 ^ 32)) ≡ true → IsText bytes
      go true f e = record { utf8 = IsUtf8-from_is_utf8 bytes f; short = lt_of (length bytes) (2 ^ 32) e }
      go false f e = absurd (cc)

  text_sound : FrontSound sets bracketed ty.Text (λ d. read_string)
  text_sound d bs v rest e =
      let w = rest_is (after (codes "\"") bs) (λ bs. with_found (string_from false bs) text_found) (v, rest) e in
      let u = found_is (string_from false w.0) text_found (v, rest) w.2 in
      let c = taken_is (is_text u.0) (value.Text u.0, u.1) (v, rest) u.3 in
      let s = after_sound (codes "\"") bs w.0 w.1 in
      let r = string_sound false w.0 u.0 u.1 u.2 in
      same_front sets bracketed ty.Text d bs (value.Text u.0) v rest u.1 (ap Some c.1) (
        sign s.0 (34 ∷ (r.0 ++ 34 ∷ [])),
        s.1 ∙ ap (λ l. sign s.0 (codes "\"") ++ l) r.1 ∙ quoted s.0 r.0 u.1,
        text s.0 r.0 u.0 r.2 (text_is u.0 c.0),
      )
    where
      quoted : (n : ℕ) (t rest : List ℕ) → sign n (codes "\"") ++ (t ++ 34 ∷ rest) ≡ sign n (34 ∷ (t ++ 34 ∷ [])) ++ rest
      quoted n t rest = simp append_assoc

  element_sound : (k : ℕ) → FrontSound sets bracketed (ty.Elem k) (λ d. read_element sets k)
  element_sound k d bs v rest e = go (run is_name_byte (skip bs)) (run_past is_name_byte (skip bs)) e
    where
      go : (name : List ℕ) → skip bs ≡ name ++ past is_name_byte (skip bs) → named sets k name (past is_name_byte (skip bs)) ≡ Some (v, rest) → IsFront sets bracketed (ty.Elem k) d bs v rest
      go name f e = tested (is_name name) refl e
        where
          found : (o : Option ℕ) → is_name name ≡ true → position (bytes_eq name) (names_of sets k) ≡ o → element_at k (past is_name_byte (skip bs)) o ≡ Some (v, rest) → IsFront sets bracketed (ty.Elem k) d bs v rest
          found None g h e = absurd (cc)
          found (Some i) g h e =
              let s = skipped bs name (past is_name_byte (skip bs)) f in
              let w = taken_is (nat_lt i (2 ^ 32)) (value.Elem k i, past is_name_byte (skip bs)) (v, rest) e in
              same_front sets bracketed (ty.Elem k) d bs (value.Elem k i) v rest (past is_name_byte (skip bs)) (ap Some w.1) (sign s.0 name, s.1, element s.0 k i name g h (lt_of i (2 ^ 32) w.0))

          tested : (b : Bool) → is_name name ≡ b → element_at k (past is_name_byte (skip bs)) (cond b (position (bytes_eq name) (names_of sets k)) None) ≡ Some (v, rest) → IsFront sets bracketed (ty.Elem k) d bs v rest
          tested true g e = found (position (bytes_eq name) (names_of sets k)) g refl e
          tested false g e = absurd (cc)

-- ---- every type

abbrev Below : (Ty → Type 0) → Ty-F Ty → Type 0
Below P Ty-F.Int = Unit {0}
Below P Ty-F.Truth = Unit {0}
Below P Ty-F.Text = Unit {0}
Below P (Ty-F.Elem k) = Unit {0}
Below P (Ty-F.Pair a b) = P a × P b
Below P (Ty-F.Set a) = P a

below_of : (P : Ty → Type 0) (y : Ty-F ((t : Ty) × P t)) → Below P (map-Ty ((t : Ty) × P t) Ty (λ e. e.0) y)
below_of P Ty-F.Int = tt
below_of P Ty-F.Truth = tt
below_of P Ty-F.Text = tt
below_of P (Ty-F.Elem k) = tt
below_of P (Ty-F.Pair a b) = (a.1, b.1)
below_of P (Ty-F.Set a) = a.1

by_layers : (P : Ty → Type 0) → ((x : Ty-F Ty) → Below P x → P (roll-Ty x)) → (t : Ty) → P t
by_layers P step = ind-Ty P (λ x y is. step x (subst (Below P) is (below_of P y)))

pub reader_roll : (sets : List SetFace) (x : Ty-F Ty) → reader sets (roll-Ty x) ≡ read_layer sets (map-Ty Ty Reader (reader sets) x)
unfolding reader
reader_roll sets x = fold-roll-Ty Reader (read_layer sets) x

module _ (sets : List SetFace) where
  lone_sound : (t : Ty) (read : ℕ → List ℕ → Found Value) → FrontSound sets bracketed t read → ReaderSound sets t (lone (base read))
  lone_sound t read sound = record { chain = base_sound sets t read sound; item = λ r e. absurd (cc); number = λ e. absurd (cc) }

  couple_reader : (a b : Ty) (r s : Reader) → ReaderSound sets a r → ReaderSound sets b s → ReaderSound sets (ty.Pair a b) (read_layer sets (Ty-F.Pair r s))
  couple_reader a b r s h k = record {
    chain = couple_sound sets a b r.chain s.chain h.chain k.chain;
    item = λ read e. go r.is_number refl read e;
    number = λ e. absurd (cc);
  }
    where
      go : (n : Bool) → r.is_number ≡ n → (read : ℕ → List ℕ → Found Value) → cond n (Some (front free s.chain)) None ≡ Some read → (c : Ty) × (ty.Pair a b ≡ ty.Pair ty.Int c) × FrontSound sets free c read
      go true f read e = (b, ap (λ t. ty.Pair t b) (h.number f), subst (FrontSound sets free b) (some_is (front free s.chain) read e) (front_sound sets b s.chain k.chain free))
      go false f read e = absurd (cc)

  layer_sound : (x : Ty-F Ty) → Below (λ t. ReaderSound sets t (reader sets t)) x → ReaderSound sets (roll-Ty x) (read_layer sets (map-Ty Ty Reader (reader sets) x))
  layer_sound Ty-F.Int k = subst (λ t. ReaderSound sets t (read_layer sets Ty-F.Int)) (sym ty.rolls-Int) (record { chain = base_sound sets ty.Int (λ d. read_number) (number_sound sets); item = λ r e. absurd (cc); number = λ e. refl })
  layer_sound Ty-F.Truth k = subst (λ t. ReaderSound sets t (read_layer sets Ty-F.Truth)) (sym ty.rolls-Truth) (lone_sound ty.Truth (λ d. read_truth) (truth_sound sets))
  layer_sound Ty-F.Text k = subst (λ t. ReaderSound sets t (read_layer sets Ty-F.Text)) (sym ty.rolls-Text) (lone_sound ty.Text (λ d. read_string) (text_sound sets))
  layer_sound (Ty-F.Elem n) k = subst (λ t. ReaderSound sets t (read_layer sets (Ty-F.Elem n))) (sym (ty.rolls-Elem n)) (lone_sound (ty.Elem n) (λ d. read_element sets n) (element_sound sets n))
  layer_sound (Ty-F.Pair a b) k = subst (λ t. ReaderSound sets t (read_layer sets (Ty-F.Pair (reader sets a) (reader sets b)))) (sym (ty.rolls-Pair a b)) (couple_reader a b (reader sets a) (reader sets b) k.0 k.1)
  layer_sound (Ty-F.Set a) k = subst (λ t. ReaderSound sets t (read_layer sets (Ty-F.Set (reader sets a)))) (sym (ty.rolls-Set a)) (lone_sound (ty.Set a) (read_set (reader sets a)) (set_sound sets a (reader sets a) k))

  pub reader_sound : (t : Ty) → ReaderSound sets t (reader sets t)
  reader_sound = by_layers (λ t. ReaderSound sets t (reader sets t)) (λ x k. subst (ReaderSound sets (roll-Ty x)) (sym (reader_roll sets x)) (layer_sound x k))
