-- Each text of a value is read at the front of what it begins.
use Rattle.std.proofs.Common.{◌≡◌, ◌≢◌, ◌==◌, ◌≤◌, ◌<◌, ◌+◌, ◌-◌, ◌^◌, ◌&&◌, ◌||◌, ◌⊎◌, inl, inr, ℕ, zero, suc, pos, neg_ℤ, Bool, true, false, List, [], ◌∷◌, ◌++◌, Option, Some, None, cond, length, arith, refl, sym, ap, ◌∙◌, subst, append_assoc, append-nil, length-append, eqb-true, nat_le, nat_lt, rules}
use Rattle.std.specs.Prelude.{codes, IsTrue, bytes_eq, position}
use Rattle.std.specs.List.{list_all}
use Rattle.std.specs.Str.{is_utf8}
use Rattle.std.specs.Str.Parse.{IsNumeral, digits_value}
use Rattle.std.proofs.lemmas.Str.{is_utf8-from_IsUtf8}
use Rattle.std.proofs.lemmas.Bool.Decides.{nat_tests}
use Rattle.ascending.specs.Ascending.{set_of}
use Rattle.b_values.specs.declared.types.SetFace.{SetFace}
use Rattle.b_values.specs.declared.types.Ty.{Ty, map-Ty}
use Rattle.b_values.specs.declared.types.Ty.TheOpen.{Ty-F}
use Rattle.b_values.specs.declared.types.Ty.TheVariants as ty
use Rattle.b_values.specs.declared.values.Value.{Value}
use Rattle.b_values.specs.declared.values.Value.TheVariants as value
use Rattle.b_values.specs.Types.{IsText}
use Rattle.b_values.specs.Values.{value_cmp}
use Rattle.b_values.specs.Texts.{names_of}
use Rattle.b_values.specs.Reading.{blanks, sign, Spells, is_letter, is_name, is_name_byte, is_digit, Form, free, bracketed, numbered, IsPiece, IsList, truth, number, negative, text, element, couple, bracketed_couple, comma_couple, set, sequence, nothing, none, last, more}
use Rattle.b_values.specs.ReadingDescent.{Found, with_found, with_rest, skip, strip, after, run, past, magnitude, number_or, read_number, falsehood, truth_or, read_truth, element_at, named, read_element, string_from, is_text, text_found, read_string, Chain, with_chain, chain_after, base, open_or, opened, is_whole, ended, front, closes_one, arrow_end, chain_rest, comma_end, by_comma, by_arrow, second, read_couple, and_first, goes_on, pieces, closing, list_or, list_up_to, inside, Reader, as_set, as_sequence, no_items, sequence_or, items_or, set_or, read_set, lone, read_layer, reader}
use Rattle.b_values.proofs.ReadingBytes.{Stops, after_complete, after_is, sign_skip, run_all, past_all, all_digits, digits_all, magnitude_complete, string_complete}
use Rattle.b_values.proofs.ReadingSound.{IsOpening, reader_roll}

-- ---- how a text begins

-- the first byte after the blanks passes
pub record Starts (p : ℕ → Bool) (bs : List ℕ) : Type 0 where
  pub blank : ℕ
  pub first : ℕ
  pub others : List ℕ
  pub whole : bs ≡ sign blank (first ∷ others)
  pub passes : p first ≡ true

other_byte : (p : ℕ → Bool) (a b : ℕ) → p a ≡ false → p b ≡ true → (a == b) ≡ false
other_byte p a b e f = go (a == b) refl
  where
    go : (t : Bool) → (a == b) ≡ t → t ≡ false
    go true g = absurd (let same : a ≡ b = eqb-true a b g in let k : p a ≡ true = ap p same ∙ f in let z : true ≡ false = sym k ∙ e in cc)
    go false g = refl

flip_byte : (p : ℕ → Bool) (a b : ℕ) → p a ≡ true → p b ≡ false → (a == b) ≡ false
flip_byte p a b e f = go (a == b) refl
  where
    go : (t : Bool) → (a == b) ≡ t → t ≡ false
    go true g = absurd (let same : a ≡ b = eqb-true a b g in let k : p b ≡ true = ap p (sym same) ∙ e in let z : true ≡ false = sym k ∙ f in cc)
    go false g = refl

-- a sign that can't begin it doesn't stand at its front
pub not_at_start : (p : ℕ → Bool) → p 32 ≡ false → (c : ℕ) (cs : List ℕ) → p c ≡ false → (bs rest : List ℕ) → Starts p bs → after (c ∷ cs) (bs ++ rest) ≡ None
not_at_start p blank c cs e bs rest s =
    ap (λ l. after (c ∷ cs) (l ++ rest)) s.whole
    ∙ after_is (c ∷ cs) s.blank (s.first ∷ s.others) rest None
    (rw (flip_byte p s.first 32 s.passes blank, other_byte p c s.first e s.passes) refl)

-- what begins so has no blank before it where the sign has none
pub start_skip : (p : ℕ → Bool) → p 32 ≡ false → (b : ℕ) (bs : List ℕ) → p b ≡ true → skip (b ∷ bs) ≡ b ∷ bs
start_skip p blank b bs e = rw (flip_byte p b 32 e blank) refl

-- the bytes with which a value's text begins, but for a bracket of a couple
abbrev pub is_start : ℕ → Bool
is_start b = is_name_byte b || b == 45 || b == 34 || b == 123 || b == 91 || b == 60

abbrev pub begins : ℕ → Bool
begins b = b == 40 || is_start b

start_named : (b : ℕ) → is_name_byte b ≡ true → is_start b ≡ true
start_named b e = rw e refl

start_begins : (b : ℕ) → is_start b ≡ true → begins b ≡ true
start_begins b e = go (b == 40)
  where
    go : (t : Bool) → (t || is_start b) ≡ true
    go true = refl
    go false = e

digit_named : (b : ℕ) → is_digit b ≡ true → is_name_byte b ≡ true
digit_named b e = go (is_letter b)
  where
    go : (t : Bool) → (t || is_digit b || b == 95) ≡ true
    go true = refl
    go false = rw e refl

-- what may follow a text of a value
abbrev pub Ends : List ℕ → Type 0
Ends = Stops is_name_byte

pub ends_sign : (n c : ℕ) (cs rest : List ℕ) → is_name_byte c ≡ false → Ends (sign n (c ∷ cs) ++ rest)
ends_sign zero c cs rest e = e
ends_sign (suc n) c cs rest e = refl

pub ends_blanks : (n : ℕ) → Ends (blanks n)
ends_blanks zero = tt
ends_blanks (suc n) = refl

not_digit : (b : ℕ) → is_name_byte b ≡ false → is_digit b ≡ false
not_digit b e = go (is_digit b) refl
  where
    go : (t : Bool) → is_digit b ≡ t → t ≡ false
    go true f = absurd (let k = digit_named b f in let z : true ≡ false = sym k ∙ e in cc)
    go false f = refl

ends_digits : (rest : List ℕ) → Ends rest → Stops is_digit rest
ends_digits [] e = tt
ends_digits (b ∷ bs) e = not_digit b e

-- ---- what it is to be read

abbrev pub Follows : Form → ℕ → List ℕ → Type 0
Follows free m rest = (m ≡ 0) ⊎ (after (codes ")") rest ≡ None)
Follows bracketed m rest = Unit {0}

abbrev pub ClosedIn : Form → Bool → Type 0
ClosedIn free c = Unit {0}
ClosedIn bracketed c = c ≡ true

closed_in : (f : Form) → ClosedIn f true
closed_in free = tt
closed_in bracketed = refl

-- brackets, and then a body that the chain's reader reads, whatever brackets stand before
pub record ReadsAs (chain : ℕ → ℕ → List ℕ → Option Chain) (f : Form) (d : ℕ) (bs : List ℕ) (v : Value) : Type 0 where
  pub prefix : List ℕ
  pub count : ℕ
  pub body : List ℕ
  pub whole : bs ≡ prefix ++ body
  pub opening : IsOpening count prefix
  pub shallow : count ≤ d
  pub starts : Starts is_start body
  pub reads : (m k limit : ℕ) (rest : List ℕ) → k ≡ count + m → limit ≡ d + m → Ends rest → Follows f m rest
      → (c : Bool) × ClosedIn f c × (chain limit k (body ++ rest) ≡ Some (record { value = v; left = m; closed = c; rest = rest }))

pub opened_complete : (d k : ℕ) (p bs : List ℕ) → IsOpening k p → k ≤ d → after (codes "(") bs ≡ None → opened d (p ++ bs) ≡ (k, bs)
opened_complete zero zero p bs o h e = ap (λ l. (0, l ++ bs)) o
opened_complete zero (suc k) p bs o h e = absurd (omega arith)
opened_complete (suc d) zero p bs o h e = ap (λ l. opened (suc d) (l ++ bs)) o ∙ ap (λ r. open_or r bs (opened d)) e
opened_complete (suc d) (suc k) p bs o h e =
    ap (λ l. opened (suc d) (l ++ bs)) o.2
    ∙ ap (opened (suc d)) (append_assoc (sign o.0 (codes "(")) o.1 bs)
    ∙ ap (λ r. open_or r (sign o.0 (codes "(") ++ (o.1 ++ bs)) (opened d)) (after_complete (codes "(") o.0 (o.1 ++ bs) refl)
    ∙ ap (λ (r : ℕ × List ℕ). (suc r.0, r.1)) (opened_complete d k o.1 bs o.3 (omega arith) e)

pub front_complete : (chain : ℕ → ℕ → List ℕ → Option Chain) (f : Form) (d : ℕ) (bs : List ℕ) (v : Value) → ReadsAs chain f d bs v → (rest : List ℕ) → Ends rest → front f chain d (bs ++ rest) ≡ Some (v, rest)
front_complete chain f d bs v r rest e =
    let o : opened d (bs ++ rest) ≡ (r.count, r.body ++ rest) =
    (ap (λ l. opened d (l ++ rest)) r.whole ∙ ap (opened d) (append_assoc r.prefix r.body rest)
    ∙ opened_complete d r.count r.prefix (r.body ++ rest) r.opening r.shallow (not_at_start is_start refl 40 [] refl r.body rest r.starts)) in
    let w = r.reads 0 r.count d rest (omega arith) (omega arith) e (follows f) in
    ap (λ (o : ℕ × List ℕ). ended f (chain d o.0 o.1)) o ∙ ap (ended f) w.2 ∙ done f w.0 w.1
  where
    follows : (f : Form) → Follows f 0 rest
    follows free = inl refl
    follows bracketed = tt

    done : (f : Form) (c : Bool) → ClosedIn f c → ended f (Some (record { value = v; left = 0; closed = c; rest = rest })) ≡ Some (v, rest)
    done free c k = refl
    done bracketed c k = rw k refl

-- ---- the readers of the types

module _ (sets : List SetFace) where
  pub reader-Int : reader sets ty.Int ≡ read_layer sets Ty-F.Int
  reader-Int = ap (reader sets) (sym ty.rolls-Int) ∙ reader_roll sets Ty-F.Int

  pub reader-Truth : reader sets ty.Truth ≡ read_layer sets Ty-F.Truth
  reader-Truth = ap (reader sets) (sym ty.rolls-Truth) ∙ reader_roll sets Ty-F.Truth

  pub reader-Text : reader sets ty.Text ≡ read_layer sets Ty-F.Text
  reader-Text = ap (reader sets) (sym ty.rolls-Text) ∙ reader_roll sets Ty-F.Text

  pub reader-Elem : (k : ℕ) → reader sets (ty.Elem k) ≡ read_layer sets (Ty-F.Elem k)
  reader-Elem k = ap (reader sets) (sym (ty.rolls-Elem k)) ∙ reader_roll sets (Ty-F.Elem k)

  pub reader-Pair : (a b : Ty) → reader sets (ty.Pair a b) ≡ read_layer sets (Ty-F.Pair (reader sets a) (reader sets b))
  reader-Pair a b = ap (reader sets) (sym (ty.rolls-Pair a b)) ∙ reader_roll sets (Ty-F.Pair a b)

  pub reader-Set : (a : Ty) → reader sets (ty.Set a) ≡ read_layer sets (Ty-F.Set (reader sets a))
  reader-Set a = ap (reader sets) (sym (ty.rolls-Set a)) ∙ reader_roll sets (Ty-F.Set a)

-- ---- what is no couple

module _ (f : Form) (d : ℕ) (bs : List ℕ) (v : Value) where
  alone : (read : ℕ → List ℕ → Found Value) → Starts is_start bs → ((rest : List ℕ) → Ends rest → read d (bs ++ rest) ≡ Some (v, rest)) → ReadsAs (base read) f d bs v
  alone read s h = record {
    prefix = [];
    count = 0;
    body = bs;
    whole = refl;
    opening = refl;
    shallow = omega arith;
    starts = s;
    reads = λ m k limit rest e g ends follows. (true, closed_in f, found m k limit rest e g (h rest ends));
  }
    where
      found : (m k limit : ℕ) (rest : List ℕ) → k ≡ 0 + m → limit ≡ d + m → read d (bs ++ rest) ≡ Some (v, rest) → base read limit k (bs ++ rest) ≡ Some (record { value = v; left = m; closed = true; rest = rest })
      found m k limit rest e g h =
          let deep : limit - k ≡ d = omega arith in
          let same : k ≡ m = omega arith in
          ap (λ n. chain_after (read n (bs ++ rest)) (λ v rest. Some (record { value = v; left = k; closed = true; rest = rest }))) deep
          ∙ ap (λ r. chain_after r (λ v rest. Some (record { value = v; left = k; closed = true; rest = rest }))) h
          ∙ ap (λ k. Some (record { value = v; left = k; closed = true; rest = rest })) same

as_reader : (r s : Reader) → r ≡ s → (f : Form) (d : ℕ) (bs : List ℕ) (v : Value) → ReadsAs s.chain f d bs v → ReadsAs r.chain f d bs v
as_reader r s e f d bs v h = subst (λ (z : Reader). ReadsAs z.chain f d bs v) (sym e) h

truth_complete : (d n : ℕ) (b : Bool) (rest : List ℕ) → read_truth (sign n (cond b (codes "TRUE") (codes "FALSE")) ++ rest) ≡ Some (value.Truth b, rest)
truth_complete d n true rest = ap (λ o. truth_or o (sign n (codes "TRUE") ++ rest)) (after_complete (codes "TRUE") n rest refl)
truth_complete d n false rest =
    ap (λ o. truth_or o (sign n (codes "FALSE") ++ rest)) (after_is (codes "TRUE") n (codes "FALSE") rest None refl)
    ∙ ap falsehood (after_complete (codes "FALSE") n rest refl)

truth_starts : (n : ℕ) (b : Bool) → Starts is_start (sign n (cond b (codes "TRUE") (codes "FALSE")))
truth_starts n true = record { blank = n; first = 84; others = codes "RUE"; whole = refl; passes = refl }
truth_starts n false = record { blank = n; first = 70; others = codes "ALSE"; whole = refl; passes = refl }

first_true : (x y : Bool) → (x && y) ≡ true → x ≡ true
first_true true y e = refl
first_true false y e = absurd (cc)

digits_start : (n : ℕ) (digits : List ℕ) → IsNumeral 10 digits → Starts is_name_byte (sign n digits)
digits_start n [] i = absurd (let l = i.0 in omega arith)
digits_start n (b ∷ bs) i = record { blank = n; first = b; others = bs; whole = refl; passes = digit_named b (first_true (is_digit b) (list_all is_digit bs) (all_digits (b ∷ bs) i.1)) }

started : (bs : List ℕ) → Starts is_name_byte bs → Starts is_start bs
started bs s = record { blank = s.blank; first = s.first; others = s.others; whole = s.whole; passes = start_named s.first s.passes }

-- the blanks before a run of name bytes are skipped
skip_named : (n b : ℕ) (bs rest : List ℕ) → is_name_byte b ≡ true → skip (sign n (b ∷ bs) ++ rest) ≡ b ∷ (bs ++ rest)
skip_named n b bs rest e = sign_skip n (b ∷ bs) rest ∙ start_skip is_name_byte refl b (bs ++ rest) e

second_true : (x y : Bool) → (x && y) ≡ true → y ≡ true
second_true true y e = e
second_true false y e = absurd (cc)

skip_digits : (n : ℕ) (digits rest : List ℕ) → IsNumeral 10 digits → skip (sign n digits ++ rest) ≡ digits ++ rest
skip_digits n [] rest i = absurd (let l = i.0 in omega arith)
skip_digits n (b ∷ bs) rest i = skip_named n b bs rest (digit_named b (first_true (is_digit b) (list_all is_digit bs) (all_digits (b ∷ bs) i.1)))

number_complete : (n : ℕ) (digits rest : List ℕ) → IsNumeral 10 digits → digits_value 10 digits < 2 ^ 127 → Ends rest → read_number (sign n digits ++ rest) ≡ Some (value.Int (pos (digits_value 10 digits)), rest)
number_complete n digits rest i h e =
    ap (λ o. number_or o (sign n digits ++ rest)) (not_at_start is_name_byte refl 45 [] refl (sign n digits) rest (digits_start n digits i))
    ∙ ap (λ l. with_found (magnitude (2 ^ 127 - 1) l) (λ n rest. Some (value.Int (pos n), rest))) (skip_digits n digits rest i)
    ∙ ap (λ o. with_found o (λ n rest. Some (value.Int (pos n), rest))) (magnitude_complete (2 ^ 127 - 1) digits rest i (omega arith) (ends_digits rest e))

negative_complete : (n k : ℕ) (digits rest : List ℕ) → IsNumeral 10 digits → digits_value 10 digits ≤ 2 ^ 127 → Ends rest
    → read_number ((sign n (codes "-") ++ sign k digits) ++ rest) ≡ Some (value.Int (neg_ℤ (pos (digits_value 10 digits))), rest)
negative_complete n k digits rest i h e =
    ap read_number (append_assoc (sign n (codes "-")) (sign k digits) rest)
    ∙ ap (λ o. number_or o (sign n (codes "-") ++ (sign k digits ++ rest))) (after_complete (codes "-") n (sign k digits ++ rest) refl)
    ∙ ap (λ l. with_found (magnitude (2 ^ 127) l) (λ n rest. Some (value.Int (neg_ℤ (pos n)), rest))) (skip_digits k digits rest i)
    ∙ ap (λ o. with_found o (λ n rest. Some (value.Int (neg_ℤ (pos n)), rest))) (magnitude_complete (2 ^ 127) digits rest i h (ends_digits rest e))

lt_true : (a b : ℕ) → a < b → nat_lt a b ≡ true
lt_true a b h = grind (arith, nat_tests)

is_text_true : (bytes : List ℕ) → IsText bytes → is_text bytes ≡ true
is_text_true bytes i = rw (is_utf8-from_IsUtf8 bytes i.utf8) (lt_true (length bytes) (2 ^ 32) i.short)

text_complete : (n : ℕ) (spelling bytes rest : List ℕ) → Spells spelling bytes → IsText bytes → read_string (sign n (34 ∷ (spelling ++ 34 ∷ [])) ++ rest) ≡ Some (value.Text bytes, rest)
text_complete n spelling bytes rest s i =
    ap read_string (quoted n spelling rest)
    ∙ ap (λ o. with_rest o (λ bs. with_found (string_from false bs) text_found)) (after_complete (codes "\"") n (spelling ++ 34 ∷ rest) refl)
    ∙ ap (λ o. with_found o text_found) (string_complete rest s)
    ∙ ap (λ b. cond b (Some (value.Text bytes, rest)) None) (is_text_true bytes i)
  where
    quoted : (n : ℕ) (t rest : List ℕ) → sign n (34 ∷ (t ++ 34 ∷ [])) ++ rest ≡ sign n (codes "\"") ++ (t ++ 34 ∷ rest)
    quoted n t rest = simp append_assoc

letter_named : (b : ℕ) → is_letter b ≡ true → is_name_byte b ≡ true
letter_named b e = rw e refl

name_bytes : (name : List ℕ) → IsTrue (is_name name) → list_all is_name_byte name ≡ true
name_bytes [] i = absurd (cc)
name_bytes (b ∷ bs) i = rw (letter_named b (first_true (is_letter b) (list_all is_name_byte bs) i)) (second_true (is_letter b) (list_all is_name_byte bs) i)

name_start : (n : ℕ) (name : List ℕ) → IsTrue (is_name name) → Starts is_name_byte (sign n name)
name_start n [] i = absurd (cc)
name_start n (b ∷ bs) i = record { blank = n; first = b; others = bs; whole = refl; passes = letter_named b (first_true (is_letter b) (list_all is_name_byte bs) i) }

skip_name : (n : ℕ) (name rest : List ℕ) → IsTrue (is_name name) → skip (sign n name ++ rest) ≡ name ++ rest
skip_name n [] rest i = absurd (cc)
skip_name n (b ∷ bs) rest i = skip_named n b bs rest (letter_named b (first_true (is_letter b) (list_all is_name_byte bs) i))

element_complete : (sets : List SetFace) (n k i : ℕ) (name rest : List ℕ) → IsTrue (is_name name) → position (bytes_eq name) (names_of sets k) ≡ Some i → i < 2 ^ 32 → Ends rest
    → read_element sets k (sign n name ++ rest) ≡ Some (value.Elem k i, rest)
element_complete sets n k i name rest is e small ends =
    ap (λ l. named sets k (run is_name_byte l) (past is_name_byte l)) (skip_name n name rest is)
    ∙ ap (λ l. named sets k l (past is_name_byte (name ++ rest))) (run_all is_name_byte name rest (name_bytes name is) ends)
    ∙ ap (named sets k name) (past_all is_name_byte name rest (name_bytes name is) ends)
    ∙ ap (λ b. element_at k rest (cond b (position (bytes_eq name) (names_of sets k)) None)) is
    ∙ ap (element_at k rest) e
    ∙ ap (λ b. cond b (Some (value.Elem k i, rest)) None) (lt_true i (2 ^ 32) small)

-- ---- couples

same_closed : (first second' : ℕ → ℕ → List ℕ → Option Chain) (limit k : ℕ) (bs : List ℕ) (c : Chain) (r : Option Chain) → first limit k bs ≡ Some c → second second' limit c ≡ r → read_couple first second' limit k bs ≡ r
same_closed first second' limit k bs c r e f = ap (λ o. with_chain o (second second' limit)) e ∙ f

module _ (first second' : ℕ → ℕ → List ℕ → Option Chain) (d : ℕ) (left right : List ℕ) (x y : Value) (l : ReadsAs first free d left x) where
  -- the second part after an arrow
  after_arrow : ReadsAs second' bracketed d right y → (n limit m : ℕ) (c : Bool) (rest : List ℕ) → limit - m ≡ d → Ends rest
      → second second' limit (record { value = x; left = m; closed = c; rest = sign n (codes "|->") ++ (right ++ rest) }) ≡ Some (closes_one (after (codes ")") rest) m (value.Pair x y) rest)
  after_arrow r n limit m c rest e ends =
      let chain : Chain = record { value = x; left = m; closed = c; rest = sign n (codes "|->") ++ (right ++ rest) } in
      ap (by_arrow (front bracketed second') (front free second') limit chain) (after_complete (codes "|->") n (right ++ rest) refl)
      ∙ ap (λ z. chain_after (front bracketed second' z (right ++ rest)) (arrow_end chain)) e
      ∙ ap (λ o. chain_after o (arrow_end chain)) (front_complete second' bracketed d right y r rest ends)

  plain_couple : ReadsAs second' bracketed d right y → (n : ℕ) → ReadsAs (read_couple first second') free d (left ++ (sign n (codes "|->") ++ right)) (value.Pair x y)
  plain_couple r n = record {
    prefix = l.prefix;
    count = l.count;
    body = l.body ++ (sign n (codes "|->") ++ right);
    whole = ap (λ z. z ++ (sign n (codes "|->") ++ right)) l.whole ∙ append_assoc l.prefix l.body (sign n (codes "|->") ++ right);
    opening = l.opening;
    shallow = l.shallow;
    starts = record { blank = l.starts.blank; first = l.starts.first; others = l.starts.others ++ (sign n (codes "|->") ++ right); whole = ap (λ z. z ++ (sign n (codes "|->") ++ right)) l.starts.whole ∙ append_assoc (blanks l.starts.blank) (l.starts.first ∷ l.starts.others) (sign n (codes "|->") ++ right); passes = l.starts.passes };
    reads = λ m k limit rest e g ends follows.
        (let f = l.reads m k limit (sign n (codes "|->") ++ (right ++ rest)) e g (ends_sign n 124 (codes "->") (right ++ rest) refl) (inr (after_is (codes ")") n (codes "|->") (right ++ rest) None refl)) in
        let deep : limit - m ≡ d = omega arith in (
          false,
          tt,
          ap (read_couple first second' limit k) (regroup l.body (sign n (codes "|->")) right rest)
              ∙ same_closed first second' limit k (l.body ++ (sign n (codes "|->") ++ (right ++ rest))) _ _ f.2 (after_arrow r n limit m f.0 rest deep ends)
              ∙ ap Some (kept (after (codes ")") rest) refl m rest follows),
        ));
  }
    where
      regroup : (b s r t : List ℕ) → (b ++ (s ++ r)) ++ t ≡ b ++ (s ++ (r ++ t))
      regroup b s r t = simp append_assoc

      kept : (o : Option (List ℕ)) {p : Option (List ℕ)} → p ≡ o → (m : ℕ) (rest : List ℕ) → (m ≡ 0) ⊎ (p ≡ None) → closes_one o m (value.Pair x y) rest ≡ record { value = value.Pair x y; left = m; closed = false; rest = rest }
      kept None f m rest h = refl
      kept (Some next) f zero rest h = refl
      kept (Some next) f (suc m) rest (inl e) = absurd (omega arith)
      kept (Some next) f (suc m) rest (inr e) = absurd (cc)

  regroup_closed : (b s r t u : List ℕ) → (b ++ (s ++ (r ++ t))) ++ u ≡ b ++ (s ++ (r ++ (t ++ u)))
  regroup_closed b s r t u = simp append_assoc

  -- a couple in brackets, whatever stands between its parts
  closed_couple : (f : Form) (n k j c : ℕ) (cs : List ℕ) → is_name_byte c ≡ false
      → ((rest : List ℕ) → after (codes ")") (sign k (c ∷ cs) ++ rest) ≡ None)
      → ((limit m : ℕ) (b : Bool) (rest : List ℕ) → limit - suc m ≡ d →
      second second' limit (record { value = x; left = suc m; closed = b; rest = sign k (c ∷ cs) ++ (right ++ (sign j (codes ")") ++ rest)) }) ≡ Some (record { value = value.Pair x y; left = m; closed = true; rest = rest }))
      → ReadsAs (read_couple first second') f (suc d) (sign n (codes "(") ++ (left ++ (sign k (c ∷ cs) ++ (right ++ sign j (codes ")"))))) (value.Pair x y)
  closed_couple f n k j c cs sharp other step = record {
    prefix = sign n (codes "(") ++ l.prefix;
    count = suc l.count;
    body = l.body ++ (sign k (c ∷ cs) ++ (right ++ sign j (codes ")")));
    whole = ap (λ z. sign n (codes "(") ++ (z ++ (sign k (c ∷ cs) ++ (right ++ sign j (codes ")"))))) l.whole ∙ grouped (sign n (codes "(")) l.prefix l.body (sign k (c ∷ cs) ++ (right ++ sign j (codes ")")));
    opening = (n, l.prefix, refl, l.opening);
    shallow = (let h = l.shallow in omega arith);
    starts = record { blank = l.starts.blank; first = l.starts.first; others = l.starts.others ++ (sign k (c ∷ cs) ++ (right ++ sign j (codes ")"))); whole = ap (λ z. z ++ (sign k (c ∷ cs) ++ (right ++ sign j (codes ")")))) l.starts.whole ∙ append_assoc (blanks l.starts.blank) (l.starts.first ∷ l.starts.others) (sign k (c ∷ cs) ++ (right ++ sign j (codes ")"))); passes = l.starts.passes };
    reads = λ m i limit rest e g ends follows.
        (let h = l.reads (suc m) i limit (sign k (c ∷ cs) ++ (right ++ (sign j (codes ")") ++ rest))) (omega arith) (omega arith) (ends_sign k c cs (right ++ (sign j (codes ")") ++ rest)) sharp) (inr (other (right ++ (sign j (codes ")") ++ rest)))) in
        let deep : limit - suc m ≡ d = omega arith in (
          true,
          closed_in f,
          ap (read_couple first second' limit i) (regroup_closed l.body (sign k (c ∷ cs)) right (sign j (codes ")")) rest)
              ∙ same_closed first second' limit i (l.body ++ (sign k (c ∷ cs) ++ (right ++ (sign j (codes ")") ++ rest)))) _ _ h.2 (step limit m h.0 rest deep),
        ));
  }
    where
      grouped : (o p b t : List ℕ) → o ++ ((p ++ b) ++ t) ≡ (o ++ p) ++ (b ++ t)
      grouped o p b t = simp append_assoc

  arrow_couple : ReadsAs second' bracketed d right y → (f : Form) (n k j : ℕ) → ReadsAs (read_couple first second') f (suc d) (sign n (codes "(") ++ (left ++ (sign k (codes "|->") ++ (right ++ sign j (codes ")"))))) (value.Pair x y)
  arrow_couple r f n k j = closed_couple f n k j 124 (codes "->") refl (λ rest. after_is (codes ")") k (codes "|->") rest None refl) (λ limit m b rest deep.
      after_arrow r k limit (suc m) b (sign j (codes ")") ++ rest) deep (ends_sign j 41 [] rest refl)
      ∙ ap (λ o. Some (closes_one o (suc m) (value.Pair x y) (sign j (codes ")") ++ rest))) (after_complete (codes ")") j rest refl))

  comma_couple' : ReadsAs second' free d right y → (f : Form) (n k j : ℕ) → ReadsAs (read_couple first second') f (suc d) (sign n (codes "(") ++ (left ++ (sign k (codes ",") ++ (right ++ sign j (codes ")"))))) (value.Pair x y)
  comma_couple' r f n k j = closed_couple f n k j 44 [] refl (λ rest. after_is (codes ")") k (codes ",") rest None refl) (λ limit m b rest deep.
      let chain : Chain = record { value = x; left = suc m; closed = b; rest = sign k (codes ",") ++ (right ++ (sign j (codes ")") ++ rest)) } in
      ap (by_arrow (front bracketed second') (front free second') limit chain) (after_is (codes "|->") k (codes ",") (right ++ (sign j (codes ")") ++ rest)) None refl)
      ∙ ap (by_comma (front free second') limit chain (suc m)) (after_complete (codes ",") k (right ++ (sign j (codes ")") ++ rest)) refl)
      ∙ ap (λ z. chain_after (front free second' z (right ++ (sign j (codes ")") ++ rest))) (comma_end chain m)) deep
      ∙ ap (λ o. chain_after o (comma_end chain m)) (front_complete second' free d right y r (sign j (codes ")") ++ rest) (ends_sign j 41 [] rest refl))
      ∙ ap (λ o. chain_rest o (λ rest. Some (record { value = value.Pair x y; left = m; closed = true; rest = rest }))) (after_complete (codes ")") j rest refl))

-- ---- lists

starts_more : (p : ℕ → Bool) (bs rest : List ℕ) → Starts p bs → Starts p (bs ++ rest)
starts_more p bs rest s = record {
  blank = s.blank;
  first = s.first;
  others = s.others ++ rest;
  whole = ap (λ l. l ++ rest) s.whole ∙ append_assoc (blanks s.blank) (s.first ∷ s.others) rest;
  passes = s.passes;
}

-- what a reader reads begins as a value does
reads_begin : (chain : ℕ → ℕ → List ℕ → Option Chain) (f : Form) (d : ℕ) (bs : List ℕ) (v : Value) → ReadsAs chain f d bs v → Starts begins bs
reads_begin chain f d bs v r = go r.count r.prefix r.opening r.whole
  where
    go : (k : ℕ) (p : List ℕ) → IsOpening k p → bs ≡ p ++ r.body → Starts begins bs
    go zero p o e = record { blank = r.starts.blank; first = r.starts.first; others = r.starts.others; whole = e ∙ ap (λ l. l ++ r.body) o ∙ r.starts.whole; passes = start_begins r.starts.first r.starts.passes }
    go (suc k) p o e = record { blank = o.0; first = 40; others = o.1 ++ r.body; whole = e ∙ ap (λ l. l ++ r.body) o.2 ∙ append_assoc (sign o.0 (codes "(")) o.1 r.body ∙ append_assoc (blanks o.0) (40 ∷ []) (o.1 ++ r.body); passes = refl }

-- a list is read, piece by piece, up to what is no comma
pub record RowReads (chain : ℕ → ℕ → List ℕ → Option Chain) (d : ℕ) (inner : List ℕ) (xs : List Value) : Type 0 where
  pub empty : xs ≡ [] → inner ≡ []
  pub starts : xs ≢ [] → Starts begins inner
  pub short : length xs ≤ suc (length inner)
  pub reads : xs ≢ [] → (n : ℕ) (rest : List ℕ) → length xs ≤ n → Ends rest → after (codes ",") rest ≡ None → pieces (front free chain d) n (inner ++ rest) ≡ Some (xs, rest)

module _ (chain : ℕ → ℕ → List ℕ → Option Chain) (d : ℕ) where
  no_row : RowReads chain d [] []
  no_row = record { empty = λ e. refl; starts = λ n. absurd (n refl); short = omega arith; reads = λ n. absurd (n refl) }

  last_row : (p : List ℕ) (x : Value) → ReadsAs chain free d p x → RowReads chain d p (x ∷ [])
  last_row p x r = record {
    empty = λ e. absurd (cc);
    starts = λ n. reads_begin chain free d p x r;
    short = omega arith;
    reads = λ m n rest h ends other. go n rest h ends other;
  }
    where
      go : (n : ℕ) (rest : List ℕ) → length (x ∷ []) ≤ n → Ends rest → after (codes ",") rest ≡ None → pieces (front free chain d) n (p ++ rest) ≡ Some (x ∷ [], rest)
      go zero rest h ends other = absurd (omega arith)
      go (suc n) rest h ends other =
          ap (λ o. with_found o (λ v rest. goes_on (pieces (front free chain d) n) v rest (after (codes ",") rest))) (front_complete chain free d p x r rest ends)
          ∙ ap (goes_on (pieces (front free chain d) n) x rest) other

  more_row : (p q : List ℕ) (x y : Value) (ys : List Value) (k : ℕ) → ReadsAs chain free d p x → RowReads chain d q (y ∷ ys) → RowReads chain d (p ++ (sign k (codes ",") ++ q)) (x ∷ y ∷ ys)
  more_row p q x y ys k r row = record {
    empty = λ e. absurd (cc);
    starts = λ n. starts_more begins p (sign k (codes ",") ++ q) (reads_begin chain free d p x r);
    short = (let h = row.short in omega (arith, length-append p (sign k (codes ",") ++ q), length-append (sign k (codes ",")) q, length-append (blanks k) (codes ",")));
    reads = λ m n rest h ends other. go n rest h ends other;
  }
    where
      regroup : (a b c e : List ℕ) → (a ++ (b ++ c)) ++ e ≡ a ++ (b ++ (c ++ e))
      regroup a b c e = simp append_assoc

      go : (n : ℕ) (rest : List ℕ) → length (x ∷ y ∷ ys) ≤ n → Ends rest → after (codes ",") rest ≡ None → pieces (front free chain d) n ((p ++ (sign k (codes ",") ++ q)) ++ rest) ≡ Some (x ∷ y ∷ ys, rest)
      go zero rest h ends other = absurd (omega arith)
      go (suc n) rest h ends other =
          ap (pieces (front free chain d) (suc n)) (regroup p (sign k (codes ",")) q rest)
          ∙ ap (λ o. with_found o (λ v rest. goes_on (pieces (front free chain d) n) v rest (after (codes ",") rest))) (front_complete chain free d p x r (sign k (codes ",") ++ (q ++ rest)) (ends_sign k 44 [] (q ++ rest) refl))
          ∙ ap (goes_on (pieces (front free chain d) n) x (sign k (codes ",") ++ (q ++ rest))) (after_complete (codes ",") k (q ++ rest) refl)
          ∙ ap (and_first x) (row.reads (λ e. cc) n rest (omega arith) ends other)

  -- up to a closing bracket
  pub list_complete : (inner : List ℕ) (xs : List Value) → RowReads chain d inner xs → (c : ℕ) → begins c ≡ false → is_name_byte c ≡ false → ((rest : List ℕ) → skip (c ∷ rest) ≡ c ∷ rest) → (44 == c) ≡ false
      → (m : ℕ) (rest : List ℕ) → list_up_to (c ∷ []) (front free chain d) (inner ++ (sign m (c ∷ []) ++ rest)) ≡ Some (xs, rest)
  list_complete inner [] row c b e skips o m rest =
      ap (λ l. list_up_to (c ∷ []) (front free chain d) (l ++ (sign m (c ∷ []) ++ rest))) (row.empty refl)
      ∙ ap (λ r. list_or r (front free chain d) (c ∷ []) (sign m (c ∷ []) ++ rest)) (after_complete (c ∷ []) m rest (skips rest))
  list_complete inner (x ∷ xs) row c b e skips o m rest =
      ap (λ r. list_or r (front free chain d) (c ∷ []) (inner ++ (sign m (c ∷ []) ++ rest))) (not_at_start begins refl c [] b inner (sign m (c ∷ []) ++ rest) (row.starts (λ e. cc)))
      ∙ ap (λ r. with_found r (closing (c ∷ [])))
      (row.reads (λ e. cc) (suc (length (inner ++ (sign m (c ∷ []) ++ rest)))) (sign m (c ∷ []) ++ rest)
      (let h = row.short in omega (arith, length-append inner (sign m (c ∷ []) ++ rest)))
      (ends_sign m c [] rest e)
      (after_is (codes ",") m (c ∷ []) rest None (ap (strip (codes ",")) (skips rest) ∙ ap (λ t. cond t (Some rest) None) o)))
      ∙ ap (λ r. with_rest r (λ rest. Some (x ∷ xs, rest))) (after_complete (c ∷ []) m rest (skips rest))

-- ---- sets and sequences

module _ (element' : Reader) (d : ℕ) where
  set_reads : (f : Form) (n m : ℕ) (inner : List ℕ) (xs : List Value) → RowReads element'.chain d inner xs → ReadsAs (base (read_set element')) f (suc d) (sign n (codes "{") ++ (inner ++ sign m (codes "}"))) (value.Set (set_of value_cmp xs))
  set_reads f n m inner xs row = alone f (suc d) _ _ (read_set element') (record { blank = n; first = 123; others = inner ++ sign m (codes "}"); whole = append_assoc (blanks n) (codes "{") (inner ++ sign m (codes "}")); passes = refl }) (λ rest ends.
      ap (read_set element' (suc d)) (regroup (sign n (codes "{")) inner (sign m (codes "}")) rest)
      ∙ ap (set_or element' (suc d) (sign n (codes "{") ++ (inner ++ (sign m (codes "}") ++ rest)))) (after_complete (codes "{") n (inner ++ (sign m (codes "}") ++ rest)) refl)
      ∙ ap (λ o. with_found o as_set) (list_complete element'.chain d inner xs row 125 refl refl (λ r. refl) refl m rest))
    where
      regroup : (a b c e : List ℕ) → (a ++ (b ++ c)) ++ e ≡ a ++ (b ++ (c ++ e))
      regroup a b c e = simp append_assoc

  items_at : (item : ℕ → List ℕ → Found Value) (k n : ℕ) (rest : List ℕ) → element'.item ≡ Some item → (s : List ℕ) → after (codes "{") (sign n s ++ rest) ≡ None → (r : Option (List ℕ)) → after (codes "[") (sign n s ++ rest) ≡ r
      → read_set element' k (sign n s ++ rest) ≡ sequence_or item k (sign n s ++ rest) r
  items_at item k n rest e s f r g =
      ap (set_or element' k (sign n s ++ rest)) f
      ∙ ap (λ o. items_or o k (sign n s ++ rest)) e
      ∙ ap (sequence_or item k (sign n s ++ rest)) g

  sequence_reads : (chain : ℕ → ℕ → List ℕ → Option Chain) → element'.item ≡ Some (front free chain) → (f : Form) (n m : ℕ) (inner : List ℕ) (xs : List Value) → RowReads chain d inner xs
      → ReadsAs (base (read_set element')) f (suc d) (sign n (codes "[") ++ (inner ++ sign m (codes "]"))) (value.Set (numbered 1 xs))
  sequence_reads chain e f n m inner xs row = alone f (suc d) _ _ (read_set element') (record { blank = n; first = 91; others = inner ++ sign m (codes "]"); whole = append_assoc (blanks n) (codes "[") (inner ++ sign m (codes "]")); passes = refl }) (λ rest ends.
      ap (read_set element' (suc d)) (regroup (sign n (codes "[")) inner (sign m (codes "]")) rest)
      ∙ items_at (front free chain) (suc d) n (inner ++ (sign m (codes "]") ++ rest)) e (codes "[") (after_is (codes "{") n (codes "[") (inner ++ (sign m (codes "]") ++ rest)) None refl) _ (after_complete (codes "[") n (inner ++ (sign m (codes "]") ++ rest)) refl)
      ∙ ap (λ o. with_found o as_sequence) (list_complete chain d inner xs row 93 refl refl (λ r. refl) refl m rest))
    where
      regroup : (a b c e : List ℕ) → (a ++ (b ++ c)) ++ e ≡ a ++ (b ++ (c ++ e))
      regroup a b c e = simp append_assoc

  nothing_reads : (item : ℕ → List ℕ → Found Value) → element'.item ≡ Some item → (f : Form) (n : ℕ) → ReadsAs (base (read_set element')) f d (sign n (codes "<>")) (value.Set [])
  nothing_reads item e f n = alone f d _ _ (read_set element') (record { blank = n; first = 60; others = codes ">"; whole = refl; passes = refl }) (λ rest ends.
      items_at item d n rest e (codes "<>") (after_is (codes "{") n (codes "<>") rest None refl) None (after_is (codes "[") n (codes "<>") rest None refl)
      ∙ ap no_items (after_complete (codes "<>") n rest refl))

-- ---- every text

module _ (sets : List SetFace) where
  pub item_of : (a : Ty) → (reader sets (ty.Pair ty.Int a)).item ≡ Some (front free (reader sets a).chain)
  item_of a = ap (λ (r : Reader). r.item) (reader-Pair sets ty.Int a) ∙ ap (λ (r : Reader). cond r.is_number (Some (front free (reader sets a).chain)) None) (reader-Int sets)

  mutual
    pub piece_complete : {f : Form} {t : Ty} {d : ℕ} {bs : List ℕ} {v : Value} → IsPiece sets f t d bs v → ReadsAs (reader sets t).chain f d bs v
    piece_complete (truth {f} {d} n b) = as_reader _ _ (reader-Truth sets) f d _ _ (alone f d _ _ (λ d. read_truth) (truth_starts n b) (λ rest ends. truth_complete d n b rest))
    piece_complete (number {f} {d} n digits i h) = as_reader _ _ (reader-Int sets) f d _ _ (alone f d _ _ (λ d. read_number) (started _ (digits_start n digits i)) (λ rest ends. number_complete n digits rest i h ends))
    piece_complete (negative {f} {d} n k digits i h) =
        as_reader _ _ (reader-Int sets) f d _ _
        (alone f d _ _ (λ d. read_number) (record { blank = n; first = 45; others = sign k digits; whole = append_assoc (blanks n) (codes "-") (sign k digits); passes = refl }) (λ rest ends. negative_complete n k digits rest i h ends))
    piece_complete (text {f} {d} n spelling bytes s i) =
        as_reader _ _ (reader-Text sets) f d _ _ (alone f d _ _ (λ d. read_string) (record { blank = n; first = 34; others = spelling ++ 34 ∷ []; whole = refl; passes = refl }) (λ rest ends. text_complete n spelling bytes rest s i))
    piece_complete (element {f} {d} n k index name is e small) =
        as_reader _ _ (reader-Elem sets k) f d _ _ (alone f d _ _ (λ d. read_element sets k) (started _ (name_start n name is)) (λ rest ends. element_complete sets n k index name rest is e small ends))
    piece_complete (couple {d} {a} {b} {left} {right} {x} {y} n l r) =
        as_reader _ _ (reader-Pair sets a b) free d _ _ (plain_couple (reader sets a).chain (reader sets b).chain d left right x y (piece_complete l) (piece_complete r) n)
    piece_complete (bracketed_couple {f} {d} {a} {b} {left} {right} {x} {y} n k m l r) =
        as_reader _ _ (reader-Pair sets a b) f (suc d) _ _ (arrow_couple (reader sets a).chain (reader sets b).chain d left right x y (piece_complete l) (piece_complete r) f n k m)
    piece_complete (comma_couple {f} {d} {a} {b} {left} {right} {x} {y} n k m l r) =
        as_reader _ _ (reader-Pair sets a b) f (suc d) _ _ (comma_couple' (reader sets a).chain (reader sets b).chain d left right x y (piece_complete l) (piece_complete r) f n k m)
    piece_complete (set {f} {d} {a} {inner} {xs} n m l) = as_reader _ _ (reader-Set sets a) f (suc d) _ _ (set_reads (reader sets a) d f n m inner xs (list_reads l))
    piece_complete (sequence {f} {d} {a} {inner} {xs} n m l) =
        as_reader _ _ (reader-Set sets (ty.Pair ty.Int a)) f (suc d) _ _ (sequence_reads (reader sets (ty.Pair ty.Int a)) d (reader sets a).chain (item_of a) f n m inner xs (list_reads l))
    piece_complete (nothing {f} {d} a n) = as_reader _ _ (reader-Set sets (ty.Pair ty.Int a)) f d _ _ (nothing_reads (reader sets (ty.Pair ty.Int a)) d (front free (reader sets a).chain) (item_of a) f n)

    pub list_reads : {a : Ty} {d : ℕ} {inner : List ℕ} {xs : List Value} → IsList sets a d inner xs → RowReads (reader sets a).chain d inner xs
    list_reads (none {a} {d}) = no_row (reader sets a).chain d
    list_reads (last {a} {d} {front = q} {x} p) = last_row (reader sets a).chain d q x (piece_complete p)
    list_reads (more {a} {d} {front = q} {back} {x} {y} {ys} n p l) = more_row (reader sets a).chain d q back x y ys n (piece_complete p) (list_reads l)
