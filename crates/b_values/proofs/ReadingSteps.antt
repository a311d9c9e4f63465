-- The steps of the loops that read blanks, names, digits, strings, brackets and lists.
use Rattle.std.proofs.Common.{◌≡◌, ◌≢◌, ◌==◌, ◌≤◌, ◌<◌, ◌+◌, ◌-◌, ◌*◌, ◌^◌, ◌&&◌, ℕ, zero, suc, Bool, true, false, List, [], ◌∷◌, ◌++◌, Option, Some, None, cond, length, drop, take, get_or, arith, refl, sym, ap, ◌∙◌, subst, append_assoc, append-nil, drop-cons, add-one, length-drop, length-append, nat_le, nat_lt, eq-eqb, eqb-true}
use Rattle.std.specs.Prelude.{codes}
use Rattle.std.specs.Char.{digit_value}
use Rattle.std.specs.Str.Parse.{digits_value, digits_value_after}
use Rattle.std.proofs.lemmas.List.{drop_all}
use Rattle.std.proofs.lemmas.Bool.Decides.{nat_tests}
use Rattle.std.specs.Str.{is_utf8, IsUtf8}
use Rattle.std.proofs.lemmas.Str.{is_utf8-from_IsUtf8, IsUtf8-from_is_utf8}
use Rattle.std.specs.Prelude.{bytes_eq, position}
use Rattle.std.specs.List.{slice_range}
use Rattle.b_values.specs.declared.types.SetFace.{SetFace}
use Rattle.b_values.specs.declared.values.Value.{Value}
use Rattle.b_values.specs.declared.values.Value.TheVariants as value
use Rattle.b_values.specs.Texts.{names_of}
use Rattle.b_values.specs.declared.reading.StringStep.{StringStep}
use Rattle.b_values.specs.declared.reading.StringStep.TheVariants.{Closes, Breaks, BeginsEscape, Gives}
use Rattle.b_values.specs.Reading.{sign, blanks, is_digit, is_name, is_name_byte, escape_of}
use Rattle.b_values.specs.ReadingDescent.{Found, with_found, skip, strip, after, run, past, digits_or, magnitude, step_of, by_step, is_escaping, string_from, open_or, opened, and_first, goes_on, pieces, element_at, named, read_element, is_text}
use Rattle.b_values.specs.ReadingAnswers.{IsPlace, Strips}
use Rattle.b_values.proofs.ReadingBytes.{after_sound}

-- ---- blanks and runs

at_drop : (text : List ℕ) (to : ℕ) → to < length text → drop to text ≡ get_or text to 0 ∷ drop (to + 1) text
at_drop text to h = rw add-one (drop-cons text to 0 h)

pub skip_step : (text : List ℕ) (to : ℕ) → to < length text → get_or text to 0 ≡ 32 → skip (drop (to + 1) text) ≡ skip (drop to text)
skip_step text to h e = sym (ap skip (at_drop text to h) ∙ ap (λ b. cond (b == 32) (skip (drop (to + 1) text)) (b ∷ drop (to + 1) text)) e)

ne_false : (a b : ℕ) → a ≢ b → (a == b) ≡ false
ne_false a b n = grind (arith, nat_tests)

pub skip_stop : (text : List ℕ) (to : ℕ) → to < length text → get_or text to 0 ≢ 32 → skip (drop to text) ≡ drop to text
skip_stop text to h n =
    ap skip (at_drop text to h)
    ∙ ap (λ t. cond t (skip (drop (to + 1) text)) (get_or text to 0 ∷ drop (to + 1) text)) (ne_false (get_or text to 0) 32 n)
    ∙ sym (at_drop text to h)

pub past_step : (p : ℕ → Bool) (text : List ℕ) (to : ℕ) → to < length text → p (get_or text to 0) ≡ true → past p (drop (to + 1) text) ≡ past p (drop to text)
past_step p text to h e = sym (ap (past p) (at_drop text to h) ∙ ap (λ t. cond t (past p (drop (to + 1) text)) (get_or text to 0 ∷ drop (to + 1) text)) e)

pub past_stop : (p : ℕ → Bool) (text : List ℕ) (to : ℕ) → to < length text → p (get_or text to 0) ≡ false → past p (drop to text) ≡ drop to text
past_stop p text to h e =
    ap (past p) (at_drop text to h)
    ∙ ap (λ t. cond t (past p (drop (to + 1) text)) (get_or text to 0 ∷ drop (to + 1) text)) e
    ∙ sym (at_drop text to h)

-- the run before what is past it
pub run_is : (p : ℕ → Bool) (bs : List ℕ) → run p bs ≡ take (length bs - length (past p bs)) bs
run_is p [] = refl
run_is p (b ∷ bs) = go (p b) (run_is p bs) (past_short p bs)
  where
    past_short : (p : ℕ → Bool) (bs : List ℕ) → length (past p bs) ≤ length bs
    past_short p [] = omega arith
    past_short p (b ∷ bs) = go (p b) (past_short p bs)
      where
        go : (t : Bool) → length (past p bs) ≤ length bs → length (cond t (past p bs) (b ∷ bs)) ≤ suc (length bs)
        go true h = omega arith
        go false h = omega arith

    go : (t : Bool) → run p bs ≡ take (length bs - length (past p bs)) bs → length (past p bs) ≤ length bs
        → cond t (b ∷ run p bs) [] ≡ take (suc (length bs) - length (cond t (past p bs) (b ∷ bs))) (b ∷ bs)
    go true e h = let n : suc (length bs) - length (past p bs) ≡ suc (length bs - length (past p bs)) = omega arith in rw n (ap (λ l. b ∷ l) e)
    go false e h = let n : suc (length bs) - suc (length bs) ≡ 0 = omega arith in rw n refl

pub run_between : (p : ℕ → Bool) (text : List ℕ) (from to : ℕ) → from ≤ to → to ≤ length text → drop to text ≡ past p (drop from text) → take (to - from) (drop from text) ≡ run p (drop from text)
run_between p text from to h k e =
    let n : length (drop from text) - length (past p (drop from text)) ≡ to - from = (let l = ap length e in omega (arith, length-drop from text, length-drop to text)) in
    sym (run_is p (drop from text) ∙ ap (λ n. take n (drop from text)) n)

-- ---- signs

pub after_found : (sign' text : List ℕ) (at from : ℕ) (o : Option ℕ) → drop from text ≡ skip (drop at text) → IsPlace text at from → Strips (strip sign' (drop from text)) text from o → Strips (after sign' (drop at text)) text at o
after_found sign' text at from None e h k = ap (strip sign') (sym e) ∙ k
after_found sign' text at from (Some to) e h k = (ap (strip sign') (sym e) ∙ k.0, ((let a = h.0 in let b = k.1.0 in omega arith), k.1.1))

-- a text that goes on past the end isn't there
pub past_end : (sign' text : List ℕ) (k to : ℕ) → k < length sign' → to ≡ length text → strip (drop k sign') (drop to text) ≡ None
past_end sign' text k to h e = rw (drop_all to text (omega arith), drop-cons sign' k 0) refl

pub further : (c : ℕ) (cs text : List ℕ) (to next : ℕ) → after (c ∷ cs) (drop to text) ≡ Some (drop next text) → to ≤ length text → next ≤ length text → to < next
further c cs text to next e h k =
    let s = after_sound (c ∷ cs) (drop to text) (drop next text) e in
    let l = ap length s.1 in
    omega (arith, length-drop to text, length-drop next text, length-append (sign s.0 (c ∷ cs)) (drop next text), length-append (blanks s.0) (c ∷ cs))

-- ---- digits

-- the value of the digits at the front, after those of n, of which there are some or none
abbrev pub amount : ℕ → Bool → ℕ → List ℕ → Found ℕ
amount most any n [] = cond any (Some (n, [])) None
amount most any n (b ∷ bs) = cond (is_digit b) (cond (nat_le (n * 10 + digit_value b) most) (amount most true (n * 10 + digit_value b) bs) None) (cond any (Some (n, b ∷ bs)) None)

abbrev pub amount_of : ℕ → Bool → ℕ → List ℕ → List ℕ → Found ℕ
amount_of most any n [] rest = cond any (Some (n, rest)) None
amount_of most any n (d ∷ ds) rest = cond (nat_le (digits_value_after 10 n (d ∷ ds)) most) (Some (digits_value_after 10 n (d ∷ ds), rest)) None

grows : (n : ℕ) (ds : List ℕ) → n ≤ digits_value_after 10 n ds
grows n [] = omega arith
grows n (d ∷ ds) = let h = grows (n * 10 + digit_value d) ds in omega arith

le_is : (a b : ℕ) → a ≤ b → nat_le a b ≡ true
le_is a b h = grind (arith, nat_tests)

le_false : (a b : ℕ) → b < a → nat_le a b ≡ false
le_false a b h = grind (arith, nat_tests)

le_not : (a b : ℕ) → nat_le a b ≡ false → b < a
le_not a b e = grind (arith, nat_tests)

le_so : (a b : ℕ) → nat_le a b ≡ true → a ≤ b
le_so a b e = grind (arith, nat_tests)

amount_some : (most : ℕ) (any : Bool) (n b value : ℕ) (ds rest : List ℕ) → value ≡ n * 10 + digit_value b → value ≤ most → amount_of most true value ds rest ≡ amount_of most any n (b ∷ ds) rest
amount_some most any n b value [] rest e k = rw (← e, le_is value most k) refl
amount_some most any n b value (d ∷ ds) rest e k = rw (← e) refl

amount_none : (most : ℕ) (any : Bool) (n b value : ℕ) (ds rest : List ℕ) → value ≡ n * 10 + digit_value b → most < value → amount_of most any n (b ∷ ds) rest ≡ None
amount_none most any n b value ds rest e k =
    ap (λ v. cond (nat_le (digits_value_after 10 v ds) most) (Some (digits_value_after 10 v ds, rest)) None) (sym e)
    ∙ ap (λ t. cond t (Some (digits_value_after 10 value ds, rest)) None) (le_false (digits_value_after 10 value ds) most (let g = grows value ds in omega arith))

amount_is : (most : ℕ) (any : Bool) (n : ℕ) (bs : List ℕ) → n ≤ most → amount most any n bs ≡ amount_of most any n (run is_digit bs) (past is_digit bs)
amount_is most any n [] h = refl
amount_is most any n (b ∷ bs) h = go (is_digit b) (nat_le (n * 10 + digit_value b) most) refl (λ k. amount_is most true (n * 10 + digit_value b) bs k)
  where
    go : (t u : Bool) → nat_le (n * 10 + digit_value b) most ≡ u → (n * 10 + digit_value b ≤ most → amount most true (n * 10 + digit_value b) bs ≡ amount_of most true (n * 10 + digit_value b) (run is_digit bs) (past is_digit bs))
        → cond t (cond u (amount most true (n * 10 + digit_value b) bs) None) (cond any (Some (n, b ∷ bs)) None) ≡ amount_of most any n (cond t (b ∷ run is_digit bs) []) (cond t (past is_digit bs) (b ∷ bs))
    go false u e ih = refl
    go true true e ih = ih (le_so _ most e) ∙ amount_some most any n b (n * 10 + digit_value b) (run is_digit bs) (past is_digit bs) refl (le_so _ most e)
    go true false e ih = sym (amount_none most any n b (n * 10 + digit_value b) (run is_digit bs) (past is_digit bs) refl (le_not _ most e))

pub amount_begins : (most : ℕ) (bs : List ℕ) → magnitude most bs ≡ amount most false 0 bs
amount_begins most bs = same (run is_digit bs) ∙ sym (amount_is most false 0 bs (omega arith))
  where
    same : (ds : List ℕ) → digits_or most ds (past is_digit bs) ≡ amount_of most false 0 ds (past is_digit bs)
    same [] = refl
    same (d ∷ ds) = refl

pub amount_at : (most : ℕ) (any : Bool) (n : ℕ) (text : List ℕ) (to : ℕ) → to < length text → amount most any n (drop to text)
    ≡ cond (is_digit (get_or text to 0)) (cond (nat_le (n * 10 + digit_value (get_or text to 0)) most) (amount most true (n * 10 + digit_value (get_or text to 0)) (drop (to + 1) text)) None) (cond any (Some (n, drop to text)) None)
amount_at most any n text to h =
    ap (amount most any n) (at_drop text to h)
    ∙ ap (λ l. cond (is_digit (get_or text to 0)) (cond (nat_le (n * 10 + digit_value (get_or text to 0)) most) (amount most true (n * 10 + digit_value (get_or text to 0)) (drop (to + 1) text)) None) (cond any (Some (n, l)) None)) (sym (at_drop text to h))

-- ---- strings

-- these bytes stand before what is found
abbrev pub behind : {X : Type 0} → List X → Found (List X) → Found (List X)
behind us found = with_found found (λ vs rest. Some (us ++ vs, rest))

pub behind_nothing : {X : Type 0} (found : Found (List X)) → found ≡ behind [] found
behind_nothing None = refl
behind_nothing (Some p) = refl

behind_first : {X : Type 0} (us : List X) (t : X) (found : Found (List X)) → behind us (with_found found (λ vs rest. Some (t ∷ vs, rest))) ≡ behind (us ++ t ∷ []) found
behind_first us t None = refl
behind_first us t (Some p) = ap (λ l. Some (l, p.1)) (sym (append_assoc us (t ∷ []) p.0))

module _ (whole : Found (List ℕ)) (bytes text : List ℕ) (escaping : Bool) (to : ℕ) (h : to < length text) (same : whole ≡ behind bytes (string_from escaping (drop to text))) where
  one_step : (s : StringStep) → s ≡ step_of escaping (get_or text to 0) → whole ≡ behind bytes (by_step s (drop (to + 1) text) (string_from (is_escaping s) (drop (to + 1) text)))
  one_step s e =
      same ∙ ap (λ l. behind bytes (string_from escaping l)) (at_drop text to h)
      ∙ ap (λ s. behind bytes (by_step s (drop (to + 1) text) (string_from (is_escaping s) (drop (to + 1) text)))) (sym e)

  pub string_closes : Closes ≡ step_of escaping (get_or text to 0) → whole ≡ Some (bytes, drop (to + 1) text)
  string_closes e = one_step Closes e ∙ ap (λ l. Some (l, drop (to + 1) text)) (append-nil bytes)

  pub string_breaks : Breaks ≡ step_of escaping (get_or text to 0) → whole ≡ None
  string_breaks e = one_step Breaks e

  pub string_escapes : BeginsEscape ≡ step_of escaping (get_or text to 0) → whole ≡ behind bytes (string_from true (drop (to + 1) text))
  string_escapes e = one_step BeginsEscape e

  pub string_gives : (b : ℕ) → Gives b ≡ step_of escaping (get_or text to 0) → whole ≡ behind (bytes ++ b ∷ []) (string_from false (drop (to + 1) text))
  string_gives b e = one_step (Gives b) e ∙ behind_first bytes b (string_from false (drop (to + 1) text))

pub string_ends : (whole : Found (List ℕ)) (bytes text : List ℕ) (escaping : Bool) (to : ℕ) → length text ≤ to → whole ≡ behind bytes (string_from escaping (drop to text)) → whole ≡ None
string_ends whole bytes text escaping to h e = e ∙ ap (λ l. behind bytes (string_from escaping l)) (drop_all to text h)

-- ---- brackets

pub opened_more : (limit count : ℕ) (bs rest : List ℕ) → count < limit → after (codes "(") bs ≡ Some rest → (r : ℕ × List ℕ) → r ≡ (count + (opened (limit - count) bs).0, (opened (limit - count) bs).1)
    → r ≡ (count + 1 + (opened (limit - (count + 1)) rest).0, (opened (limit - (count + 1)) rest).1)
opened_more limit count bs rest h e r f =
    let one : limit - count ≡ suc (limit - (count + 1)) = omega arith in
    f ∙ ap (λ k. (count + (opened k bs).0, (opened k bs).1)) one
    ∙ ap (λ o. (count + (open_or o bs (opened (limit - (count + 1)))).0, (open_or o bs (opened (limit - (count + 1)))).1)) e
    ∙ ap (λ n. (n, (opened (limit - (count + 1)) rest).1)) (omega arith)

pub opened_none : (limit count : ℕ) (bs : List ℕ) → count < limit → after (codes "(") bs ≡ None → (r : ℕ × List ℕ) → r ≡ (count + (opened (limit - count) bs).0, (opened (limit - count) bs).1) → r ≡ (count, bs)
opened_none limit count bs h e r f =
    let one : limit - count ≡ suc (limit - (count + 1)) = omega arith in
    f ∙ ap (λ k. (count + (opened k bs).0, (opened k bs).1)) one
    ∙ ap (λ o. (count + (open_or o bs (opened (limit - (count + 1)))).0, (open_or o bs (opened (limit - (count + 1)))).1)) e
    ∙ ap (λ n. (n, bs)) (omega arith)

pub opened_all : (limit : ℕ) (bs : List ℕ) → (r : ℕ × List ℕ) → r ≡ (limit + (opened (limit - limit) bs).0, (opened (limit - limit) bs).1) → r ≡ (limit, bs)
opened_all limit bs r f =
    let no : limit - limit ≡ 0 = omega arith in
    f ∙ ap (λ k. (limit + (opened k bs).0, (opened k bs).1)) no ∙ ap (λ n. (n, bs)) (omega arith)

-- ---- lists

pub record IsReading (read : List ℕ → Found Value) (text : List ℕ) (at : ℕ) (values : List Value) (from : ℕ) : Type 0 where
  pub fuel : ℕ
  pub enough : length text < fuel + from
  pub inside : from ≤ length text
  pub since : at ≤ from
  pub same : pieces read (suc (length (drop at text))) (drop at text) ≡ behind values (pieces read fuel (drop from text))

module _ (read : List ℕ → Found Value) (text : List ℕ) (at : ℕ) where
  pub begin_reading : at ≤ length text → IsReading read text at [] at
  begin_reading h = record {
    fuel = suc (length (drop at text));
    enough = omega (arith, length-drop at text);
    inside = h;
    since = omega arith;
    same = behind_nothing (pieces read (suc (length (drop at text))) (drop at text));
  }

  one_turn : (values : List Value) (from fuel : ℕ) (whole : Found (List Value)) → whole ≡ behind values (pieces read (suc fuel) (drop from text)) → (r : Found Value) → read (drop from text) ≡ r
      → whole ≡ behind values (with_found r (λ v rest. goes_on (pieces read fuel) v rest (after (codes ",") rest)))
  one_turn values from fuel whole e r f = e ∙ ap (λ r. behind values (with_found r (λ v rest. goes_on (pieces read fuel) v rest (after (codes ",") rest)))) f

  next_turn : (values : List Value) (from fuel : ℕ) (v : Value) (to : ℕ) (whole : Found (List Value)) → whole ≡ behind values (pieces read (suc fuel) (drop from text)) → read (drop from text) ≡ Some (v, drop to text)
      → (a : Option (List ℕ)) → after (codes ",") (drop to text) ≡ a → whole ≡ behind values (goes_on (pieces read fuel) v (drop to text) a)
  next_turn values from fuel v to whole e f a g = one_turn values from fuel whole e (Some (v, drop to text)) f ∙ ap (λ a. behind values (goes_on (pieces read fuel) v (drop to text) a)) g

  module _ (values : List Value) (from : ℕ) (m : IsReading read text at values from) where
    go_none : (fuel : ℕ) → length text < fuel + from → pieces read (suc (length (drop at text))) (drop at text) ≡ behind values (pieces read fuel (drop from text))
        → read (drop from text) ≡ None → pieces read (suc (length (drop at text))) (drop at text) ≡ None
    go_none zero h e f = absurd (let i = m.inside in omega arith)
    go_none (suc fuel) h e f = one_turn values from fuel _ e None f

    pub reading_fails : read (drop from text) ≡ None → pieces read (suc (length (drop at text))) (drop at text) ≡ None
    reading_fails f = go_none m.fuel m.enough m.same f

    module _ (v : Value) (to : ℕ) (found : read (drop from text) ≡ Some (v, drop to text)) (place : IsPlace text from to) where
      go_on : (fuel : ℕ) → length text < fuel + from → pieces read (suc (length (drop at text))) (drop at text) ≡ behind values (pieces read fuel (drop from text))
          → (next : ℕ) → after (codes ",") (drop to text) ≡ Some (drop next text) → IsPlace text to next → IsReading read text at (values ++ v ∷ []) next
      go_on zero h e next g p = absurd (let i = m.inside in omega arith)
      go_on (suc fuel) h e next g p = record {
        fuel = fuel;
        enough = (let l = further 44 [] text to next g place.1 p.1 in let a = place.0 in omega arith);
        inside = p.1;
        since = (let s = m.since in let a = place.0 in let b = p.0 in omega arith);
        same = next_turn values from fuel v to _ e found (Some (drop next text)) g ∙ behind_first values v (pieces read fuel (drop next text));
      }

      pub reading_goes : (next : ℕ) → after (codes ",") (drop to text) ≡ Some (drop next text) → IsPlace text to next → IsReading read text at (values ++ v ∷ []) next
      reading_goes next g p = go_on m.fuel m.enough m.same next g p

      go_end : (fuel : ℕ) → length text < fuel + from → pieces read (suc (length (drop at text))) (drop at text) ≡ behind values (pieces read fuel (drop from text))
          → after (codes ",") (drop to text) ≡ None → pieces read (suc (length (drop at text))) (drop at text) ≡ Some (values ++ v ∷ [], drop to text)
      go_end zero h e g = absurd (let i = m.inside in omega arith)
      go_end (suc fuel) h e g = next_turn values from fuel v to _ e found None g

      pub reading_ends : after (codes ",") (drop to text) ≡ None → pieces read (suc (length (drop at text))) (drop at text) ≡ Some (values ++ v ∷ [], drop to text)
      reading_ends g = go_end m.fuel m.enough m.same g

-- ---- elements and texts

module _ (sets : List SetFace) (set' : ℕ) (text : List ℕ) (at from to : ℕ) (skipped : drop from text ≡ skip (drop at text)) (ended' : drop to text ≡ past is_name_byte (drop from text)) (place : IsPlace text from to) where
  pub named_at : read_element sets set' (drop at text) ≡ named sets set' (slice_range text from to) (drop to text)
  named_at =
      ap (λ l. named sets set' (run is_name_byte l) (past is_name_byte l)) (sym skipped)
      ∙ ap (λ l. named sets set' l (past is_name_byte (drop from text))) (sym (run_between is_name_byte text from to place.0 place.1 ended'))
      ∙ ap (named sets set' (slice_range text from to)) (sym ended')

  pub not_named : is_name (slice_range text from to) ≡ false → read_element sets set' (drop at text) ≡ None
  not_named e = named_at ∙ ap (λ b. element_at set' (drop to text) (cond b (position (bytes_eq (slice_range text from to)) (names_of sets set')) None)) e

  pub element_found : (o : Option ℕ) → is_name (slice_range text from to) ≡ true → o ≡ position (bytes_eq (slice_range text from to)) (names_of sets set') → read_element sets set' (drop at text) ≡ element_at set' (drop to text) o
  element_found o e f =
      named_at ∙ ap (λ b. element_at set' (drop to text) (cond b (position (bytes_eq (slice_range text from to)) (names_of sets set')) None)) e
      ∙ ap (element_at set' (drop to text)) (sym f)

pub lt_is : (a b : ℕ) → a < b → nat_lt a b ≡ true
lt_is a b h = grind (arith, nat_tests)

pub lt_false : (a b : ℕ) → b ≤ a → nat_lt a b ≡ false
lt_false a b h = grind (arith, nat_tests)

pub element_small : (k i : ℕ) (rest : List ℕ) → i < 2 ^ 32 → element_at k rest (Some i) ≡ Some (value.Elem k i, rest)
element_small k i rest h = ap (λ b. cond b (Some (value.Elem k i, rest)) None) (lt_is i (2 ^ 32) h)

pub element_large : (k i : ℕ) (rest : List ℕ) → 2 ^ 32 ≤ i → element_at k rest (Some i) ≡ None
element_large k i rest h = ap (λ b. cond b (Some (value.Elem k i, rest)) None) (lt_false i (2 ^ 32) h)

pub text_true : (bytes : List ℕ) → IsUtf8 bytes → nat_lt (length bytes) 4294967296 ≡ is_text bytes
text_true bytes u = rw (is_utf8-from_IsUtf8 bytes u) refl

pub text_false : (bytes : List ℕ) → (IsUtf8 bytes → ⊥) → false ≡ is_text bytes
text_false bytes n = go (is_utf8 bytes) refl
  where
    go : (b : Bool) → is_utf8 bytes ≡ b → false ≡ (b && nat_lt (length bytes) (2 ^ 32))
    go true e = absurd (n (IsUtf8-from_is_utf8 bytes e))
    go false e = refl
