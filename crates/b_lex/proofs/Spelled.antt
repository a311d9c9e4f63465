-- Each token is spelled as its kind says.
use Rattle.std.proofs.Common.{◌≡◌, ◌∙◌, ap, sym, subst, refl, ℕ, ◌+◌, ◌-◌, ◌^◌, ◌<◌, Bool, true, false, cond, Option, Some, None, List, [], ◌∷◌, ◌++◌, length, take, drop, map, arith, append_assoc, length-append, inl, inr}
use Rattle.std.specs.Prelude.{nat_eq, nat_lt, nat_le, codes, filter, max, ◌==◌, ◌||◌}
use Rattle.std.specs.List.{starts_with, prefix_len, take_while, list_all, slice_range}
use Rattle.std.specs.Bool.{MatchBool}
use Rattle.std.specs.Str.{bytes_eq, StartsWithNoChar}
use Rattle.std.proofs.lemmas.Bool.{cond-true, eqb-true, eqb-false, leb-true, ltb-true, and_from, or_left, or_right, cases_lt}
use Rattle.std.proofs.lemmas.List.{drop-drop, length-drop}
use Rattle.std.proofs.lemmas.List.Folds.{length-prefix_len}
use Rattle.std.proofs.lemmas.List.Sums.{take_while-cons}
use Rattle.std.proofs.lemmas.Slice.Eq.{bytes_eq-Decides}
use Rattle.std.proofs.Math.Seq.{take-append_seam}
use Rattle.b_lex.specs.declared.tokens.Token.{Token}
use Rattle.b_lex.specs.declared.tokens.TokenKind.{TokenKind}
use Rattle.b_lex.specs.declared.tokens.TokenKind.TheVariants.{Name, Number, Text, Word, Sign}
use Rattle.b_lex.specs.declared.tokens.LexKind.{LexKind}
use Rattle.b_lex.specs.declared.tokens.LexKind.TheVariants.{BadByte, OpenString, NumberTooWide}
use Rattle.b_lex.specs.declared.fronts.Front.TheVariants.{Skip, Take, Stop}
use Rattle.b_lex.specs.Tables.{has_entry, longest, greatest, signs, is_reserved}
use Rattle.b_lex.specs.Bytes.{is_space, is_letter, is_digit, is_name_byte, is_in_line, before_close, decimal}
use Rattle.b_lex.specs.Strings.{IsStringEnd, IsEscapeEnd, IsStringFront, closed_front, escape_of}
use Rattle.b_lex.specs.Fronts.{comment_front, number_front, sign_front, front_of, Begins}
use Rattle.b_lex.specs.Reading.{Reads, AreTokens, AreSpans}
use Rattle.b_lex.proofs.Within.{begins_within}
use Rattle.b_lex.proofs.Rows.{earlier}
use Rattle.b_lex.specs.Spelling.{is_identifier, are_digits, IsText, IsSpelled, AreSpelled}

-- the branch that gave a value
branch : {X : Type 0} (t : Bool) (x y z : X) (R : Type 0) → cond t x y ≡ z → (t ≡ true → x ≡ z → R) → (t ≡ false → y ≡ z → R) → R
branch true x y z R e f g = f refl e
branch false x y z R e f g = g refl e

run_is : (p : ℕ → Bool) (b : ℕ) (text : List ℕ) → p b ≡ true → take_while p (b ∷ text) ≡ b ∷ take_while p text
run_is p b text passes = take_while-cons p b text ∙ cond-true (p b) (b ∷ take_while p text) [] passes

run_passes : (p : ℕ → Bool) (text : List ℕ) → list_all p (take_while p text) ≡ true
run_passes p [] = refl
run_passes p (b ∷ text) = by_first (p b) refl (run_passes p text)
  where
    by_first : (t : Bool) → p b ≡ t → list_all p (take_while p text) ≡ true → list_all p (take_while p (b ∷ text)) ≡ true
    by_first true e more = ap (list_all p) (run_is p b text e) ∙ and_from (p b) (list_all p (take_while p text)) e more
    by_first false e more = ap (list_all p) (take_while-cons p b text ∙ ap (λ t. cond t (b ∷ take_while p text) []) e)

run_taken : (p : ℕ → Bool) (text : List ℕ) (n : ℕ) → length (take_while p text) ≡ n → take n text ≡ take_while p text
run_taken p text n e = ap (λ m. take m text) (sym e ∙ length-prefix_len p text)

kinds_same : (kind other : TokenKind) (n m : ℕ) → Take kind n ≡ Take other m → kind ≡ other
kinds_same kind other n m e = cc

lengths_same : (kind other : TokenKind) (n m : ℕ) → Take kind n ≡ Take other m → n ≡ m
lengths_same kind other n m e = cc

no_skip : (n m : ℕ) (kind : TokenKind) → Skip n ≡ Take kind m → ⊥
no_skip n m kind e = cc

no_stop : (n m : ℕ) (kind : TokenKind) (fault : LexKind) → Stop fault n ≡ Take kind m → ⊥
no_stop n m kind fault e = cc

no_comment : (o : Option ℕ) (kind : TokenKind) (n : ℕ) → comment_front o ≡ Take kind n → ⊥
no_comment None kind n e = cc
no_comment (Some m) kind n e = cc

as_kind : (kind other : TokenKind) (bytes taken : List ℕ) → other ≡ kind → taken ≡ bytes → IsSpelled other bytes → IsSpelled kind taken
as_kind kind other bytes taken same is s = subst (λ k. IsSpelled k taken) same (subst (IsSpelled other) (sym is) s)

word_spelled : (word taken : List ℕ) (kind : TokenKind) → is_identifier word ≡ true → taken ≡ word → cond (is_reserved word) Word Name ≡ kind → IsSpelled kind taken
word_spelled word taken kind identifier is e =
    branch (is_reserved word) Word Name kind (IsSpelled kind taken) e
    (λ reserved same. as_kind kind Word word taken same is reserved)
    (λ free same. as_kind kind Name word taken same is (identifier, free))

number_spelled : (digits taken : List ℕ) (kind : TokenKind) (n : ℕ) → are_digits digits ≡ true → (length digits ≡ n → taken ≡ digits) → number_front digits ≡ Take kind n → IsSpelled kind taken
number_spelled digits taken kind n are is e =
    branch (nat_le (decimal digits) (2 ^ 127 - 1)) (Take Number (length digits)) (Stop NumberTooWide 0) (Take kind n) (IsSpelled kind taken) e
    (λ small same. as_kind kind Number digits taken (kinds_same Number kind (length digits) n same) (is (lengths_same Number kind (length digits) n same)) (are, leb-true (decimal digits) (2 ^ 127 - 1) small))
    (λ _ same. absurd (no_stop 0 n kind NumberTooWide same))

entry_taken : (table : List (List ℕ)) (text : List ℕ) (n : ℕ) → longest table text ≡ n → 0 < n → has_entry table (take n text) ≡ true
entry_taken [] text n e some = absurd (omega arith)
entry_taken (entry ∷ table) text n e some = by_start (starts_with nat_eq text entry) refl e (λ f. entry_taken table text n f some)
  where
    further : (longest table text ≡ n → has_entry table (take n text) ≡ true) → longest table text ≡ n → has_entry (entry ∷ table) (take n text) ≡ true
    further more f = or_right (bytes_eq (take n text) entry) (has_entry table (take n text)) (more f)

    here : starts_with nat_eq text entry ≡ true → length entry ≡ n → has_entry (entry ∷ table) (take n text) ≡ true
    here starts f =
        let is : entry ≡ take (length entry) text = (bytes_eq-Decides entry (take (length entry) text)).0 starts in
        let taken : take n text ≡ entry = ap (λ m. take m text) (sym f) ∙ sym is in
        or_left (bytes_eq (take n text) entry) (has_entry table (take n text)) ((bytes_eq-Decides (take n text) entry).1 taken)

    by_start : (t : Bool) → starts_with nat_eq text entry ≡ t → greatest (map length (cond t (entry ∷ filter (starts_with nat_eq text) table) (filter (starts_with nat_eq text) table))) ≡ n
        → (longest table text ≡ n → has_entry table (take n text) ≡ true) → has_entry (entry ∷ table) (take n text) ≡ true
    by_start true starts f more =
        elim (cases_lt (length entry) (longest table text)) [
          | inl less ↦ further more (let g : max (length entry) (longest table text) ≡ n = f in omega arith)
          | inr least ↦ here starts (let g : max (length entry) (longest table text) ≡ n = f in omega arith)
        ]
    by_start false starts f more = further more f

sign_spelled : (text : List ℕ) (m n : ℕ) (kind : TokenKind) → longest signs text ≡ m → sign_front m ≡ Take kind n → IsSpelled kind (take n text)
sign_spelled text m n kind is e =
    branch (m == 0) (Stop BadByte 0) (Take Sign m) (Take kind n) (IsSpelled kind (take n text)) e
    (λ _ same. absurd (no_stop 0 n kind BadByte same))
    (λ some same.
    let positive : m ≡ 0 → ⊥ = eqb-false m 0 some in
    let lengths : m ≡ n = lengths_same Sign kind m n same in
    as_kind kind Sign (take n text) (take n text) (kinds_same Sign kind m n same) refl (entry_taken signs text n (is ∙ lengths) (omega arith)))

plain_spelled : (b : ℕ) (text : List ℕ) (kind : TokenKind) (n : ℕ) → front_of (b ∷ text) ≡ Take kind n → IsSpelled kind (take n (b ∷ text))
plain_spelled b text kind n e =
    let l : List ℕ = b ∷ text in
    let R : Type 0 = IsSpelled kind (take n l) in
    branch (starts_with nat_eq l (codes "/*")) _ _ (Take kind n) R e (λ _ f. absurd (no_comment (before_close (drop 2 l)) kind n f))
    (λ _ e. branch (starts_with nat_eq l (codes "//")) _ _ (Take kind n) R e (λ _ f. absurd (no_skip (prefix_len is_in_line (drop 2 l) + 2) n kind f))
    (λ _ e. branch (is_space b) _ _ (Take kind n) R e (λ _ f. absurd (no_skip 1 n kind f))
    (λ _ e. branch (is_letter b) _ _ (Take kind n) R e
    (λ letter f.
    let passes : is_name_byte b ≡ true = or_left (is_letter b || is_digit b) (b == 95) (or_left (is_letter b) (is_digit b) letter) in
    let word : List ℕ = take_while is_name_byte l in
    let identifier : is_identifier word ≡ true = ap is_identifier (run_is is_name_byte b text passes) ∙ and_from (is_letter b) (list_all is_name_byte (take_while is_name_byte text)) letter (run_passes is_name_byte text) in
    word_spelled word (take n l) kind identifier
    (run_taken is_name_byte l n (lengths_same (cond (is_reserved word) Word Name) kind (length word) n f))
    (kinds_same (cond (is_reserved word) Word Name) kind (length word) n f))
    (λ _ e. branch (is_digit b) _ _ (Take kind n) R e
    (λ digit f.
    let digits : List ℕ = take_while is_digit l in
    let are : are_digits digits ≡ true = ap are_digits (run_is is_digit b text digit) ∙ and_from (is_digit b) (list_all is_digit (take_while is_digit text)) digit (run_passes is_digit text) in
    number_spelled digits (take n l) kind n are (run_taken is_digit l n) f)
    (λ _ f. sign_spelled l (longest signs l) n kind refl f)))))

closed_taken : (body after : List ℕ) → take (length body + 2) (34 ∷ (body ++ 34 ∷ after)) ≡ 34 ∷ (body ++ 34 ∷ [])
closed_taken body after =
    let whole : List ℕ = 34 ∷ (body ++ 34 ∷ []) in
    let len : length body + 2 ≡ length whole = omega (arith, length-append body (34 ∷ [])) in
    let parts : whole ++ after ≡ 34 ∷ (body ++ 34 ∷ after) = ap (λ t. 34 ∷ t) (append_assoc body (34 ∷ []) after) in
    ap (λ m. take m (34 ∷ (body ++ 34 ∷ after))) len ∙ ap (λ t. take (length whole) t) (sym parts) ∙ take-append_seam whole after

no_escape_end : (m n : ℕ) (after : List ℕ) (kind : TokenKind) → IsEscapeEnd m after (Take kind n) → ⊥
no_escape_end m n [] kind h = no_stop 0 n kind OpenString (sym h)
no_escape_end m n (b ∷ after) kind h = by_line (b == 10) h
  where
    by_line : (t : Bool) → MatchBool t (Take kind n ≡ Stop OpenString 0) ((escape_of b ≡ None) × (Take kind n ≡ Stop BadByte (m + 2))) → ⊥
    by_line true h = no_stop 0 n kind OpenString (sym h)
    by_line false h = no_stop (m + 2) n kind BadByte (sym h.1)

-- where a string is a token, a quote closes it
closed : (m v : ℕ) (after : List ℕ) (kind : TokenKind) (n : ℕ) → IsStringEnd m v after (Take kind n) → (rest : List ℕ) × (after ≡ 34 ∷ rest) × (Text ≡ kind) × (m + 2 ≡ n) × (v < 2 ^ 32)
closed m v [] kind n h = absurd (no_stop 0 n kind OpenString (sym h))
closed m v (b ∷ after) kind n h = by_quote (b == 34) refl h
  where
    Closed : Type 0
    Closed = (rest : List ℕ) × (b ∷ after ≡ 34 ∷ rest) × (Text ≡ kind) × (m + 2 ≡ n) × (v < 2 ^ 32)

    by_slash : (t : Bool) → MatchBool t (IsEscapeEnd m after (Take kind n)) (StartsWithNoChar (b ∷ after) × (Take kind n ≡ Stop BadByte (m + 1))) → Closed
    by_slash true h = absurd (no_escape_end m n after kind h)
    by_slash false h = absurd (no_stop (m + 1) n kind BadByte (sym h.1))

    by_line : (t : Bool) → MatchBool t (Take kind n ≡ Stop OpenString 0) (MatchBool (b == 92) (IsEscapeEnd m after (Take kind n)) (StartsWithNoChar (b ∷ after) × (Take kind n ≡ Stop BadByte (m + 1)))) → Closed
    by_line true h = absurd (no_stop 0 n kind OpenString (sym h))
    by_line false h = by_slash (b == 92) h

    by_quote : (t : Bool) → (b == 34) ≡ t → MatchBool t (Take kind n ≡ closed_front m v) (MatchBool (b == 10) (Take kind n ≡ Stop OpenString 0) (MatchBool (b == 92) (IsEscapeEnd m after (Take kind n)) (StartsWithNoChar (b ∷ after) × (Take kind n ≡ Stop BadByte (m + 1))))) → Closed
    by_quote true e h =
        branch (nat_lt v (2 ^ 32)) (Take Text (m + 2)) (Stop OpenString 0) (Take kind n) Closed (sym h)
        (λ small same. (after, ap (λ x. x ∷ after) (eqb-true b 34 e), kinds_same Text kind (m + 2) n same, lengths_same Text kind (m + 2) n same, ltb-true v (2 ^ 32) small))
        (λ _ same. absurd (no_stop 0 n kind OpenString same))
    by_quote false e h = by_line (b == 10) h

string_spelled : (b : ℕ) (text : List ℕ) (kind : TokenKind) (n : ℕ) → b ≡ 34 → IsStringFront text (Take kind n) → IsSpelled kind (take n (b ∷ text))
string_spelled b text kind n quote s =
    let end = closed (length s.body) (length s.value) s.after kind n s.ends in
    let whole : b ∷ text ≡ 34 ∷ (s.body ++ 34 ∷ end.0) = ap (λ x. x ∷ text) quote ∙ ap (λ t. 34 ∷ t) (s.is ∙ ap (λ t. s.body ++ t) end.1) in
    let taken : take n (b ∷ text) ≡ 34 ∷ (s.body ++ 34 ∷ []) = ap (λ m. take m (b ∷ text)) (sym end.3) ∙ ap (λ t. take (length s.body + 2) t) whole ∙ closed_taken s.body end.0 in
    let is : IsText (34 ∷ (s.body ++ 34 ∷ [])) s.value = record { body = s.body; is = refl; stands = s.stands } in
    as_kind kind Text (34 ∷ (s.body ++ 34 ∷ [])) (take n (b ∷ text)) end.2 taken (s.value, is, end.4)

begins_spelled : (text : List ℕ) (kind : TokenKind) (n : ℕ) → Begins text (Take kind n) → IsSpelled kind (take n text)
begins_spelled [] kind n h = absurd h
begins_spelled (b ∷ text) kind n h = by_quote (b == 34) refl h
  where
    by_quote : (t : Bool) → (b == 34) ≡ t → MatchBool t (IsStringFront text (Take kind n)) (Take kind n ≡ front_of (b ∷ text)) → IsSpelled kind (take n (b ∷ text))
    by_quote true e s = string_spelled b text kind n (eqb-true b 34 e) s
    by_quote false e s = plain_spelled b text kind n (sym s)

reads_spelled : (text : List ℕ) (at : ℕ) (rest : List ℕ) (tokens : List Token) (fault : Option (LexKind × ℕ)) → drop at text ≡ rest → Reads at rest tokens fault → AreSpelled text tokens
reads_spelled text at rest tokens fault is (Reads.ended _) = tt
reads_spelled text at rest tokens fault is (Reads.skips _ n _ ts f h r) = reads_spelled text (at + n) (drop n rest) ts f (sym (drop-drop n at text) ∙ ap (λ t. drop n t) is) r
reads_spelled text at rest tokens fault is (Reads.takes _ n kind _ ts f h r) =
    let len : at + n - at ≡ n = omega arith in
    let bytes : slice_range text at (at + n) ≡ take n rest = ap (λ m. take m (drop at text)) len ∙ ap (λ t. take n t) is in
    (subst (IsSpelled kind) (sym bytes) (begins_spelled rest kind n h), reads_spelled text (at + n) (drop n rest) ts f (sym (drop-drop n at text) ∙ ap (λ t. drop n t) is) r)
reads_spelled text at rest tokens fault is (Reads.stops _ n kind _ h) = tt

pub tokens_spelled : (text : List ℕ) (tokens : List Token) → AreTokens text tokens → AreSpelled text tokens
tokens_spelled text tokens r = reads_spelled text 0 text tokens None refl r

reads_spans : (at len : ℕ) (rest : List ℕ) (tokens : List Token) (fault : Option (LexKind × ℕ)) → at + length rest ≡ len → Reads at rest tokens fault → AreSpans at len tokens
reads_spans at len rest tokens fault room (Reads.ended _) = tt
reads_spans at len rest tokens fault room (Reads.skips _ n _ ts f h r) =
    let within = begins_within rest (Skip n) h in
    let left : length (drop n rest) ≡ length rest - n = length-drop n rest in
    earlier at n len ts (reads_spans (at + n) len (drop n rest) ts f (omega (arith, within.1)) r)
reads_spans at len rest tokens fault room (Reads.takes _ n kind _ ts f h r) =
    let within = begins_within rest (Take kind n) h in
    let left : length (drop n rest) ≡ length rest - n = length-drop n rest in
    (omega arith, omega (arith, within.0), omega (arith, within.1), reads_spans (at + n) len (drop n rest) ts f (omega (arith, within.1)) r)
reads_spans at len rest tokens fault room (Reads.stops _ n kind _ h) = tt

pub tokens_span : (text : List ℕ) (tokens : List Token) → AreTokens text tokens → AreSpans 0 (length text) tokens
tokens_span text tokens r = reads_spans 0 (length text) text tokens None (omega arith) r
