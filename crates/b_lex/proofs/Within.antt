-- What stands at the front of a text lies within it.
use Rattle.std.proofs.Common.{◌≡◌, ◌∙◌, ap, sym, subst, refl, ℕ, suc, ◌+◌, ◌-◌, ◌^◌, ◌<◌, ◌≤◌, Bool, true, false, cond, Option, Some, None, List, [], ◌∷◌, length, take, drop, map, arith, length-append}
use Rattle.std.specs.Prelude.{nat_eq, nat_lt, nat_le, codes, filter, ◌==◌, ◌||◌}
use Rattle.std.specs.List.{starts_with, prefix_len, take_while}
use Rattle.std.specs.Option.{option_map}
use Rattle.std.specs.Bool.{MatchBool}
use Rattle.std.proofs.lemmas.Bool.{cond_both, eqb-false, or_left}
use Rattle.std.proofs.lemmas.List.{length-take, length-drop}
use Rattle.std.proofs.lemmas.List.Folds.{length-prefix_len}
use Rattle.std.proofs.lemmas.List.Sums.{prefix_len-le-length}
use Rattle.std.proofs.lemmas.Slice.Eq.{bytes_eq-Decides}
use Rattle.b_lex.specs.declared.tokens.TokenKind.TheVariants.{Sign, Text}
use Rattle.b_lex.specs.declared.tokens.LexKind.TheVariants.{BadByte, OpenString}
use Rattle.b_lex.specs.declared.fronts.Front.{Front}
use Rattle.b_lex.specs.declared.fronts.Front.TheVariants.{Take, Stop}
use Rattle.b_lex.specs.Tables.{longest, greatest, signs}
use Rattle.b_lex.specs.Bytes.{is_space, is_letter, is_digit, is_name_byte, is_in_line, before_close, decimal}
use Rattle.b_lex.specs.Strings.{IsStringEnd, IsEscapeEnd, IsStringFront, closed_front}
use Rattle.b_lex.specs.Fronts.{comment_front, sign_front, front_of, Begins, IsWithin}

starts_long : (text needle : List ℕ) → starts_with nat_eq text needle ≡ true → length needle ≤ length text
starts_long text needle e =
    let is : needle ≡ take (length needle) text = (bytes_eq-Decides needle (take (length needle) text)).0 e in
    let long : length needle ≡ length (take (length needle) text) = ap length is in
    omega (arith, length-take (length needle) text)

closes : (text : List ℕ) (n : ℕ) → before_close text ≡ Some n → n + 2 ≤ length text
closes [] n e = absurd (cc)
closes (b ∷ text) n e = by_first (λ m is. closes text m is) (starts_with nat_eq (b ∷ text) (codes "*/")) refl e
  where
    behind : ((m : ℕ) → before_close text ≡ Some m → m + 2 ≤ length text) → (o : Option ℕ) → before_close text ≡ o → option_map suc o ≡ Some n → n + 2 ≤ length (b ∷ text)
    behind rest None is f = absurd (cc)
    behind rest (Some m) is f = let more : m + 2 ≤ length text = rest m is in let n_is : suc m ≡ n = cc in omega arith

    by_first : ((m : ℕ) → before_close text ≡ Some m → m + 2 ≤ length text) → (t : Bool) → starts_with nat_eq (b ∷ text) (codes "*/") ≡ t → cond t (Some 0) (option_map suc (before_close text)) ≡ Some n → n + 2 ≤ length (b ∷ text)
    by_first rest true is f = let n_is : 0 ≡ n = cc in let long : 2 ≤ length (b ∷ text) = starts_long (b ∷ text) (codes "*/") is in omega arith
    by_first rest false is f = behind rest (before_close text) refl f

comment_within : (inside : List ℕ) (len : ℕ) (o : Option ℕ) → before_close inside ≡ o → length inside ≡ len - 2 → IsWithin len (comment_front o)
comment_within inside len None is long = omega arith
comment_within inside len (Some n) is long = let most : n + 2 ≤ length inside = closes inside n is in (omega arith, omega arith)

run_within : (p : ℕ → Bool) (b : ℕ) (text : List ℕ) → p b ≡ true → (0 < length (take_while p (b ∷ text))) × (length (take_while p (b ∷ text)) ≤ length (b ∷ text))
run_within p b text passes =
    let len : length (take_while p (b ∷ text)) ≡ prefix_len p (b ∷ text) = length-prefix_len p (b ∷ text) in
    let some : prefix_len p (b ∷ text) ≡ 1 + prefix_len p text = ap (λ t. cond t (1 + prefix_len p text) 0) passes in
    let most : prefix_len p (b ∷ text) ≤ length (b ∷ text) = prefix_len-le-length p (b ∷ text) in
    (omega arith, omega arith)

longest_within : (table : List (List ℕ)) (text : List ℕ) → longest table text ≤ length text
longest_within [] text = omega arith
longest_within (entry ∷ table) text =
    cond_both (starts_with nat_eq text entry) (entry ∷ filter (starts_with nat_eq text) table) (filter (starts_with nat_eq text) table) (λ found. greatest (map length found) ≤ length text)
    (λ e. let here : length entry ≤ length text = starts_long text entry e in let more : longest table text ≤ length text = longest_within table text in omega arith)
    (λ _. longest_within table text)

sign_within : (n len : ℕ) → n ≤ len → IsWithin len (sign_front n)
sign_within n len most =
    cond_both (n == 0) (Stop BadByte 0) (Take Sign n) (IsWithin len) (λ _. omega arith)
    (λ some. let no : n ≡ 0 → ⊥ = eqb-false n 0 some in (omega arith, most))

pub plain_within : (b : ℕ) (text : List ℕ) → IsWithin (length (b ∷ text)) (front_of (b ∷ text))
plain_within b text =
    let len = length (b ∷ text) in
    let behind : length (drop 2 (b ∷ text)) ≡ len - 2 = length-drop 2 (b ∷ text) in
    cond_both (starts_with nat_eq (b ∷ text) (codes "/*")) _ _ (IsWithin len)
    (λ _. comment_within (drop 2 (b ∷ text)) len (before_close (drop 2 (b ∷ text))) refl behind)
    (λ _. cond_both (starts_with nat_eq (b ∷ text) (codes "//")) _ _ (IsWithin len)
    (λ opens.
    let two : 2 ≤ len = starts_long (b ∷ text) (codes "//") opens in
    let most : prefix_len is_in_line (drop 2 (b ∷ text)) ≤ length (drop 2 (b ∷ text)) = prefix_len-le-length is_in_line (drop 2 (b ∷ text)) in
    (omega arith, omega arith))
    (λ _. cond_both (is_space b) _ _ (IsWithin len)
    (λ _. (omega arith, omega arith))
    (λ _. cond_both (is_letter b) _ _ (IsWithin len)
    (λ letter. run_within is_name_byte b text (or_left (is_letter b || is_digit b) (b == 95) (or_left (is_letter b) (is_digit b) letter)))
    (λ _. cond_both (is_digit b) _ _ (IsWithin len)
    (λ digit. cond_both (nat_le (decimal (take_while is_digit (b ∷ text))) (2 ^ 127 - 1)) _ _ (IsWithin len) (λ _. run_within is_digit b text digit) (λ _. omega arith))
    (λ _. sign_within (longest signs (b ∷ text)) len (longest_within signs (b ∷ text)))))))

by_test : (t : Bool) (P Q R : Type 0) → (P → R) → (Q → R) → MatchBool t P Q → R
by_test true P Q R f g h = f h
by_test false P Q R f g h = g h

equal_within : (len : ℕ) (front other : Front) → IsWithin len other → front ≡ other → IsWithin len front
equal_within len front other w e = subst (IsWithin len) (sym e) w

escape_within : (body : ℕ) (after : List ℕ) (front : Front) (len : ℕ) → body + length after + 2 ≤ len → IsEscapeEnd body after front → IsWithin len front
escape_within body [] front len room h = equal_within len front (Stop OpenString 0) (omega arith) h
escape_within body (b ∷ after) front len room h =
    by_test (b == 10) _ _ (IsWithin len front)
    (equal_within len front (Stop OpenString 0) (omega arith))
    (λ bad. equal_within len front (Stop BadByte (body + 2)) (omega arith) bad.1)
    h

end_within : (body value : ℕ) (after : List ℕ) (front : Front) (len : ℕ) → body + length after + 1 ≤ len → IsStringEnd body value after front → IsWithin len front
end_within body value [] front len room h = equal_within len front (Stop OpenString 0) (omega arith) h
end_within body value (b ∷ after) front len room h =
    by_test (b == 34) _ _ (IsWithin len front)
    (equal_within len front (closed_front body value) (cond_both (nat_lt value (2 ^ 32)) (Take Text (body + 2)) (Stop OpenString 0) (IsWithin len) (λ _. (omega arith, omega arith)) (λ _. omega arith)))
    (by_test (b == 10) _ _ (IsWithin len front)
    (equal_within len front (Stop OpenString 0) (omega arith))
    (by_test (b == 92) _ _ (IsWithin len front)
    (λ e. escape_within body after front len (omega arith) e)
    (λ bad. equal_within len front (Stop BadByte (body + 1)) (omega arith) bad.1)))
    h

pub string_within : (text : List ℕ) (front : Front) → IsStringFront text front → IsWithin (length text + 1) front
string_within text front s =
    let long : length text ≡ length s.body + length s.after = ap length s.is ∙ length-append s.body s.after in
    end_within (length s.body) (length s.value) s.after front (length text + 1) (omega arith) s.ends

pub begins_within : (text : List ℕ) (front : Front) → Begins text front → IsWithin (length text) front
begins_within [] front h = absurd h
begins_within (b ∷ text) front h =
    by_test (b == 34) _ _ (IsWithin (length (b ∷ text)) front)
    (λ s. let w : IsWithin (length text + 1) front = string_within text front s in let e : length text + 1 ≡ length (b ∷ text) = omega arith in subst (λ n. IsWithin n front) e w)
    (equal_within (length (b ∷ text)) front (front_of (b ∷ text)) (plain_within b text))
    h

pub front_within : (text : List ℕ) → 0 < length text → IsWithin (length text) (front_of text)
front_within [] some = absurd (omega arith)
front_within (b ∷ text) some = plain_within b text
