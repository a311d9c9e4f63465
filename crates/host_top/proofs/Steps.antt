-- The steps of the descent, and what they say of the next token.
use Rattle.std.proofs.Common.{◌≡◌, ◌∙◌, sym, ap, refl, ℕ, suc, ◌+◌, ◌-◌, ◌*◌, ◌^◌, ◌≤◌, Bool, true, false, not, ◌&&◌, ◌||◌, List, [], ◌∷◌, ◌++◌, length, inl, inr, arith}
use Rattle.std.specs.Prelude.{Option, Some, None, codes, nat_le, if◌then◌else◌}
use Rattle.std.specs.List.{list_all, list_any}
use Rattle.std.specs.Str.{bytes_eq}
use Rattle.std.proofs.lemmas.Slice.Eq.{bytes_eq-Decides}
use Rattle.animator.specs.Words.{is_digit, is_digits, value_of, number_of}
use Rattle.host_top.specs.ReservedWords.{is_reserved}
use Rattle.host_top.specs.MachineTexts.{is_space, is_letter, is_name_byte, is_word, is_token, is_name, signs, IsNext}
use Rattle.host_top.specs.Reading.{◌>>=◌, past_space, token_of, behind_token, begins_letter, names, behind_sign, name_at, number_by, number_at, ends}
use Rattle.host_top.proofs.Fronts.{and_left, and_right}
use Rattle.host_top.proofs.Tokens.{past_next, token_next, behind_next, next_cut, end_next, end_cut, word_cut}

pub some_is : {A : Type 0} (x y : A) → Some x ≡ Some y → x ≡ y
some_is x y h = cc

pub bind_some : {A B : Type 0} (o : Option A) (f : A → Option B) (y : B) → (o >>= f) ≡ Some y → (x : A) × (o ≡ Some x) × (f x ≡ Some y)
bind_some None f y h = cc
bind_some (Some x) f y h = (x, refl, h)

pub if_some : {A : Type 0} (t : Bool) (x y : A) → (if t then Some x else None) ≡ Some y → (t ≡ true) × (x ≡ y)
if_some true x y h = (refl, cc)
if_some false x y h = cc

same_bytes : (a b : List ℕ) → a ≡ b → bytes_eq a b ≡ true
same_bytes a b e = (bytes_eq-Decides a b).1 e

-- ---- a sign or a word

pub sign_next : (sign text token rest : List ℕ) → IsNext text token rest → token ≡ sign → behind_sign sign text ≡ Some rest
sign_next sign text token rest next is =
    let same : bytes_eq (token_of text) sign ≡ true = same_bytes (token_of text) sign (token_next text token rest next ∙ is) in
    rw (same, behind_next text token rest next) refl

pub sign_cut : (sign text rest : List ℕ) → is_token sign ≡ true → behind_sign sign text ≡ Some rest → IsNext text sign rest
sign_cut sign text rest some h =
    let found : (bytes_eq (token_of text) sign ≡ true) × (behind_token text ≡ rest) = if_some (bytes_eq (token_of text) sign) (behind_token text) rest h in
    let is : token_of text ≡ sign = (bytes_eq-Decides (token_of text) sign).0 found.0 in
    let next : IsNext text (token_of text) (behind_token text) = next_cut text (ap is_token is ∙ some) in
    rw (is, found.1) at next

-- ---- a name

pub name_word : (token : List ℕ) → is_name token ≡ true → is_word token ≡ true
name_word token h = and_left (is_word token) (not (is_reserved token)) h

word_token : (token : List ℕ) → is_word token ≡ true → is_token token ≡ true
word_token token h = rw h refl

pub name_token : (token : List ℕ) → is_name token ≡ true → is_token token ≡ true
name_token token h = word_token token (name_word token h)

word_begins : (token : List ℕ) → is_word token ≡ true → begins_letter token ≡ true
word_begins [] h = h
word_begins (b ∷ token) h = and_left (is_letter b) (list_all is_name_byte token) h

pub name_next : (text token rest : List ℕ) → IsNext text token rest → is_name token ≡ true → name_at text ≡ Some (token, rest)
name_next text token rest next named =
    let first : begins_letter token ≡ true = word_begins token (name_word token named) in
    let free : not (is_reserved token) ≡ true = and_right (is_word token) (not (is_reserved token)) named in
    let is : names token ≡ true = rw (first, free) refl in
    rw (token_next text token rest next, behind_next text token rest next, is) refl

pub name_cut : (text token rest : List ℕ) → name_at text ≡ Some (token, rest) → IsNext text token rest × (is_name token ≡ true)
name_cut text token rest h =
    let found : (names (token_of text) ≡ true) × ((token_of text, behind_token text) ≡ (token, rest)) = if_some (names (token_of text)) (token_of text, behind_token text) (token, rest) h in
    let is : token_of text ≡ token = ap (λ (p : List ℕ × List ℕ). p.0) found.1 in
    let behind : behind_token text ≡ rest = ap (λ (p : List ℕ × List ℕ). p.1) found.1 in
    let first : begins_letter (token_of text) ≡ true = and_left (begins_letter (token_of text)) (not (is_reserved (token_of text))) found.0 in
    let free : not (is_reserved (token_of text)) ≡ true = and_right (begins_letter (token_of text)) (not (is_reserved (token_of text))) found.0 in
    let word : is_word (token_of text) ≡ true = word_cut text first in
    let next : IsNext text (token_of text) (behind_token text) = next_cut text (word_token (token_of text) word) in
    let named : is_name (token_of text) ≡ true = rw (word, free) refl in
    (rw (is, behind) at next, rw is at named)

-- ---- a number

number_digits : (most : ℕ) (token : List ℕ) (n : ℕ) → number_of most token ≡ Some n → is_digits token ≡ true
number_digits most token n h =
    let found : ((is_digits token && nat_le (value_of token) most) ≡ true) × (value_of token ≡ n) = if_some (is_digits token && nat_le (value_of token) most) (value_of token) n h in
    and_left (is_digits token) (nat_le (value_of token) most) found.0

digits_token : (token : List ℕ) → is_digits token ≡ true → is_token token ≡ true
digits_token token h = rw h (step (is_word token))
  where
    step : (t : Bool) → (t || true || list_any (bytes_eq token) signs) ≡ true
    step true = refl
    step false = refl

pub number_next : (text token rest : List ℕ) (n : ℕ) → IsNext text token rest → number_of (2 ^ 127 - 1) token ≡ Some n → number_at text ≡ Some (n, rest)
number_next text token rest n next is = rw (token_next text token rest next, behind_next text token rest next, is) refl

by_some : (rest : List ℕ) (o : Option ℕ) (n : ℕ) (behind : List ℕ) → number_by rest o ≡ Some (n, behind) → (o ≡ Some n) × (rest ≡ behind)
by_some rest None n behind h = cc
by_some rest (Some m) n behind h =
    let is : (m, rest) ≡ (n, behind) = cc in
    (ap (λ (p : ℕ × List ℕ). Some p.0) is, ap (λ (p : ℕ × List ℕ). p.1) is)

pub number_cut : (text rest : List ℕ) (n : ℕ) → number_at text ≡ Some (n, rest) → IsNext text (token_of text) rest × (number_of (2 ^ 127 - 1) (token_of text) ≡ Some n)
number_cut text rest n h =
    let found : (number_of (2 ^ 127 - 1) (token_of text) ≡ Some n) × (behind_token text ≡ rest) = by_some (behind_token text) (number_of (2 ^ 127 - 1) (token_of text)) n rest h in
    let some : is_token (token_of text) ≡ true = digits_token (token_of text) (number_digits (2 ^ 127 - 1) (token_of text) n found.0) in
    let next : IsNext text (token_of text) (behind_token text) = next_cut text some in
    (rw found.1 at next, found.0)

-- ---- END and nothing behind it

pub ends_next : (text token rest : List ℕ) → IsNext text token rest → token ≡ codes "END" → list_all is_space rest ≡ true → ends text ≡ true
ends_next text token rest next is spaces =
    let first : bytes_eq (token_of text) (codes "END") ≡ true = same_bytes (token_of text) (codes "END") (token_next text token rest next ∙ is) in
    let last : bytes_eq (token_of (behind_token text)) [] ≡ true = same_bytes (token_of (behind_token text)) [] (ap token_of (behind_next text token rest next) ∙ end_next rest spaces) in
    rw (first, last) refl

pub ends_cut : (text : List ℕ) → ends text ≡ true → IsNext text (codes "END") (behind_token text) × (list_all is_space (behind_token text) ≡ true)
ends_cut text h =
    let first : bytes_eq (token_of text) (codes "END") ≡ true = and_left (bytes_eq (token_of text) (codes "END")) (bytes_eq (token_of (behind_token text)) []) h in
    let last : bytes_eq (token_of (behind_token text)) [] ≡ true = and_right (bytes_eq (token_of text) (codes "END")) (bytes_eq (token_of (behind_token text)) []) h in
    let is : token_of text ≡ codes "END" = (bytes_eq-Decides (token_of text) (codes "END")).0 first in
    let next : IsNext text (token_of text) (behind_token text) = next_cut text (ap is_token is) in
    (rw is at next, end_cut (behind_token text) ((bytes_eq-Decides (token_of (behind_token text)) []).0 last))
