-- Strings part by part.
use Rattle.std.proofs.Common.{◌≡◌, ◌≢◌, ◌∙◌, ap, sym, subst, refl, ℕ, ◌+◌, ◌<◌, ◌≤◌, true, false, Option, Some, None, List, [], ◌∷◌, ◌++◌, length, take, drop, get_or, arith, length-append, append_assoc, append-nil}
use Rattle.std.specs.Prelude.{encode_utf8, ◌==◌, is_some}
use Rattle.std.proofs.lemmas.Bool.{ne_eqb}
use Rattle.std.proofs.lemmas.List.{take-append-drop, length-take-le}
use Rattle.std.proofs.lemmas.Str.{byte_from_char}
use Rattle.std.proofs.Math.Seq.{take-append_seam, take-add}
use Rattle.b_lex.specs.Strings.{IsBody, IsBodyOf, BeginsChar, IsStringEnd, IsStringFront, is_plain, escape_of}
use Rattle.b_lex.specs.declared.fronts.Front.{Front}
use Rattle.b_lex.proofs.Chars.{some}

moved : (x y p q : List ℕ) → x ≡ y → p ≡ q → IsBody x p → IsBody y q
moved x y p q e f i = subst (λ t. IsBody t q) e (subst (λ t. IsBody x t) f i)

pub joined : (a v b w : List ℕ) → IsBody a v → IsBody b w → IsBody (a ++ b) (v ++ w)
joined a v b w IsBody.empty more = more
joined a v b w (IsBody.plain c body value s p front) more =
    moved (encode_utf8 c ++ (body ++ b)) ((encode_utf8 c ++ body) ++ b) (encode_utf8 c ++ (value ++ w)) ((encode_utf8 c ++ value) ++ w)
    (sym (append_assoc (encode_utf8 c) body b)) (sym (append_assoc (encode_utf8 c) value w))
    (IsBody.plain c (body ++ b) (value ++ w) s p (joined body value b w front more))
joined a v b w (IsBody.escaped letter byte body value e front) more = IsBody.escaped letter byte (body ++ b) (value ++ w) e (joined body value b w front more)

-- a string so far, and its next part
pub further : (text : List ℕ) (at n value m : ℕ) → IsBodyOf (take at text) value → IsBodyOf (take n (drop at text)) m → IsBodyOf (take (at + n) text) (value + m)
further text at n value m front next = record {
  value = front.value ++ next.value;
  stands = subst (λ t. IsBody t (front.value ++ next.value)) (sym (take-add at n text)) (joined (take at text) front.value (take n (drop at text)) next.value front.stands next.stands);
  size_is = length-append front.value next.value ∙ omega (arith, front.size_is, next.size_is);
}

pub none_yet : (text : List ℕ) → IsBodyOf (take 0 text) 0
none_yet text = record { value = []; stands = IsBody.empty; size_is = refl }

-- the string so far, and how it ends
pub done : (text : List ℕ) (at value : ℕ) (front : Front) → IsBodyOf (take at text) value → at ≤ length text → IsStringEnd at value (drop at text) front → IsStringFront text front
done text at value front so_far within ends = record {
  body = take at text;
  value = so_far.value;
  after = drop at text;
  is = sym (take-append-drop at text);
  stands = so_far.stands;
  ends = subst (λ n. IsStringEnd n (length so_far.value) (drop at text) front) (sym (length-take-le at text within)) (subst (λ n. IsStringEnd at n (drop at text) front) (sym so_far.size_is) ends);
}

escape_by : (letter : ℕ) (after : List ℕ) (o : Option ℕ) → escape_of letter ≡ o → is_some o ≡ true → IsBodyOf (92 ∷ letter ∷ []) 1
escape_by letter after None e some = absurd (cc)
escape_by letter after (Some b) e some = record { value = b ∷ []; stands = IsBody.escaped letter b [] [] e IsBody.empty; size_is = refl }

-- a backslash and a letter that stands for something
pub escape : (after : List ℕ) → 0 < length after → is_some (escape_of (get_or after 0 0)) ≡ true → IsBodyOf (92 ∷ take 1 after) 1
escape [] within some = absurd (omega arith)
escape (letter ∷ after) within some = escape_by letter after (escape_of letter) refl some

plain_of : (c b : ℕ) → (c < 128 → b ≡ c) → b ≢ 34 → b ≢ 10 → b ≢ 92 → is_plain c ≡ true
plain_of c b same quote line slash =
    let no_quote : (c == 34) ≡ false = ne_eqb c 34 (λ e. let s : b ≡ c = same (omega arith) in quote (omega arith)) in
    let no_line : (c == 10) ≡ false = ne_eqb c 10 (λ e. let s : b ≡ c = same (omega arith) in line (omega arith)) in
    let no_slash : (c == 92) ≡ false = ne_eqb c 92 (λ e. let s : b ≡ c = same (omega arith) in slash (omega arith)) in
    rw (no_quote, no_line, no_slash) refl

-- a character that stands for itself
pub character : (rest : List ℕ) (n : ℕ) → get_or rest 0 0 ≢ 34 → get_or rest 0 0 ≢ 10 → get_or rest 0 0 ≢ 92 → BeginsChar rest n → IsBodyOf (take n rest) n × (0 < n) × (n ≤ length rest) × (n ≤ n)
character rest n quote line slash begins =
    let c = begins.char in
    let front : take n rest ≡ encode_utf8 c = ap (λ m. take m rest) begins.len ∙ ap (λ t. take (length (encode_utf8 c)) t) begins.is ∙ take-append_seam (encode_utf8 c) (drop n rest) in
    let long : length rest ≡ length (encode_utf8 c) + length (drop n rest) = ap length begins.is ∙ length-append (encode_utf8 c) (drop n rest) in
    let len : n ≡ length (encode_utf8 c) = begins.len in
    let positive : 0 < length (encode_utf8 c) = some c in
    let plain : is_plain c ≡ true = plain_of c (get_or rest 0 0) (λ small. byte_from_char rest (drop n rest) c begins.is small) quote line slash in
    let whole : encode_utf8 c ++ [] ≡ take n rest = append-nil (encode_utf8 c) ∙ sym front in (
      record { value = encode_utf8 c ++ []; stands = subst (λ t. IsBody t (encode_utf8 c ++ [])) whole (IsBody.plain c [] [] begins.is_scalar plain IsBody.empty); size_is = ap length (append-nil (encode_utf8 c)) ∙ sym len },
      omega arith,
      omega arith,
      omega arith,
    )
