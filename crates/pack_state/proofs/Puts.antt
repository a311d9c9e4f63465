-- Values as bytes, kind by kind.
use Rattle.std.proofs.Common.{◌≡◌, ◌∙◌, ◌<◌, ◌≤◌, ◌+◌, ◌^◌, ℕ, zero, suc, ℤ, List, [], ◌∷◌, ◌++◌, map, sum, length, drop, get_or, sym, ap, subst, arith, append_assoc, Result, Ok, Err}
use Rattle.std.specs.Prelude.{OnOk}
use Rattle.std.specs.Int.{w128, cast_unsigned}
use Rattle.std.specs.List.{AllByRecursion, concat}
use Rattle.std.proofs.lemmas.List.{length-map, drop_more}
use Rattle.b_values.specs.declared.values.Value.{Value}
use Rattle.b_values.specs.declared.values.Value.TheOpen.{Value-F}
use Rattle.b_values.specs.declared.values.Value.TheVariants.{Int, Text, Pair, Set, rolls-Int, rolls-Text, rolls-Pair, rolls-Set, outs-Pair, outs-Set}
use Rattle.b_values.specs.SizeLaws.{count_at}
use Rattle.b_values.specs.Values.{node_count}
use Rattle.engine_face.specs.Words.{WordsFit}
use Rattle.engine_face.specs.WordLaws.{words-Pair, words-Set}
use Rattle.pack_state.specs.Bytes.{value_bytes, values_bytes, count_bytes, word_bytes}
use Rattle.pack_state.specs.CompleteLaws.{sum_cons}
use Rattle.pack_state.specs.Packable.{IsShort}
use Rattle.pack_state.specs.PackableLaws.{text_short, couple_short, set_short, members_short}
use Rattle.pack_state.specs.SoundLaws.{bytes_at, concat_bytes}

pub on_ok : {A E P : Type 0} (r : Result A E) → P → OnOk r P
on_ok (Ok x) p = p
on_ok (Err e) p = tt

pub on_ok_map : {A E P Q : Type 0} (r : Result A E) → (P → Q) → OnOk r P → OnOk r Q
on_ok_map (Ok x) f p = f p
on_ok_map (Err e) f p = tt

pub number_bytes : (v : Value) (n : ℤ) (word : ℕ) → v ≡ Int n → word ≡ cast_unsigned w128 n → word_bytes word ≡ value_bytes v
number_bytes v n word is same = ap word_bytes same ∙ sym (ap value_bytes is ∙ bytes_at (Int n) (Value-F.Int n) (rolls-Int n))

-- ---- texts

pub text_fits : (v : Value) (s t : List ℕ) → v ≡ Text s → t ≡ s → IsShort v → length t < 2 ^ 32
text_fits v s t is same h = subst (λ (bs : List ℕ). length bs < 2 ^ 32) (sym same) (text_short s (subst IsShort is h))

pub text_bytes : (v : Value) (s t : List ℕ) → v ≡ Text s → t ≡ s → count_bytes (length t) ++ t ≡ value_bytes v
text_bytes v s t is same = ap (λ (bs : List ℕ). count_bytes (length bs) ++ bs) same ∙ sym (ap value_bytes is ∙ bytes_at (Text s) (Value-F.Text s) (rolls-Text s))

-- ---- couples

pub parts_fit : (v a b : Value) → v ≡ Pair a b → IsShort v → IsShort a × IsShort b
parts_fit v a b is h = couple_short a b (subst IsShort is h)

pub couple_bytes : (v a b x y : Value) (start middle end : List ℕ) → v ≡ Pair a b → x ≡ a → y ≡ b → middle ≡ start ++ value_bytes x → end ≡ middle ++ value_bytes y → end ≡ start ++ value_bytes v
couple_bytes v a b x y start middle end is first second here there =
    there ∙ ap (λ (bs : List ℕ). bs ++ value_bytes y) here ∙ append_assoc start (value_bytes x) (value_bytes y)
    ∙ ap (λ (w : Value). start ++ (value_bytes w ++ value_bytes y)) first ∙ ap (λ (w : Value). start ++ (value_bytes a ++ value_bytes w)) second
    ∙ ap (λ (bs : List ℕ). start ++ bs) (sym (ap value_bytes is ∙ bytes_at (Pair a b) (Value-F.Pair a b) (rolls-Pair a b)))

pub couple_words : (v a b x y : Value) → v ≡ Pair a b → x ≡ a → y ≡ b → WordsFit x → WordsFit y → WordsFit v
couple_words v a b x y is first second h k = subst WordsFit (sym is) (words-Pair a b (subst WordsFit first h) (subst WordsFit second k))

-- ---- sets

pub set_fits : (v : Value) (xs ys : List Value) → v ≡ Set xs → ys ≡ xs → IsShort v → (length ys < 2 ^ 32) × AllByRecursion IsShort ys
set_fits v xs ys is same h =
    let short = subst IsShort is h in
    subst (λ (zs : List Value). (length zs < 2 ^ 32) × AllByRecursion IsShort zs) (sym same) (set_short xs short, members_short xs short)

pub set_bytes : (v : Value) (xs ys : List Value) → v ≡ Set xs → ys ≡ xs → count_bytes (length ys) ++ values_bytes ys ≡ value_bytes v
set_bytes v xs ys is same =
    ap (λ (zs : List Value). count_bytes (length zs) ++ values_bytes zs) same
    ∙ sym (ap value_bytes is ∙ bytes_at (Set xs) (Value-F.Set xs) (rolls-Set xs)
    ∙ ap (λ (n : ℕ). count_bytes n ++ concat (map value_bytes xs)) (length-map xs value_bytes)
    ∙ ap (λ (bs : List ℕ). count_bytes (length xs) ++ bs) (concat_bytes xs))

pub set_words : (v : Value) (xs ys : List Value) → v ≡ Set xs → ys ≡ xs → AllByRecursion WordsFit ys → WordsFit v
set_words v xs ys is same h = subst WordsFit (sym is) (words-Set xs (subst (AllByRecursion WordsFit) same h))

-- ---- sizes

pub couple_nodes : (v a b : Value) → v ≡ Pair a b → node_count v ≡ 1 + node_count a + node_count b
couple_nodes v a b is = ap node_count is ∙ count_at (Pair a b) (Value-F.Pair a b) (outs-Pair a b)

pub set_nodes : (v : Value) (xs ys : List Value) → v ≡ Set xs → ys ≡ xs → node_count v ≡ 1 + sum (map node_count ys)
set_nodes v xs ys is same = ap node_count is ∙ count_at (Set xs) (Value-F.Set xs) (outs-Set xs) ∙ ap (λ (zs : List Value). 1 + sum (map node_count zs)) (sym same)

pub one_of : (xs : List Value) (i : ℕ) (x : Value) → i < length xs → x ≡ get_or xs i x → node_count x ≤ sum (map node_count xs)
one_of [] i x h e = absurd (omega arith)
one_of (y ∷ ys) zero x h e =
    let same : node_count x ≡ node_count y = ap node_count e in
    let is = sum_cons y ys in
    omega (arith, same, is)
one_of (y ∷ ys) (suc i) x h e =
    let r = one_of ys i x (omega arith) e in
    let is = sum_cons y ys in
    omega (arith, r, is)

pub short_at : (xs : List Value) (i : ℕ) (x : Value) → i < length xs → x ≡ get_or xs i x → AllByRecursion IsShort (drop i xs) → IsShort x
short_at xs i x h e short = (subst (AllByRecursion IsShort) (drop_more xs i x h ∙ ap (λ (y : Value). y ∷ drop (i + 1) xs) (sym e)) short).0
