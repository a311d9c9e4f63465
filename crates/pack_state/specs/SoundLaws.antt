-- What is read at the front of bytes is a value of the type, and its bytes are that front.
use Rattle.std.proofs.Common.{◌≡◌, ◌∙◌, ◌↔◌, ◌<◌, ◌≤◌, sym, ap, subst, refl, ℕ, zero, suc, ◌^◌, ◌==◌, arith, append_assoc, Bool, true, false, ◌&&◌, ℤ, pos, negsuc, List, [], ◌∷◌, ◌++◌, map, length, nat_le, nat_lt, slice_get, Option, Some, None, IsSomeAnd, if◌then◌else◌}
use Rattle.std.proofs.lemmas.Int.{of_z-to_z}
use Rattle.std.proofs.lemmas.Str.{IsUtf8-from_is_utf8}
use Rattle.std.proofs.Math.Facts.{sfits_to_z}
use mir.Val.{SFits}
use Rattle.std.proofs.lemmas.List.{length-map}
use Rattle.std.specs.Bool.{beq}
use Rattle.std.specs.Int.{w128, cast_signed}
use Rattle.std.specs.List.{AllByRecursion, concat}
use Rattle.std.specs.Option.{option_map_or}
use Rattle.std.specs.Ordering.{is_lt}
use Rattle.std.specs.Str.{is_utf8}
use Rattle.std.specs.declared.cmp.Ordering.{Ordering}
use Rattle.std.specs.declared.cmp.Ordering.TheVariants.{Less, Equal, Greater}
use Rattle.ascending.specs.Ascending.{IsAscending}
use Rattle.ascending.specs.AscendingLaws.{ascending_none, ascending_one, ascending_cons, ascending_head}
use Rattle.b_values.specs.OrderLaws.{value_total}
use Rattle.b_values.specs.Reading.{FitsNumber}
use Rattle.engine_face.specs.Words.{WordsFit}
use Rattle.b_values.specs.ReadingDescent.{Found, with_found, is_text}
use Rattle.b_values.specs.TypeLaws.{typed_at}
use Rattle.b_values.specs.Types.{HasType, LayerHasType, IsText, IsElement}
use Rattle.b_values.specs.ValueLaws.{is_int, is_truth, is_text as text_is_value, is_element, is_couple, is_set}
use Rattle.b_values.specs.Values.{IsValue, value_cmp}
use Rattle.b_values.specs.declared.types.SetFace.{SetFace}
use Rattle.b_values.specs.declared.types.Ty.{Ty, out-Ty, roll-Ty, fold-Ty, fold-roll-Ty, map-Ty, ind-Ty, out-roll-Ty}
use Rattle.b_values.specs.declared.types.Ty.TheOpen.{Ty-F}
use Rattle.b_values.specs.declared.values.Value.{Value, out-Value, roll-Value, fold-roll-Value, map-Value}
use Rattle.b_values.specs.declared.values.Value.TheOpen.{Value-F}
use Rattle.b_values.specs.declared.values.Value.TheVariants as value
use Rattle.engine_face.specs.WordLaws.{words-Int, words-Truth, words-Text, words-Elem, words-Pair, words-Set}
use Rattle.pack_state.specs.Bytes.{byte_layer, value_bytes, values_bytes, int_bytes, word_bytes, count_bytes}
use Rattle.pack_state.specs.ByteLaws.{found_is, if_is, lt_from, eq_from, both_true, first_is, count_is, word_is}
use Rattle.pack_state.specs.Unpacking.{Reader, first_bytes, read_count, number_or_none, read_number, read_truth, text_or_none, read_text, has_element, read_element, read_couple, read_many, ascends_behind, ascends, set_or_none, read_set, read_layer, reader, word_of, are_bytes}

-- ---- types, layer by layer

abbrev pub Below : (Ty → Type 0) → Ty-F Ty → Type 0
Below P Ty-F.Int = Unit {0}
Below P Ty-F.Truth = Unit {0}
Below P Ty-F.Text = Unit {0}
Below P (Ty-F.Elem k) = Unit {0}
Below P (Ty-F.Pair a b) = P a × P b
Below P (Ty-F.Set a) = P a

below_of : (P : Ty → Type 0) (y : Ty-F ((t : Ty) × P t)) → Below P (map-Ty ((t : Ty) × P t) Ty (λ e. e.0) y)
below_of P Ty-F.Int = tt
below_of P Ty-F.Truth = tt
below_of P Ty-F.Text = tt
below_of P (Ty-F.Elem k) = tt
below_of P (Ty-F.Pair a b) = (a.1, b.1)
below_of P (Ty-F.Set a) = a.1

pub by_type_layers : (P : Ty → Type 0) → ((x : Ty-F Ty) → Below P x → P (roll-Ty x)) → (t : Ty) → P t
by_type_layers P step = ind-Ty P (λ x y is. step x (subst (Below P) is (below_of P y)))

pub reader_roll : (sets : List SetFace) (x : Ty-F Ty) → reader sets (roll-Ty x) ≡ read_layer sets (map-Ty Ty Reader (reader sets) x)
reader_roll sets x = fold-roll-Ty Reader (read_layer sets) x

-- ---- bytes, layer by layer

pub bytes_roll : (y : Value-F Value) → value_bytes (roll-Value y) ≡ byte_layer (map-Value Value (List ℕ) value_bytes y)
bytes_roll y = fold-roll-Value (List ℕ) byte_layer y

pub bytes_at : (v : Value) (y : Value-F Value) → roll-Value y ≡ v → value_bytes v ≡ byte_layer (map-Value Value (List ℕ) value_bytes y)
bytes_at v y e = ap value_bytes (sym e) ∙ bytes_roll y

pub concat_bytes : (xs : List Value) → concat (map value_bytes xs) ≡ values_bytes xs
concat_bytes [] = refl
concat_bytes (x ∷ xs) = ap (λ (bs : List ℕ). value_bytes x ++ bs) (concat_bytes xs)

-- ---- what is read

-- a value that stands at the front of the bytes, with what follows it
pub record IsRead (T : Value → Type 0) (bytes : List ℕ) (v : Value) (rest : List ℕ) : Type 0 where
  pub typed : T v
  pub is_value : IsValue v
  pub words : WordsFit v
  pub whole : bytes ≡ value_bytes v ++ rest

abbrev pub Reads : (Value → Type 0) → Reader → Type 0
Reads T read = (bytes : List ℕ) (p : Value × List ℕ) → read bytes ≡ Some p → IsRead T bytes p.0 p.1

moved : (T : Value → Type 0) (bytes : List ℕ) (v : Value) (rest : List ℕ) (p : Value × List ℕ) → (v, rest) ≡ p → IsRead T bytes v rest → IsRead T bytes p.0 p.1
moved T bytes v rest p e r = subst (λ (q : Value × List ℕ). IsRead T bytes q.0 q.1) e r

range_of : (z : ℤ) → SFits w128 z → FitsNumber z
range_of (pos n) h = h.sfits
range_of (negsuc n) h = h.sfits

number_in_range : (n : ℕ) → n < 2 ^ 128 → FitsNumber (cast_signed w128 n)
number_in_range n h = range_of (cast_signed w128 n) (sfits_to_z {w = w128} {n = n} (record { fits = h }))

-- ---- lists

lt_is : (r : Ordering) → is_lt r ≡ true → r ≡ Less
lt_is Less h = refl
lt_is Equal h = absurd (cc)
lt_is Greater h = absurd (cc)

all_above : (v w : Value) (ws : List Value) → value_cmp v w ≡ Less → AllByRecursion (λ y. value_cmp w y ≡ Less) ws → AllByRecursion (λ y. value_cmp v y ≡ Less) ws
all_above v w [] h all = tt
all_above v w (y ∷ ys) h all = (value_total.trans v w y h all.0, all_above v w ys h all.1)

behind_is : (v : Value) (vs : List Value) → ascends_behind v vs ≡ true → IsAscending value_cmp (v ∷ vs)
behind_is v [] h = ascending_one value_cmp v
behind_is v (w ∷ ws) h =
    let parts = both_true _ _ h in
    let less = lt_is (value_cmp v w) parts.0 in
    let rest = behind_is w ws parts.1 in
    ascending_cons value_cmp v (w ∷ ws) (less, all_above v w ws less (ascending_head value_cmp w ws rest)) rest

pub ascends_is : (vs : List Value) → ascends vs ≡ true → IsAscending value_cmp vs
ascends_is [] h = ascending_none value_cmp
ascends_is (v ∷ vs) h = behind_is v vs h

module _ (T : Value → Type 0) where
  -- values that stand at the front of the bytes, with what follows them
  pub record AreRead (bytes : List ℕ) (n : ℕ) (vs : List Value) (rest : List ℕ) : Type 0 where
    pub typed : AllByRecursion T vs
    pub are_values : AllByRecursion IsValue vs
    pub words : AllByRecursion WordsFit vs
    pub whole : bytes ≡ values_bytes vs ++ rest
    pub size : length vs ≡ n

  many_read : (read : Reader) → Reads T read → (n : ℕ) (bytes : List ℕ) (p : List Value × List ℕ) → read_many read n bytes ≡ Some p → AreRead bytes n p.0 p.1
  many_read read k zero bytes p e =
      let same : ([], bytes) ≡ p = cc in
      subst (λ (q : List Value × List ℕ). AreRead bytes 0 q.0 q.1) same (record { typed = tt; are_values = tt; words = tt; whole = refl; size = refl })
  many_read read k (suc n) bytes p e =
      let f = found_is (read bytes) (λ v rest. with_found (read_many read n rest) (λ vs more. Some (v ∷ vs, more))) p e in
      let v = k bytes f.0 f.1.0 in
      let g = found_is (read_many read n f.0.1) (λ vs more. Some (f.0.0 ∷ vs, more)) p f.1.1 in
      let vs = many_read read k n f.0.1 g.0 g.1.0 in
      let same : (f.0.0 ∷ g.0.0, g.0.1) ≡ p = cc in
      subst (λ (q : List Value × List ℕ). AreRead bytes (suc n) q.0 q.1) same (record {
        typed = (v.typed, vs.typed);
        are_values = (v.is_value, vs.are_values);
        words = (v.words, vs.words);
        whole = v.whole ∙ ap (λ (bs : List ℕ). value_bytes f.0.0 ++ bs) vs.whole ∙ sym (append_assoc (value_bytes f.0.0) (values_bytes g.0.0) g.0.1);
        size = ap suc vs.size;
      })

-- ---- each kind

module _ (sets : List SetFace) where
  has : (x : Ty-F Ty) (v : Value) (y : Value-F Value) → out-Value v ≡ y → LayerHasType sets (HasType sets) x y → HasType sets (roll-Ty x) v
  has x v y e l = (typed_at sets (roll-Ty x) x v y (out-roll-Ty x) e).1 l

  abbrev ReadsType : Ty-F Ty → Reader → Type 0
  ReadsType x = Reads (HasType sets (roll-Ty x))

  int_reads : ReadsType Ty-F.Int read_number
  int_reads bytes p e =
      let f = found_is (first_bytes 16 bytes) number_or_none p e in
      let is = first_is 16 bytes f.0 f.1.0 in
      let z = cast_signed w128 (word_of f.0.0) in
      let t = if_is (are_bytes f.0.0) (value.Int z, f.0.1) p f.1.1 in
      let word = word_is f.0.0 is.size t.0 in
      moved (HasType sets (roll-Ty Ty-F.Int)) bytes (value.Int z) f.0.1 p t.1 (record {
        typed = has Ty-F.Int (value.Int z) (Value-F.Int z) (value.outs-Int z) tt;
        is_value = is_int z;
        words = words-Int z (number_in_range (word_of f.0.0) word.small);
        whole = is.whole ∙ ap (λ (bs : List ℕ). bs ++ f.0.1)
            (sym (bytes_at (value.Int z) (Value-F.Int z) (value.rolls-Int z) ∙ ap word_bytes (of_z-to_z w128 (word_of f.0.0) word.small) ∙ word.bytes));
      })

  truth_read : (b : Bool) (n : ℕ) (bs : List ℕ) (p : Value × List ℕ) → n ≡ (if b then 1 else 0) → (value.Truth b, bs) ≡ p → IsRead (HasType sets (roll-Ty Ty-F.Truth)) (n ∷ bs) p.0 p.1
  truth_read b n bs p is same = moved (HasType sets (roll-Ty Ty-F.Truth)) (n ∷ bs) (value.Truth b) bs p same (record {
    typed = has Ty-F.Truth (value.Truth b) (Value-F.Truth b) (value.outs-Truth b) tt;
    is_value = is_truth b;
    words = words-Truth b;
    whole = ap (λ (m : ℕ). m ∷ bs) is ∙ ap (λ (front : List ℕ). front ++ bs) (sym (bytes_at (value.Truth b) (Value-F.Truth b) (value.rolls-Truth b)));
  })

  truth_by : (n : ℕ) (bs : List ℕ) (p : Value × List ℕ) (c d : Bool) → (n == 0) ≡ c → (n == 1) ≡ d
      → (if c then Some (value.Truth false, bs) else (if d then Some (value.Truth true, bs) else None)) ≡ Some p → IsRead (HasType sets (roll-Ty Ty-F.Truth)) (n ∷ bs) p.0 p.1
  truth_by n bs p true d is on e = truth_read false n bs p (eq_from n 0 is) cc
  truth_by n bs p false true is on e = truth_read true n bs p (eq_from n 1 on) cc
  truth_by n bs p false false is on e = absurd (cc)

  truth_reads : ReadsType Ty-F.Truth read_truth
  truth_reads [] p e = absurd (cc)
  truth_reads (n ∷ bs) p e = truth_by n bs p (n == 0) (n == 1) refl refl e

  text_is : (front : List ℕ) → is_text front ≡ true → IsText front
  text_is front h = let parts = both_true _ _ h in record { utf8 = IsUtf8-from_is_utf8 front parts.0; short = lt_from (length front) (2 ^ 32) parts.1 }

  text_reads : ReadsType Ty-F.Text read_text
  text_reads bytes p e =
      let f = found_is (read_count bytes) (λ n rest. with_found (first_bytes n rest) text_or_none) p e in
      let count = count_is bytes f.0 f.1.0 in
      let g = found_is (first_bytes f.0.0 f.0.1) text_or_none p f.1.1 in
      let is = first_is f.0.0 f.0.1 g.0 g.1.0 in
      let t = if_is (is_text g.0.0) (value.Text g.0.0, g.0.1) p g.1.1 in
      let s = g.0.0 in
      moved (HasType sets (roll-Ty Ty-F.Text)) bytes (value.Text s) g.0.1 p t.1 (record {
        typed = has Ty-F.Text (value.Text s) (Value-F.Text s) (value.outs-Text s) (text_is s t.0);
        is_value = text_is_value s;
        words = words-Text s;
        whole = count.whole ∙ ap (λ (bs : List ℕ). count_bytes f.0.0 ++ bs) is.whole
            ∙ ap (λ (n : ℕ). count_bytes n ++ (s ++ g.0.1)) (sym is.size)
            ∙ sym (append_assoc (count_bytes (length s)) s g.0.1)
            ∙ ap (λ (bs : List ℕ). bs ++ g.0.1) (sym (bytes_at (value.Text s) (Value-F.Text s) (value.rolls-Text s)));
      })

  element_by : (o : Option SetFace) (index : ℕ) → option_map_or (λ f. nat_lt index (length f.elements)) o false ≡ true → IsSomeAnd o (λ f. index < length f.elements)
  element_by None index h = absurd (cc)
  element_by (Some f) index h = lt_from index (length f.elements) h

  element_reads : (k : ℕ) → ReadsType (Ty-F.Elem k) (read_element sets k)
  element_reads k bytes p e =
      let f = found_is (read_count bytes) (λ index rest. if has_element sets k index then Some (value.Elem k index, rest) else None) p e in
      let count = count_is bytes f.0 f.1.0 in
      let t = if_is (has_element sets k f.0.0) (value.Elem k f.0.0, f.0.1) p f.1.1 in
      let n = f.0.0 in
      moved (HasType sets (roll-Ty (Ty-F.Elem k))) bytes (value.Elem k n) f.0.1 p t.1 (record {
        typed = has (Ty-F.Elem k) (value.Elem k n) (Value-F.Elem k n) (value.outs-Elem k n) (refl, element_by (slice_get sets k) n t.0);
        is_value = is_element k n;
        words = words-Elem k n count.small;
        whole = count.whole ∙ ap (λ (bs : List ℕ). bs ++ f.0.1) (sym (bytes_at (value.Elem k n) (Value-F.Elem k n) (value.rolls-Elem k n)));
      })

  couple_reads : (t u : Ty) → Reads (HasType sets t) (reader sets t) → Reads (HasType sets u) (reader sets u) → ReadsType (Ty-F.Pair t u) (read_couple (reader sets t) (reader sets u))
  couple_reads t u i j bytes p e =
      let f = found_is (reader sets t bytes) (λ a rest. with_found (reader sets u rest) (λ b more. Some (value.Pair a b, more))) p e in
      let first = i bytes f.0 f.1.0 in
      let g = found_is (reader sets u f.0.1) (λ b more. Some (value.Pair f.0.0 b, more)) p f.1.1 in
      let second = j f.0.1 g.0 g.1.0 in
      let a = f.0.0 in
      let b = g.0.0 in
      let same : (value.Pair a b, g.0.1) ≡ p = cc in
      moved (HasType sets (roll-Ty (Ty-F.Pair t u))) bytes (value.Pair a b) g.0.1 p same (record {
        typed = has (Ty-F.Pair t u) (value.Pair a b) (Value-F.Pair a b) (value.outs-Pair a b) (first.typed, second.typed);
        is_value = is_couple a b first.is_value second.is_value;
        words = words-Pair a b first.words second.words;
        whole = first.whole ∙ ap (λ (bs : List ℕ). value_bytes a ++ bs) second.whole ∙ sym (append_assoc (value_bytes a) (value_bytes b) g.0.1)
            ∙ ap (λ (bs : List ℕ). bs ++ g.0.1) (sym (bytes_at (value.Pair a b) (Value-F.Pair a b) (value.rolls-Pair a b)));
      })

  set_reads : (t : Ty) → Reads (HasType sets t) (reader sets t) → ReadsType (Ty-F.Set t) (read_set (reader sets t))
  set_reads t i bytes p e =
      let f = found_is (read_count bytes) (λ n rest. with_found (read_many (reader sets t) n rest) set_or_none) p e in
      let count = count_is bytes f.0 f.1.0 in
      let g = found_is (read_many (reader sets t) f.0.0 f.0.1) set_or_none p f.1.1 in
      let read = many_read (HasType sets t) (reader sets t) i f.0.0 f.0.1 g.0 g.1.0 in
      let up = if_is (ascends g.0.0) (value.Set g.0.0, g.0.1) p g.1.1 in
      let xs = g.0.0 in
      moved (HasType sets (roll-Ty (Ty-F.Set t))) bytes (value.Set xs) g.0.1 p up.1 (record {
        typed = has (Ty-F.Set t) (value.Set xs) (Value-F.Set xs) (value.outs-Set xs) read.typed;
        is_value = is_set xs (ascends_is xs up.0) read.are_values;
        words = words-Set xs read.words;
        whole = count.whole ∙ ap (λ (bs : List ℕ). count_bytes f.0.0 ++ bs) read.whole
            ∙ ap (λ (n : ℕ). count_bytes n ++ (values_bytes xs ++ g.0.1)) (sym (length-map xs value_bytes ∙ read.size))
            ∙ sym (append_assoc (count_bytes (length (map value_bytes xs))) (values_bytes xs) g.0.1)
            ∙ ap (λ (bs : List ℕ). (count_bytes (length (map value_bytes xs)) ++ bs) ++ g.0.1) (sym (concat_bytes xs))
            ∙ ap (λ (bs : List ℕ). bs ++ g.0.1) (sym (bytes_at (value.Set xs) (Value-F.Set xs) (value.rolls-Set xs)));
      })

  layer_reads : (x : Ty-F Ty) → Below (λ t. Reads (HasType sets t) (reader sets t)) x → ReadsType x (read_layer sets (map-Ty Ty Reader (reader sets) x))
  layer_reads Ty-F.Int k = int_reads
  layer_reads Ty-F.Truth k = truth_reads
  layer_reads Ty-F.Text k = text_reads
  layer_reads (Ty-F.Elem n) k = element_reads n
  layer_reads (Ty-F.Pair t u) k = couple_reads t u k.0 k.1
  layer_reads (Ty-F.Set t) k = set_reads t k

  -- what a reader reads stands at the front of the bytes
  pub type_reads : (t : Ty) → Reads (HasType sets t) (reader sets t)
  type_reads = by_type_layers (λ t. Reads (HasType sets t) (reader sets t))
      (λ x k. subst (ReadsType x) (sym (reader_roll sets x)) (layer_reads x k))
