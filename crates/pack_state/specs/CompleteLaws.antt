-- The bytes of a value are read as that value, whatever follows them.
use Rattle.std.proofs.Common.{◌≡◌, ◌∙◌, ◌<◌, ◌≤◌, sym, ap, subst, refl, ℕ, zero, suc, ◌+◌, ◌^◌, arith, append_assoc, Bool, true, false, ◌&&◌, ℤ, pos, negsuc, List, [], ◌∷◌, ◌++◌, map, length, sum, nat_lt, slice_get, Option, Some, None, IsSomeAnd, if◌then◌else◌}
use Rattle.std.proofs.lemmas.Int.{to_z-of_z}
use Rattle.std.proofs.lemmas.List.{length-map}
use Rattle.std.proofs.lemmas.List.Sums.{sum_by-cons}
use Rattle.std.proofs.lemmas.Str.{is_utf8-from_IsUtf8}
use Rattle.std.proofs.Math.Facts.{Fits-of_z}
use mir.Val.{SFits}
use Rattle.std.specs.Int.{w128, cast_unsigned, cast_signed}
use Rattle.std.specs.List.{AllByRecursion, concat}
use Rattle.std.specs.Option.{option_map_or}
use Rattle.std.specs.Ordering.{is_lt}
use Rattle.std.specs.declared.cmp.Ordering.TheVariants.{Less}
use Rattle.ascending.specs.Ascending.{IsAscending}
use Rattle.ascending.specs.AscendingLaws.{ascending_head, ascending_tail}
use Rattle.b_values.specs.Reading.{FitsNumber}
use Rattle.engine_face.specs.Words.{WordsFit}
use Rattle.b_values.specs.ReadingDescent.{Found, with_found, is_text}
use Rattle.b_values.specs.SizeLaws.{count_at, count-Pair, count-Set}
use Rattle.b_values.specs.TypeLaws.{typed_at}
use Rattle.b_values.specs.Types.{HasType, LayerHasType, IsText, IsElement}
use Rattle.b_values.specs.ValueLaws.{couple_parts, set_members, set_ascends}
use Rattle.b_values.specs.Values.{IsValue, value_cmp, node_count, count_layer}
use Rattle.b_values.specs.declared.types.SetFace.{SetFace}
use Rattle.b_values.specs.declared.types.Ty.{Ty, roll-Ty, map-Ty, out-roll-Ty}
use Rattle.b_values.specs.declared.types.Ty.TheOpen.{Ty-F}
use Rattle.b_values.specs.declared.values.Value.{Value, out-Value, roll-Value, roll-out-Value, map-Value}
use Rattle.b_values.specs.declared.values.Value.TheOpen.{Value-F}
use Rattle.b_values.specs.declared.values.Value.TheVariants as value
use Rattle.engine_face.specs.WordLaws.{number_fits, index_fits, couple_fits, members_fit}
use Rattle.pack_state.specs.Bytes.{byte_layer, value_bytes, values_bytes, int_bytes, word_bytes, count_bytes}
use Rattle.pack_state.specs.ByteLaws.{lt_true, first_of_size, first_all, count_read, word_read, word_are_bytes}
use Rattle.pack_state.specs.SoundLaws.{Below, by_type_layers, reader_roll, bytes_roll, bytes_at, concat_bytes}
use Rattle.pack_state.specs.Unpacking.{Reader, first_bytes, read_count, number_or_none, read_number, read_truth, text_or_none, read_text, has_element, read_element, read_couple, read_many, ascends_behind, ascends, set_or_none, read_set, read_layer, reader, word_of}

-- ---- lists

behind_from : (v : Value) (vs : List Value) → IsAscending value_cmp (v ∷ vs) → ascends_behind v vs ≡ true
behind_from v [] h = refl
behind_from v (w ∷ ws) h =
    let head = ascending_head value_cmp v (w ∷ ws) h in
    ap (λ r. is_lt r && ascends_behind w ws) head.0 ∙ behind_from w ws (ascending_tail value_cmp v (w ∷ ws) h)

pub ascends_from : (vs : List Value) → IsAscending value_cmp vs → ascends vs ≡ true
ascends_from [] h = refl
ascends_from (v ∷ vs) h = behind_from v vs h

-- ---- sizes

pub part_of_sum : (m : ℕ) (a b : ℕ) → 1 + a + b ≤ m → (a ≤ m) × (b ≤ m)
part_of_sum m a b h = (omega (arith, h), omega (arith, h))

pub sum_cons : (x : Value) (xs : List Value) → sum (map node_count (x ∷ xs)) ≡ node_count x + sum (map node_count xs)
sum_cons x xs = sum_by-cons (λ n. n) (node_count x) (map node_count xs)

pub counts_fit : (m : ℕ) (xs : List Value) → sum (map node_count xs) ≤ m → AllByRecursion (λ x. node_count x ≤ m) xs
counts_fit m [] h = tt
counts_fit m (x ∷ xs) h = let is = sum_cons x xs in (omega (arith, h, is), counts_fit m xs (omega (arith, h, is)))

layer_some : (y : Value-F ℕ) → 1 ≤ count_layer y
layer_some (Value-F.Int n) = omega arith
layer_some (Value-F.Truth b) = omega arith
layer_some (Value-F.Text s) = omega arith
layer_some (Value-F.Elem s i) = omega arith
layer_some (Value-F.Pair m n) = omega arith
layer_some (Value-F.Set ns) = omega arith

node_some : (v : Value) → 1 ≤ node_count v
node_some v = subst (λ (n : ℕ). 1 ≤ n) (sym (count_at v (out-Value v) refl)) (layer_some _)

pub longer : (xs : List Value) → length xs ≤ sum (map node_count xs)
longer [] = omega arith
longer (x ∷ xs) = let h = longer xs in let one = node_some x in let is = sum_cons x xs in omega (arith, h, one, is)

-- ---- numbers

signed_fits : (z : ℤ) → FitsNumber z → SFits w128 z
signed_fits (pos n) h = record { sfits = h }
signed_fits (negsuc n) h = record { sfits = h }

-- the value is read from its bytes
abbrev pub ReadsBack : Reader → Value → Type 0
ReadsBack read v = (rest : List ℕ) → read (value_bytes v ++ rest) ≡ Some (v, rest)

-- all that is asked of a value
pub record IsReadable (T : Value → Type 0) (v : Value) : Type 0 where
  pub typed : T v
  pub is_value : IsValue v
  pub words : WordsFit v
  pub size : node_count v ≤ 1000000

abbrev pub ReadsAll : (Value → Type 0) → Reader → Type 0
ReadsAll T read = (v : Value) → IsReadable T v → ReadsBack read v

module _ (T : Value → Type 0) where
  pub many_back : (read : Reader) → ReadsAll T read → (vs : List Value) (rest : List ℕ) → AllByRecursion (IsReadable T) vs → read_many read (length vs) (values_bytes vs ++ rest) ≡ Some (vs, rest)
  many_back read k [] rest all = refl
  many_back read k (v ∷ vs) rest all =
      ap (λ (bs : List ℕ). with_found (read bs) (λ v rest. with_found (read_many read (length vs) rest) (λ vs more. Some (v ∷ vs, more)))) (append_assoc (value_bytes v) (values_bytes vs) rest)
      ∙ ap (λ (o : Found Value). with_found o (λ v rest. with_found (read_many read (length vs) rest) (λ vs more. Some (v ∷ vs, more)))) (k v all.0 (values_bytes vs ++ rest))
      ∙ ap (λ (o : Found (List Value)). with_found o (λ vs more. Some (v ∷ vs, more))) (many_back read k vs rest all.1)

  all_readable : (vs : List Value) → AllByRecursion T vs → AllByRecursion IsValue vs → AllByRecursion WordsFit vs → AllByRecursion (λ x. node_count x ≤ 1000000) vs → AllByRecursion (IsReadable T) vs
  all_readable [] a b c d = tt
  all_readable (v ∷ vs) a b c d = (record { typed = a.0; is_value = b.0; words = c.0; size = d.0 }, all_readable vs a.1 b.1 c.1 d.1)

-- ---- each kind

module _ (sets : List SetFace) where
  abbrev BacksLayer : Ty-F Ty → Type 0
  BacksLayer x = (y : Value-F Value) → LayerHasType sets (HasType sets) x y → IsReadable (λ v. Unit {0}) (roll-Value y)
      → (rest : List ℕ) → read_layer sets (map-Ty Ty Reader (reader sets) x) (byte_layer (map-Value Value (List ℕ) value_bytes y) ++ rest) ≡ Some (roll-Value y, rest)

  int_back : BacksLayer Ty-F.Int
  int_back (Value-F.Int z) l r rest =
      let fits = signed_fits z (number_fits z (subst WordsFit (value.rolls-Int z) r.words)) in
      let bits = Fits-of_z {w = w128} {z = z} fits in
      ap (λ (o : Found (List ℕ)). with_found o number_or_none) (first_of_size 16 (int_bytes z) rest refl)
      ∙ ap (λ (b : Bool). if b then Some (value.Int (cast_signed w128 (word_of (int_bytes z))), rest) else None) (word_are_bytes (cast_unsigned w128 z))
      ∙ ap (λ (n : ℕ). Some (value.Int (cast_signed w128 n), rest)) (word_read (cast_unsigned w128 z) bits.fits)
      ∙ ap (λ (z : ℤ). Some (value.Int z, rest)) (to_z-of_z w128 z fits)
      ∙ ap (λ (v : Value). Some (v, rest)) (sym (value.rolls-Int z))
  int_back y l r rest = absurd l

  truth_back : BacksLayer Ty-F.Truth
  truth_back (Value-F.Truth true) l r rest = ap (λ (v : Value). Some (v, rest)) (sym (value.rolls-Truth true))
  truth_back (Value-F.Truth false) l r rest = ap (λ (v : Value). Some (v, rest)) (sym (value.rolls-Truth false))
  truth_back y l r rest = absurd l

  is_text_true : (bytes : List ℕ) → IsText bytes → is_text bytes ≡ true
  is_text_true bytes i = rw (is_utf8-from_IsUtf8 bytes i.utf8) (lt_true (length bytes) (2 ^ 32) i.short)

  text_back : BacksLayer Ty-F.Text
  text_back (Value-F.Text s) l r rest =
      ap (λ (bs : List ℕ). with_found (read_count bs) (λ n rest. with_found (first_bytes n rest) text_or_none)) (append_assoc (count_bytes (length s)) s rest)
      ∙ ap (λ (o : Found ℕ). with_found o (λ n rest. with_found (first_bytes n rest) text_or_none)) (count_read (length s) (s ++ rest) l.short)
      ∙ ap (λ (o : Found (List ℕ)). with_found o text_or_none) (first_all s rest)
      ∙ ap (λ (b : Bool). if b then Some (value.Text s, rest) else None) (is_text_true s l)
      ∙ ap (λ (v : Value). Some (v, rest)) (sym (value.rolls-Text s))
  text_back y l r rest = absurd l

  element_is : (o : Option SetFace) (index : ℕ) → IsSomeAnd o (λ f. index < length f.elements) → option_map_or (λ f. nat_lt index (length f.elements)) o false ≡ true
  element_is None index h = elim h [ ]
  element_is (Some f) index h = lt_true index (length f.elements) h

  element_back : (k : ℕ) → BacksLayer (Ty-F.Elem k)
  element_back k (Value-F.Elem set index) l r rest =
      let small = index_fits set index (subst WordsFit (value.rolls-Elem set index) r.words) in
      let there : IsElement sets k index = subst (λ (s : ℕ). IsElement sets s index) l.0 l.1 in
      ap (λ (o : Found ℕ). with_found o (λ index rest. if has_element sets k index then Some (value.Elem k index, rest) else None)) (count_read index rest small)
      ∙ ap (λ (b : Bool). if b then Some (value.Elem k index, rest) else None) (element_is (slice_get sets k) index there)
      ∙ ap (λ (s : ℕ). Some (value.Elem s index, rest)) (sym l.0)
      ∙ ap (λ (v : Value). Some (v, rest)) (sym (value.rolls-Elem set index))
  element_back k y l r rest = absurd l

  couple_back : (t u : Ty) → ReadsAll (HasType sets t) (reader sets t) → ReadsAll (HasType sets u) (reader sets u) → BacksLayer (Ty-F.Pair t u)
  couple_back t u i j (Value-F.Pair a b) l r rest =
      let whole = value.rolls-Pair a b in
      let values = couple_parts a b (subst IsValue whole r.is_value) in
      let words = couple_fits a b (subst WordsFit whole r.words) in
      let size : node_count (value.Pair a b) ≤ 1000000 = subst (λ (v : Value). node_count v ≤ 1000000) whole r.size in
      let sizes = part_of_sum 1000000 (node_count a) (node_count b) (subst (λ (n : ℕ). n ≤ 1000000) (count-Pair a b) size) in
      ap (λ (bs : List ℕ). with_found (reader sets t bs) (λ a rest. with_found (reader sets u rest) (λ b more. Some (value.Pair a b, more)))) (append_assoc (value_bytes a) (value_bytes b) rest)
      ∙ ap (λ (o : Found Value). with_found o (λ a rest. with_found (reader sets u rest) (λ b more. Some (value.Pair a b, more))))
      (i a (record { typed = l.0; is_value = values.0; words = words.0; size = sizes.0 }) (value_bytes b ++ rest))
      ∙ ap (λ (o : Found Value). with_found o (λ b more. Some (value.Pair a b, more))) (j b (record { typed = l.1; is_value = values.1; words = words.1; size = sizes.1 }) rest)
      ∙ ap (λ (v : Value). Some (v, rest)) (sym whole)
  couple_back t u i j y l r rest = absurd l

  set_back : (t : Ty) → ReadsAll (HasType sets t) (reader sets t) → BacksLayer (Ty-F.Set t)
  set_back t i (Value-F.Set xs) l r rest =
      let whole = value.rolls-Set xs in
      let is_value = subst IsValue whole r.is_value in
      let words = members_fit xs (subst WordsFit whole r.words) in
      let size : node_count (value.Set xs) ≤ 1000000 = subst (λ (v : Value). node_count v ≤ 1000000) whole r.size in
      let counted : 1 + sum (map node_count xs) ≤ 1000000 = subst (λ (n : ℕ). n ≤ 1000000) (count-Set xs) size in
      let long = longer xs in
      let members = all_readable (HasType sets t) xs l (set_members xs is_value) words (counts_fit 1000000 xs (omega (arith, counted))) in
      ap (λ (bs : List ℕ). with_found (read_count bs) (λ n rest. with_found (read_many (reader sets t) n rest) set_or_none))
      (append_assoc (count_bytes (length (map value_bytes xs))) (concat (map value_bytes xs)) rest)
      ∙ ap (λ (bs : List ℕ). with_found (read_count (count_bytes (length (map value_bytes xs)) ++ (bs ++ rest))) (λ n rest. with_found (read_many (reader sets t) n rest) set_or_none)) (concat_bytes xs)
      ∙ ap (λ (n : ℕ). with_found (read_count (count_bytes n ++ (values_bytes xs ++ rest))) (λ n rest. with_found (read_many (reader sets t) n rest) set_or_none)) (length-map xs value_bytes)
      ∙ ap (λ (o : Found ℕ). with_found o (λ n rest. with_found (read_many (reader sets t) n rest) set_or_none)) (count_read (length xs) (values_bytes xs ++ rest) (omega (arith, counted, long)))
      ∙ ap (λ (o : Found (List Value)). with_found o set_or_none) (many_back (HasType sets t) (reader sets t) i xs rest members)
      ∙ ap (λ (b : Bool). if b then Some (value.Set xs, rest) else None) (ascends_from xs (set_ascends xs is_value))
      ∙ ap (λ (v : Value). Some (v, rest)) (sym whole)
  set_back t i y l r rest = absurd l

  layer_back : (x : Ty-F Ty) → Below (λ t. ReadsAll (HasType sets t) (reader sets t)) x → BacksLayer x
  layer_back Ty-F.Int k = int_back
  layer_back Ty-F.Truth k = truth_back
  layer_back Ty-F.Text k = text_back
  layer_back (Ty-F.Elem n) k = element_back n
  layer_back (Ty-F.Pair t u) k = couple_back t u k.0 k.1
  layer_back (Ty-F.Set t) k = set_back t k

  layered : (x : Ty-F Ty) → Below (λ t. ReadsAll (HasType sets t) (reader sets t)) x → (v : Value) (y : Value-F Value) → out-Value v ≡ y → IsReadable (HasType sets (roll-Ty x)) v → ReadsBack (reader sets (roll-Ty x)) v
  layered x k v y e r rest =
      let roll : roll-Value y ≡ v = ap roll-Value (sym e) ∙ roll-out-Value v in
      let l = (typed_at sets (roll-Ty x) x v y (out-roll-Ty x) e).0 r.typed in
      let here : IsReadable (λ v. Unit {0}) (roll-Value y) = subst (IsReadable (λ v. Unit {0})) (sym roll) (record { typed = tt; is_value = r.is_value; words = r.words; size = r.size }) in
      ap (λ (f : Reader). f (value_bytes v ++ rest)) (reader_roll sets x)
      ∙ ap (λ (bs : List ℕ). read_layer sets (map-Ty Ty Reader (reader sets) x) (bs ++ rest)) (bytes_at v y roll)
      ∙ layer_back x k y l here rest
      ∙ ap (λ (w : Value). Some (w, rest)) roll

  -- the bytes of a value of the type are read as the value
  pub type_reads_back : (t : Ty) → ReadsAll (HasType sets t) (reader sets t)
  type_reads_back = by_type_layers (λ t. ReadsAll (HasType sets t) (reader sets t)) (λ x k v r. layered x k v (out-Value v) refl r)
