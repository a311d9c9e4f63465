-- What is written reads back.
use Rattle.std.proofs.Common.{◌≡◌, ◌≢◌, ◌==◌, ◌≤◌, ◌<◌, ◌+◌, ◌^◌, ◌&&◌, ◌⊎◌, inl, inr, ℕ, zero, suc, max, ℤ, pos, negsuc, neg_ℤ, Bool, true, false, not, List, [], ◌∷◌, ◌++◌, Option, Some, None, cond, length, map, arith, refl, sym, ap, ◌∙◌, subst, append_assoc, append-nil, eqb-true, nat_lt}
use Rattle.std.specs.Prelude.{codes, flat_map, bytes_eq, position, slice_get, unwrap_or, IsSomeAnd, IsTrue}
use Rattle.std.specs.Option.{option_map_or}
use Rattle.std.specs.List.{AllByRecursion, position_or_len, prefix_len}
use Rattle.std.specs.Fmt.{decimal, signed_decimal}
use Rattle.std.specs.Str.Parse.{digits_value}
use Rattle.std.proofs.lemmas.Fmt.{decimal_is_IsNumeral_wide}
use Rattle.std.proofs.lemmas.Slice.Eq.{bytes_eq-Decides}
use Rattle.std.proofs.lemmas.Bool.Decides.{nat_tests}
use Rattle.ascending.specs.Ascending.{set_of}
use Rattle.ascending.specs.AscendingLaws.{set_of_itself}
use Rattle.b_values.specs.declared.types.SetFace.{SetFace}
use Rattle.b_values.specs.declared.types.Ty.{Ty, out-Ty, roll-Ty, roll-out-Ty}
use Rattle.b_values.specs.declared.types.Ty.TheOpen.{Ty-F}
use Rattle.b_values.specs.declared.types.Ty.TheVariants as ty
use Rattle.b_values.specs.declared.values.Value.{Value, out-Value, roll-Value, map-Value, fold_out-Value, every_here-Value, every_held-Value}
use Rattle.b_values.specs.declared.values.Value.TheOpen.{Value-F}
use Rattle.b_values.specs.declared.values.Value.TheVariants as value
use Rattle.b_values.specs.Layers.{Below, by_layers, unlift}
use Rattle.b_values.specs.Types.{IsText, IsElement, HasType, LayerHasType}
use Rattle.b_values.specs.TypeLaws.{typed_at}
use Rattle.b_values.specs.Values.{value_cmp, node_count, IsValue, IsKept}
use Rattle.b_values.specs.OrderLaws.{value_total, value_same}
use Rattle.b_values.specs.ValueLaws.{couple_parts, set_members, set_ascends}
use Rattle.b_values.specs.Texts.{names_of, element_name, spelling_of, commas, comma_each, text_layer, text_of}
use Rattle.b_values.specs.Reading.{blanks, sign, Spells, ended, plain, escaped, is_name, Form, free, bracketed, IsPiece, IsList, truth, number, negative, text, element, couple, bracketed_couple, comma_couple, set, sequence, nothing, none, last, more, IsTextOf, bracket_count, bracket_layer, greatest, LayerFits, NumbersFit, HasNames, ReadsBack}

-- ---- a layer of a text

text_at : (sets : List SetFace) (v : Value) (x : Value-F Value) → out-Value v ≡ x → text_of sets v ≡ text_layer sets (map-Value Value (List ℕ) (text_of sets) x)
text_at sets v x e = fold_out-Value (List ℕ) (text_layer sets) v ∙ ap (λ y. text_layer sets (map-Value Value (List ℕ) (text_of sets) y)) e

brackets_at : (v : Value) (x : Value-F Value) → out-Value v ≡ x → bracket_count v ≡ bracket_layer (map-Value Value ℕ bracket_count x)
brackets_at v x e = fold_out-Value ℕ bracket_layer v ∙ ap (λ y. bracket_layer (map-Value Value ℕ bracket_count y)) e

-- ---- which type a value can have

module _ (sets : List SetFace) where
  layers : (t : Ty) (v : Value) (y : Value-F Value) → out-Value v ≡ y → HasType sets t v → LayerHasType sets (HasType sets) (out-Ty t) y
  layers t v y e h = (typed_at sets t (out-Ty t) v y refl e).0 h

  rolled : (t : Ty) (d : Ty-F Ty) → out-Ty t ≡ d → t ≡ roll-Ty d
  rolled t d e = sym (roll-out-Ty t) ∙ ap roll-Ty e

  int_type : (t : Ty) (n : ℤ) → HasType sets t (value.Int n) → t ≡ ty.Int
  int_type t n h = go (out-Ty t) refl (layers t (value.Int n) (Value-F.Int n) (value.outs-Int n) h)
    where
      go : (d : Ty-F Ty) → out-Ty t ≡ d → LayerHasType sets (HasType sets) d (Value-F.Int n) → t ≡ ty.Int
      go Ty-F.Int e k = rolled t Ty-F.Int e ∙ ty.rolls-Int
      go Ty-F.Truth e k = absurd k
      go Ty-F.Text e k = absurd k
      go (Ty-F.Elem s) e k = absurd k
      go (Ty-F.Pair a b) e k = absurd k
      go (Ty-F.Set a) e k = absurd k

  truth_type : (t : Ty) (b : Bool) → HasType sets t (value.Truth b) → t ≡ ty.Truth
  truth_type t b h = go (out-Ty t) refl (layers t (value.Truth b) (Value-F.Truth b) (value.outs-Truth b) h)
    where
      go : (d : Ty-F Ty) → out-Ty t ≡ d → LayerHasType sets (HasType sets) d (Value-F.Truth b) → t ≡ ty.Truth
      go Ty-F.Int e k = absurd k
      go Ty-F.Truth e k = rolled t Ty-F.Truth e ∙ ty.rolls-Truth
      go Ty-F.Text e k = absurd k
      go (Ty-F.Elem s) e k = absurd k
      go (Ty-F.Pair a b) e k = absurd k
      go (Ty-F.Set a) e k = absurd k

  text_type : (t : Ty) (s : List ℕ) → HasType sets t (value.Text s) → (t ≡ ty.Text) × IsText s
  text_type t s h = go (out-Ty t) refl (layers t (value.Text s) (Value-F.Text s) (value.outs-Text s) h)
    where
      go : (d : Ty-F Ty) → out-Ty t ≡ d → LayerHasType sets (HasType sets) d (Value-F.Text s) → (t ≡ ty.Text) × IsText s
      go Ty-F.Int e k = absurd k
      go Ty-F.Truth e k = absurd k
      go Ty-F.Text e k = (rolled t Ty-F.Text e ∙ ty.rolls-Text, k)
      go (Ty-F.Elem s) e k = absurd k
      go (Ty-F.Pair a b) e k = absurd k
      go (Ty-F.Set a) e k = absurd k

  element_type : (t : Ty) (s i : ℕ) → HasType sets t (value.Elem s i) → (t ≡ ty.Elem s) × IsElement sets s i
  element_type t s i h = go (out-Ty t) refl (layers t (value.Elem s i) (Value-F.Elem s i) (value.outs-Elem s i) h)
    where
      go : (d : Ty-F Ty) → out-Ty t ≡ d → LayerHasType sets (HasType sets) d (Value-F.Elem s i) → (t ≡ ty.Elem s) × IsElement sets s i
      go Ty-F.Int e k = absurd k
      go Ty-F.Truth e k = absurd k
      go Ty-F.Text e k = absurd k
      go (Ty-F.Elem r) e k = (rolled t (Ty-F.Elem r) e ∙ ty.rolls-Elem r ∙ ap ty.Elem (sym k.0), k.1)
      go (Ty-F.Pair a b) e k = absurd k
      go (Ty-F.Set a) e k = absurd k

  couple_type : (t : Ty) (x y : Value) → HasType sets t (value.Pair x y) → (a : Ty) × (b : Ty) × (t ≡ ty.Pair a b) × HasType sets a x × HasType sets b y
  couple_type t x y h = go (out-Ty t) refl (layers t (value.Pair x y) (Value-F.Pair x y) (value.outs-Pair x y) h)
    where
      go : (d : Ty-F Ty) → out-Ty t ≡ d → LayerHasType sets (HasType sets) d (Value-F.Pair x y) → (a : Ty) × (b : Ty) × (t ≡ ty.Pair a b) × HasType sets a x × HasType sets b y
      go Ty-F.Int e k = absurd k
      go Ty-F.Truth e k = absurd k
      go Ty-F.Text e k = absurd k
      go (Ty-F.Elem s) e k = absurd k
      go (Ty-F.Pair a b) e k = (a, b, rolled t (Ty-F.Pair a b) e ∙ ty.rolls-Pair a b, k.0, k.1)
      go (Ty-F.Set a) e k = absurd k

  set_type : (t : Ty) (xs : List Value) → HasType sets t (value.Set xs) → (a : Ty) × (t ≡ ty.Set a) × AllByRecursion (HasType sets a) xs
  set_type t xs h = go (out-Ty t) refl (layers t (value.Set xs) (Value-F.Set xs) (value.outs-Set xs) h)
    where
      go : (d : Ty-F Ty) → out-Ty t ≡ d → LayerHasType sets (HasType sets) d (Value-F.Set xs) → (a : Ty) × (t ≡ ty.Set a) × AllByRecursion (HasType sets a) xs
      go Ty-F.Int e k = absurd k
      go Ty-F.Truth e k = absurd k
      go Ty-F.Text e k = absurd k
      go (Ty-F.Elem s) e k = absurd k
      go (Ty-F.Pair a b) e k = absurd k
      go (Ty-F.Set a) e k = (a, rolled t (Ty-F.Set a) e ∙ ty.rolls-Set a, k)

-- ---- strings

not_eq : (a b : ℕ) → (a == b) ≡ false → a ≢ b
not_eq a b e = grind (arith, nat_tests)

spelled_byte : (b : ℕ) (t s : List ℕ) → Spells t s → Spells (spelling_of b ++ t) (b ∷ s)
spelled_byte b t s h = go (b == 34) (b == 92) (b == 10) (b == 9) refl refl refl refl
  where
    go : (x y z w : Bool) → (b == 34) ≡ x → (b == 92) ≡ y → (b == 10) ≡ z → (b == 9) ≡ w
        → Spells (cond x (codes "\\\"") (cond y (codes "\\\\") (cond z (codes "\\n") (cond w (codes "\\t") (b ∷ [])))) ++ t) (b ∷ s)
    go true y z w i j k m = subst (λ c. Spells (codes "\\\"" ++ t) (c ∷ s)) (sym (eqb-true b 34 i)) (escaped {letter = 34} {b = 34} refl h)
    go false true z w i j k m = subst (λ c. Spells (codes "\\\\" ++ t) (c ∷ s)) (sym (eqb-true b 92 j)) (escaped {letter = 92} {b = 92} refl h)
    go false false true w i j k m = subst (λ c. Spells (codes "\\n" ++ t) (c ∷ s)) (sym (eqb-true b 10 k)) (escaped {letter = 110} {b = 10} refl h)
    go false false false true i j k m = subst (λ c. Spells (codes "\\t" ++ t) (c ∷ s)) (sym (eqb-true b 9 m)) (escaped {letter = 116} {b = 9} refl h)
    go false false false false i j k m = plain (not_eq b 10 k) (not_eq b 34 i) (not_eq b 92 j) h

spelled : (s : List ℕ) → Spells (flat_map spelling_of s) s
spelled [] = ended
spelled (b ∷ s) = spelled_byte b (flat_map spelling_of s) s (spelled s)

-- ---- elements

-- the first place of a name among names that differ
prefix_at : (names : List (List ℕ)) (i : ℕ) (name : List ℕ) → slice_get names i ≡ Some name → ((j : ℕ) (n : List ℕ) → j < i → slice_get names j ≡ Some n → n ≢ name) → prefix_len (λ x. not (bytes_eq name x)) names ≡ i
prefix_at [] i name e d = absurd (cc)
prefix_at (x ∷ xs) zero name e d = let same : x ≡ name = cc in ap (λ b. cond (not b) (1 + prefix_len (λ x. not (bytes_eq name x)) xs) 0) ((bytes_eq-Decides name x).1 (sym same))
prefix_at (x ∷ xs) (suc i) name e d = go (bytes_eq name x) refl (prefix_at xs i name e (λ j n h g. d (suc j) n (omega arith) g))
  where
    go : (b : Bool) → bytes_eq name x ≡ b → prefix_len (λ x. not (bytes_eq name x)) xs ≡ i → cond (not b) (1 + prefix_len (λ x. not (bytes_eq name x)) xs) 0 ≡ suc i
    go true f h = absurd (d 0 x (omega arith) refl (sym ((bytes_eq-Decides name x).0 f)))
    go false f h = omega arith

lt_is : (a b : ℕ) → a < b → nat_lt a b ≡ true
lt_is a b h = grind (arith, nat_tests)

get_within : (names : List (List ℕ)) (i : ℕ) → i < length names → (n : List ℕ) × (slice_get names i ≡ Some n)
get_within [] i h = absurd (omega arith)
get_within (x ∷ xs) zero h = (x, refl)
get_within (x ∷ xs) (suc i) h = get_within xs i (omega arith)

found_at : (names : List (List ℕ)) (i : ℕ) (name : List ℕ) → i < length names → slice_get names i ≡ Some name → ((j k : ℕ) (n : List ℕ) → slice_get names j ≡ Some n → slice_get names k ≡ Some n → j ≡ k) → position (bytes_eq name) names ≡ Some i
found_at names i name h e d =
    let at = prefix_at names i name e (λ j n l g same. let k = d j i name (g ∙ ap Some same) e in omega arith) in
    ap (λ k. cond (nat_lt k (length names)) (Some k) None) at ∙ ap (λ b. cond b (Some i) None) (lt_is i (length names) h)

-- the elements of a machine's set have names that differ
of_set : (sets : List SetFace) (k : ℕ) (f : SetFace) → AllByRecursion HasNames sets → slice_get sets k ≡ Some f → HasNames f
of_set [] k f h e = absurd (cc)
of_set (g ∷ gs) zero f h e = let same : g ≡ f = cc in subst HasNames same h.0
of_set (g ∷ gs) (suc k) f h e = of_set gs k f h.1 e

all_at : (P : List ℕ → Type 0) (names : List (List ℕ)) (i : ℕ) (n : List ℕ) → AllByRecursion P names → slice_get names i ≡ Some n → P n
all_at P [] i n h e = absurd (cc)
all_at P (x ∷ xs) zero n h e = let same : x ≡ n = cc in subst P same h.0
all_at P (x ∷ xs) (suc i) n h e = all_at P xs i n h.1 e

element_piece : (sets : List SetFace) → AllByRecursion HasNames sets → (f : Form) (d k i : ℕ) → IsElement sets k i → IsPiece sets f (ty.Elem k) d (element_name sets k i) (value.Elem k i)
element_piece sets names f d k i h = go (slice_get sets k) refl h
  where
    go : (o : Option SetFace) → slice_get sets k ≡ o → IsSomeAnd o (λ g. i < length g.elements) → IsPiece sets f (ty.Elem k) d (element_name sets k i) (value.Elem k i)
    go None e l = absurd l
    go (Some g) e l =
        let n = of_set sets k g names e in
        let w = get_within g.elements i l in
        let all : names_of sets k ≡ g.elements = ap (λ o. option_map_or (λ f. f.elements) o []) e in
        let name : element_name sets k i ≡ w.0 = ap (λ l. unwrap_or (slice_get l i) []) all ∙ ap (λ o. unwrap_or o []) w.1 in
        let few = n.few in
        subst (λ z. IsPiece sets f (ty.Elem k) d z (value.Elem k i)) (sym name)
        (element 0 k i w.0 (all_at (λ n. IsTrue (is_name n)) g.elements i w.0 n.names w.1)
        (ap (position (bytes_eq w.0)) all ∙ found_at g.elements i w.0 l w.1 n.differ) (omega arith))

-- ---- numbers

number_piece : (sets : List SetFace) (f : Form) (d : ℕ) (n : ℤ) → LayerFits (Value-F.Int n) → IsPiece sets f ty.Int d (signed_decimal n) (value.Int n)
number_piece sets f d (pos k) h =
    let w = decimal_is_IsNumeral_wide k (omega arith) in
    let same : digits_value 10 (decimal k) ≡ k = w.1 in
    subst (λ m. IsPiece sets f ty.Int d (decimal k) (value.Int (pos m))) same (number 0 (decimal k) w.0 (omega arith))
number_piece sets f d (negsuc k) h =
    let w = decimal_is_IsNumeral_wide (suc k) (omega arith) in
    let same : digits_value 10 (decimal (suc k)) ≡ suc k = w.1 in
    subst (λ m. IsPiece sets f ty.Int d (45 ∷ decimal (suc k)) (value.Int (neg_ℤ (pos m)))) same (negative 0 0 (decimal (suc k)) w.0 (omega arith))

-- ---- every value

module _ (sets : List SetFace) (names : AllByRecursion HasNames sets) where
  abbrev Back : Value → Type 0
  Back v = (t : Ty) (f : Form) (d : ℕ) → HasType sets t v → IsValue v → NumbersFit v → bracket_count v ≤ d → IsPiece sets f t d (text_of sets v) v

  retyped : (f : Form) (t u : Ty) (d : ℕ) (bs : List ℕ) (v : Value) → t ≡ u → IsPiece sets f u d bs v → IsPiece sets f t d bs v
  retyped f t u d bs v e p = subst (λ t. IsPiece sets f t d bs v) (sym e) p

  reworded : (f : Form) (t : Ty) (d : ℕ) (bs cs : List ℕ) (v : Value) → bs ≡ cs → IsPiece sets f t d cs v → IsPiece sets f t d bs v
  reworded f t d bs cs v e p = subst (λ l. IsPiece sets f t d l v) (sym e) p

  below_fits : (v : Value) → NumbersFit v → Below NumbersFit (out-Value v)
  below_fits v h = unlift NumbersFit (out-Value v) (every_held-Value LayerFits v h)

  back_int : (n : ℤ) → Back (value.Int n)
  back_int n t f d h i r b =
      retyped f t ty.Int d _ _ (int_type sets t n h)
      (reworded f ty.Int d _ _ _ (text_at sets (value.Int n) (Value-F.Int n) (value.outs-Int n)) (number_piece sets f d n (subst LayerFits (value.outs-Int n) (every_here-Value LayerFits (value.Int n) r))))

  back_truth : (b : Bool) → Back (value.Truth b)
  back_truth b t f d h i r l = retyped f t ty.Truth d _ _ (truth_type sets t b h) (reworded f ty.Truth d _ _ _ (text_at sets (value.Truth b) (Value-F.Truth b) (value.outs-Truth b)) (truth 0 b))

  back_text : (s : List ℕ) → Back (value.Text s)
  back_text s t f d h i r l =
      let k = text_type sets t s h in
      retyped f t ty.Text d _ _ k.0 (reworded f ty.Text d _ _ _ (text_at sets (value.Text s) (Value-F.Text s) (value.outs-Text s)) (text 0 (flat_map spelling_of s) s (spelled s) k.1))

  back_element : (s j : ℕ) → Back (value.Elem s j)
  back_element s j t f d h i r l =
      let k = element_type sets t s j h in
      retyped f t (ty.Elem s) d _ _ k.0 (reworded f (ty.Elem s) d _ _ _ (text_at sets (value.Elem s j) (Value-F.Elem s j) (value.outs-Elem s j)) (element_piece sets names f d s j k.1))

  couple_text : (a b : List ℕ) → 40 ∷ (a ++ codes "|->" ++ b ++ 41 ∷ []) ≡ sign 0 (codes "(") ++ (a ++ (sign 0 (codes "|->") ++ (b ++ sign 0 (codes ")"))))
  couple_text a b = simp append_assoc

  deeper : (f : Form) (t : Ty) (m d : ℕ) (bs : List ℕ) (v : Value) → suc m ≤ d → ((k : ℕ) → m ≤ k → IsPiece sets f t (suc k) bs v) → IsPiece sets f t d bs v
  deeper f t m zero bs v h p = absurd (omega arith)
  deeper f t m (suc k) bs v h p = p k (omega arith)

  back_couple : (x y : Value) → Back x → Back y → Back (value.Pair x y)
  back_couple x y p q t f d h i r l =
      let k = couple_type sets t x y h in
      let parts = couple_parts x y i in
      let fit = subst (Below NumbersFit) (value.outs-Pair x y) (below_fits (value.Pair x y) r) in
      let count : bracket_count (value.Pair x y) ≡ 1 + max (bracket_count x) (bracket_count y) = brackets_at (value.Pair x y) (Value-F.Pair x y) (value.outs-Pair x y) in
      retyped f t (ty.Pair k.0 k.1) d _ _ k.2
      (reworded f (ty.Pair k.0 k.1) d _ _ _ (text_at sets (value.Pair x y) (Value-F.Pair x y) (value.outs-Pair x y) ∙ couple_text (text_of sets x) (text_of sets y))
      (deeper f (ty.Pair k.0 k.1) (max (bracket_count x) (bracket_count y)) d _ _ (omega arith) (λ m e.
      bracketed_couple 0 0 0 (p k.0 free m k.3 parts.0 fit.0 (omega arith)) (q k.1 bracketed m k.4 parts.1 fit.1 (omega arith)))))

  rows : (a : Ty) (d : ℕ) (xs : List Value) → AllByRecursion Back xs → AllByRecursion (HasType sets a) xs → AllByRecursion IsValue xs → AllByRecursion NumbersFit xs → greatest (map bracket_count xs) ≤ d → IsList sets a d (commas (map (text_of sets) xs)) xs
  rows a d [] b h i r l = none
  rows a d (x ∷ []) b h i r l = subst (λ z. IsList sets a d z (x ∷ [])) (sym (append-nil (text_of sets x))) (last (b.0 a free d h.0 i.0 r.0 (omega arith)))
  rows a d (x ∷ y ∷ ys) b h i r l = more 0 (b.0 a free d h.0 i.0 r.0 (omega arith)) (rows a d (y ∷ ys) b.1 h.1 i.1 r.1 (omega arith))

  back_set : (xs : List Value) → AllByRecursion Back xs → Back (value.Set xs)
  back_set xs b t f d h i r l =
      let k = set_type sets t xs h in
      let fit = subst (Below NumbersFit) (value.outs-Set xs) (below_fits (value.Set xs) r) in
      let count : bracket_count (value.Set xs) ≡ 1 + greatest (map bracket_count xs) = brackets_at (value.Set xs) (Value-F.Set xs) (value.outs-Set xs) in
      retyped f t (ty.Set k.0) d _ _ k.1
      (reworded f (ty.Set k.0) d _ _ _ (text_at sets (value.Set xs) (Value-F.Set xs) (value.outs-Set xs))
      (deeper f (ty.Set k.0) (greatest (map bracket_count xs)) d _ _ (omega arith) (λ m e.
      subst (λ zs. IsPiece sets f (ty.Set k.0) (suc m) (sign 0 (codes "{") ++ (commas (map (text_of sets) xs) ++ sign 0 (codes "}"))) (value.Set zs)) (set_of_itself value_cmp value_total value_same xs (set_ascends xs i))
      (set 0 0 (rows k.0 m xs b k.2 (set_members xs i) fit e)))))

  back_layer : (x : Value-F Value) → Below Back x → Back (roll-Value x)
  back_layer (Value-F.Int n) k = subst Back (sym (value.rolls-Int n)) (back_int n)
  back_layer (Value-F.Truth b) k = subst Back (sym (value.rolls-Truth b)) (back_truth b)
  back_layer (Value-F.Text s) k = subst Back (sym (value.rolls-Text s)) (back_text s)
  back_layer (Value-F.Elem s i) k = subst Back (sym (value.rolls-Elem s i)) (back_element s i)
  back_layer (Value-F.Pair x y) k = subst Back (sym (value.rolls-Pair x y)) (back_couple x y k.0 k.1)
  back_layer (Value-F.Set xs) k = subst Back (sym (value.rolls-Set xs)) (back_set xs k)

  every_back : (v : Value) → Back v
  every_back = by_layers Back back_layer

pub reads_back : ReadsBack
reads_back sets t v names h k r b = record {
  front = text_of sets v;
  end = 0;
  whole = sym (append-nil (text_of sets v));
  piece = every_back sets names v t free 100 h k.value r b;
  small = k.size;
}
