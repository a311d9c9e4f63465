-- Tables that were parted into the first definitions of names and the others.
use Rattle.std.proofs.Common.{◌≡◌, ℕ, suc, ◌+◌, Bool, true, false, not, cond, List, [], ◌∷◌, ◌++◌, length, reverse, Option, Some, None, refl, sym, ap, ◌∙◌, append_assoc, length-append, arith}
use Rattle.std.specs.Prelude.{option_map, bytes_eq}
use Rattle.std.proofs.lemmas.List.{append-nil, reverse-append}
use Rattle.std.proofs.lemmas.Slice.Eq.{bytes_eq-Decides}
use borrow.Author.Tests.{eq-eqb}
use Rattle.b_ast.specs.declared.machine.Def.{Def}
use Rattle.b_names.specs.declared.places.Index.{Index}
use Rattle.b_names.specs.Index.{answer_of, place_of}
use Rattle.b_definitions.specs.Tables.{IsIndexed, first_named, SameFirst}
use Rattle.b_definitions.specs.Parting.{is_place, is_first, listed_if, firsts, later}
use Rattle.b_definitions.proofs.Firsts.{first_place, places}

-- ---- one more behind

module _ (index : Index) where
  firsts_last : (i : ℕ) (ds : List Def) (d : Def) (n : ℕ) → n ≡ i + length ds → firsts index i (ds ++ d ∷ []) ≡ firsts index i ds ++ listed_if (is_first index n d) d
  firsts_last i [] d n e = let k : i ≡ n = omega arith in ap (λ (n : ℕ). listed_if (is_first index n d) d) k
  firsts_last i (c ∷ ds) d n e = go (is_first index i c) (firsts_last (i + 1) ds d n (omega arith))
    where
      go : (b : Bool) → firsts index (i + 1) (ds ++ d ∷ []) ≡ firsts index (i + 1) ds ++ listed_if (is_first index n d) d → cond b (c ∷ firsts index (i + 1) (ds ++ d ∷ [])) (firsts index (i + 1) (ds ++ d ∷ [])) ≡ cond b (c ∷ firsts index (i + 1) ds) (firsts index (i + 1) ds) ++ listed_if (is_first index n d) d
      go true h = ap (λ (xs : List Def). c ∷ xs) h
      go false h = h

  not_listed : (b : Bool) (d : Def) → cond b [] (d ∷ []) ≡ listed_if (not b) d
  not_listed true d = refl
  not_listed false d = refl

  later_last : (i : ℕ) (ds : List Def) (d : Def) (n : ℕ) → n ≡ i + length ds → later index i (ds ++ d ∷ []) ≡ later index i ds ++ listed_if (not (is_first index n d)) d
  later_last i [] d n e = let k : i ≡ n = omega arith in not_listed (is_first index i d) d ∙ ap (λ (n : ℕ). listed_if (not (is_first index n d)) d) k
  later_last i (c ∷ ds) d n e = go (is_first index i c) (later_last (i + 1) ds d n (omega arith))
    where
      go : (b : Bool) → later index (i + 1) (ds ++ d ∷ []) ≡ later index (i + 1) ds ++ listed_if (not (is_first index n d)) d → cond b (later index (i + 1) (ds ++ d ∷ [])) (c ∷ later index (i + 1) (ds ++ d ∷ [])) ≡ cond b (later index (i + 1) ds) (c ∷ later index (i + 1) ds) ++ listed_if (not (is_first index n d)) d
      go true h = h
      go false h = ap (λ (xs : List Def). c ∷ xs) h

  -- a list from behind with one more, or none
  reversed_more : (xs : List Def) (b : Bool) (d : Def) → reverse (xs ++ listed_if b d) ≡ listed_if b d ++ reverse xs
  reversed_more xs true d = reverse-append xs (d ∷ [])
  reversed_more xs false d = ap reverse (append-nil xs)

  -- one step of a search from behind
  pub firsts_on : (left rest all found more : List Def) (d : Def) → firsts index 0 left ++ reverse found ≡ firsts index 0 all → left ≡ rest ++ d ∷ [] → more ≡ found ++ listed_if (is_first index (length rest) d) d
      → firsts index 0 rest ++ reverse more ≡ firsts index 0 all
  firsts_on left rest all found more d h e f =
      ap (λ (m : List Def). firsts index 0 rest ++ reverse m) f
      ∙ (ap (λ (m : List Def). firsts index 0 rest ++ m) (reversed_more found (is_first index (length rest) d) d)
      ∙ (sym (append_assoc (firsts index 0 rest) (listed_if (is_first index (length rest) d) d) (reverse found))
      ∙ (ap (λ (m : List Def). m ++ reverse found) (sym (firsts_last 0 rest d (length rest) (omega arith)))
      ∙ (ap (λ (m : List Def). firsts index 0 m ++ reverse found) (sym e) ∙ h))))

  pub later_on : (left rest all found more : List Def) (d : Def) → later index 0 left ++ reverse found ≡ later index 0 all → left ≡ rest ++ d ∷ [] → more ≡ found ++ listed_if (not (is_first index (length rest) d)) d
      → later index 0 rest ++ reverse more ≡ later index 0 all
  later_on left rest all found more d h e f =
      ap (λ (m : List Def). later index 0 rest ++ reverse m) f
      ∙ (ap (λ (m : List Def). later index 0 rest ++ m) (reversed_more found (not (is_first index (length rest) d)) d)
      ∙ (sym (append_assoc (later index 0 rest) (listed_if (not (is_first index (length rest) d)) d) (reverse found))
      ∙ (ap (λ (m : List Def). m ++ reverse found) (sym (later_last 0 rest d (length rest) (omega arith)))
      ∙ (ap (λ (m : List Def). later index 0 m ++ reverse found) (sym e) ∙ h))))

-- ---- the first definition of each name stays

-- the first of one table, or of another
abbrev pub either : Option Def → Option Def → Option Def
either (Some d) o = Some d
either None o = o

pub named_in_two : (x : List ℕ) (ds es : List Def) → first_named x (ds ++ es) ≡ either (first_named x ds) (first_named x es)
named_in_two x [] es = refl
named_in_two x (d ∷ ds) es = go (bytes_eq x d.name) (named_in_two x ds es)
  where
    go : (b : Bool) → first_named x (ds ++ es) ≡ either (first_named x ds) (first_named x es) → cond b (Some d) (first_named x (ds ++ es)) ≡ either (cond b (Some d) (first_named x ds)) (first_named x es)
    go true h = refl
    go false h = h

module _ (index : Index) (x : List ℕ) where
  further : (i : ℕ) (o : Option ℕ) → option_map (λ k. i + k) (option_map suc o) ≡ option_map (λ k. (i + 1) + k) o
  further i None = refl
  further i (Some k) = let e : i + suc k ≡ (i + 1) + k = omega arith in ap (λ (n : ℕ). Some n) e

  -- the first definition of a name is among the first ones
  among_firsts : (i : ℕ) (ds : List Def) → answer_of index x ≡ option_map (λ k. i + k) (first_place ds x) → first_named x (firsts index i ds) ≡ first_named x ds
  among_firsts i [] h = refl
  among_firsts i (d ∷ ds) h = go (bytes_eq x d.name) refl (among_firsts (i + 1) ds)
    where
      skipped : (b : Bool) → bytes_eq x d.name ≡ false → first_named x (firsts index (i + 1) ds) ≡ first_named x ds → first_named x (cond b (d ∷ firsts index (i + 1) ds) (firsts index (i + 1) ds)) ≡ first_named x ds
      skipped true e k = ap (λ (c : Bool). cond c (Some d) (first_named x (firsts index (i + 1) ds))) e ∙ k
      skipped false e k = k

      found : bytes_eq x d.name ≡ true → is_first index i d ≡ true
      found e =
          let same : x ≡ d.name = (bytes_eq-Decides x d.name).0 e in
          let at : answer_of index d.name ≡ Some (i + 0) = sym (ap (answer_of index) same) ∙ (h ∙ ap (λ (b : Bool). option_map (λ k. i + k) (cond b (Some 0) (option_map suc (first_place ds x)))) e) in
          let here : i + 0 ≡ i = omega arith in
          ap (is_place i) at ∙ eq-eqb (i + 0) i here

      go : (b : Bool) → bytes_eq x d.name ≡ b → (answer_of index x ≡ option_map (λ k. (i + 1) + k) (first_place ds x) → first_named x (firsts index (i + 1) ds) ≡ first_named x ds) → first_named x (cond (is_first index i d) (d ∷ firsts index (i + 1) ds) (firsts index (i + 1) ds)) ≡ cond (bytes_eq x d.name) (Some d) (first_named x ds)
      go true e again =
          ap (λ (b : Bool). first_named x (cond b (d ∷ firsts index (i + 1) ds) (firsts index (i + 1) ds))) (found e)
          ∙ (ap (λ (b : Bool). cond b (Some d) (first_named x (firsts index (i + 1) ds))) e ∙ sym (ap (λ (b : Bool). cond b (Some d) (first_named x ds)) e))
      go false e again =
          skipped (is_first index i d) e
          (again (h ∙ (ap (λ (b : Bool). option_map (λ k. i + k) (cond b (Some 0) (option_map suc (first_place ds x)))) e ∙ further i (first_place ds x))))
          ∙ sym (ap (λ (b : Bool). cond b (Some d) (first_named x ds)) e)

  tested : (b : Bool) (d : Def) (o : Option Def) → cond b (Some d) o ≡ None → (b ≡ false) × (o ≡ None)
  tested true d o h = absurd (cc)
  tested false d o h = (refl, h)

  -- a name without a definition has none among the others
  not_later : (i : ℕ) (ds : List Def) → first_named x ds ≡ None → first_named x (later index i ds) ≡ None
  not_later i [] h = refl
  not_later i (d ∷ ds) h = let k = tested (bytes_eq x d.name) d (first_named x ds) h in go (is_first index i d) k.0 (not_later (i + 1) ds k.1)
    where
      go : (b : Bool) → bytes_eq x d.name ≡ false → first_named x (later index (i + 1) ds) ≡ None → first_named x (cond b (later index (i + 1) ds) (d ∷ later index (i + 1) ds)) ≡ None
      go true e k = k
      go false e k = ap (λ (c : Bool). cond c (Some d) (first_named x (later index (i + 1) ds))) e ∙ k

  in_one : (o p : Option Def) → (o ≡ None → p ≡ None) → either o p ≡ o
  in_one (Some d) p h = refl
  in_one None p h = h refl

  -- the first ones in any order that keeps the first of a name, and the others behind
  first_stays : (ds sorted : List Def) → answer_of index x ≡ place_of ds x → first_named x sorted ≡ first_named x (firsts index 0 ds) → first_named x (sorted ++ later index 0 ds) ≡ first_named x ds
  first_stays ds sorted h k =
      named_in_two x sorted (later index 0 ds)
      ∙ (ap (λ (o : Option Def). either o (first_named x (later index 0 ds))) (k ∙ among_firsts 0 ds (h ∙ (places ds x ∙ sym (itself (first_place ds x)))))
      ∙ in_one (first_named x ds) (first_named x (later index 0 ds)) (not_later 0 ds))
    where
      itself : (o : Option ℕ) → option_map (λ k. 0 + k) o ≡ o
      itself None = refl
      itself (Some k) = let e : 0 + k ≡ k = omega arith in ap (λ (n : ℕ). Some n) e

-- the first definition of each name is the same
pub firsts_stay : (index : Index) (table first behind sorted arranged : List Def) → IsIndexed table index → first ≡ firsts index 0 table → behind ≡ later index 0 table → SameFirst first sorted → arranged ≡ sorted ++ behind → SameFirst table arranged
unfolding IsIndexed SameFirst
firsts_stay index table first behind sorted arranged h f l k e x =
    ap (first_named x) (e ∙ ap (λ (ds : List Def). sorted ++ ds) l) ∙ first_stays index x table sorted (h x) (k x ∙ ap (first_named x) f)

-- none is lost
parts_count : (index : Index) (i : ℕ) (ds : List Def) → length (firsts index i ds) + length (later index i ds) ≡ length ds
parts_count index i [] = omega arith
parts_count index i (d ∷ ds) = go (is_first index i d) (parts_count index (i + 1) ds)
  where
    go : (b : Bool) → length (firsts index (i + 1) ds) + length (later index (i + 1) ds) ≡ length ds
        → length (cond b (d ∷ firsts index (i + 1) ds) (firsts index (i + 1) ds)) + length (cond b (later index (i + 1) ds) (d ∷ later index (i + 1) ds)) ≡ suc (length ds)
    go true h = omega arith
    go false h = omega arith

pub all_stay : (index : Index) (table first behind sorted arranged : List Def) → first ≡ firsts index 0 table → behind ≡ later index 0 table → length sorted ≡ length first → arranged ≡ sorted ++ behind → length arranged ≡ length table
all_stay index table first behind sorted arranged f l h e =
    let k = parts_count index 0 table in
    let a = length-append sorted behind in
    let b = ap length e in
    let c = ap length f in
    let d = ap length l in
    omega arith
