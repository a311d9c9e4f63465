-- Of two definitions of one name the first counts, whatever definitions mean.
use borrow.Author.Tests.{ltb-false, ltb-true}
use Rattle.std.proofs.Common.{◌≡◌, ℕ, zero, suc, ◌+◌, ◌++◌, ◌<◌, ◌≤◌, ◌⊎◌, inl, inr, Bool, true, false, not, cond, List, [], ◌∷◌, take, length, get_or, fold, Option, Some, None, refl, sym, ap, ◌∙◌, subst, arith}
use Rattle.std.specs.Prelude.{IfSome, slice_get, option_map, option_and_then, bytes_eq, position, nat_lt, min}
use Rattle.std.specs.List.{position_or_len, prefix_len}
use Rattle.b_ast.specs.declared.machine.Def.{Def}
use Rattle.b_summaries.specs.declared.summary.Told.{Told}
use Rattle.b_summaries.specs.Standing.{AreTold, place_below}

-- the place of the first definition of a name
abbrev first_place : List Def → List ℕ → ℕ
first_place ds x = position_or_len (λ d. bytes_eq x d.name) ds

first_true : (d : Def) (ds : List Def) (x : List ℕ) → bytes_eq x d.name ≡ true → first_place (d ∷ ds) x ≡ 0
first_true d ds x e = ap (λ (b : Bool). cond (not b) (1 + prefix_len (λ d. not (bytes_eq x d.name)) ds) 0) e

first_false : (d : Def) (ds : List Def) (x : List ℕ) → bytes_eq x d.name ≡ false → first_place (d ∷ ds) x ≡ suc (first_place ds x)
first_false d ds x e =
    let on : 1 + first_place ds x ≡ suc (first_place ds x) = omega arith in
    ap (λ (b : Bool). cond (not b) (1 + prefix_len (λ d. not (bytes_eq x d.name)) ds) 0) e ∙ on

past_end : {X : Type 0} (ds : List X) (n : ℕ) → length ds ≤ n → slice_get ds n ≡ None
past_end [] n h = refl
past_end (d ∷ ds) zero h = absurd (omega arith)
past_end (d ∷ ds) (suc n) h = past_end ds n (omega arith)

-- ---- what names mean after some definitions, by what a definition means after those before it

module _ {S M : Type 0} (look : S → List ℕ → Option M) (f : S → Def → M) (more : S → Def → S)
    (stays : (s : S) (d : Def) (x : List ℕ) (u : M) → look s x ≡ Some u → look (more s d) x ≡ Some u)
    (next : (s : S) (d : Def) (x : List ℕ) → look s x ≡ None → look (more s d) x ≡ cond (bytes_eq x d.name) (Some (f s d)) None) where
  keeps : (s : S) (ds : List Def) (x : List ℕ) (u : M) → look s x ≡ Some u → look (fold more s ds) x ≡ Some u
  keeps s [] x u h = h
  keeps s (d ∷ ds) x u h = keeps (more s d) ds x u (stays s d x u h)

  -- what the definition at a place means after those before it
  abbrev pub meant_from : S → List Def → ℕ → Option M
  meant_from s ds i = option_map (λ d. f (fold more s (take i ds)) d) (slice_get ds i)

  next_by : (s : S) (d : Def) (x : List ℕ) (b : Bool) → look s x ≡ None → bytes_eq x d.name ≡ b → look (more s d) x ≡ cond b (Some (f s d)) None
  next_by s d x b h e = next s d x h ∙ ap (λ (b : Bool). cond b (Some (f s d)) None) e

  first_step : (s : S) (d : Def) (ds : List Def) (x : List ℕ) → look s x ≡ None → (look (more s d) x ≡ None → meant_from (more s d) ds (first_place ds x) ≡ look (fold more (more s d) ds) x) → (b : Bool) → bytes_eq x d.name ≡ b → meant_from s (d ∷ ds) (first_place (d ∷ ds) x) ≡ look (fold more s (d ∷ ds)) x
  first_step s d ds x h again true e = ap (meant_from s (d ∷ ds)) (first_true d ds x e) ∙ sym (keeps (more s d) ds x (f s d) (next_by s d x true h e))
  first_step s d ds x h again false e = ap (meant_from s (d ∷ ds)) (first_false d ds x e) ∙ again (next_by s d x false h e)

  -- a name means what its first definition means
  means_first : (s : S) (ds : List Def) (x : List ℕ) → look s x ≡ None → meant_from s ds (first_place ds x) ≡ look (fold more s ds) x
  means_first s [] x h = sym h
  means_first s (d ∷ ds) x h = first_step s d ds x h (means_first (more s d) ds x) (bytes_eq x d.name) refl

  module _ (s : S) (empty : (x : List ℕ) → look s x ≡ None) where
    means_place : (ds : List Def) (x : List ℕ) (b : Bool) → nat_lt (first_place ds x) (length ds) ≡ b → option_and_then (meant_from s ds) (cond b (Some (first_place ds x)) None) ≡ look (fold more s ds) x
    means_place ds x true e = means_first s ds x (empty x)
    means_place ds x false e =
        let end : length ds ≤ first_place ds x = ltb-false _ _ e in
        sym (ap (option_map (λ d. f (fold more s (take (first_place ds x) ds)) d)) (past_end ds (first_place ds x) end)) ∙ means_first s ds x (empty x)

    means_at_place : (ds : List Def) (x : List ℕ) (o : Option ℕ) → o ≡ position (λ d. bytes_eq x d.name) ds → option_and_then (meant_from s ds) o ≡ look (fold more s ds) x
    means_at_place ds x o h = ap (option_and_then (meant_from s ds)) h ∙ means_place ds x (nat_lt (first_place ds x) (length ds)) refl

  -- what a definition means depends on those before it alone
  known_meaning : (s : S) (ds : List Def) (k i : ℕ) → i < length (take k ds) → meant_from s (take k ds) i ≡ meant_from s ds i
  known_meaning s ds zero i h = absurd (omega arith)
  known_meaning s [] (suc k) i h = refl
  known_meaning s (d ∷ ds) (suc k) zero h = refl
  known_meaning s (d ∷ ds) (suc k) (suc i) h = known_meaning (more s d) ds k i (omega arith)

  pub means_known : (s : S) → ((x : List ℕ) → look s x ≡ None) → (table : List Def) (k : ℕ) (x : List ℕ) (o : Option ℕ) → o ≡ position (λ d. bytes_eq x d.name) (take k table) → IfSome o (λ i. i < length (take k table)) → option_and_then (meant_from s table) o ≡ look (fold more s (take k table)) x
  means_known s empty table k x None e h = means_at_place s empty (take k table) x None e
  means_known s empty table k x (Some i) e h = sym (known_meaning s table k i h) ∙ means_at_place s empty (take k table) x (Some i) e

-- ---- places among the first definitions

first_taken : (ds : List Def) (x : List ℕ) (k : ℕ) → first_place (take k ds) x ≡ min k (first_place ds x)
first_taken ds x zero = omega arith
first_taken [] x (suc k) = omega arith
first_taken (d ∷ ds) x (suc k) = by_test (first_taken ds x k) (bytes_eq x d.name) refl
  where
    by_test : first_place (take k ds) x ≡ min k (first_place ds x) → (b : Bool) → bytes_eq x d.name ≡ b → first_place (d ∷ take k ds) x ≡ min (suc k) (first_place (d ∷ ds) x)
    by_test h true e = let m = first_true d (take k ds) x e in let n = first_true d ds x e in omega arith
    by_test h false e = let m = first_false d (take k ds) x e in let n = first_false d ds x e in omega arith

length_taken : (ds : List Def) (k : ℕ) → length (take k ds) ≡ min k (length ds)
length_taken ds zero = omega arith
length_taken [] (suc k) = omega arith
length_taken (d ∷ ds) (suc k) = let h = length_taken ds k in omega arith

taken_cases : (n l k m o : ℕ) → m ≡ min k n → o ≡ min k l → (b c d : Bool) → nat_lt n l ≡ b → nat_lt n k ≡ c → nat_lt m o ≡ d → place_below k (cond b (Some n) None) ≡ cond d (Some m) None
taken_cases n l k m o e f false c false p q r = refl
taken_cases n l k m o e f false c true p q r = let a = ltb-false n l p in let b = ltb-true m o r in absurd (omega arith)
taken_cases n l k m o e f true false false p q r = ap (λ (b : Bool). cond b (Some n) None) q
taken_cases n l k m o e f true false true p q r = let a = ltb-false n k q in let b = ltb-true m o r in absurd (omega arith)
taken_cases n l k m o e f true true false p q r = let a = ltb-true n l p in let b = ltb-true n k q in let g = ltb-false m o r in absurd (omega arith)
taken_cases n l k m o e f true true true p q r = let b = ltb-true n k q in let same : n ≡ m = omega arith in ap (λ (b : Bool). cond b (Some n) None) q ∙ ap Some same

place_taken : (table : List Def) (k : ℕ) (x : List ℕ) → place_below k (position (λ d. bytes_eq x d.name) table) ≡ position (λ d. bytes_eq x d.name) (take k table)
place_taken table k x = taken_cases (first_place table x) (length table) k (first_place (take k table) x) (length (take k table)) (first_taken table x k) (length_taken table k) (nat_lt (first_place table x) (length table)) (nat_lt (first_place table x) k) (nat_lt (first_place (take k table) x) (length (take k table))) refl refl refl

found_within : (n l : ℕ) (b : Bool) → nat_lt n l ≡ b → IfSome (cond b (Some n) None) (λ i. i < l)
found_within n l true e = ltb-true n l e
found_within n l false e = tt

place_within : (ds : List Def) (x : List ℕ) → IfSome (position (λ d. bytes_eq x d.name) ds) (λ i. i < length ds)
place_within ds x = found_within (first_place ds x) (length ds) (nat_lt (first_place ds x) (length ds)) refl

known_taken : (table : List Def) (k : ℕ) (x : List ℕ) (o : Option ℕ) → o ≡ position (λ d. bytes_eq x d.name) table → (r : Option ℕ) → r ≡ place_below k o → r ≡ position (λ d. bytes_eq x d.name) (take k table)
known_taken table k x o e r h = h ∙ (ap (place_below k) e ∙ place_taken table k x)

pub known_within : (table : List Def) (k : ℕ) (x : List ℕ) (r : Option ℕ) → r ≡ position (λ d. bytes_eq x d.name) (take k table) → IfSome r (λ i. i < length (take k table))
known_within table k x r h = subst (λ (o : Option ℕ). IfSome o (λ i. i < length (take k table))) (sym h) (place_within (take k table) x)

-- a place that is found among the first is below their number
pub below_number : (table : List Def) (k : ℕ) (x : List ℕ) (o : Option ℕ) → o ≡ position (λ d. bytes_eq x d.name) table → (r : Option ℕ) → r ≡ place_below k o → IfSome r (λ i. i < k)
below_number table k x o e r h = go r (known_within table k x r (known_taken table k x o e r h))
  where
    go : (r : Option ℕ) → IfSome r (λ i. i < length (take k table)) → IfSome r (λ i. i < k)
    go None h = tt
    go (Some i) h = let l = length_taken table k in omega arith

module _ {S M : Type 0} (look : S → List ℕ → Option M) (f : S → Def → M) (more : S → Def → S)
    (stays : (s : S) (d : Def) (x : List ℕ) (u : M) → look s x ≡ Some u → look (more s d) x ≡ Some u)
    (next : (s : S) (d : Def) (x : List ℕ) → look s x ≡ None → look (more s d) x ≡ cond (bytes_eq x d.name) (Some (f s d)) None) where
  -- a name means the definition at its place among those that a text may use
  pub means_where : (s : S) → ((x : List ℕ) → look s x ≡ None) → (table : List Def) (k : ℕ) (x : List ℕ) (o : Option ℕ) → o ≡ position (λ d. bytes_eq x d.name) table → (r : Option ℕ) → r ≡ place_below k o
      → option_and_then (meant_from look f more stays next s table) r ≡ look (fold more s (take k table)) x
  means_where s empty table k x o e r h = means_known look f more stays next s empty table k x r (known_taken table k x o e r h) (known_within table k x r (known_taken table k x o e r h))

-- all first ones are all
pub take_all : (ds : List Def) → take (length ds) ds ≡ ds
take_all [] = refl
take_all (d ∷ ds) = ap (λ (xs : List Def). d ∷ xs) (take_all ds)

-- what stands at a place within
pub get_there : {X : Type 0} (xs : List X) (i : ℕ) (x : X) → i < length xs → x ≡ get_or xs i x → slice_get xs i ≡ Some x
get_there [] i x h e = absurd (omega arith)
get_there (y ∷ xs) zero x h e = ap (λ y. Some y) (sym e)
get_there (y ∷ xs) (suc i) x h e = get_there xs i x (omega arith) e

-- the last of a list, or one before it
pub at_last : {X : Type 0} (xs : List X) (x u : X) (i : ℕ) → slice_get (xs ++ x ∷ []) i ≡ Some u → (slice_get xs i ≡ Some u) ⊎ ((i ≡ length xs) × (x ≡ u))
at_last [] x u zero h = let e : x ≡ u = cc in inr (omega arith, e)
at_last [] x u (suc i) h = absurd (cc)
at_last (y ∷ xs) x u zero h = inl h
at_last (y ∷ xs) x u (suc i) h = elim (at_last xs x u i h) [ inl k ↦ inl k | inr k ↦ inr (omega arith, k.1) ]

-- ---- the first formulas that are told

taken_there : {X : Type 0} (xs : List X) (n i : ℕ) (x : X) → slice_get (take n xs) i ≡ Some x → slice_get xs i ≡ Some x
taken_there xs zero zero x h = absurd (cc)
taken_there xs zero (suc i) x h = absurd (cc)
taken_there [] (suc n) i x h = h
taken_there (y ∷ xs) (suc n) zero x h = h
taken_there (y ∷ xs) (suc n) (suc i) x h = taken_there xs n i x h

-- are told too
pub first_told : (table : List Def) (told : List (Option Told)) → AreTold table told → (n : ℕ) (front : List (Option Told)) → front ≡ take n told → AreTold table front
unfolding AreTold
first_told table told h n front e i t k = h i t (taken_there told n i t (sym (ap (λ (ts : List (Option Told)). slice_get ts i) e) ∙ k))
