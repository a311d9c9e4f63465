-- The first definitions of names, definition by definition.
use Rattle.std.proofs.Common.{◌≡◌, ℕ, zero, suc, ◌+◌, ◌<◌, Bool, true, false, not, cond, List, [], ◌∷◌, take, length, fold, Option, Some, None, refl, sym, ap, subst, ◌∙◌, arith}
use Rattle.std.specs.Prelude.{IfSome, slice_get, option_map, option_and_then, is_some, bytes_eq, position, nat_lt}
use Rattle.std.specs.List.{position_or_len, AllByRecursion}
use Rattle.std.proofs.lemmas.Bool.Decides.{nat_tests}
use Rattle.b_ast.specs.declared.machine.Def.{Def}
use Rattle.b_names.specs.Index.{place_of}
use Rattle.b_expand.specs.Expansion.{Meaning, Meanings, first_of, meaning_of, with_definition}
use Rattle.b_definitions.specs.Tables.{first_named}
use Rattle.b_definitions.specs.Uses.{listed}

-- the place of the first definition of a name
abbrev pub first_place : List Def → List ℕ → Option ℕ
first_place [] x = None
first_place (d ∷ ds) x = cond (bytes_eq x d.name) (Some 0) (option_map suc (first_place ds x))

-- ---- a search finds it

less_zero : (n : ℕ) → nat_lt 0 (suc n) ≡ true
less_zero n = grind (arith, nat_tests)

less_next : (m n : ℕ) → nat_lt (suc m) (suc n) ≡ nat_lt m n
less_next m n = grind (arith, nat_tests)

next_of : (k : ℕ) (b : Bool) → cond b (Some (suc k)) None ≡ option_map suc (cond b (Some k) None)
next_of k true = refl
next_of k false = refl

-- a search goes on behind what it doesn't find
position_next : {X : Type 0} (p : X → Bool) (y : X) (ys : List X) (b : Bool) → p y ≡ b → position p (y ∷ ys) ≡ cond b (Some 0) (option_map suc (position p ys))
position_next p y ys true e =
    ap (λ (b : Bool). let k : ℕ = cond (not b) (1 + position_or_len p ys) 0 in cond (nat_lt k (suc (length ys))) (Some k) None) e
    ∙ ap (λ (b : Bool). cond b (Some 0) None) (less_zero (length ys))
position_next p y ys false e =
    let on : 1 + position_or_len p ys ≡ suc (position_or_len p ys) = omega arith in
    ap (λ (b : Bool). let k : ℕ = cond (not b) (1 + position_or_len p ys) 0 in cond (nat_lt k (suc (length ys))) (Some k) None) e
    ∙ ap (λ (k : ℕ). cond (nat_lt k (suc (length ys))) (Some k) None) on
    ∙ ap (λ (b : Bool). cond b (Some (suc (position_or_len p ys))) None) (less_next (position_or_len p ys) (length ys))
    ∙ next_of (position_or_len p ys) (nat_lt (position_or_len p ys) (length ys))

pub places : (ds : List Def) (x : List ℕ) → place_of ds x ≡ first_place ds x
places [] x = refl
places (d ∷ ds) x = position_next (λ (d : Def). bytes_eq x d.name) d ds (bytes_eq x d.name) refl ∙ ap (λ (o : Option ℕ). cond (bytes_eq x d.name) (Some 0) (option_map suc o)) (places ds x)

-- ---- the definition there

one_further : {X : Type 0} (x : X) (xs : List X) (o : Option ℕ) → option_and_then (slice_get (x ∷ xs)) (option_map suc o) ≡ option_and_then (slice_get xs) o
one_further x xs None = refl
one_further x xs (Some k) = refl

-- the first definition of a name is the one at its place
pub named_there : (ds : List Def) (x : List ℕ) → first_named x ds ≡ option_and_then (slice_get ds) (first_place ds x)
named_there [] x = refl
named_there (d ∷ ds) x = go (bytes_eq x d.name) (named_there ds x)
  where
    go : (b : Bool) → first_named x ds ≡ option_and_then (slice_get ds) (first_place ds x) → cond b (Some d) (first_named x ds) ≡ option_and_then (slice_get (d ∷ ds)) (cond b (Some 0) (option_map suc (first_place ds x)))
    go true h = refl
    go false h = h ∙ sym (one_further d ds (first_place ds x))

some_next : (o : Option ℕ) → is_some (option_map suc o) ≡ is_some o
some_next None = refl
some_next (Some k) = refl

-- a name has a place where it has a definition
pub both_there : (ds : List Def) (x : List ℕ) → is_some (first_place ds x) ≡ is_some (first_named x ds)
both_there [] x = refl
both_there (d ∷ ds) x = go (bytes_eq x d.name) (both_there ds x)
  where
    go : (b : Bool) → is_some (first_place ds x) ≡ is_some (first_named x ds) → is_some (cond b (Some 0) (option_map suc (first_place ds x))) ≡ is_some (cond b (Some d) (first_named x ds))
    go true h = refl
    go false h = some_next (first_place ds x) ∙ h

within_next : (n : ℕ) (o : Option ℕ) → IfSome o (λ i. i < n) → IfSome (option_map suc o) (λ i. i < suc n)
within_next n None h = tt
within_next n (Some i) h = omega arith

-- the place lies in the table
pub place_within : (ds : List Def) (x : List ℕ) → IfSome (first_place ds x) (λ i. i < length ds)
place_within [] x = tt
place_within (d ∷ ds) x = go (bytes_eq x d.name) (place_within ds x)
  where
    go : (b : Bool) → IfSome (first_place ds x) (λ i. i < length ds) → IfSome (cond b (Some 0) (option_map suc (first_place ds x))) (λ i. i < suc (length ds))
    go true h = omega arith
    go false h = within_next (length ds) (first_place ds x) h

-- what stands at a place in a list
pub standing : {X : Type 0} (xs : List X) (i : ℕ) → i < length xs → (x : X) × (slice_get xs i ≡ Some x)
standing [] i h = absurd (omega arith)
standing (x ∷ xs) zero h = (x, refl)
standing (x ∷ xs) (suc i) h = standing xs i (omega arith)

-- ---- what names mean in the order of a table

module _ (table : List Def) where
  -- what a name means stays
  keeps : (m : Meanings) (ds : List Def) (x : List ℕ) (u : Meaning) → m x ≡ Some u → fold (with_definition table) m ds x ≡ Some u
  keeps m [] x u h = h
  keeps m (d ∷ ds) x u h = keeps (with_definition table m d) ds x u (ap (λ o. first_of o (cond (bytes_eq x d.name) (Some (meaning_of table m d.params d.body)) None)) h)

  -- what the definition at a place means after those before it
  abbrev pub meaning_from : Meanings → List Def → ℕ → Option Meaning
  meaning_from m ds i = option_map (λ d. meaning_of table (fold (with_definition table) m (take i ds)) d.params d.body) (slice_get ds i)

  means_next : (m : Meanings) (d : Def) (x : List ℕ) (b : Bool) → m x ≡ None → bytes_eq x d.name ≡ b → with_definition table m d x ≡ cond b (Some (meaning_of table m d.params d.body)) None
  means_next m d x b h e =
      ap (λ o. first_of o (cond (bytes_eq x d.name) (Some (meaning_of table m d.params d.body)) None)) h
      ∙ ap (λ (b : Bool). cond b (Some (meaning_of table m d.params d.body)) None) e

  meaning_further : (m : Meanings) (d : Def) (ds : List Def) (o : Option ℕ) → option_and_then (meaning_from m (d ∷ ds)) (option_map suc o) ≡ option_and_then (meaning_from (with_definition table m d) ds) o
  meaning_further m d ds None = refl
  meaning_further m d ds (Some i) = refl

  -- a name means what its first definition means
  pub means_first : (m : Meanings) (ds : List Def) (x : List ℕ) → m x ≡ None → fold (with_definition table) m ds x ≡ option_and_then (meaning_from m ds) (first_place ds x)
  means_first m [] x h = h
  means_first m (d ∷ ds) x h = go (bytes_eq x d.name) refl (means_first (with_definition table m d) ds x)
    where
      go : (b : Bool) → bytes_eq x d.name ≡ b → (with_definition table m d x ≡ None → fold (with_definition table) (with_definition table m d) ds x ≡ option_and_then (meaning_from (with_definition table m d) ds) (first_place ds x)) → fold (with_definition table) (with_definition table m d) ds x ≡ option_and_then (meaning_from m (d ∷ ds)) (cond (bytes_eq x d.name) (Some 0) (option_map suc (first_place ds x)))
      go true e again =
          keeps (with_definition table m d) ds x (meaning_of table m d.params d.body) (means_next m d x true h e)
          ∙ sym (ap (λ (b : Bool). option_and_then (meaning_from m (d ∷ ds)) (cond b (Some 0) (option_map suc (first_place ds x)))) e)
      go false e again =
          again (means_next m d x false h e)
          ∙ (sym (meaning_further m d ds (first_place ds x))
          ∙ sym (ap (λ (b : Bool). option_and_then (meaning_from m (d ∷ ds)) (cond b (Some 0) (option_map suc (first_place ds x)))) e))

  -- a name that isn't defined means nothing
  means_nothing : (m : Meanings) (ds : List Def) (x : List ℕ) → m x ≡ None → first_place ds x ≡ None → fold (with_definition table) m ds x ≡ None
  means_nothing m ds x h e = means_first m ds x h ∙ ap (option_and_then (meaning_from m ds)) e

  fewer : (i : ℕ) (o : Option ℕ) → AllByRecursion (λ j. j < suc i) (listed (option_map suc o)) → AllByRecursion (λ j. j < i) (listed o)
  fewer i None h = tt
  fewer i (Some j) h = let k : suc j < suc i = h.0 in (omega arith, tt)

  none_below : (o : Option ℕ) → AllByRecursion (λ j. j < 0) (listed o) → o ≡ None
  none_below None h = refl
  none_below (Some j) h = let k : j < 0 = h.0 in absurd (omega arith)

  -- what a name means is settled by the definitions up to its own
  pub means_before : (m : Meanings) (ds : List Def) (i : ℕ) (x : List ℕ) → m x ≡ None → AllByRecursion (λ j. j < i) (listed (first_place ds x)) → fold (with_definition table) m (take i ds) x ≡ fold (with_definition table) m ds x
  means_before m [] zero x h k = refl
  means_before m [] (suc i) x h k = refl
  means_before m (d ∷ ds) zero x h k = h ∙ sym (means_nothing m (d ∷ ds) x h (none_below (first_place (d ∷ ds) x) k))
  means_before m (d ∷ ds) (suc i) x h k = go (bytes_eq x d.name) refl (means_before (with_definition table m d) ds i x)
    where
      go : (b : Bool) → bytes_eq x d.name ≡ b
          → (with_definition table m d x ≡ None → AllByRecursion (λ j. j < i) (listed (first_place ds x)) → fold (with_definition table) (with_definition table m d) (take i ds) x ≡ fold (with_definition table) (with_definition table m d) ds x) → fold (with_definition table) (with_definition table m d) (take i ds) x ≡ fold (with_definition table) (with_definition table m d) ds x
      go true e again =
          keeps (with_definition table m d) (take i ds) x (meaning_of table m d.params d.body) (means_next m d x true h e)
          ∙ sym (keeps (with_definition table m d) ds x (meaning_of table m d.params d.body) (means_next m d x true h e))
      go false e again =
          again (means_next m d x false h e)
          (fewer i (first_place ds x) (subst (λ (b : Bool). AllByRecursion (λ j. j < suc i) (listed (cond b (Some 0) (option_map suc (first_place ds x))))) e k))
