-- Of two definitions of one name the first counts.
use borrow.Author.Tests.{ltb-false, ltb-true}
use Rattle.std.proofs.Common.{◌≡◌, ℕ, zero, suc, ◌+◌, ◌++◌, ◌<◌, ◌≤◌, ◌⊎◌, inl, inr, Bool, true, false, not, cond, List, [], ◌∷◌, take, length, get_or, fold, rules, Option, Some, None, refl, sym, ap, ◌∙◌, subst, arith}
use Rattle.std.specs.Prelude.{IsSome, IfSome, IfOk, Result, slice_get, option_map, option_and_then, bytes_eq, position, nat_lt, min}
use Rattle.std.specs.Option.{option_copied}
use Rattle.std.specs.List.{position_or_len, prefix_len}
use denote.Ref.{Bor}
use Rattle.b_ast.specs.declared.machine.Def.{Def}
use Rattle.b_expand.specs.Expansion.{all_of}
use Rattle.b_summaries.specs.declared.summary.Summary.{Summary}
use Rattle.b_summaries.specs.declared.summary.Told.{Told}
use Rattle.b_names.specs.declared.places.Index.{Index}
use Rattle.b_names.specs.declared.places.TableIndex.{TableIndex}
use Rattle.b_names.specs.Index.{IsIndexOf, IsIndexOfNames, AreOfParameters}
use Rattle.b_expand.specs.Standing.{IsIndexed}
use Rattle.b_summaries.specs.Standing.{ArePlaces, place_below, meaning_in, AreTold, used_at}
use Rattle.b_summaries.specs.Making.{substituted}
use Rattle.b_summaries.specs.Summaries.{Meaning, Meanings, Reading, Form, row_of, applied, plain_row, row, first_arguments, later_forms, first_of, with_definition, meaning_of, meanings, told_body, place_of}

-- what a name means stays
keeps : (table : List Def) (m : Meanings) (ds : List Def) (x : List ℕ) (u : Meaning) → m x ≡ Some u → fold (with_definition table) m ds x ≡ Some u
keeps table m [] x u h = h
keeps table m (d ∷ ds) x u h = keeps table (with_definition table m d) ds x u (ap (λ o. first_of o (cond (bytes_eq x d.name) (Some (meaning_of table m d.params d.body)) None)) h)

-- what the definition at a place means after those before it
abbrev pub meaning_from : List Def → Meanings → List Def → ℕ → Option Meaning
meaning_from table m ds i = option_map (λ d. meaning_of table (fold (with_definition table) m (take i ds)) d.params d.body) (slice_get ds i)

-- the place of the first definition of a name
abbrev pub first_place : List Def → List ℕ → ℕ
first_place ds x = position_or_len (λ d. bytes_eq x d.name) ds

unfold_more : (table : List Def) (m : Meanings) (d : Def) (ds : List Def) (n k : ℕ) → n ≡ suc k → meaning_from table m (d ∷ ds) n ≡ meaning_from table (with_definition table m d) ds k
unfold_more table m d ds n k e = ap (meaning_from table m (d ∷ ds)) e

first_true : (d : Def) (ds : List Def) (x : List ℕ) → bytes_eq x d.name ≡ true → first_place (d ∷ ds) x ≡ 0
first_true d ds x e = ap (λ (b : Bool). cond (not b) (1 + prefix_len (λ d. not (bytes_eq x d.name)) ds) 0) e

first_false : (d : Def) (ds : List Def) (x : List ℕ) → bytes_eq x d.name ≡ false → first_place (d ∷ ds) x ≡ suc (first_place ds x)
first_false d ds x e =
    let on : 1 + first_place ds x ≡ suc (first_place ds x) = omega arith in
    ap (λ (b : Bool). cond (not b) (1 + prefix_len (λ d. not (bytes_eq x d.name)) ds) 0) e ∙ on

means_next : (table : List Def) (m : Meanings) (d : Def) (x : List ℕ) (b : Bool) → m x ≡ None → bytes_eq x d.name ≡ b → with_definition table m d x ≡ cond b (Some (meaning_of table m d.params d.body)) None
means_next table m d x b h e =
    ap (λ o. first_of o (cond (bytes_eq x d.name) (Some (meaning_of table m d.params d.body)) None)) h
    ∙ ap (λ (b : Bool). cond b (Some (meaning_of table m d.params d.body)) None) e

means_step : (table : List Def) (m : Meanings) (d : Def) (ds : List Def) (x : List ℕ) → m x ≡ None → (with_definition table m d x ≡ None → meaning_from table (with_definition table m d) ds (first_place ds x) ≡ fold (with_definition table) (with_definition table m d) ds x) → (b : Bool) → bytes_eq x d.name ≡ b → meaning_from table m (d ∷ ds) (first_place (d ∷ ds) x) ≡ fold (with_definition table) m (d ∷ ds) x
means_step table m d ds x h again true e =
    ap (meaning_from table m (d ∷ ds)) (first_true d ds x e) ∙ sym (keeps table (with_definition table m d) ds x (meaning_of table m d.params d.body) (means_next table m d x true h e))
means_step table m d ds x h again false e =
    unfold_more table m d ds (first_place (d ∷ ds) x) (first_place ds x) (first_false d ds x e) ∙ again (means_next table m d x false h e)

-- a name means what its first definition means
means_first : (table : List Def) (m : Meanings) (ds : List Def) (x : List ℕ) → m x ≡ None → meaning_from table m ds (first_place ds x) ≡ fold (with_definition table) m ds x
means_first table m [] x h = sym h
means_first table m (d ∷ ds) x h = means_step table m d ds x h (means_first table (with_definition table m d) ds x) (bytes_eq x d.name) refl

past_end : (ds : List Def) (n : ℕ) → length ds ≤ n → slice_get ds n ≡ None
past_end [] n h = refl
past_end (d ∷ ds) zero h = absurd (omega arith)
past_end (d ∷ ds) (suc n) h = past_end ds n (omega arith)

means_place : (table ds : List Def) (x : List ℕ) (b : Bool) → nat_lt (first_place ds x) (length ds) ≡ b → option_and_then (meaning_from table (λ y. None) ds) (cond b (Some (first_place ds x)) None) ≡ meanings table ds x
means_place table ds x true e = means_first table (λ y. None) ds x refl
means_place table ds x false e =
    let end : length ds ≤ first_place ds x = ltb-false _ _ e in
    sym (ap (option_map (λ d. meaning_of table (fold (with_definition table) (λ y. None) (take (first_place ds x) ds)) d.params d.body)) (past_end ds (first_place ds x) end)) ∙ means_first table (λ y. None) ds x refl

-- a name means the definition at its place, if it has one
pub means_at_place : (table ds : List Def) (x : List ℕ) (o : Option ℕ) → o ≡ position (λ d. bytes_eq x d.name) ds → option_and_then (meaning_from table (λ y. None) ds) o ≡ meanings table ds x
means_at_place table ds x o h = ap (option_and_then (meaning_from table (λ y. None) ds)) h ∙ means_place table ds x (nat_lt (first_place ds x) (length ds)) refl

-- what a definition means depends on those before it alone
known_meaning : (table : List Def) (m : Meanings) (ds : List Def) (k i : ℕ) → i < length (take k ds) → meaning_from table m (take k ds) i ≡ meaning_from table m ds i
known_meaning table m ds zero i h = absurd (omega arith)
known_meaning table m [] (suc k) i h = refl
known_meaning table m (d ∷ ds) (suc k) zero h = refl
known_meaning table m (d ∷ ds) (suc k) (suc i) h = known_meaning table (with_definition table m d) ds k i (omega arith)

means_known : (table : List Def) (k : ℕ) (x : List ℕ) (o : Option ℕ) → o ≡ position (λ d. bytes_eq x d.name) (take k table) → IfSome o (λ i. i < length (take k table)) → option_and_then (meaning_from table (λ y. None) table) o ≡ meanings table (take k table) x
means_known table k x None e h = means_at_place table (take k table) x None e
means_known table k x (Some i) e h = sym (known_meaning table (λ y. None) table k i h) ∙ means_at_place table (take k table) x (Some i) e

-- the first definition of a name among so many first ones
first_taken : (ds : List Def) (x : List ℕ) (k : ℕ) → first_place (take k ds) x ≡ min k (first_place ds x)
first_taken ds x zero = omega arith
first_taken [] x (suc k) = omega arith
first_taken (d ∷ ds) x (suc k) = by_test (first_taken ds x k) (bytes_eq x d.name) refl
  where
    by_test : first_place (take k ds) x ≡ min k (first_place ds x) → (b : Bool) → bytes_eq x d.name ≡ b → first_place (d ∷ take k ds) x ≡ min (suc k) (first_place (d ∷ ds) x)
    by_test h true e = let m = first_true d (take k ds) x e in let n = first_true d ds x e in omega arith
    by_test h false e = let m = first_false d (take k ds) x e in let n = first_false d ds x e in omega arith

-- so many first ones are so many, if there are
length_taken : (ds : List Def) (k : ℕ) → length (take k ds) ≡ min k (length ds)
length_taken ds zero = omega arith
length_taken [] (suc k) = omega arith
length_taken (d ∷ ds) (suc k) = let h = length_taken ds k in omega arith

-- a place among so many first ones, from the place among all
taken_cases : (n l k m o : ℕ) → m ≡ min k n → o ≡ min k l → (b c d : Bool) → nat_lt n l ≡ b → nat_lt n k ≡ c → nat_lt m o ≡ d → option_and_then (λ i. cond (nat_lt i k) (Some i) None) (cond b (Some n) None) ≡ cond d (Some m) None
taken_cases n l k m o e f false c false p q r = refl
taken_cases n l k m o e f false c true p q r = let a = ltb-false n l p in let b = ltb-true m o r in absurd (omega arith)
taken_cases n l k m o e f true false false p q r = ap (λ (b : Bool). cond b (Some n) None) q
taken_cases n l k m o e f true false true p q r = let a = ltb-false n k q in let b = ltb-true m o r in absurd (omega arith)
taken_cases n l k m o e f true true false p q r = let a = ltb-true n l p in let b = ltb-true n k q in let g = ltb-false m o r in absurd (omega arith)
taken_cases n l k m o e f true true true p q r = let b = ltb-true n k q in let same : n ≡ m = omega arith in ap (λ (b : Bool). cond b (Some n) None) q ∙ ap Some same

-- so is the place of a name
place_taken : (table : List Def) (k : ℕ) (x : List ℕ) → place_below k (position (λ d. bytes_eq x d.name) table) ≡ position (λ d. bytes_eq x d.name) (take k table)
place_taken table k x = taken_cases (first_place table x) (length table) k (first_place (take k table) x) (length (take k table)) (first_taken table x k) (length_taken table k) (nat_lt (first_place table x) (length table)) (nat_lt (first_place table x) k) (nat_lt (first_place (take k table) x) (length (take k table))) refl refl refl

-- a place that is found lies within the list
found_within : (n l : ℕ) (b : Bool) → nat_lt n l ≡ b → IfSome (cond b (Some n) None) (λ i. i < l)
found_within n l true e = ltb-true n l e
found_within n l false e = tt

-- a name's place lies within the table
place_within : (ds : List Def) (x : List ℕ) → IfSome (position (λ d. bytes_eq x d.name) ds) (λ i. i < length ds)
place_within ds x = found_within (first_place ds x) (length ds) (nat_lt (first_place ds x) (length ds)) refl

-- the place that a text may use is one among the definitions that it may use
known_taken : (table : List Def) (k : ℕ) (x : List ℕ) (o : Option ℕ) → o ≡ position (λ d. bytes_eq x d.name) table → (r : Option ℕ) → r ≡ place_below k o → r ≡ position (λ d. bytes_eq x d.name) (take k table)
known_taken table k x o e r h = h ∙ (ap (place_below k) e ∙ place_taken table k x)

-- and it lies among them
known_within : (table : List Def) (k : ℕ) (x : List ℕ) (r : Option ℕ) → r ≡ position (λ d. bytes_eq x d.name) (take k table) → IfSome r (λ i. i < length (take k table))
known_within table k x r h = subst (λ (o : Option ℕ). IfSome o (λ i. i < length (take k table))) (sym h) (place_within (take k table) x)

-- a name means the definition at its place among those that a text may use
pub means_where : (table : List Def) (k : ℕ) (x : List ℕ) (o : Option ℕ) → o ≡ position (λ d. bytes_eq x d.name) table → (r : Option ℕ) → r ≡ place_below k o → option_and_then (meaning_from table (λ y. None) table) r ≡ meanings table (take k table) x
means_where table k x o e r h = means_known table k x r (known_taken table k x o e r h) (known_within table k x r (known_taken table k x o e r h))

below_known : (xs : List Def) (k i : ℕ) → i < length (take k xs) → i < k
below_known xs zero i h = absurd (omega arith)
below_known [] (suc k) i h = absurd (omega arith)
below_known (x ∷ xs) (suc k) zero h = omega arith
below_known (x ∷ xs) (suc k) (suc i) h = let m = below_known xs k i (omega arith) in omega arith

in_table : (xs : List Def) (k i : ℕ) → i < length (take k xs) → i < length xs
in_table xs zero i h = absurd (omega arith)
in_table [] (suc k) i h = h
in_table (x ∷ xs) (suc k) zero h = omega arith
in_table (x ∷ xs) (suc k) (suc i) h = let m = in_table xs k i (omega arith) in omega arith

-- such a place is below their number
below_in : (table : List Def) (k : ℕ) (r : Option ℕ) → IfSome r (λ i. i < length (take k table)) → IfSome r (λ i. i < k)
below_in table k None h = tt
below_in table k (Some i) h = below_known table k i h

-- and within the table
within_in : (table : List Def) (k : ℕ) (r : Option ℕ) → IfSome r (λ i. i < length (take k table)) → IfSome r (λ i. i < length table)
within_in table k None h = tt
within_in table k (Some i) h = in_table table k i h

-- a place among the definitions that a text may use is below their number, and in the table
pub all_below : (table : List Def) (k : ℕ) (x : List ℕ) (o : Option ℕ) → o ≡ position (λ d. bytes_eq x d.name) table → (r : Option ℕ) → r ≡ place_below k o → IfSome r (λ i. i < k)
all_below table k x o e r h = below_in table k r (known_within table k x r (known_taken table k x o e r h))

pub all_within : (table : List Def) (k : ℕ) (x : List ℕ) (o : Option ℕ) → o ≡ position (λ d. bytes_eq x d.name) table → (r : Option ℕ) → r ≡ place_below k o → IfSome r (λ i. i < length table)
all_within table k x o e r h = within_in table k r (known_within table k x r (known_taken table k x o e r h))

-- what stands at a place of the table means something
pub meant : (f : Def → Meaning) (ds : List Def) (i : ℕ) → i < length ds → IsSome (option_map f (slice_get ds i))
meant f [] i h = absurd (omega arith)
meant f (d ∷ ds) zero h = search rules
meant f (d ∷ ds) (suc i) h = meant f ds i (omega arith)

pub meant_where : (f : ℕ → Def → Meaning) (ds : List Def) (o : Option ℕ) → IfSome o (λ i. i < length ds) → IfSome o (λ i. IsSome (option_map (f i) (slice_get ds i)))
meant_where f ds None h = tt
meant_where f ds (Some i) h = meant (f i) ds i h

-- a row whose head means a definition, and which begins with arguments, is a use of it
row_uses : (m : Option Meaning) → IsSome m → (depth : ℕ) (r : Reading) (fs : List Form) (us : List (Option Summary)) → first_arguments fs ≡ Some us → row (option_map (λ m. (depth, m)) m) r fs ≡ row_of (option_and_then (used_at m depth) (all_of us)) (later_forms fs)
row_uses None k depth r fs us e = absurd (search rules)
row_uses (Some m) k depth r fs us e = ap (λ a. applied (depth, m) a r fs) e

-- the row of a use, from its parts
pub row_used : (m : Option Meaning) → IsSome m → (depth : ℕ) (r : Reading) (fs gs : List Form) (us : List (Option Summary)) → first_arguments fs ≡ Some us → gs ≡ later_forms fs
    → (args : Option (List Summary)) → args ≡ all_of us → (u : Option Summary) → u ≡ option_and_then (used_at m depth) args → (o : Option Summary) → o ≡ row_of u gs
    → o ≡ row (option_map (λ m. (depth, m)) m) r fs
row_used m k depth r fs gs us e g args h u i o j =
    j ∙ (ap (row_of u) g ∙ (ap (λ u. row_of u (later_forms fs)) (i ∙ ap (option_and_then (used_at m depth)) h) ∙ sym (row_uses m k depth r fs us e)))

-- a row whose head means a definition, and which begins without arguments, stays a row
row_stays : (m : Option Meaning) (depth : ℕ) (r : Reading) (fs : List Form) → first_arguments fs ≡ None → row (option_map (λ m. (depth, m)) m) r fs ≡ plain_row r.tree fs
row_stays None depth r fs e = refl
row_stays (Some m) depth r fs e = ap (λ a. applied (depth, m) a r fs) e

pub row_left : {E : Type 0} (m : Option Meaning) (depth : ℕ) (r : Reading) (fs : List Form) → first_arguments fs ≡ None → (res : Result (Option Summary) E) → IfOk res (λ o. o ≡ plain_row r.tree fs) → IfOk res (λ o. o ≡ row (option_map (λ m. (depth, m)) m) r fs)
row_left m depth r fs e res i = subst (λ (z : Option Summary). IfOk res (λ o. o ≡ z)) (sym (row_stays m depth r fs e)) i

-- all first ones are all
pub take_all : (ds : List Def) → take (length ds) ds ≡ ds
take_all [] = refl
take_all (d ∷ ds) = ap (λ (xs : List Def). d ∷ xs) (take_all ds)

-- ---- what is told

-- a use by what is told of its definition
told_used : (m : Option Meaning) (t : Option Told) → option_map (λ m. m.told) m ≡ Some t → (depth : ℕ) (us : List Summary) → used_at m depth us ≡ option_and_then (λ t. substituted t depth us) t
told_used None t h depth us = absurd (cc)
told_used (Some m) t h depth us = let e : m.told ≡ t = cc in ap (option_and_then (λ t. substituted t depth us)) e

pub use_told : (table : List Def) (known : List (Option Told)) → AreTold table known → (i : ℕ) (t : Option Told) → slice_get known i ≡ Some t → (depth : ℕ) (us : List Summary) → used_at (meaning_in table i) depth us ≡ option_and_then (λ t. substituted t depth us) t
unfolding AreTold
use_told table known h i t e depth us = told_used (meaning_in table i) t (h i t e) depth us

-- the last of a list, or one before it
at_last : {X : Type 0} (xs : List X) (x u : X) (i : ℕ) → slice_get (xs ++ x ∷ []) i ≡ Some u → (slice_get xs i ≡ Some u) ⊎ ((i ≡ length xs) × (x ≡ u))
at_last [] x u zero h = let e : x ≡ u = cc in inr (omega arith, e)
at_last [] x u (suc i) h = absurd (cc)
at_last (y ∷ xs) x u zero h = inl h
at_last (y ∷ xs) x u (suc i) h = elim (at_last xs x u i h) [ inl k ↦ inl k | inr k ↦ inr (omega arith, k.1) ]

meaning_there : (table : List Def) (i : ℕ) (d : Def) → slice_get table i ≡ Some d → option_map (λ m. m.told) (meaning_in table i) ≡ Some (told_body table d.params (meanings table (take i table)) d.body)
meaning_there table i d h = ap (λ (o : Option Def). option_map (λ (m : Meaning). m.told) (option_map (λ d. meaning_of table (meanings table (take i table)) d.params d.body) o)) h

-- one more definition is told
pub told_more : (table : List Def) (known : List (Option Told)) → AreTold table known → (d : Def) → slice_get table (length known) ≡ Some d → (t : Option Told) → t ≡ told_body table d.params (meanings table (take (length known) table)) d.body → AreTold table (known ++ t ∷ [])
unfolding AreTold
told_more table known h d at t e i u k = elim (at_last known t u i k) [ inl j ↦ h i u j | inr j ↦ last j ]
  where
    last : (i ≡ length known) × (t ≡ u) → option_map (λ m. m.told) (meaning_in table i) ≡ Some u
    last j = ap (λ i. option_map (λ (m : Meaning). m.told) (meaning_in table i)) j.0 ∙ (meaning_there table (length known) d at ∙ ap (λ (t : Option Told). Some t) (sym e ∙ j.1))

-- no definition is told yet
pub none_told : (table : List Def) → AreTold table []
unfolding AreTold
none_told table zero u k = absurd (cc)
none_told table (suc i) u k = absurd (cc)

-- what stands at a place within
pub get_there : {X : Type 0} (xs : List X) (i : ℕ) (x : X) → i < length xs → x ≡ get_or xs i x → slice_get xs i ≡ Some x
get_there [] i x h e = absurd (omega arith)
get_there (y ∷ xs) zero x h e = ap (λ y. Some y) (sym e)
get_there (y ∷ xs) (suc i) x h e = get_there xs i x (omega arith) e

-- a use by what is told of its definition
pub use_gives : {E : Type 0} (table : List Def) (known : List (Option Told)) → AreTold table known → (i : ℕ) (t : Option Told) → slice_get known i ≡ Some t → (depth : ℕ) (us : List Summary) (res : Result (Option Summary) E)
    → IfOk res (λ o. o ≡ option_and_then (λ t. substituted t depth us) t) → IfOk res (λ o. o ≡ used_at (meaning_in table i) depth us)
use_gives table known h i t e depth us res k = subst (λ (z : Option Summary). IfOk res (λ o. o ≡ z)) (sym (use_told table known h i t e depth us)) k

-- ---- indexes

-- an index of a table is one of its definitions
pub definitions_known : (table : List Def) (index : TableIndex) → IsIndexed table index → IsIndexOf table index.definitions
unfolding IsIndexed
definitions_known table index h = h.definitions

parameters_at : (ps : List Index) (k : ℕ) (o : Option Index) → o ≡ slice_get ps k → (d : Def) → ((i : Index) → slice_get ps k ≡ Some i → IsIndexOfNames d.params i) → k < length ps → ArePlaces d.params o
unfolding ArePlaces
parameters_at ps k (Some i) e d h w = h i (sym e)
parameters_at ps k None e d h w = absurd (there ps k (sym e) w)
  where
    there : (ps : List Index) (k : ℕ) → slice_get ps k ≡ None → k < length ps → ⊥
    there [] k e w = omega arith
    there (p ∷ ps) zero e w = absurd (cc)
    there (p ∷ ps) (suc k) e w = there ps k e (omega arith)

of_this : (ds : List Def) (k : ℕ) (d : Def) → slice_get ds k ≡ Some d → (i : Index) → IfSome (slice_get ds k) (λ d. IsIndexOfNames d.params i) → IsIndexOfNames d.params i
of_this ds k d at i h = subst (λ (o : Option Def). IfSome o (λ d. IsIndexOfNames d.params i)) at h

within_table : (ds : List Def) (k : ℕ) (d : Def) → slice_get ds k ≡ Some d → k < length ds
within_table [] k d h = absurd (none k h)
  where
    none : (k : ℕ) → slice_get [] k ≡ Some d → ⊥
    none zero h = absurd (cc)
    none (suc k) h = absurd (cc)
within_table (e ∷ ds) zero d h = omega arith
within_table (e ∷ ds) (suc k) d h = let w = within_table ds k d h in omega arith

-- the index of the parameters of a definition at a place
pub parameters_known : (table : List Def) (index : TableIndex) → IsIndexed table index → (k : ℕ) (d : Def) → slice_get table k ≡ Some d → (ps : List Index) → ps ≡ index.parameters → (o : Option Index) → o ≡ slice_get ps k → ArePlaces d.params o
unfolding IsIndexed AreOfParameters
parameters_known table index h k d at ps same o e =
    let w = within_table table k d at in
    let m = ap length same in
    let n = h.as_many in
    parameters_at ps k o e d (λ i f. of_this table k d at i (h.parameters k i (sym (ap (λ (ps : List Index). slice_get ps k) same) ∙ f))) (omega arith)

-- the index of a text's parameters
index_known : (params : List (List ℕ)) (i : Index) → ArePlaces params (Some i) → IsIndexOfNames params i
unfolding ArePlaces
index_known params i h = h

pub places_known : (params : List (List ℕ)) (o : Option (Bor Index)) (i : Bor Index) → o ≡ Some i → ArePlaces params (option_copied o) → IsIndexOfNames params i.now
places_known params o i e h = index_known params i.now (subst (λ (o : Option (Bor Index)). ArePlaces params (option_copied o)) e h)

none_known : (params : List (List ℕ)) (x : List ℕ) → ArePlaces params None → None ≡ place_of params x
unfolding ArePlaces
none_known params x h = ap (λ (ps : List (List ℕ)). place_of ps x) (sym h)

pub no_places : (params : List (List ℕ)) (o : Option (Bor Index)) → o ≡ None → (x : List ℕ) → ArePlaces params (option_copied o) → None ≡ place_of params x
no_places params o e x h = none_known params x (subst (λ (o : Option (Bor Index)). ArePlaces params (option_copied o)) e h)

-- a text without parameters has none
pub none_placed : ArePlaces [] None
unfolding ArePlaces
none_placed = refl
