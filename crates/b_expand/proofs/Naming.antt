-- Of two definitions of one name the first counts.
use borrow.Author.Tests.{ltb-false}
use Rattle.std.proofs.Common.{◌≡◌, ℕ, zero, suc, ◌+◌, ◌<◌, ◌≤◌, Bool, true, false, not, cond, List, [], ◌∷◌, take, length, fold, rules, Option, Some, None, refl, sym, ap, ◌∙◌, arith}
use Rattle.std.specs.Prelude.{IsSome, IfSome, slice_get, option_map, option_and_then, bytes_eq, position, nat_lt}
use Rattle.std.specs.List.{position_or_len, prefix_len}
use Rattle.b_ast.specs.declared.machine.Def.{Def}
use Rattle.b_expand.specs.Filling.{Insert, Inserts, first_of, with_definition, insert_of, inserts}

-- what a name means stays
keeps : (m : Inserts) (ds : List Def) (x : List ℕ) (u : Insert) → m x ≡ Some u → fold with_definition m ds x ≡ Some u
keeps m [] x u h = h
keeps m (d ∷ ds) x u h = keeps (with_definition m d) ds x u (ap (λ o. first_of o (cond (bytes_eq x d.name) (Some (insert_of m d.params d.body)) None)) h)

-- what the definition at a place means after those before it
abbrev pub insert_from : Inserts → List Def → ℕ → Option Insert
insert_from m ds i = option_map (λ d. insert_of (fold with_definition m (take i ds)) d.params d.body) (slice_get ds i)

-- the place of the first definition of a name
abbrev pub first_place : List Def → List ℕ → ℕ
first_place ds x = position_or_len (λ d. bytes_eq x d.name) ds

unfold_more : (m : Inserts) (d : Def) (ds : List Def) (n k : ℕ) → n ≡ suc k → insert_from m (d ∷ ds) n ≡ insert_from (with_definition m d) ds k
unfold_more m d ds n k e = ap (insert_from m (d ∷ ds)) e

first_true : (d : Def) (ds : List Def) (x : List ℕ) → bytes_eq x d.name ≡ true → first_place (d ∷ ds) x ≡ 0
first_true d ds x e = ap (λ (b : Bool). cond (not b) (1 + prefix_len (λ d. not (bytes_eq x d.name)) ds) 0) e

first_false : (d : Def) (ds : List Def) (x : List ℕ) → bytes_eq x d.name ≡ false → first_place (d ∷ ds) x ≡ suc (first_place ds x)
first_false d ds x e =
    let on : 1 + first_place ds x ≡ suc (first_place ds x) = omega arith in
    ap (λ (b : Bool). cond (not b) (1 + prefix_len (λ d. not (bytes_eq x d.name)) ds) 0) e ∙ on

pub means_next : (m : Inserts) (d : Def) (x : List ℕ) (b : Bool) → m x ≡ None → bytes_eq x d.name ≡ b → with_definition m d x ≡ cond b (Some (insert_of m d.params d.body)) None
means_next m d x b h e =
    ap (λ o. first_of o (cond (bytes_eq x d.name) (Some (insert_of m d.params d.body)) None)) h
    ∙ ap (λ (b : Bool). cond b (Some (insert_of m d.params d.body)) None) e

means_step : (m : Inserts) (d : Def) (ds : List Def) (x : List ℕ) → m x ≡ None → (with_definition m d x ≡ None → insert_from (with_definition m d) ds (first_place ds x) ≡ fold with_definition (with_definition m d) ds x) → (b : Bool) → bytes_eq x d.name ≡ b → insert_from m (d ∷ ds) (first_place (d ∷ ds) x) ≡ fold with_definition m (d ∷ ds) x
means_step m d ds x h again true e =
    ap (insert_from m (d ∷ ds)) (first_true d ds x e) ∙ sym (keeps (with_definition m d) ds x (insert_of m d.params d.body) (means_next m d x true h e))
means_step m d ds x h again false e =
    unfold_more m d ds (first_place (d ∷ ds) x) (first_place ds x) (first_false d ds x e) ∙ again (means_next m d x false h e)

-- a name means what its first definition means
means_first : (m : Inserts) (ds : List Def) (x : List ℕ) → m x ≡ None → insert_from m ds (first_place ds x) ≡ fold with_definition m ds x
means_first m [] x h = sym h
means_first m (d ∷ ds) x h = means_step m d ds x h (means_first (with_definition m d) ds x) (bytes_eq x d.name) refl

past_end : (ds : List Def) (n : ℕ) → length ds ≤ n → slice_get ds n ≡ None
past_end [] n h = refl
past_end (d ∷ ds) zero h = absurd (omega arith)
past_end (d ∷ ds) (suc n) h = past_end ds n (omega arith)

means_place : (ds : List Def) (x : List ℕ) (b : Bool) → nat_lt (first_place ds x) (length ds) ≡ b → option_and_then (insert_from (λ y. None) ds) (cond b (Some (first_place ds x)) None) ≡ inserts ds x
means_place ds x true e = means_first (λ y. None) ds x refl
means_place ds x false e =
    let end : length ds ≤ first_place ds x = ltb-false _ _ e in
    sym (ap (option_map (λ d. insert_of (fold with_definition (λ y. None) (take (first_place ds x) ds)) d.params d.body)) (past_end ds (first_place ds x) end)) ∙ means_first (λ y. None) ds x refl

-- a name means the definition at its place, if it has one
pub means_at_place : (ds : List Def) (x : List ℕ) (o : Option ℕ) → o ≡ position (λ d. bytes_eq x d.name) ds → option_and_then (insert_from (λ y. None) ds) o ≡ inserts ds x
means_at_place ds x o h = ap (option_and_then (insert_from (λ y. None) ds)) h ∙ means_place ds x (nat_lt (first_place ds x) (length ds)) refl

-- what stands at a place of the table means something
pub meant : (f : Def → Insert) (ds : List Def) (i : ℕ) → i < length ds → IsSome (option_map f (slice_get ds i))
meant f [] i h = absurd (omega arith)
meant f (d ∷ ds) zero h = search rules
meant f (d ∷ ds) (suc i) h = meant f ds i (omega arith)

pub meant_where : (f : ℕ → Def → Insert) (ds : List Def) (o : Option ℕ) → IfSome o (λ i. i < length ds) → IfSome o (λ i. IsSome (option_map (f i) (slice_get ds i)))
meant_where f ds None h = tt
meant_where f ds (Some i) h = meant (f i) ds i h
