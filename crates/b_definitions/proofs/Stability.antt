-- A sort by ranks of names keeps the first definition of each name.
use Rattle.std.proofs.Common.{◌≡◌, ℕ, zero, suc, Bool, true, false, not, cond, List, [], ◌∷◌, map, length, get_or, Option, Some, None, refl, sym, ap, subst, ◌∙◌, arith}
use Rattle.std.specs.Prelude.{bytes_eq, ◌&&◌, All}
use Rattle.std.specs.List.{filter}
use Rattle.std.specs.List.Sorted.{IsStableByKey, IsPermutation, ties}
use Rattle.std.specs.Ordering.{nat_cmp, is_lt}
use Rattle.std.specs.declared.cmp.Ordering.TheVariants.{Equal}
use Rattle.std.specs.Cmp.{nat_cmp_is}
use Rattle.std.specs.Cmp.Lexicographic.{bytes_decides}
use Rattle.std.proofs.lemmas.List.Sorted.{All-permutation}
use Rattle.b_ast.specs.declared.machine.Def.{Def}
use Rattle.b_names.specs.declared.places.Index.{Index}
use Rattle.b_definitions.specs.declared.sorting.Ranked.{Ranked}
use Rattle.b_definitions.specs.Ranks.{rank_of, ranked}
use Rattle.b_definitions.specs.Tables.{first_named, SameFirst}

module _ (x : List ℕ) where
  -- the first definition of the name among ranked ones
  abbrev first : List Ranked → Option Def
  first [] = None
  first (r ∷ rs) = cond (bytes_eq x r.def.name) (Some r.def) (first rs)

  first_there : (rs : List Ranked) → first_named x (map (λ (r : Ranked). r.def) rs) ≡ first rs
  first_there [] = refl
  first_there (r ∷ rs) = ap (λ (o : Option Def). cond (bytes_eq x r.def.name) (Some r.def) o) (first_there rs)

  -- those that are kept have all of the name
  kept : (q : Ranked → Bool) (rs : List Ranked) → All (λ (r : Ranked). bytes_eq x r.def.name ≡ true → q r ≡ true) rs → first rs ≡ first (filter q rs)
  kept q [] h = refl
  kept q (r ∷ rs) h = go (bytes_eq x r.def.name) refl (q r) refl (kept q rs (λ k d below. h (suc k) d (omega arith)))
    where
      go : (b : Bool) → bytes_eq x r.def.name ≡ b → (c : Bool) → q r ≡ c → first rs ≡ first (filter q rs) → cond (bytes_eq x r.def.name) (Some r.def) (first rs) ≡ first (cond (q r) (r ∷ filter q rs) (filter q rs))
      go true e true f i =
          ap (λ b. cond b (Some r.def) (first rs)) e
          ∙ sym (ap (λ c. first (cond c (r ∷ filter q rs) (filter q rs))) f ∙ ap (λ b. cond b (Some r.def) (first (filter q rs))) e)
      go true e false f i = let g : q r ≡ true = h zero r (omega arith) e in absurd (cc)
      go false e true f i =
          ap (λ b. cond b (Some r.def) (first rs)) e
          ∙ (i ∙ sym (ap (λ c. first (cond c (r ∷ filter q rs) (filter q rs))) f ∙ ap (λ b. cond b (Some r.def) (first (filter q rs))) e))
      go false e false f i = ap (λ b. cond b (Some r.def) (first rs)) e ∙ (i ∙ sym (ap (λ c. first (cond c (r ∷ filter q rs) (filter q rs))) f))

-- no number is less than itself
not_less : (k : ℕ) → is_lt (nat_cmp k k) ≡ false
not_less k = ap is_lt (sym (nat_cmp_is k k Equal refl))

-- equal ranks tie
tie : (k m : ℕ) → k ≡ m → (not (is_lt (nat_cmp k m)) && not (is_lt (nat_cmp m k))) ≡ true
tie k m h = subst (λ m. (not (is_lt (nat_cmp k m)) && not (is_lt (nat_cmp m k))) ≡ true) h (ap (λ b. not b && not b) (not_less k))

module _ (index : Index) (ranks : List ℕ) where
  -- a definition has the rank of its name
  abbrev HasRank : Ranked → Type 0
  HasRank r = r.rank ≡ rank_of index ranks r.def.name

  all_ranked : (ds : List Def) → All HasRank (map (ranked index ranks) ds)
  all_ranked [] k d h = absurd (omega arith)
  all_ranked (e ∷ ds) zero d h = refl
  all_ranked (e ∷ ds) (suc k) d h = all_ranked ds k d (omega arith)

  stays : (x : List ℕ) (d : Def) (rs : List Ranked) → All HasRank rs → first x rs ≡ first x (filter (ties (λ (a b : Ranked). is_lt (nat_cmp a.rank b.rank)) (record { rank = rank_of index ranks x; def = d })) rs)
  stays x d rs h =
      kept x (ties (λ (a b : Ranked). is_lt (nat_cmp a.rank b.rank)) (record { rank = rank_of index ranks x; def = d })) rs
      (λ k e below same. tie (rank_of index ranks x) (get_or rs k e).rank (ap (rank_of index ranks) ((bytes_decides x (get_or rs k e).def.name).0 same) ∙ sym (h k e below)))

  none_left : (ss : List Ranked) → length ss ≡ 0 → (x : List ℕ) → first x ss ≡ None
  none_left [] h x = refl
  none_left (s ∷ ss) h x = absurd (omega arith)

  sorted_first : (ds : List Def) (ss : List Ranked) → IsStableByKey (λ (r : Ranked). r.rank) nat_cmp (map (ranked index ranks) ds) ss → IsPermutation (map (ranked index ranks) ds) ss → length ss ≡ length (map (ranked index ranks) ds)
      → (x : List ℕ) → first x ss ≡ first x (map (ranked index ranks) ds)
  sorted_first [] ss s p many x = none_left ss many x
  sorted_first (d ∷ ds) ss s p many x =
      stays x d ss (All-permutation HasRank (map (ranked index ranks) (d ∷ ds)) ss p (all_ranked (d ∷ ds)))
      ∙ (ap (first x) (s (record { rank = rank_of index ranks x; def = d })) ∙ sym (stays x d (map (ranked index ranks) (d ∷ ds)) (all_ranked (d ∷ ds))))

  unranked_first : (ds : List Def) (x : List ℕ) → first x (map (ranked index ranks) ds) ≡ first_named x ds
  unranked_first [] x = refl
  unranked_first (d ∷ ds) x = ap (λ (o : Option Def). cond (bytes_eq x d.name) (Some d) o) (unranked_first ds x)

  -- definitions that were sorted by the ranks of their names
  pub same_first : (ds : List Def) (rs ss : List Ranked) (es : List Def) → rs ≡ map (ranked index ranks) ds → IsStableByKey (λ (r : Ranked). r.rank) nat_cmp rs ss → IsPermutation rs ss → length ss ≡ length rs → es ≡ map (λ (r : Ranked). r.def) ss → SameFirst ds es
  unfolding SameFirst
  same_first ds rs ss es e s p many f x =
      ap (first_named x) f
      ∙ (first_there x ss
      ∙ (sorted_first ds ss (subst (λ (rs : List Ranked). IsStableByKey (λ (r : Ranked). r.rank) nat_cmp rs ss) e s) (subst (λ (rs : List Ranked). IsPermutation rs ss) e p) (many ∙ ap length e) x
      ∙ unranked_first ds x))
