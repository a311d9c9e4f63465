-- No definition is lost, and none comes in.
use Rattle.std.proofs.Common.{◌≡◌, ℕ, ◌+◌, Bool, true, false, cond, List, [], ◌∷◌, ◌++◌, map, refl, sym, ap, subst, ◌∙◌}
use Rattle.std.specs.List.Sorted.{IsPermutation}
use Rattle.std.proofs.lemmas.List.Sorted.{IsPermutation-refl, IsPermutation-sym, IsPermutation-trans, IsPermutation-cons, IsPermutation-map, IsPermutation-append_left, IsPermutation-middle}
use Rattle.b_ast.specs.declared.machine.Def.{Def}
use Rattle.b_names.specs.declared.places.Index.{Index}
use Rattle.b_definitions.specs.declared.sorting.Ranked.{Ranked}
use Rattle.b_definitions.specs.Ranks.{ranked}
use Rattle.b_definitions.specs.Parting.{is_first, firsts, later}

-- the definitions of ranked ones
unranked : (index : Index) (ranks : List ℕ) (ds : List Def) → map (λ (r : Ranked). r.def) (map (ranked index ranks) ds) ≡ ds
unranked index ranks [] = refl
unranked index ranks (d ∷ ds) = ap (λ (es : List Def). d ∷ es) (unranked index ranks ds)

-- a sort keeps them
pub sorted_kept : (index : Index) (ranks : List ℕ) (ds : List Def) (rs ss : List Ranked) (es : List Def) → rs ≡ map (ranked index ranks) ds → IsPermutation rs ss → es ≡ map (λ (r : Ranked). r.def) ss → IsPermutation ds es
sorted_kept index ranks ds rs ss es e p f =
    subst (λ (xs : List Def). IsPermutation xs es) (ap (map (λ (r : Ranked). r.def)) e ∙ unranked index ranks ds)
    (subst (λ (ys : List Def). IsPermutation (map (λ (r : Ranked). r.def) rs) ys) (sym f) (IsPermutation-map (λ (r : Ranked). r.def) rs ss p))

-- so does a parting
parts_kept : (index : Index) (i : ℕ) (ds : List Def) → IsPermutation ds (firsts index i ds ++ later index i ds)
parts_kept index i [] = IsPermutation-refl []
parts_kept index i (d ∷ ds) = go (is_first index i d) (parts_kept index (i + 1) ds)
  where
    go : (b : Bool) → IsPermutation ds (firsts index (i + 1) ds ++ later index (i + 1) ds)
        → IsPermutation (d ∷ ds) (cond b (d ∷ firsts index (i + 1) ds) (firsts index (i + 1) ds) ++ cond b (later index (i + 1) ds) (d ∷ later index (i + 1) ds))
    go true h = IsPermutation-cons d ds (firsts index (i + 1) ds ++ later index (i + 1) ds) h
    go false h =
        IsPermutation-trans (d ∷ ds) (d ∷ (firsts index (i + 1) ds ++ later index (i + 1) ds)) (firsts index (i + 1) ds ++ d ∷ later index (i + 1) ds)
        (IsPermutation-cons d ds (firsts index (i + 1) ds ++ later index (i + 1) ds) h)
        (IsPermutation-sym (firsts index (i + 1) ds ++ d ∷ later index (i + 1) ds) (d ∷ (firsts index (i + 1) ds ++ later index (i + 1) ds)) (IsPermutation-middle (firsts index (i + 1) ds) d (later index (i + 1) ds)))

-- and both together
pub none_lost : (index : Index) (table first behind sorted arranged : List Def) → first ≡ firsts index 0 table → behind ≡ later index 0 table → IsPermutation first sorted → arranged ≡ sorted ++ behind → IsPermutation table arranged
none_lost index table first behind sorted arranged f l p e =
    subst (λ (xs : List Def). IsPermutation table xs) (sym e)
    (IsPermutation-trans table (first ++ behind) (sorted ++ behind)
    (subst (λ (xs : List Def). IsPermutation table (xs ++ behind)) (sym f) (subst (λ (xs : List Def). IsPermutation table (firsts index 0 table ++ xs)) (sym l) (parts_kept index 0 table)))
    (IsPermutation-append_left behind first sorted p))
