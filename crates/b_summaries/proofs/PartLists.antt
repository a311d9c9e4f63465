-- Lists of parts, and shares by their places.
use Rattle.std.proofs.Common.{◌≡◌, ℕ, zero, suc, ◌<◌, ◌≤◌, List, [], ◌∷◌, ◌++◌, map, length, drop, Option, Some, None, refl, sym, ap, ◌∙◌, append_assoc, arith}
use Rattle.std.specs.Prelude.{slice_get, slice_set, option_map, option_and_then}
use Rattle.std.proofs.lemmas.List.{append-nil}
use Rattle.b_expand.specs.Expansion.{both, all_of}
use Rattle.b_summaries.specs.declared.summary.Size.{Size}
use Rattle.b_summaries.specs.declared.summary.Asked.{Asked}
use Rattle.b_summaries.specs.declared.summary.Share.{Share}
use Rattle.b_summaries.specs.declared.summary.Entry.{Entry}
use Rattle.b_summaries.specs.declared.summary.Parts.{Parts}
use Rattle.b_summaries.specs.Sizes.{plus, times, together, under}
use Rattle.b_summaries.specs.Values.{share_value, entries_value, kind_value, parts_value, facts_from}
use Rattle.b_summaries.specs.declared.summary.Kind.TheVariants as kind
use Rattle.b_summaries.specs.Making.{alone, join, place_size, demand, scaled_entry, scaled, lifted_all, more_share, added_share}

-- parts with equal fields are equal
parts_by : (z : Size) (es gs : List Entry) → es ≡ gs → ◌≡◌ {A = Parts} (record { size = z; entries = es }) (record { size = z; entries = gs })
parts_by z es gs h = cc

-- a place has no entries
pub place_joined : (p : Parts) (d : ℕ) → join p (alone (place_size 0 d)) ≡ record { size = plus p.size (place_size 0 d); entries = p.entries }
place_joined p d = parts_by _ _ _ (append-nil p.entries)

scaled_append : (c : ℕ) (o : Option ℕ) (es : List Entry) (e : Entry) → map (scaled_entry c o) (es ++ e ∷ []) ≡ map (scaled_entry c o) es ++ scaled_entry c o e ∷ []
scaled_append c o [] e = refl
scaled_append c o (g ∷ es) e = ap (λ es. scaled_entry c o g ∷ es) (scaled_append c o es e)

-- a demand that is scaled with its parts
pub demand_scaled : (p q : Parts) (c : ℕ) (o : Option ℕ) (a : Asked) (i : ℕ)
    → join p (scaled c o (record { size = q.size; entries = q.entries ++ demand a i ∷ [] })) ≡ record { size = plus p.size (times c o q.size); entries = (p.entries ++ map (scaled_entry c o) q.entries) ++ scaled_entry c o (demand a i) ∷ [] }
demand_scaled p q c o a i = parts_by _ _ _ (ap (λ es. p.entries ++ es) (scaled_append c o q.entries (demand a i)) ∙ sym (append_assoc p.entries (map (scaled_entry c o) q.entries) (scaled_entry c o (demand a i) ∷ [])))

-- fewer arguments than shares
pub too_few : (o : Option Parts) (hs : List Share) (i : ℕ) → i < length hs → lifted_all o (drop i hs) [] ≡ None
too_few o [] i h = absurd (omega arith)
too_few o (k ∷ hs) zero h = refl
too_few o (k ∷ hs) (suc i) h = too_few o hs i (omega arith)

-- ---- shares

-- one more share at a place within
pub share_added : (hs : List Share) (p : ℕ) (h g : Share) → slice_get hs p ≡ Some h → added_share hs p g ≡ Some (slice_set hs p (more_share h g))
share_added [] zero h g e = absurd (cc)
share_added [] (suc p) h g e = absurd (cc)
share_added (k ∷ hs) zero h g e = let same : k ≡ h = cc in ap (λ k. Some (more_share k g ∷ hs)) same
share_added (k ∷ hs) (suc p) h g e = ap (option_map (λ hs. k ∷ hs)) (share_added hs p h g e)

-- at a place past the end
pub share_missing : (hs : List Share) (p : ℕ) (g : Share) → slice_get hs p ≡ None → added_share hs p g ≡ None
share_missing [] p g e = refl
share_missing (k ∷ hs) zero g e = absurd (cc)
share_missing (k ∷ hs) (suc p) g e = ap (option_map (λ hs. k ∷ hs)) (share_missing hs p g e)

-- ---- lists of parts that may be missing

-- so far, and then the rest
abbrev pub joined : {X : Type 0} → Option (List X) → List (Option X) → Option (List X)
joined built os = both (λ xs ys. xs ++ ys) built (all_of os)

-- one more is built
pub joined_more : {X : Type 0} (built : Option (List X)) (o : Option X) (os : List (Option X)) → joined (both (λ xs x. xs ++ x ∷ []) built o) os ≡ joined built (o ∷ os)
joined_more None o os = refl
joined_more (Some xs) None os = refl
joined_more {X} (Some xs) (Some x) os = go (all_of os)
  where
    go : (r : Option (List X)) → both (λ xs ys. xs ++ ys) (Some (xs ++ x ∷ [])) r ≡ both (λ xs ys. xs ++ ys) (Some xs) (both (λ x xs. x ∷ xs) (Some x) r)
    go None = refl
    go (Some ys) = ap Some (append_assoc xs (x ∷ []) ys)

-- nothing is left
pub joined_all : {X : Type 0} (built : Option (List X)) → joined built [] ≡ built
joined_all None = refl
joined_all (Some xs) = ap Some (append-nil xs)

-- nothing is built yet
pub joined_none : {X : Type 0} (os : List (Option X)) → joined (Some []) os ≡ all_of os
joined_none {X} os = go (all_of os)
  where
    go : (r : Option (List X)) → both (λ xs ys. xs ++ ys) (Some []) r ≡ r
    go None = refl
    go (Some ys) = refl

-- ---- without arguments

-- what an argument adds that isn't there
pub none_alone : (e : Entry) (es : List Entry) → entries_value (e ∷ es) [] ≡ None
none_alone e es = go e.parameter
  where
    go : (p : ℕ) → together (option_and_then (share_value e.share) (slice_get [] p)) (entries_value es []) ≡ None
    go zero = refl
    go (suc p) = refl

-- the sort of an argument that isn't there
pub none_there : (p : ℕ) (z : Option Size) → both facts_from (kind_value (kind.Argument p) []) z ≡ None
none_there zero z = refl
none_there (suc p) z = refl

-- parts that some argument adds to
pub some_alone : (p : Parts) (es : List Entry) → es ≡ p.entries → 1 ≤ length es → parts_value p 0 [] ≡ None
some_alone p es h k = ap (λ (es : List Entry). together (Some (under 0 p.size)) (entries_value es [])) (sym h) ∙ go es k
  where
    go : (es : List Entry) → 1 ≤ length es → together (Some (under 0 p.size)) (entries_value es []) ≡ None
    go [] k = absurd (omega arith)
    go (e ∷ es) k = ap (together (Some (under 0 p.size))) (none_alone e es)
