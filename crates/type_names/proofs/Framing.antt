-- The frame of a list of names, the last one first.
use Rattle.std.proofs.Common.{◌≡◌, ℕ, ◌≤◌, ◌<◌, ◌+◌, cond, List, [], ◌∷◌, length, drop, get_or, map, bytes_eq, Vec, Some, None, arith, sym, refl, ap, ◌∙◌}
use Rattle.std.specs.HashMap.{HashMap}
use Rattle.std.proofs.lemmas.List.{drop_more, drop_all}
use Rattle.type_demands.specs.declared.demands.Meaning.{Meaning}
use Rattle.type_demands.specs.Scopes.{bound_at, meaning_in}
use Rattle.type_names.specs.declared.listing.Named.{Named}
use Rattle.type_names.specs.Names.{scope_named}

-- the names from i on are in the map
pub record IsFraming {Y S : Type 0} (ks : List Named) (i : ℕ) (meanings : HashMap (Vec ℕ Y) Meaning S) : Type 0 where
  pub within : i ≤ length ks
  pub framed : (x : List ℕ) → meaning_in meanings x ≡ scope_named (drop i ks) x

pub framing_none : {Y S : Type 0} (ks : List Named) (meanings : HashMap (Vec ℕ Y) Meaning S) → ((x : List ℕ) → meaning_in meanings x ≡ None) → IsFraming ks (length ks) meanings
framing_none ks meanings e = record {
  within = omega arith;
  framed = λ x. e x ∙ ap (λ l. scope_named l x) (sym (drop_all (length ks) ks (omega arith)));
}

pub framing_more : {Y S : Type 0} (ks : List Named) (i : ℕ) (k : Named) (old new : HashMap (Vec ℕ Y) Meaning S) → i < length ks → k ≡ get_or ks i k → IsFraming ks (i + 1) old
    → ((x : List ℕ) → meaning_in new x ≡ cond (bytes_eq x k.name) (Some (bound_at k.part)) (meaning_in old x)) → IsFraming ks i new
framing_more ks i k old new inside is g put =
    let d : drop i ks ≡ k ∷ drop (i + 1) ks = drop_more ks i k inside ∙ ap (λ c. c ∷ drop (i + 1) ks) (sym is) in
    record {
      within = omega arith;
      framed = λ x. put x ∙ ap (cond (bytes_eq x k.name) (Some (bound_at k.part))) (g.framed x) ∙ ap (λ l. scope_named l x) (sym d);
    }

pub framing_all : {Y S : Type 0} (ks : List Named) (i : ℕ) (meanings : HashMap (Vec ℕ Y) Meaning S) → i ≡ 0 → IsFraming ks i meanings → (x : List ℕ) → meaning_in meanings x ≡ scope_named ks x
framing_all ks i meanings e g x = g.framed x ∙ ap (λ n. scope_named (drop n ks) x) e

pub map_id : (xs : List (List ℕ)) → map (λ (x : List ℕ). x) xs ≡ xs
map_id [] = refl
map_id (x ∷ xs) = ap (λ (l : List (List ℕ)). x ∷ l) (map_id xs)
