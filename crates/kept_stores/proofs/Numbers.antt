-- The numbers of names, and how the states behind root grow.
use Rattle.std.proofs.Common.{◌≡◌, ◌∙◌, ◌<◌, sym, ap, subst, refl, ℕ, zero, suc, ◌+◌, ◌-◌, arith, Bool, true, false, cond, List, [], ◌∷◌, ◌++◌, append-nil, drop, length, slice_get, Some}
use Rattle.std.specs.List.{list_any}
use Rattle.engine_face.specs.Keys.{same_bytes, bytes_same}
use Rattle.engine_face.specs.Meaning.{Meaning}
use Rattle.engine_face.specs.Packing.{Unpacking, IsPacked}
use Rattle.kept_stores.specs.Truth.{HasNumber}
use Rattle.names_list.specs.Naming.{AreDistinct, AreTrueNames, place, with_state}
use Rattle.names_list.specs.NamingLaws.{named_true}
use Rattle.turn_lock.specs.Histories.{GrowsByOne}

at_place_by : (b : Bool) (name state : List ℕ) (names : List (List ℕ)) → same_bytes state name ≡ b
    → (place names state < length names → slice_get names (place names state) ≡ Some state)
    → cond b 0 (suc (place names state)) < suc (length names) → slice_get (name ∷ names) (cond b 0 (suc (place names state))) ≡ Some state
at_place_by true name state names is on within = ap Some (sym (bytes_same state name is))
at_place_by false name state names is on within = on (omega (arith, within))

-- a state that is there stands at its place
pub at_place : (names : List (List ℕ)) (state : List ℕ) → place names state < length names → slice_get names (place names state) ≡ Some state
at_place [] state within = absurd (omega (arith, within))
at_place (name ∷ names) state within = at_place_by (same_bytes state name) name state names refl (at_place names state) within

-- a place among true names is a number
pub has_number : (m : Meaning) (unpack : Unpacking) (names : List (List ℕ)) (n : ℕ) (state : List ℕ) → AreTrueNames m unpack names → slice_get names n ≡ Some state → HasNumber m unpack (drop 1 names) n state
has_number m unpack [] n state known at = absurd (nothing at)
  where
    nothing : slice_get [] n ≡ Some state → ⊥
    nothing e = cc
has_number m unpack (root ∷ behind) zero state known at = let first = known.first in let same : known.root ≡ state = cc in ap unpack (sym same) ∙ known.is_root
has_number m unpack (root ∷ behind) (suc n) state known at = at

grows_by : (b : Bool) (names : List (List ℕ)) (state : List ℕ) → 0 < length names → GrowsByOne (drop 1 names) (drop 1 (cond b names (names ++ state ∷ [])))
grows_by true names state some = ([], sym (append-nil (drop 1 names)), omega arith)
grows_by false [] state some = absurd (omega (arith, some))
grows_by false (root ∷ behind) state some = (state ∷ [], refl, omega arith)

-- naming a state adds it behind the others, or nothing
pub names_grow : (names : List (List ℕ)) (state : List ℕ) → 0 < length names → GrowsByOne (drop 1 names) (drop 1 (with_state names state))
names_grow names state some = grows_by (list_any (same_bytes state) names) names state some

-- there are names
pub has_root : (m : Meaning) (unpack : Unpacking) (names : List (List ℕ)) → AreTrueNames m unpack names → 0 < length names
has_root m unpack [] known = let first = known.first in absurd (nothing first)
  where
    nothing : slice_get [] 0 ≡ Some known.root → ⊥
    nothing e = cc
has_root m unpack (root ∷ behind) known = omega arith

-- a state that was named among true names has its number
pub numbered : (m : Meaning) (unpack : Unpacking) (old new : List (List ℕ)) (state : List ℕ) (n : ℕ) → AreTrueNames m unpack old → IsPacked unpack state → AreDistinct new
    → new ≡ with_state old state → n ≡ place new state → n < length new → HasNumber m unpack (drop 1 new) n state
numbered m unpack old new state n known packed distinct exact number within =
    let true_new : AreTrueNames m unpack new = subst (λ (names : List (List ℕ)). AreDistinct names → AreTrueNames m unpack names) (sym exact) (named_true m unpack old state known packed) distinct in
    let at : slice_get new (place new state) ≡ Some state = at_place new state (subst (λ (k : ℕ). k < length new) number within) in
    has_number m unpack new n state true_new (ap (slice_get new) number ∙ at)

-- and the states behind root have grown by it, or by nothing
pub grown : (m : Meaning) (unpack : Unpacking) (old new : List (List ℕ)) (state : List ℕ) → AreTrueNames m unpack old → new ≡ with_state old state → GrowsByOne (drop 1 old) (drop 1 new)
grown m unpack old new state known exact = subst (λ (names : List (List ℕ)). GrowsByOne (drop 1 old) (drop 1 names)) (sym exact) (names_grow old state (has_root m unpack old known))
