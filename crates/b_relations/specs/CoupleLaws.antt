-- The laws of couples, and of the test whether a value is one of a list.
use Rattle.std.proofs.Common.{◌≡◌, ◌↔◌, Bool, true, false, not, List, map, Some, refl, sym, ap, ◌∙◌, subst}
use Rattle.ascending.specs.Ascending.{In}
use Rattle.b_values.specs.declared.values.Value.{Value, out-Value, roll-Value, roll-out-Value}
use Rattle.b_values.specs.declared.values.Value.TheOpen.{Value-F}
use Rattle.b_values.specs.declared.values.Value.TheVariants.{Pair, outs-Pair, rolls-Pair}
use Rattle.set_making.specs.ListMembers.{in_map}
use Rattle.b_relations.specs.Listed.{in_filter_map}
use Rattle.set_making.specs.Making.{is_among}
use Rattle.set_making.specs.MakingLaws.{is_among_finds}
use Rattle.b_relations.specs.Relations.{parts_of, parts, couple, couples_in}

-- ---- couples

pub parts-Pair : (a b : Value) → parts (Pair a b) ≡ Some (a, b)
parts-Pair a b = ap parts_of (outs-Pair a b)

layer_pair : (v : Value) (x : Value-F Value) (p : Value × Value) → out-Value v ≡ x → parts_of x ≡ Some p → v ≡ couple p
layer_pair v (Value-F.Pair a b) p e f =
    let same : (a, b) ≡ p = cc in
    sym (roll-out-Value v) ∙ ap roll-Value e ∙ rolls-Pair a b ∙ ap couple same
layer_pair v (Value-F.Int n) p e f = cc
layer_pair v (Value-F.Truth b) p e f = cc
layer_pair v (Value-F.Text s) p e f = cc
layer_pair v (Value-F.Elem s i) p e f = cc
layer_pair v (Value-F.Set xs) p e f = cc

-- what has parts is the couple of them
pub couple_of_parts : (v : Value) (p : Value × Value) → parts v ≡ Some p → v ≡ couple p
couple_of_parts v p e = layer_pair v (out-Value v) p refl e

-- couples with the same value have the same parts
pub same_parts : (p q : Value × Value) → couple p ≡ couple q → p ≡ q
same_parts p q e = let f : Some p ≡ Some q = sym (parts-Pair p.0 p.1) ∙ ap parts e ∙ parts-Pair q.0 q.1 in cc

-- the couples among values are those that are members
pub in_couples : (xs : List Value) (p : Value × Value) → In p (couples_in xs) ↔ In (couple p) xs
in_couples xs p = (
  λ h. let k = (in_filter_map parts xs p).0 h in subst (λ w. In w xs) (couple_of_parts k.0 p k.2) k.1,
  λ h. (in_filter_map parts xs p).1 (couple p, h, parts-Pair p.0 p.1),
)

-- a couple is among those that are made of parts where its parts are
pub in_couple_map : (ps : List (Value × Value)) (p : Value × Value) → In (couple p) (map couple ps) ↔ In p ps
in_couple_map ps p = (
  λ h. let k = (in_map couple (couple p) ps).0 h in subst (λ w. In w ps) (sym (same_parts p k.0 k.2)) k.1,
  λ h. (in_map couple (couple p) ps).1 (p, h, refl),
)

-- ---- tests

-- the denial of the test answers whether the value is no member
pub not_among : (xs : List Value) (x : Value) → (not (is_among xs x) ≡ true) ↔ (In x xs → ⊥)
not_among xs x = go (is_among xs x) refl
  where
    go : (b : Bool) → is_among xs x ≡ b → (not b ≡ true) ↔ (In x xs → ⊥)
    go true e = (λ h. absurd (cc), λ h. absurd (h ((is_among_finds xs x).0 e)))
    go false e = (λ h m. let f = (is_among_finds xs x).1 m in cc, λ h. refl)
