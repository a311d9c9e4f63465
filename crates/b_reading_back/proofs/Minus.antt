-- No longer sign begins with a minus, unless a minus or `>` stands behind it.
use Rattle.std.proofs.Common.{◌≡◌, ℕ, ◌≤◌, Bool, true, false, cond, ◌&&◌, List, [], ◌∷◌, length, map, refl, ap, arith, nat_le}
use Rattle.std.specs.Prelude.{not, ◌||◌, nat_eq, filter, max}
use Rattle.std.specs.List.{list_all, list_any, starts_with}
use Rattle.std.proofs.lemmas.Bool.{and_parts, leb-true}
use Rattle.b_lex.specs.Tables.{signs, longest, greatest}

-- an entry that the text begins with has at most one byte
abbrev short : List ℕ → List ℕ → Bool
short text entry = not (starts_with nat_eq text entry) || nat_le (length entry) 1

-- the text begins with an entry that has one
abbrev fits : List ℕ → List ℕ → Bool
fits text entry = starts_with nat_eq text entry && nat_le 1 (length entry)

longest-cons : (entry : List ℕ) (table : List (List ℕ)) (text : List ℕ) (t : Bool) → starts_with nat_eq text entry ≡ t → longest (entry ∷ table) text ≡ cond t (max (length entry) (longest table text)) (longest table text)
longest-cons entry table text true e = ap (λ (t : Bool). greatest (map length (cond t (entry ∷ filter (starts_with nat_eq text) table) (filter (starts_with nat_eq text) table)))) e
longest-cons entry table text false e = ap (λ (t : Bool). greatest (map length (cond t (entry ∷ filter (starts_with nat_eq text) table) (filter (starts_with nat_eq text) table)))) e

at_most_one : (table : List (List ℕ)) (text : List ℕ) → list_all (short text) table ≡ true → longest table text ≤ 1
at_most_one [] text e = omega arith
at_most_one (entry ∷ table) text e =
    let c = and_parts (short text entry) (list_all (short text) table) e in
    go (starts_with nat_eq text entry) refl c.0 (at_most_one table text c.1)
  where
    go : (t : Bool) → starts_with nat_eq text entry ≡ t → not t || nat_le (length entry) 1 ≡ true → longest table text ≤ 1 → longest (entry ∷ table) text ≤ 1
    go true i h rest = let one : length entry ≤ 1 = leb-true (length entry) 1 h in omega (arith, longest-cons entry table text true i)
    go false i h rest = omega (arith, longest-cons entry table text false i)

at_least_one : (table : List (List ℕ)) (text : List ℕ) → list_any (fits text) table ≡ true → 1 ≤ longest table text
at_least_one [] text e = absurd (cc)
at_least_one (entry ∷ table) text e = go (starts_with nat_eq text entry) refl e (at_least_one table text)
  where
    go : (t : Bool) → starts_with nat_eq text entry ≡ t → (t && nat_le 1 (length entry)) || list_any (fits text) table ≡ true → (list_any (fits text) table ≡ true → 1 ≤ longest table text) → 1 ≤ longest (entry ∷ table) text
    go true i h rest = by_length (nat_le 1 (length entry)) refl h
      where
        by_length : (t : Bool) → nat_le 1 (length entry) ≡ t → t || list_any (fits text) table ≡ true → 1 ≤ longest (entry ∷ table) text
        by_length true k h = let one : 1 ≤ length entry = leb-true 1 (length entry) k in omega (arith, longest-cons entry table text true i)
        by_length false k h = let one : 1 ≤ longest table text = rest h in omega (arith, longest-cons entry table text true i)
    go false i h rest = let one : 1 ≤ longest table text = rest h in omega (arith, longest-cons entry table text false i)

all_short : (b : ℕ) (more : List ℕ) → nat_eq 45 b ≡ false → nat_eq 62 b ≡ false → list_all (short (45 ∷ b ∷ more)) signs ≡ true
unfolding signs
all_short b more e f = rw (e, f) refl

some_fits : (b : ℕ) (more : List ℕ) → list_any (fits (45 ∷ b ∷ more)) signs ≡ true
unfolding signs
some_fits b more = refl

pub minus_alone : (b : ℕ) (more : List ℕ) → nat_eq 45 b ≡ false → nat_eq 62 b ≡ false → longest signs (45 ∷ b ∷ more) ≡ 1
minus_alone b more e f =
    let low : 1 ≤ longest signs (45 ∷ b ∷ more) = at_least_one signs (45 ∷ b ∷ more) (some_fits b more) in
    let high : longest signs (45 ∷ b ∷ more) ≤ 1 = at_most_one signs (45 ∷ b ∷ more) (all_short b more e f) in
    omega arith
