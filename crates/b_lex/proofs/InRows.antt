-- A text is looked up in the one row of a table that its first byte names: no other row has it.
use Rattle.std.proofs.Common.{◌≡◌, ℕ, zero, suc, ◌%◌, ◌<◌, ◌+◌, Bool, true, false, cond, List, [], ◌∷◌, length, map, get_or, ◌≤◌, refl, ap, ◌∙◌, sym, arith, eq-eqb, Bor}
use Rattle.std.specs.Prelude.{nat_eq, filter, max, ◌||◌, ◌&&◌, ◌==◌}
use Rattle.std.specs.List.{starts_with}
use Rattle.std.specs.Str.{bytes_eq}
use Rattle.std.proofs.lemmas.Bool.{eqb-true}
use Rattle.b_lex.specs.Tables.{has_entry, longest, greatest, is_in_row}

-- ---- rows

-- what stands in so many rows, from this one on
unfoldable pub rows_from : {A : Type 0} → (ℕ → A) → ℕ → ℕ → List A
rows_from f row zero = []
rows_from f row (suc count) = f row ∷ rows_from f (suc row) count

row_from : {A : Type 0} (f : ℕ → A) (d : A) (row count k : ℕ) → k < count → get_or (rows_from f row count) k d ≡ f (row + k)
unfolding rows_from
row_from f d row zero k h = absurd (omega arith)
row_from f d row (suc count) zero h = ap f (omega arith)
row_from f d row (suc count) (suc k) h = row_from f d (suc row) count k (omega arith) ∙ ap f (omega arith)

pub row_at : {A : Type 0} (f : ℕ → A) (d : A) (count k : ℕ) → k < count → get_or (rows_from f 0 count) k d ≡ f k
row_at f d count k h = row_from f d 0 count k h ∙ ap f (omega arith)

pub texts_at : (table : List (Bor (List (Bor (List ℕ))))) (d : Bor (List (Bor (List ℕ)))) (k : ℕ) → k < length table → map (λ e. e.now) (get_or table k d).now ≡ get_or (map (λ r. map (λ e. e.now) r.now) table) k []
texts_at [] d k h = absurd (omega arith)
texts_at (r ∷ table) d zero h = refl
texts_at (r ∷ table) d (suc k) h = texts_at table d k (omega arith)

-- ---- the other rows have nothing

begins_otherwise : (rows b c : ℕ) → (c % rows == b % rows) ≡ false → nat_eq c b ≡ false
begins_otherwise rows b c e = go (nat_eq c b) refl
  where
    go : (t : Bool) → nat_eq c b ≡ t → nat_eq c b ≡ false
    go true i = let same : (c % rows == b % rows) ≡ true = eq-eqb (c % rows) (b % rows) (ap (λ x. x % rows) (eqb-true c b i)) in absurd (cc)
    go false i = i

starts_otherwise : (rows b : ℕ) (text entry : List ℕ) → is_in_row rows (b % rows) entry ≡ false → starts_with nat_eq (b ∷ text) entry ≡ false
starts_otherwise rows b text [] e = absurd (cc)
starts_otherwise rows b text (c ∷ entry) e = rw (begins_otherwise rows b c e) refl

differs : (rows b : ℕ) (text entry : List ℕ) → is_in_row rows (b % rows) entry ≡ false → bytes_eq (b ∷ text) entry ≡ false
differs rows b text [] e = refl
differs rows b text (c ∷ entry) e = go (nat_eq b c) refl
  where
    go : (t : Bool) → nat_eq b c ≡ t → nat_eq b c && bytes_eq text entry ≡ false
    go true i = let same : (c % rows == b % rows) ≡ true = eq-eqb (c % rows) (b % rows) (ap (λ x. x % rows) (sym (eqb-true b c i))) in absurd (cc)
    go false i = ap (λ t. t && bytes_eq text entry) i

pub entry_in_row : (rows b : ℕ) (text : List ℕ) (table : List (List ℕ)) → has_entry (filter (is_in_row rows (b % rows)) table) (b ∷ text) ≡ has_entry table (b ∷ text)
entry_in_row rows b text [] = refl
entry_in_row rows b text (entry ∷ table) = go (is_in_row rows (b % rows) entry) refl (entry_in_row rows b text table)
  where
    kept : List (List ℕ)
    kept = filter (is_in_row rows (b % rows)) table

    go : (t : Bool) → is_in_row rows (b % rows) entry ≡ t → has_entry kept (b ∷ text) ≡ has_entry table (b ∷ text) → has_entry (cond t (entry ∷ kept) kept) (b ∷ text) ≡ has_entry (entry ∷ table) (b ∷ text)
    go true i more = ap (λ t. bytes_eq (b ∷ text) entry || t) more
    go false i more = more ∙ ap (λ t. t || has_entry table (b ∷ text)) (sym (differs rows b text entry i))

longest-cons : (entry : List ℕ) (table : List (List ℕ)) (text : List ℕ) (t : Bool) → starts_with nat_eq text entry ≡ t → longest (entry ∷ table) text ≡ cond t (max (length entry) (longest table text)) (longest table text)
longest-cons entry table text true e = ap (λ (t : Bool). greatest (map length (cond t (entry ∷ filter (starts_with nat_eq text) table) (filter (starts_with nat_eq text) table)))) e
longest-cons entry table text false e = ap (λ (t : Bool). greatest (map length (cond t (entry ∷ filter (starts_with nat_eq text) table) (filter (starts_with nat_eq text) table)))) e

pub longest_in_row : (rows b : ℕ) (text : List ℕ) (table : List (List ℕ)) → longest (filter (is_in_row rows (b % rows)) table) (b ∷ text) ≡ longest table (b ∷ text)
longest_in_row rows b text [] = refl
longest_in_row rows b text (entry ∷ table) = go (is_in_row rows (b % rows) entry) refl (longest_in_row rows b text table)
  where
    kept : List (List ℕ)
    kept = filter (is_in_row rows (b % rows)) table

    both : (t : Bool) → starts_with nat_eq (b ∷ text) entry ≡ t → longest kept (b ∷ text) ≡ longest table (b ∷ text) → longest (entry ∷ kept) (b ∷ text) ≡ longest (entry ∷ table) (b ∷ text)
    both t i more =
        longest-cons entry kept (b ∷ text) t i ∙ ap (λ m. cond t (max (length entry) m) m) more ∙ sym (longest-cons entry table (b ∷ text) t i)

    go : (t : Bool) → is_in_row rows (b % rows) entry ≡ t → longest kept (b ∷ text) ≡ longest table (b ∷ text) → longest (cond t (entry ∷ kept) kept) (b ∷ text) ≡ longest (entry ∷ table) (b ∷ text)
    go true i more = both (starts_with nat_eq (b ∷ text) entry) refl more
    go false i more = more ∙ sym (longest-cons entry table (b ∷ text) false (starts_otherwise rows b text entry i))

-- ---- what is looked up

pub is_empty : (text : List ℕ) → length text < 1 → text ≡ []
is_empty [] h = refl
is_empty (b ∷ text) h = absurd (omega arith)

pub entry_found : (rows : ℕ) (table row : List (List ℕ)) (word : List ℕ) (found : Bool) → 1 ≤ length word → row ≡ filter (is_in_row rows (get_or word 0 0 % rows)) table → found ≡ has_entry row word → found ≡ has_entry table word
entry_found rows table row [] found h e f = absurd (omega arith)
entry_found rows table row (b ∷ word) found h e f = f ∙ ap (λ r. has_entry r (b ∷ word)) e ∙ entry_in_row rows b word table

pub longest_found : (rows : ℕ) (table row : List (List ℕ)) (text : List ℕ) (n : ℕ) → 1 ≤ length text → row ≡ filter (is_in_row rows (get_or text 0 0 % rows)) table → n ≡ longest row text → n ≡ longest table text
longest_found rows table row [] n h e f = absurd (omega arith)
longest_found rows table row (b ∷ text) n h e f = f ∙ ap (λ r. longest r (b ∷ text)) e ∙ longest_in_row rows b text table
