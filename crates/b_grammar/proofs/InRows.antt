-- A spelling is looked up in the one row of the table that its first byte names: no other row has it.
use Rattle.std.proofs.Common.{◌≡◌, ℕ, zero, suc, ◌%◌, ◌<◌, ◌≤◌, ◌-◌, Bool, true, false, cond, List, [], ◌∷◌, length, map, take, get_or, refl, ap, ◌∙◌, sym, arith, eq-eqb, Bor}
use Rattle.std.specs.Prelude.{nat_eq, nat_lt, filter, ◌&&◌, ◌==◌}
use Rattle.std.specs.Str.{bytes_eq}
use Rattle.std.proofs.lemmas.Bool.{eqb-true, le-ltb}
use Rattle.b_lex.specs.Tables.{is_in_row}
use Rattle.b_lex.specs.Spelling.{inside_of}
use Rattle.b_grammar.specs.declared.symbols.Fixed.{Fixed}
use Rattle.b_grammar.specs.Symbols.{entries, lookup, between}

abbrev Rows : Type 0
Rows = List (Bor (List (Bor (List ℕ) × Fixed)))

pub entries_at : (table : Rows) (d : Bor (List (Bor (List ℕ) × Fixed))) (k : ℕ) → k < length table → entries (get_or table k d).now ≡ get_or (map (λ r. entries r.now) table) k []
entries_at [] d k h = absurd (omega arith)
entries_at (r ∷ table) d zero h = refl
entries_at (r ∷ table) d (suc k) h = entries_at table d k (omega arith)

differs : (rows b : ℕ) (text entry : List ℕ) → is_in_row rows (b % rows) entry ≡ false → bytes_eq entry (b ∷ text) ≡ false
differs rows b text [] e = refl
differs rows b text (c ∷ entry) e = go (nat_eq c b) refl
  where
    go : (t : Bool) → nat_eq c b ≡ t → nat_eq c b && bytes_eq entry text ≡ false
    go true i = let same : (c % rows == b % rows) ≡ true = eq-eqb (c % rows) (b % rows) (ap (λ x. x % rows) (eqb-true c b i)) in absurd (cc)
    go false i = ap (λ t. t && bytes_eq entry text) i

in_row : (rows b : ℕ) (text : List ℕ) (table : List (List ℕ × Fixed)) → lookup (filter (λ e. is_in_row rows (b % rows) e.0) table) (b ∷ text) ≡ lookup table (b ∷ text)
in_row rows b text [] = refl
in_row rows b text (entry ∷ table) = go (is_in_row rows (b % rows) entry.0) refl (in_row rows b text table)
  where
    kept : List (List ℕ × Fixed)
    kept = filter (λ e. is_in_row rows (b % rows) e.0) table

    go : (t : Bool) → is_in_row rows (b % rows) entry.0 ≡ t → lookup kept (b ∷ text) ≡ lookup table (b ∷ text) → lookup (cond t (entry ∷ kept) kept) (b ∷ text) ≡ lookup (entry ∷ table) (b ∷ text)
    go true i more = ap (λ f. cond (bytes_eq entry.0 (b ∷ text)) entry.1 f) more
    go false i more = more ∙ ap (λ t. cond t entry.1 (lookup table (b ∷ text))) (sym (differs rows b text entry.0 i))

pub is_empty : (text : List ℕ) → length text < 1 → text ≡ []
is_empty [] h = refl
is_empty (b ∷ text) h = absurd (omega arith)

pub found : (rows : ℕ) (table row : List (List ℕ × Fixed)) (word : List ℕ) (f : Fixed) → 1 ≤ length word → row ≡ filter (λ e. is_in_row rows (get_or word 0 0 % rows) e.0) table → f ≡ lookup row word → f ≡ lookup table word
found rows table row [] f h e g = absurd (omega arith)
found rows table row (b ∷ word) f h e g = g ∙ ap (λ r. lookup r (b ∷ word)) e ∙ in_row rows b word table

-- what stands between the first byte and the last
pub inside_between : (word : List ℕ) → inside_of word ≡ between word
inside_between [] = refl
inside_between (b ∷ []) = refl
inside_between (b ∷ c ∷ word) =
    let long : nat_lt (length (b ∷ c ∷ word)) 2 ≡ false = le-ltb (length (b ∷ c ∷ word)) 2 (omega arith) in
    let many : length (b ∷ c ∷ word) - 2 ≡ (length (b ∷ c ∷ word) - 1) - 1 = omega arith in
    ap (λ n. take n (c ∷ word)) many ∙ ap (λ (t : Bool). cond t [] (take ((length (b ∷ c ∷ word) - 1) - 1) (c ∷ word))) (sym long)
