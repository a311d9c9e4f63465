-- The rows read so far, and the typings that they have.
use Rattle.std.proofs.Common.{◌≡◌, ◌≤◌, ◌<◌, ◌+◌, ◌⊎◌, ℕ, Bool, true, false, List, length, arith, refl, sym, ap, ◌∙◌, subst, inl, inr, Option, Some, None}
use Rattle.std.proofs.lemmas.Bool.{cases_eq, cases_lt}
use Rattle.std.proofs.lemmas.List.{get_or_past}
use Rattle.b_values.specs.declared.types.Ty.{Ty}
use Rattle.type_table.specs.declared.rows.Basic.TheVariants as basic
use Rattle.type_table.specs.declared.rows.Row.{Row}
use Rattle.type_table.specs.declared.rows.Row.TheVariants as row
use Rattle.type_table.specs.Types.{type_nodes, basic_type}
use Rattle.type_table.specs.TypeLaws.{nodes-basic, basic_same}
use Rattle.type_table.specs.Tables.{Typing, Fits, row_at, Solves, IsRow, IsTable, Reads, open_part, same_part, Occurs, in_same}
use Rattle.type_table.specs.TableLaws.{one_reading, readings_solve, reading_is, agree_inside}
use Rattle.b_values.specs.declared.types.Ty.TheVariants.{Int}
use Rattle.type_count.specs.declared.counting.Verdict.{Verdict}
use Rattle.type_count.specs.declared.counting.Verdict.TheVariants as verdict
use Rattle.type_count.specs.Typings.{IsTyping, Agrees, ExactlyOne, MoreThanOne, Counts, never, IsReadable, AreReadable, HasNumbered}
use Rattle.type_count.specs.Spending.{given, OpenIn, Spent, Spends}
use Rattle.type_count.specs.Counted.{AllRead, Opens, IsCounted, Looks}

pub count_none : (limit parts : ℕ) (rows : List Row) → IsCounted limit parts rows 0 false
count_none limit parts rows = record { read = λ i h. absurd (omega arith); opens = λ i h k. absurd (omega arith) }

module _ (limit parts : ℕ) (rows : List Row) (count : ℕ) (left : ℕ) where
  one_more : (o : Bool) → AllRead limit rows count → Spent rows count limit left o → AllRead limit rows (count + 1)
  one_more o all p i h = elim (cases_eq i count) [
    | inl e ↦ (left, o, subst (λ n. Spent rows n limit left o) (sym e) p)
    | inr f ↦ all i (omega arith)
  ]

  pub count_open : (o many : Bool) → IsCounted limit parts rows count many → Spent rows count limit left o → o ≡ true → count < parts → IsCounted limit parts rows (count + 1) true
  count_open o many c p e h = record { read = one_more o c.read p; opens = (count, h, subst (OpenIn rows count) e p.opens) }

  shut_false : (o : Bool) → (o ≡ false) ⊎ (parts ≤ count) → Opens parts rows count false → Spent rows count limit left o → Opens parts rows (count + 1) false
  shut_false o e c p i h k = elim (cases_eq i count) [
    | inl f ↦ elim e [ inl g ↦ subst (λ n. OpenIn rows n false) (sym f) (subst (OpenIn rows count) g p.opens) | inr g ↦ absurd (omega arith) ]
    | inr f ↦ c i h (omega arith)
  ]

  shut_more : (o many : Bool) → (o ≡ false) ⊎ (parts ≤ count) → Opens parts rows count many → Spent rows count limit left o → Opens parts rows (count + 1) many
  shut_more o true e c p = c
  shut_more o false e c p = shut_false o e c p

  pub count_shut : (o many : Bool) → IsCounted limit parts rows count many → Spent rows count limit left o → o ≡ false → IsCounted limit parts rows (count + 1) many
  count_shut o many c p e = record { read = one_more o c.read p; opens = shut_more o many (inl e) c.opens p }

  pub count_past : (o many : Bool) → IsCounted limit parts rows count many → Spent rows count limit left o → parts ≤ count → IsCounted limit parts rows (count + 1) many
  count_past o many c p e = record { read = one_more o c.read p; opens = shut_more o many (inr e) c.opens p }

-- ---- a link has the type of its root, which stands before it

module _ (limit parts : ℕ) (rows : List Row) (count j : ℕ) (table : IsTable rows) (e : row_at rows count ≡ row.Same j) where
  back : j < count
  unfolding IsTable
  back = subst (IsRow (length rows) count) e (table count)

  linked_open : (o : Bool) → OpenIn rows j o → OpenIn rows count o
  linked_open true p = (p.0, p.1, in_same j e p.2)
  linked_open false p = (p.0, same_part j p.0 e p.1)

  linked_spent : (left : ℕ) (o : Bool) → Spent rows j limit left o → Spent rows count limit left o
  linked_spent left o p = record {
    nodes = p.nodes;
    sum = p.sum;
    some = p.some;
    reads = λ d one. let r = p.reads d one in (r.0, same_part j r.0 e r.1, r.2);
    opens = linked_open o p.opens;
  }

  linked_opens : (many : Bool) → Opens parts rows count many → Opens parts rows (count + 1) many
  linked_opens true c = c
  linked_opens false c = λ i h k. elim (cases_eq i count) [
    | inl f ↦ subst (λ n. OpenIn rows n false) (sym f) (linked_open false (c j (let b = back in omega arith) back))
    | inr f ↦ c i h (omega arith)
  ]

  pub count_link : (many : Bool) → IsCounted limit parts rows count many → IsCounted limit parts rows (count + 1) many
  count_link many c = record {
    read = (let r = c.read j back in one_more limit parts rows count r.0 r.1 c.read (linked_spent r.0 r.1 r.2));
    opens = linked_opens many c.opens;
  }

-- ---- a reading of every part

given_one : (d : ℕ → Ty) → (k : ℕ) (t : Ty) → given d k ≡ Some t → d k ≡ t
given_one d k t e = cc

module _ (limit : ℕ) (rows : List Row) (all : AllRead limit rows (length rows)) where
  module _ (d : ℕ → Ty) (one : (k : ℕ) → type_nodes (d k) ≡ 1) where
    read_at : (i : ℕ) → (t : Ty) × Reads rows (given d) i t × (i < length rows → type_nodes t ≤ limit)
    read_at i = elim (cases_lt i (length rows)) [
      | inl h ↦ (let a = all i h in let r = a.2.reads d one in (r.0, r.1, λ k. let n = r.2 in let m = a.2.sum in omega arith))
      | inr h ↦ (d i, open_part (d i) (get_or_past rows i row.Open h) refl, λ k. absurd (omega arith))
    ]

    reading : Typing
    reading i = (read_at i).0

    reading_reads : (i : ℕ) → Reads rows (given d) i (reading i)
    unfolding reading
    reading_reads i = (read_at i).1

    reading_typing : IsTyping limit rows reading
    unfolding reading
    reading_typing = record {
      solves = readings_solve rows (given d) reading reading_reads;
      small = λ i h. (read_at i).2 h;
    }

  abbrev numbers : ℕ → Ty
  numbers k = basic_type basic.Int

  abbrev truths : ℕ → Ty
  truths k = basic_type basic.Truth

  forced : (s : Typing) → Solves s rows → (i : ℕ) (t : Ty) → Reads rows never i t → s i ≡ t
  forced s sol i t r = reading_is rows never s sol (λ k u e f. absurd cc) i t r

  unique : (parts : ℕ) → ((i : ℕ) → i < parts → OpenIn rows i false) → ExactlyOne parts (IsTyping limit rows)
  unique parts shut = record {
    one = reading numbers (λ k. nodes-basic basic.Int);
    is = reading_typing numbers (λ k. nodes-basic basic.Int);
    only = λ t is i h.
        let c = shut i h in
        forced t is.solves i c.0 c.1 ∙ sym (forced (reading numbers (λ k. nodes-basic basic.Int)) (reading_typing numbers (λ k. nodes-basic basic.Int)).solves i c.0 c.1);
  }

  ambiguous : (parts i : ℕ) → i < parts → OpenIn rows i true → MoreThanOne parts (IsTyping limit rows)
  ambiguous parts i h o =
      let n = reading numbers (λ k. nodes-basic basic.Int) in
      let m = reading truths (λ k. nodes-basic basic.Truth) in
      let n_is = reading_typing numbers (λ k. nodes-basic basic.Int) in
      let m_is = reading_typing truths (λ k. nodes-basic basic.Truth) in
      record {
        one = n;
        other = m;
        one_is = n_is;
        other_is = m_is;
        part = i;
        within = h;
        differ = λ e.
            let k = o.0 in
            let a = one_reading rows (given numbers) k (n k) (basic_type basic.Int) (reading_reads numbers (λ k. nodes-basic basic.Int) k) (open_part (basic_type basic.Int) o.1 refl) in
            let b = one_reading rows (given truths) k (m k) (basic_type basic.Truth) (reading_reads truths (λ k. nodes-basic basic.Truth) k) (open_part (basic_type basic.Truth) o.1 refl) in
            let same = agree_inside rows n m n_is.solves m_is.solves k i o.2 e in
            let c = basic_same basic.Int basic.Truth (sym a ∙ same ∙ b) in
            absurd cc;
      }

numbered : (limit : ℕ) (rows : List Row) → AllRead limit rows (length rows) → (s : Typing) × IsTyping limit rows s × ((k : ℕ) → row_at rows k ≡ row.Open → s k ≡ Int)
numbered limit rows all =
    let d = numbers limit rows all in
    let one = λ (k : ℕ). nodes-basic basic.Int in
    let n = reading limit rows all d one in (
      n,
      reading_typing limit rows all d one,
      λ k e. one_reading rows (given d) k (n k) Int (reading_reads limit rows all d one k) (open_part Int e refl),
    )

pub counted_numbered : (limit parts : ℕ) (rows : List Row) (many : Bool) (v : Verdict) → IsCounted limit parts rows (length rows) many → HasNumbered limit rows v
counted_numbered limit parts rows many verdict.Nothing c = tt
counted_numbered limit parts rows many verdict.One c = numbered limit rows c.read
counted_numbered limit parts rows many verdict.Many c = numbered limit rows c.read

pub counted_many : (limit parts : ℕ) (rows : List Row) (many : Bool) → IsCounted limit parts rows (length rows) many → many ≡ true → Counts parts (IsTyping limit rows) verdict.Many
counted_many limit parts rows many c e =
    let o : Opens parts rows (length rows) true = subst (Opens parts rows (length rows)) e c.opens in
    ambiguous limit rows c.read parts o.0 o.1 o.2

module _ (limit parts : ℕ) (rows : List Row) (many : Bool) (within : parts ≤ length rows) (c : IsCounted limit parts rows (length rows) many) (e : many ≡ false) where
  all_shut : (i : ℕ) → i < parts → OpenIn rows i false
  all_shut i k = let o : Opens parts rows (length rows) false = subst (Opens parts rows (length rows)) e c.opens in o i k (omega arith)

  pub counted_one : Counts parts (IsTyping limit rows) verdict.One
  counted_one = unique limit rows c.read parts all_shut

  -- a reading without open parts is a reading with types for them
  pub counted_readable : AreReadable limit parts rows verdict.One
  counted_readable i k =
      let o = all_shut i k in
      let n = reading limit rows c.read (numbers limit rows c.read) (λ k. nodes-basic basic.Int) in
      let n_is = reading_typing limit rows c.read (numbers limit rows c.read) (λ k. nodes-basic basic.Int) in
      let f = forced limit rows c.read n n_is.solves i o.0 o.1 in
      (o.0, o.1, (let small = n_is.small i (omega arith) in let g = ap type_nodes f in omega arith))

pub too_large : (limit : ℕ) (rows : List Row) (i : ℕ) → i < length rows → Spends rows i limit None → (s : Typing) → IsTyping limit rows s → ⊥
too_large limit rows i h f s is = let a = f s is.solves in let b = is.small i h in omega arith

pub looked_none : (limit parts : ℕ) (rows : List Row) (count : ℕ) → count < length rows → Spends rows count limit None → Looks limit parts rows count None
looked_none limit parts rows count h f = too_large limit rows count h f
