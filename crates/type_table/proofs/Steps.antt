-- One step of the equations.
use Rattle.std.proofs.Common.{◌≡◌, ◌≢◌, ◌<◌, ◌+◌, ℕ, List, length, set, arith, refl, sym, ap, ◌∙◌, subst, inl, inr, length-set, get_or-set_same, get_or-set_other}
use Rattle.std.proofs.lemmas.Bool.{cases_eq}
use Rattle.b_values.specs.declared.types.Ty.TheVariants.{Pair, Set}
use Rattle.type_table.specs.declared.rows.Basic.{Basic}
use Rattle.type_table.specs.declared.rows.Row.{Row}
use Rattle.type_table.specs.declared.rows.Row.TheVariants as row
use Rattle.type_table.specs.declared.unifying.Step.{Step}
use Rattle.type_table.specs.declared.unifying.Step.TheVariants as step
use Rattle.type_table.specs.Types.{basic_type}
use Rattle.type_table.specs.TypeLaws.{set_same, pair_first, pair_second, set_no_pair, basic_no_set, basic_no_pair, basic_same}
use Rattle.type_table.specs.Tables.{Typing, Fits, row_at, Solves, IsRow, IsTable, IsRoot}
use Rattle.type_table.specs.Unifying.{one_class, classes, Finds, Agree, IsStep, Meets, Fewer, Merges}
use Rattle.type_table.proofs.Links.{classes_set}

-- ---- two rows

-- what a row without a link says doesn't depend on where it stands
root_row : (count i j : ℕ) (r : Row) → IsRoot r → IsRow count j r → IsRow count i r
root_row count i j row.Open h k = tt
root_row count i j (row.Basic b) h k = tt
root_row count i j (row.Set q) h k = k
root_row count i j (row.Pair p q) h k = k
root_row count i j (row.Same q) h k = absurd h

pub meets_open : (y : Row) → Meets row.Open y y step.Done
meets_open y = record { forth = λ s t f g. (g, tt); back = λ s t f g. (tt, f); rows = λ count i j h k a b. (root_row count i j y k b, tt); root = λ h k. k }

pub open_meets : (x : Row) → Meets x row.Open x step.Done
open_meets x = record { forth = λ s t f g. (f, tt); back = λ s t f g. (f, tt); rows = λ count i j h k x y. (x, tt); root = λ h k. h }

pub meets_same : (b c : Basic) → b ≡ c → Meets (row.Basic b) (row.Basic c) (row.Basic b) step.Done
meets_same b c e = record { forth = λ s t f g. (f, tt); back = λ s t f g. (f, f ∙ ap basic_type e); rows = λ count i j h k x y. (tt, tt); root = λ h k. tt }

pub meets_other : (b c : Basic) → b ≢ c → Meets (row.Basic b) (row.Basic c) (row.Basic b) step.Clash
meets_other b c e = record { forth = λ s t f g. absurd (e (basic_same b c (sym f ∙ g))); back = λ s t f g. absurd g; rows = λ count i j h k x y. (tt, tt); root = λ h k. tt }

pub meets_sets : (p q : ℕ) → Meets (row.Set p) (row.Set q) (row.Set p) (step.One p q)
meets_sets p q = record {
  forth = λ s t f g. (f, set_same (s p) (s q) (sym f ∙ g));
  back = λ s t f g. (f, f ∙ ap Set g);
  rows = λ count i j h k x y. (x, (x, y));
  root = λ h k. tt;
}

pub meets_pairs : (p q r t : ℕ) → Meets (row.Pair p q) (row.Pair r t) (row.Pair p q) (step.Two p r q t)
meets_pairs p q r t = record {
  forth = λ s u f g. (f, (pair_first (s p) (s q) (s r) (s t) (sym f ∙ g), pair_second (s p) (s q) (s r) (s t) (sym f ∙ g)));
  back = λ s u f g. (f, f ∙ ap (λ v. Pair v (s q)) g.0 ∙ ap (Pair (s r)) g.1);
  rows = λ count i j h k x y. (x, (x.0, y.0, x.1, y.1));
  root = λ h k. tt;
}

pub clash_basic_set : (b : Basic) (q : ℕ) → Meets (row.Basic b) (row.Set q) (row.Basic b) step.Clash
clash_basic_set b q = record { forth = λ s t f g. absurd (basic_no_set b (s q) (sym f ∙ g)); back = λ s t f g. absurd g; rows = λ count i j h k x y. (x, tt); root = λ h k. tt }

pub clash_basic_pair : (b : Basic) (q r : ℕ) → Meets (row.Basic b) (row.Pair q r) (row.Basic b) step.Clash
clash_basic_pair b q r = record { forth = λ s t f g. absurd (basic_no_pair b (s q) (s r) (sym f ∙ g)); back = λ s t f g. absurd g; rows = λ count i j h k x y. (x, tt); root = λ h k. tt }

pub clash_set_basic : (b : Basic) (q : ℕ) → Meets (row.Set q) (row.Basic b) (row.Set q) step.Clash
clash_set_basic b q = record { forth = λ s t f g. absurd (basic_no_set b (s q) (sym g ∙ f)); back = λ s t f g. absurd g; rows = λ count i j h k x y. (x, tt); root = λ h k. tt }

pub clash_set_pair : (p q r : ℕ) → Meets (row.Set p) (row.Pair q r) (row.Set p) step.Clash
clash_set_pair p q r = record { forth = λ s t f g. absurd (set_no_pair (s p) (s q) (s r) (sym f ∙ g)); back = λ s t f g. absurd g; rows = λ count i j h k x y. (x, tt); root = λ h k. tt }

pub clash_pair_basic : (b : Basic) (q r : ℕ) → Meets (row.Pair q r) (row.Basic b) (row.Pair q r) step.Clash
clash_pair_basic b q r = record { forth = λ s t f g. absurd (basic_no_pair b (s q) (s r) (sym g ∙ f)); back = λ s t f g. absurd g; rows = λ count i j h k x y. (x, tt); root = λ h k. tt }

pub clash_pair_set : (p q r : ℕ) → Meets (row.Pair q r) (row.Set p) (row.Pair q r) step.Clash
clash_pair_set p q r = record { forth = λ s t f g. absurd (set_no_pair (s p) (s q) (s r) (sym g ∙ f)); back = λ s t f g. absurd g; rows = λ count i j h k x y. (x, tt); root = λ h k. tt }

-- ---- two writes

module _ (rows : List Row) (low high : ℕ) (r : Row) where
  abbrev pub linked : List Row
  linked = set (set rows low r) high (row.Same low)

module _ (rows : List Row) (low high : ℕ) (r : Row) (below : low < high) (inside : high < length rows) where
  pub linked_length : length (linked rows low high r) ≡ length rows
  linked_length = length-set (set rows low r) high (row.Same low) ∙ length-set rows low r

  pub at_high : row_at (linked rows low high r) high ≡ row.Same low
  at_high = get_or-set_same (set rows low r) high (row.Same low) row.Open (omega (arith, length-set rows low r))

  pub at_low : row_at (linked rows low high r) low ≡ r
  at_low = get_or-set_other (set rows low r) high low (row.Same low) row.Open (omega arith) ∙ get_or-set_same rows low r row.Open (omega arith)

  pub at_other : (k : ℕ) → k ≢ low → k ≢ high → row_at (linked rows low high r) k ≡ row_at rows k
  at_other k f g = get_or-set_other (set rows low r) high k (row.Same low) row.Open g ∙ get_or-set_other rows low k r row.Open f

one_of_root : (r : Row) → IsRoot r → one_class r ≡ 1
one_of_root row.Open h = refl
one_of_root (row.Basic b) h = refl
one_of_root (row.Set j) h = refl
one_of_root (row.Pair j k) h = refl
one_of_root (row.Same j) h = absurd h

module _ (rows : List Row) (low high : ℕ) (r : Row) (below : low < high) (inside : high < length rows) (left : Step)
    (table : IsTable rows) (at_l : IsRoot (row_at rows low)) (at_h : IsRoot (row_at rows high)) (m : Meets (row_at rows low) (row_at rows high) r left) where
  link_table : IsTable (linked rows low high r)
  unfolding IsTable
  link_table k =
      subst (λ n. IsRow n k (row_at (linked rows low high r) k)) (sym (linked_length rows low high r below inside))
      (elim (cases_eq k low) [
        | inl e ↦ subst (IsRow (length rows) k) (sym (ap (row_at (linked rows low high r)) e ∙ at_low rows low high r below inside)) (m.rows (length rows) k high at_l at_h (subst (λ n. IsRow (length rows) n (row_at rows low)) (sym e) (table low)) (table high)).0
        | inr f ↦ elim (cases_eq k high) [
          | inl e ↦ subst (IsRow (length rows) k) (sym (ap (row_at (linked rows low high r)) e ∙ at_high rows low high r below inside)) (subst (λ n. low < n) (sym e) below)
          | inr g ↦ subst (IsRow (length rows) k) (sym (at_other rows low high r below inside k f g)) (table k)
        ]
      ])

  link_step : IsStep (length (linked rows low high r)) left
  unfolding IsTable
  link_step = subst (λ n. IsStep n left) (sym (linked_length rows low high r below inside)) (m.rows (length rows) low high at_l at_h (table low) (table high)).1

  link_classes : classes (linked rows low high r) + 1 ≡ classes rows
  link_classes =
      let a = classes_set rows low r (omega arith) in
      let b = classes_set (set rows low r) high (row.Same low) (omega (arith, length-set rows low r)) in
      let c : row_at (set rows low r) high ≡ row_at rows high = get_or-set_other rows low high r row.Open (omega arith) in
      let d = ap one_class c in
      let e = one_of_root (row_at rows high) at_h in
      let f = one_of_root (row_at rows low) at_l in
      let g = one_of_root r (m.root at_l at_h) in
      omega arith

  link_fewer : (s : Step) → Fewer rows (linked rows low high r) s
  link_fewer step.Done = let e = link_classes in omega arith
  link_fewer (step.One p q) = let e = link_classes in omega arith
  link_fewer (step.Two p q x y) = let e = link_classes in omega arith
  link_fewer step.Clash = let e = link_classes in omega arith

  link_forth : (s : Typing) → Solves s rows → s low ≡ s high → Solves s (linked rows low high r) × Agree s left
  unfolding Solves
  link_forth s old e =
      let both = m.forth s (s low) (old low) (subst (λ t. Fits s t (row_at rows high)) (sym e) (old high)) in (
        λ k. elim (cases_eq k low) [
          | inl f ↦ subst (λ n. Fits s (s n) (row_at (linked rows low high r) n)) (sym f) (subst (Fits s (s low)) (sym (at_low rows low high r below inside)) both.0)
          | inr f ↦ elim (cases_eq k high) [
            | inl g ↦ subst (λ n. Fits s (s n) (row_at (linked rows low high r) n)) (sym g) (subst (Fits s (s high)) (sym (at_high rows low high r below inside)) (sym e))
            | inr g ↦ subst (Fits s (s k)) (sym (at_other rows low high r below inside k f g)) (old k)
          ]
        ],
        both.1,
      )

  link_back : (s : Typing) → Solves s (linked rows low high r) → Agree s left → Solves s rows × (s low ≡ s high)
  unfolding Solves
  link_back s new agree =
      let e : s high ≡ s low = subst (Fits s (s high)) (at_high rows low high r below inside) (new high) in
      let f : Fits s (s low) r = subst (Fits s (s low)) (at_low rows low high r below inside) (new low) in
      let both = m.back s (s low) f agree in (
        λ k. elim (cases_eq k low) [
          | inl g ↦ subst (λ n. Fits s (s n) (row_at rows n)) (sym g) both.0
          | inr g ↦ elim (cases_eq k high) [
            | inl h ↦ subst (λ n. Fits s (s n) (row_at rows n)) (sym h) (subst (λ t. Fits s t (row_at rows high)) (sym e) both.1)
            | inr h ↦ subst (Fits s (s k)) (at_other rows low high r below inside k g h) (new k)
          ]
        ],
        sym e,
      )

  pub link_merged : Merges rows (linked rows low high r) low high left
  link_merged = record {
    table = link_table;
    count = linked_length rows low high r below inside;
    inside = link_step;
    fewer = link_fewer left;
    forth = link_forth;
    back = link_back;
  }

pub merged_turned : (rows new : List Row) (i j : ℕ) (left : Step) → Merges rows new i j left → Merges rows new j i left
merged_turned rows new i j left m = record {
  table = m.table;
  count = m.count;
  inside = m.inside;
  fewer = m.fewer;
  forth = λ s old e. m.forth s old (sym e);
  back = λ s now agree. let c = m.back s now agree in (c.0, sym c.1);
}

fewer_of : (old now new : List Row) (left : Step) → classes now ≡ classes old → Fewer now new left → Fewer old new left
fewer_of old now new step.Done e f = omega arith
fewer_of old now new (step.One p q) e f = omega arith
fewer_of old now new (step.Two p q r t) e f = omega arith
fewer_of old now new step.Clash e f = omega arith

-- the same of two parts whose links end at those
pub merges_found : (old mid now new : List Row) (a b i j : ℕ) (left : Step) → Finds old mid a i → Finds mid now b j → Merges now new i j left → Merges old new a b left
merges_found old mid now new a b i j left p q m =
    record {
      table = m.table;
      count = m.count ∙ q.short.count ∙ p.short.count;
      inside = m.inside;
      fewer = fewer_of old now new left (q.short.classes ∙ p.short.classes) m.fewer;
      forth = λ s old e. let f = p.short.forth s old in let g = q.short.forth s f in m.forth s g (sym (p.same s f) ∙ e ∙ q.same s g);
      back = λ s now agree.
          let c = m.back s now agree in
          let g = q.short.back s c.0 in
          (p.short.back s g, p.same s g ∙ c.1 ∙ sym (q.same s c.0));
    }

pub already : (old mid now : List Row) (a b i : ℕ) → Finds old mid a i → Finds mid now b i → Merges old now a b step.Done
already old mid now a b i p q = record {
  table = q.short.table;
  count = q.short.count ∙ p.short.count;
  inside = tt;
  fewer = (let n = p.short.classes in let k = q.short.classes in omega arith);
  forth = λ s f e. (q.short.forth s (p.short.forth s f), tt);
  back = λ s f u. let g = q.short.back s f in (p.short.back s g, p.same s g ∙ sym (q.same s f));
}

-- a part's end is still no link once other links are shorter
pub end_kept : (old mid now : List Row) (a b i j : ℕ) → Finds old mid a i → Finds mid now b j → IsRoot (row_at now i)
end_kept old mid now a b i j p q = subst IsRoot (sym (q.short.kept i p.root)) p.root
