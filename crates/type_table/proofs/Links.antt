-- Links, and tables with shorter ones.
use Rattle.std.proofs.Common.{◌≡◌, ◌≢◌, ◌≤◌, ◌<◌, ◌+◌, ℕ, zero, suc, List, [], ◌∷◌, length, set, arith, refl, sym, ap, ◌∙◌, subst, inl, inr, length-set, get_or-set_same, get_or-set_other, Option}
use Rattle.std.proofs.lemmas.Bool.{cases_eq, cases_lt}
use Rattle.std.proofs.lemmas.List.{get_or_past}
use Rattle.b_values.specs.declared.types.Ty.{Ty}
use Rattle.type_table.specs.declared.rows.Row.{Row}
use Rattle.type_table.specs.declared.rows.Row.TheVariants as row
use Rattle.type_table.specs.Tables.{Typing, Fits, row_at, Solves, IsRow, IsTable, IsRoot, EndsAt, Reads, Occurs, same_part, in_same}
use Rattle.type_table.specs.TableLaws.{View, view}
use Rattle.type_table.specs.Unifying.{one_class, classes, Shortens, Finds, LinksEnd, Flat, link_of}

pub classes_set : (rows : List Row) (k : ℕ) (r : Row) → k < length rows → classes (set rows k r) + one_class (row_at rows k) ≡ classes rows + one_class r
classes_set [] k r h = absurd (omega arith)
classes_set (x ∷ xs) zero r h = omega arith
classes_set (x ∷ xs) (suc k) r h = let e = classes_set xs k r (omega arith) in omega arith

pub goes_back : (rows : List Row) (i j : ℕ) → IsTable rows → row_at rows i ≡ row.Same j → j < i
unfolding IsTable
goes_back rows i j t e = subst (IsRow (length rows) i) e (t i)

pub no_link : (r : Row) → ((j : ℕ) → r ≡ row.Same j → ⊥) → IsRoot r
no_link row.Open h = tt
no_link (row.Basic b) h = tt
no_link (row.Set j) h = tt
no_link (row.Pair j k) h = tt
no_link (row.Same j) h = h j refl

-- ---- where the link behind a link goes

link_back : (count next : ℕ) (r : Row) → IsRow count next r → link_of next r ≤ next
link_back count next row.Open h = omega arith
link_back count next (row.Basic b) h = omega arith
link_back count next (row.Set j) h = omega arith
link_back count next (row.Pair j k) h = omega arith
link_back count next (row.Same j) h = omega arith

link_same : (s : Typing) (next : ℕ) (r : Row) → Fits s (s next) r → s next ≡ s (link_of next r)
link_same s next row.Open h = refl
link_same s next (row.Basic b) h = refl
link_same s next (row.Set j) h = refl
link_same s next (row.Pair j k) h = refl
link_same s next (row.Same j) h = h

link_ends : (rows : List Row) (next : ℕ) (r : Row) → row_at rows next ≡ r → LinksEnd rows r → IsRoot (row_at rows (link_of next r))
link_ends rows next row.Open e h = subst IsRoot (sym e) tt
link_ends rows next (row.Basic b) e h = subst IsRoot (sym e) tt
link_ends rows next (row.Set j) e h = subst IsRoot (sym e) tt
link_ends rows next (row.Pair j k) e h = subst IsRoot (sym e) tt
link_ends rows next (row.Same j) e h = h

-- ---- one link shortened

module _ (rows : List Row) (at next : ℕ) where
  abbrev pub relinked : List Row
  relinked = set rows at (row.Same (link_of next (row_at rows next)))

module _ (rows : List Row) (at next : ℕ) (table : IsTable rows) (inside : at < length rows) (linked : row_at rows at ≡ row.Same next) where
  at_there : row_at (relinked rows at next) at ≡ row.Same (link_of next (row_at rows next))
  at_there = get_or-set_same rows at (row.Same (link_of next (row_at rows next))) row.Open inside

  at_other : (k : ℕ) → k ≢ at → row_at (relinked rows at next) k ≡ row_at rows k
  at_other k f = get_or-set_other rows at k (row.Same (link_of next (row_at rows next))) row.Open f

  relinked_length : length (relinked rows at next) ≡ length rows
  relinked_length = length-set rows at (row.Same (link_of next (row_at rows next)))

  further_back : link_of next (row_at rows next) < at
  unfolding IsTable
  further_back = let a = link_back (length rows) next (row_at rows next) (table next) in let b = goes_back rows at next table linked in omega arith

  relinked_table : IsTable (relinked rows at next)
  unfolding IsTable
  relinked_table k = subst (λ n. IsRow n k (row_at (relinked rows at next) k)) (sym relinked_length)
      (elim (cases_eq k at) [
        | inl e ↦ subst (IsRow (length rows) k) (sym (ap (row_at (relinked rows at next)) e ∙ at_there)) (subst (λ n. link_of next (row_at rows next) < n) (sym e) further_back)
        | inr f ↦ subst (IsRow (length rows) k) (sym (at_other k f)) (table k)
      ])

  relinked_kept : (k : ℕ) → IsRoot (row_at rows k) → row_at (relinked rows at next) k ≡ row_at rows k
  relinked_kept k h = at_other k (λ e. subst IsRoot (ap (row_at rows) e ∙ linked) h)

  relinked_classes : classes (relinked rows at next) ≡ classes rows
  relinked_classes =
      let a = classes_set rows at (row.Same (link_of next (row_at rows next))) inside in
      let b = ap one_class linked in
      omega arith

  relinked_forth : (s : Typing) → Solves s rows → Solves s (relinked rows at next)
  unfolding Solves
  relinked_forth s f k = elim (cases_eq k at) [
    | inl e ↦ subst (λ n. Fits s (s n) (row_at (relinked rows at next) n)) (sym e)
        (subst (Fits s (s at)) (sym at_there) (subst (Fits s (s at)) linked (f at) ∙ link_same s next (row_at rows next) (f next)))
    | inr g ↦ subst (Fits s (s k)) (sym (at_other k g)) (f k)
  ]

  next_not_at : next ≢ at
  next_not_at e = let b = goes_back rows at next table linked in absurd (omega arith)

  relinked_next : (s : Typing) → Solves s (relinked rows at next) → Fits s (s next) (row_at rows next)
  unfolding Solves
  relinked_next s f = subst (Fits s (s next)) (at_other next next_not_at) (f next)

  relinked_back : (s : Typing) → Solves s (relinked rows at next) → Solves s rows
  unfolding Solves
  relinked_back s f k = elim (cases_eq k at) [
    | inl e ↦ subst (λ n. Fits s (s n) (row_at rows n)) (sym e)
        (subst (Fits s (s at)) (sym linked) (subst (Fits s (s at)) at_there (f at) ∙ sym (link_same s next (row_at rows next) (relinked_next s f))))
    | inr g ↦ subst (Fits s (s k)) (at_other k g) (f k)
  ]

  pub relinks : Shortens rows (relinked rows at next)
  relinks = record {
    table = relinked_table;
    count = relinked_length;
    kept = relinked_kept;
    classes = relinked_classes;
    forth = relinked_forth;
    back = relinked_back;
  }

pub unshortened : (rows : List Row) → IsTable rows → Shortens rows rows
unshortened rows t = record { table = t; count = refl; kept = λ i h. refl; classes = refl; forth = λ s f. f; back = λ s f. f }

pub shorter_still : (a b c : List Row) → Shortens a b → Shortens b c → Shortens a c
shorter_still a b c f g = record {
  table = g.table;
  count = g.count ∙ f.count;
  kept = λ i h. g.kept i (subst IsRoot (sym (f.kept i h)) h) ∙ f.kept i h;
  classes = g.classes ∙ f.classes;
  forth = λ s h. g.forth s (f.forth s h);
  back = λ s h. f.back s (g.back s h);
}

-- ---- a walk along links that shortens them

pub record Walks (old now : List Row) (i at : ℕ) : Type 0 where
  pub short : Shortens old now
  pub back : at ≤ i
  pub same : (s : Typing) → Solves s now → s i ≡ s at

pub walks_none : (rows : List Row) (i : ℕ) → IsTable rows → Walks rows rows i i
walks_none rows i t = record { short = unshortened rows t; back = omega arith; same = λ s f. refl }

pub walks_more : (old now : List Row) (i at next : ℕ) → i < length old → Walks old now i at → row_at now at ≡ row.Same next → Walks old (relinked now at next) i next
unfolding Solves
walks_more old now i at next inside w e =
    let table = w.short.table in
    let n = w.short.count in
    let k : at < length now = (let b = w.back in omega arith) in
    let more = relinks now at next table k e in
    record {
      short = shorter_still old now (relinked now at next) w.short more;
      back = (let b = w.back in let g = goes_back now at next table e in omega arith);
      same = λ s f. let g = more.back s f in w.same s g ∙ subst (Fits s (s at)) e (g at);
    }

pub walked : (old now : List Row) (i at : ℕ) → Walks old now i at → IsRoot (row_at now at) → Finds old now i at
walked old now i at w h = record { short = w.short; back = w.back; root = h; same = w.same }

-- ---- a walk that only reads

pub record Leads (rows : List Row) (i at : ℕ) : Type 0 where
  pub back : at ≤ i
  pub same : (s : Typing) → Solves s rows → s i ≡ s at
  pub reads : (d : ℕ → Option Ty) (t : Ty) → Reads rows d at t → Reads rows d i t
  pub read : (d : ℕ → Option Ty) (t : Ty) → Reads rows d i t → Reads rows d at t
  pub occurs : (k : ℕ) → Occurs rows k at → Occurs rows k i

pub leads_none : (rows : List Row) (i : ℕ) → Leads rows i i
leads_none rows i = record { back = omega arith; same = λ s f. refl; reads = λ d t r. r; read = λ d t r. r; occurs = λ k o. o }

pub leads_more : (rows : List Row) (i at next : ℕ) → IsTable rows → Leads rows i at → row_at rows at ≡ row.Same next → Leads rows i next
unfolding Solves
leads_more rows i at next table l e = record {
  back = (let b = l.back in let g = goes_back rows at next table e in omega arith);
  same = λ s f. l.same s f ∙ subst (Fits s (s at)) e (f at);
  reads = λ d t r. l.reads d t (same_part next t e r);
  read = λ d t r. subst (View rows d at t) e (view rows d at t (l.read d t r));
  occurs = λ k o. l.occurs k (in_same next e o);
}

pub leads : (rows : List Row) (i at : ℕ) → Leads rows i at → IsRoot (row_at rows at) → EndsAt rows i at
leads rows i at l h = record { back = l.back; root = h; same = l.same; reads = l.reads; read = l.read; occurs = l.occurs }

-- ---- links that end at once

pub record FlatBelow (old now : List Row) (count : ℕ) : Type 0 where
  pub short : Shortens old now
  pub flat : (k : ℕ) → k < count → LinksEnd now (row_at now k)

pub flat_none : (rows : List Row) → IsTable rows → FlatBelow rows rows 0
flat_none rows t = record { short = unshortened rows t; flat = λ k h. absurd (omega arith) }

root_ends : (rows : List Row) (r : Row) → IsRoot r → LinksEnd rows r
root_ends rows row.Open h = tt
root_ends rows (row.Basic b) h = tt
root_ends rows (row.Set j) h = tt
root_ends rows (row.Pair j k) h = tt
root_ends rows (row.Same j) h = absurd h

pub flat_root : (old now : List Row) (count : ℕ) → FlatBelow old now count → IsRoot (row_at now count) → FlatBelow old now (count + 1)
flat_root old now count f h = record {
  short = f.short;
  flat = λ k l. elim (cases_eq k count) [
    | inl e ↦ subst (λ n. LinksEnd now (row_at now n)) (sym e) (root_ends now (row_at now count) h)
    | inr e ↦ f.flat k (omega arith)
  ];
}

still_ends : (old new : List Row) (r : Row) → Shortens old new → LinksEnd old r → LinksEnd new r
still_ends old new row.Open s h = tt
still_ends old new (row.Basic b) s h = tt
still_ends old new (row.Set j) s h = tt
still_ends old new (row.Pair j k) s h = tt
still_ends old new (row.Same j) s h = subst IsRoot (sym (s.kept j h)) h

pub flat_link : (old now : List Row) (count next : ℕ) → count < length old → FlatBelow old now count → row_at now count ≡ row.Same next → FlatBelow old (relinked now count next) (count + 1)
flat_link old now count next inside f e =
    let table = f.short.table in
    let n = f.short.count in
    let more = relinks now count next table (omega arith) e in
    let g = goes_back now count next table e in
    record {
      short = shorter_still old now (relinked now count next) f.short more;
      flat = λ k l. elim (cases_eq k count) [
        | inl c ↦ subst (λ n. LinksEnd (relinked now count next) (row_at (relinked now count next) n)) (sym c)
            (subst (LinksEnd (relinked now count next)) (sym (at_there now count next table (omega arith) e))
            (still_ends now (relinked now count next) (row.Same (link_of next (row_at now next))) more (link_ends now next (row_at now next) refl (f.flat next g))))
        | inr c ↦ subst (LinksEnd (relinked now count next)) (sym (at_other now count next table (omega arith) e k c))
            (still_ends now (relinked now count next) (row_at now k) more (f.flat k (omega arith)))
      ];
    }

pub flat_all : (old now : List Row) → FlatBelow old now (length now) → Flat now
flat_all old now f k = elim (cases_lt k (length now)) [
  | inl h ↦ f.flat k h
  | inr h ↦ subst (LinksEnd now) (sym (get_or_past now k row.Open h)) tt
]
