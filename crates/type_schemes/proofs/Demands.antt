-- A rule put into a table.
use Rattle.std.proofs.Common.{◌≡◌, ◌≤◌, ◌<◌, ◌+◌, ◌-◌, ◌⊎◌, ℕ, zero, suc, Bool, true, false, List, [], ◌∷◌, ◌++◌, length, map, take, get_or, arith, refl, sym, ap, ◌∙◌, subst, inl, inr}
use Rattle.std.specs.Prelude.{IsTrue, Result, Ok, Err}
use Rattle.std.specs.declared.alloc.AllocError.{AllocError}
use Rattle.std.proofs.lemmas.Bool.{cases_lt}
use Rattle.std.proofs.lemmas.List.{take_more, take_all, map-append, append_assoc}
use Rattle.b_values.specs.declared.types.Ty.{Ty}
use Rattle.type_table.specs.declared.rows.Row.{Row}
use Rattle.type_table.specs.declared.rows.Row.TheVariants as row
use Rattle.type_table.specs.Types.{type_nodes}
use Rattle.type_table.specs.Tables.{Typing, Solves, IsTable, IsRow, row_at}
use Rattle.type_table.specs.TableLaws.{solves_agree}
use Rattle.type_table.specs.Unifying.{Adds, Settles, Unifies}
use Rattle.type_count.specs.Typings.{IsTyping, Agrees}
use Rattle.type_schemes.specs.declared.rules.Rule.{Rule}
use Rattle.type_schemes.specs.declared.rules.Rule.TheVariants as rule
use Rattle.type_schemes.specs.Rules.{Obeys}
use Rattle.type_schemes.specs.Schemes.{scheme_of, shift_row, with_scheme, IsShort}
use Rattle.type_schemes.specs.SchemeLaws.{SolvesFrom, solves_from, from_solved, listed, forth, back}
use Rattle.type_schemes.specs.Growing.{Extends, Demands, ThreeAlike}
use Rattle.type_schemes.proofs.Shortness.{scheme_short, scheme_three}
use Rattle.type_schemes.proofs.Covering.{scheme_small}
use Rattle.type_schemes.proofs.Joining.{with_length, with_table, scheme_forth, scheme_back, joined, joined_front, joined_back, solves_same}

-- ---- three equations, one after the other

pub three_all : (old mid next new : List Row) (a b c n : ℕ) (r : Result Bool AllocError) → Unifies old mid a n (Ok true) → Unifies mid next b (n + 1) (Ok true) → Unifies next new c (n + 2) r → Settles old new (ThreeAlike a b c n) r
three_all old mid next new a b c n (Ok found) u v w = record {
  table = w.table;
  count = w.count ∙ v.count ∙ u.count;
  forth = λ s o q. w.forth s (v.forth s (u.forth s o q.0).0 q.1).0 q.2;
  back = λ s t m. let e = w.back s t m in let f = v.back s refl e.0 in let g = u.back s refl f.0 in (g.0, (g.1, f.1, e.1));
}
three_all old mid next new a b c n (Err e) u v w = (w.0, w.1 ∙ v.count ∙ u.count)

pub three_first : (old new : List Row) (a b c n : ℕ) → Unifies old new a n (Ok false) → Settles old new (ThreeAlike a b c n) (Ok false)
three_first old new a b c n u = record { table = u.table; count = u.count; forth = λ s o q. u.forth s o q.0; back = λ s t m. absurd cc }

pub three_second : (old mid new : List Row) (a b c n : ℕ) → Unifies old mid a n (Ok true) → Unifies mid new b (n + 1) (Ok false) → Settles old new (ThreeAlike a b c n) (Ok false)
three_second old mid new a b c n u v = record { table = v.table; count = v.count ∙ u.count; forth = λ s o q. v.forth s (u.forth s o q.0).0 q.1; back = λ s t m. absurd cc }

-- ---- rows put behind a table one by one

pub put_none : (rows scheme : List Row) → rows ≡ rows ++ map (shift_row (length rows)) (take 0 scheme)
put_none rows scheme = sym (Rattle.std.proofs.lemmas.List.append-nil rows)

pub put_more : (rows scheme now : List Row) (i : ℕ) (d : Row) → i < length scheme → now ≡ rows ++ map (shift_row (length rows)) (take i scheme)
    → now ++ shift_row (length rows) (get_or scheme i d) ∷ [] ≡ rows ++ map (shift_row (length rows)) (take (i + 1) scheme)
put_more rows scheme now i d h e =
    ap (λ l. l ++ shift_row (length rows) (get_or scheme i d) ∷ []) e
    ∙ append_assoc rows (map (shift_row (length rows)) (take i scheme)) (shift_row (length rows) (get_or scheme i d) ∷ [])
    ∙ ap (λ l. rows ++ l) (sym (map-append (shift_row (length rows)) (take i scheme) (get_or scheme i d ∷ [])))
    ∙ ap (λ l. rows ++ map (shift_row (length rows)) l) (sym (take_more scheme i d h))

pub put_all : (rows scheme now : List Row) (i : ℕ) → length scheme ≤ i → now ≡ rows ++ map (shift_row (length rows)) (take i scheme) → now ≡ with_scheme rows scheme
put_all rows scheme now i h e = e ∙ ap (λ l. rows ++ map (shift_row (length rows)) l) (take_all i scheme h)

-- ---- a rule's scheme behind a table, whose first three rows are alike to three parts

module _ (rows : List Row) (q : Rule) (left right whole : ℕ) (table : IsTable rows) (l_in : left < length rows) (r_in : right < length rows) (w_in : whole < length rows) where
  abbrev Law : Typing → Type 0
  Law s = Obeys q (s left) (s right) (s whole)

  module _ (s : Typing) (f : Solves s rows) (h : Law s) where
    more : List Ty
    more = (forth q (s left) (s right) (s whole) h).0

    g : Typing
    g = listed (s whole) (s left) (s right) more

    g_solves : SolvesFrom g 0 (scheme_of q)
    unfolding g more
    g_solves = (forth q (s left) (s right) (s whole) h).1

    g_whole : g 0 ≡ s whole
    unfolding g
    g_whole = refl

    g_left : g 1 ≡ s left
    unfolding g
    g_left = refl

    g_right : g 2 ≡ s right
    unfolding g
    g_right = refl

    grown : Typing
    grown = joined (length rows) s g

    grown_front : (i : ℕ) → i < length rows → grown i ≡ s i
    unfolding grown
    grown_front i k = joined_front (length rows) s g i k

    grown_back : (i : ℕ) → grown (length rows + i) ≡ g i
    unfolding grown
    grown_back i = joined_back (length rows) s g i

    grown_solves : Solves grown (with_scheme rows (scheme_of q))
    grown_solves = scheme_back rows (scheme_of q) grown (solves_agree rows s grown table grown_front f) (solves_same (scheme_of q) g (λ k. grown (length rows + k)) grown_back (from_solved g (scheme_of q) g_solves))

    grown_alike : ThreeAlike whole left right (length rows) grown
    grown_alike =
        let e : length rows + 0 ≡ length rows = omega arith in (
          grown_front whole w_in ∙ sym g_whole ∙ sym (grown_back 0) ∙ ap grown e,
          grown_front left l_in ∙ sym g_left ∙ sym (grown_back 1),
          grown_front right r_in ∙ sym g_right ∙ sym (grown_back 2),
        )

    grown_small : (limit : ℕ) → ((i : ℕ) → i < length rows → type_nodes (s i) ≤ limit) → (i : ℕ) → i < length (with_scheme rows (scheme_of q)) → type_nodes (grown i) ≤ limit
    grown_small limit small i k = elim (cases_lt i (length rows)) [
      | inl l ↦ (let a = ap type_nodes (grown_front i l) in let b = small i l in omega arith)
      | inr l ↦
          let n = with_length rows (scheme_of q) in
          let e : length rows + (i - length rows) ≡ i = omega arith in
          let a = ap type_nodes (sym (ap grown e) ∙ grown_back (i - length rows)) in
          let w = ap type_nodes g_whole in
          let x = ap type_nodes g_left in
          let y = ap type_nodes g_right in
          let sw = small whole w_in in
          let sl = small left l_in in
          let sr = small right r_in in
          let b = scheme_small q g limit g_solves (omega arith) (omega arith) (omega arith) (i - length rows) (omega arith) in
          omega arith
    ]

  obeyed : (s : Typing) → Solves s (with_scheme rows (scheme_of q)) → ThreeAlike whole left right (length rows) s → Solves s rows × Law s
  obeyed s f three =
      let both = scheme_forth rows (scheme_of q) s f in
      let e : length rows + 0 ≡ length rows = omega arith in
      let law = back q (λ k. s (length rows + k)) (solves_from (λ k. s (length rows + k)) (scheme_of q) both.1) in (
        both.0,
        subst (λ x. Obeys q x (s right) (s whole)) (sym three.1)
            (subst (λ y. Obeys q (s (length rows + 1)) y (s whole)) (sym three.2)
            (subst (λ z. Obeys q (s (length rows + 1)) (s (length rows + 2)) z) (ap s e ∙ sym three.0) law)),
      )

  demanded_true : (new : List Row) → Adds (with_scheme rows (scheme_of q)) new (ThreeAlike whole left right (length rows)) true → Extends rows new Law
  demanded_true new u = record {
    table = u.table;
    longer = (let a = u.count in let b = with_length rows (scheme_of q) in omega arith);
    forth = λ limit s t h. (
      grown s t.solves h,
      record {
        solves = (u.forth (grown s t.solves h) (grown_solves s t.solves h) (grown_alike s t.solves h)).0;
        small = λ i k. grown_small s t.solves h limit t.small i (subst (λ n. i < n) u.count k);
      },
      grown_front s t.solves h,
    );
    back = λ limit s t.
        let e = u.back s refl t.solves in
        let o = obeyed s e.0 e.1 in
        (record { solves = o.0; small = λ i k. t.small i (let a = u.count in let b = with_length rows (scheme_of q) in omega arith) }, o.1);
  }

  demanded_false : (new : List Row) → Adds (with_scheme rows (scheme_of q)) new (ThreeAlike whole left right (length rows)) false → (limit : ℕ) (s : Typing) → IsTyping limit rows s → Law s → ⊥
  demanded_false new u limit s t h = let v = (u.forth (grown s t.solves h) (grown_solves s t.solves h) (grown_alike s t.solves h)).1 in absurd cc

  pub demanded : (new : List Row) (r : Result Bool AllocError) → Settles (with_scheme rows (scheme_of q)) new (ThreeAlike whole left right (length rows)) r → Demands rows new Law r
  demanded new (Ok true) u = demanded_true new u
  demanded new (Ok false) u = demanded_false new u
  demanded new (Err e) u = tt

pub scheme_table : (rows : List Row) (q : Rule) → IsTable rows → IsTable (with_scheme rows (scheme_of q))
scheme_table rows q table = let s = scheme_short q in with_table rows (scheme_of q) table s.table

pub scheme_room : (rows : List Row) (q : Rule) → length rows + 2 < length (with_scheme rows (scheme_of q))
scheme_room rows q = let a = scheme_three q in let b = with_length rows (scheme_of q) in omega arith

-- the same of lists that are those
pub demanded_any : (rows mid slice new out scheme : List Row) (q : Rule) (left right whole at : ℕ) (r : Result Bool AllocError) → IsTable rows → left < length rows → right < length rows → whole < length rows
    → mid ≡ with_scheme rows scheme → scheme ≡ scheme_of q → slice ≡ mid → at ≡ length rows → out ≡ new → Settles slice new (ThreeAlike whole left right at) r → Demands rows out (λ s. Obeys q (s left) (s right) (s whole)) r
demanded_any rows mid slice new out scheme q left right whole at r table l_in r_in w_in m e f g o u =
    let placed : slice ≡ with_scheme rows (scheme_of q) = f ∙ m ∙ ap (with_scheme rows) e in
    let there = subst (λ n. Settles (with_scheme rows (scheme_of q)) new (ThreeAlike whole left right n) r) g (subst (λ l. Settles l new (ThreeAlike whole left right at) r) placed u) in
    subst (λ l. Demands rows l (λ s. Obeys q (s left) (s right) (s whole)) r) (sym o) (demanded rows q left right whole table l_in r_in w_in new r there)
