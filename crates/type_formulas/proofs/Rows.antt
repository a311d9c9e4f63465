-- A row more behind a table, the rows of a type, and the types of known names.
use Rattle.std.proofs.Common.{◌≡◌, ◌≤◌, ◌<◌, ◌+◌, ◌-◌, ℕ, zero, suc, Bool, true, false, List, [], ◌∷◌, ◌++◌, length, length-append, get_or, take, drop, arith, refl, sym, ap, ◌∙◌, subst, inl, inr}
use Rattle.std.specs.Prelude.{Result, Ok, Err, IfOk, OnOk}
use Rattle.std.specs.declared.alloc.AllocError.{AllocError}
use Rattle.std.proofs.lemmas.Bool.{cases_lt, cases_eq}
use Rattle.std.proofs.lemmas.List.{get_or_past}
use Rattle.b_values.specs.declared.types.Ty.{Ty}
use Rattle.b_values.specs.declared.types.Ty.TheVariants.{Pair, Set}
use Rattle.b_values.specs.declared.types.NameFace.{NameFace}
use Rattle.type_table.specs.declared.rows.Basic.{Basic}
use Rattle.type_table.specs.declared.rows.Row.{Row}
use Rattle.type_table.specs.declared.rows.Row.TheVariants as row
use Rattle.type_table.specs.Types.{type_nodes, basic_type}
use Rattle.type_table.specs.TypeLaws.{nodes-Set, nodes-Pair}
use Rattle.type_table.specs.Tables.{Typing, Fits, row_at, Solves, IsRow, IsTable}
use Rattle.type_table.specs.TableLaws.{fits_agree, solves_agree}
use Rattle.type_table.specs.Unifying.{Adds, Settles, Unifies}
use Rattle.type_count.specs.Typings.{IsTyping, Agrees}
use Rattle.type_schemes.specs.Growing.{Extends, Demands}
use Rattle.type_schemes.proofs.Joining.{joined, joined_front, joined_back}
use Rattle.type_formulas.specs.Putting.{IsPut, Puts}
use Rattle.type_formulas.specs.Typings.{AreKnown, IsAt}

at_front : (rows more : List Row) (i : ℕ) → i < length rows → row_at (rows ++ more) i ≡ row_at rows i
at_front [] more i h = absurd (omega arith)
at_front (r ∷ rows) more zero h = refl
at_front (r ∷ rows) more (suc i) h = at_front rows more i (omega arith)

at_back : (rows more : List Row) (i : ℕ) → row_at (rows ++ more) (length rows + i) ≡ row_at more i
at_back [] more i = ap (row_at more) (omega arith)
at_back (r ∷ rows) more i =
    let e : length (r ∷ rows) + i ≡ suc (length rows + i) = omega arith in
    ap (row_at (r ∷ (rows ++ more))) e ∙ at_back rows more i

at_last : (rows : List Row) (r : Row) → row_at (rows ++ r ∷ []) (length rows) ≡ r
at_last rows r = let e : length rows ≡ length rows + 0 = omega arith in ap (row_at (rows ++ r ∷ [])) e ∙ at_back rows (r ∷ []) 0

row_more : (c d i : ℕ) (r : Row) → c ≤ d → IsRow c i r → IsRow d i r
row_more c d i row.Open h k = tt
row_more c d i (row.Basic b) h k = tt
row_more c d i (row.Set j) h k = omega arith
row_more c d i (row.Pair j l) h k = let a = k.0 in let b = k.1 in (omega arith, omega arith)
row_more c d i (row.Same j) h k = k

more_length : (rows : List Row) (r : Row) → length (rows ++ r ∷ []) ≡ length rows + 1
more_length rows r = length-append rows (r ∷ [])

more_table : (rows : List Row) (r : Row) → IsTable rows → IsRow (length rows) (length rows) r → IsTable (rows ++ r ∷ [])
unfolding IsTable
more_table rows r table is i =
    let n = length rows in
    subst (λ c. IsRow c i (row_at (rows ++ r ∷ []) i)) (sym (more_length rows r))
    (elim (cases_lt i n) [
      | inl h ↦ subst (IsRow (n + 1) i) (sym (at_front rows (r ∷ []) i h)) (row_more n (n + 1) i (row_at rows i) (omega arith) (table i))
      | inr h ↦ elim (cases_eq i n) [
        | inl e ↦ subst (λ k. IsRow (n + 1) k (row_at (rows ++ r ∷ []) k)) (sym e) (subst (IsRow (n + 1) n) (sym (at_last rows r)) (row_more n (n + 1) n r (omega arith) is))
        | inr e ↦ subst (IsRow (n + 1) i) (sym (get_or_past (rows ++ r ∷ []) i row.Open (let l = more_length rows r in omega arith))) tt
      ]
    ])

-- a solution of the longer table is one of the table, and fits the row
front_solves : (rows : List Row) (r : Row) (s : Typing) → Solves s (rows ++ r ∷ []) → Solves s rows × Fits s (s (length rows)) r
unfolding Solves
front_solves rows r s sol = (
  λ i. elim (cases_lt i (length rows)) [
    | inl h ↦ subst (Fits s (s i)) (at_front rows (r ∷ []) i h) (sol i)
    | inr h ↦ subst (Fits s (s i)) (sym (get_or_past rows i row.Open h)) tt
  ],
  subst (Fits s (s (length rows))) (at_last rows r) (sol (length rows)),
)

-- and a solution of the table is one of the longer table with a type for the row
module _ (rows : List Row) (r : Row) (table : IsTable rows) (is : IsRow (length rows) (length rows) r) (s : Typing) (sol : Solves s rows) (t : Ty) (fit : Fits s t r) where
  grown : Typing
  grown = joined (length rows) s (λ k. t)

  grown_front : (i : ℕ) → i < length rows → grown i ≡ s i
  unfolding grown
  grown_front i h = joined_front (length rows) s (λ k. t) i h

  grown_last : grown (length rows) ≡ t
  unfolding grown
  grown_last = let e : length rows ≡ length rows + 0 = omega arith in ap (joined (length rows) s (λ k. t)) e ∙ joined_back (length rows) s (λ k. t) 0

  grown_solves : Solves grown (rows ++ r ∷ [])
  unfolding Solves
  grown_solves i = elim (cases_lt i (length rows)) [
    | inl h ↦ subst (Fits grown (grown i)) (sym (at_front rows (r ∷ []) i h)) (solves_agree rows s grown table grown_front sol i)
    | inr h ↦ elim (cases_eq i (length rows)) [
      | inl e ↦ subst (λ k. Fits grown (grown k) (row_at (rows ++ r ∷ []) k)) (sym e)
          (subst (Fits grown (grown (length rows))) (sym (at_last rows r))
          (subst (λ x. Fits grown x r) (sym grown_last) (fits_agree (length rows) s grown t r grown_front is fit)))
      | inr e ↦ subst (Fits grown (grown i)) (sym (get_or_past (rows ++ r ∷ []) i row.Open (let l = more_length rows r in omega arith))) tt
    ]
  ]

  grown_typing : (limit : ℕ) → IsTyping limit rows s → type_nodes t ≤ limit → IsTyping limit (rows ++ r ∷ []) grown
  grown_typing limit typing k = record {
    solves = grown_solves;
    small = λ i h. elim (cases_lt i (length rows)) [
      | inl l ↦ (let a = ap type_nodes (grown_front i l) in let b = typing.small i l in omega arith)
      | inr l ↦
          let m = more_length rows r in
          let e : i ≡ length rows = omega arith in
          let a = ap type_nodes (ap grown e ∙ grown_last) in
          omega arith
    ];
  }

front_typing : (limit : ℕ) (rows : List Row) (r : Row) (s : Typing) → IsTyping limit (rows ++ r ∷ []) s → IsTyping limit rows s
front_typing limit rows r s h = record { solves = (front_solves rows r s h.solves).0; small = λ i k. h.small i (let l = more_length rows r in omega arith) }

-- ---- the rows of a type

put_at_end : (old mid : List Row) (r : Row) (t : Ty) → IsTable mid → length old ≤ length mid → IsRow (length mid) (length mid) r
    → ((limit : ℕ) (s : Typing) → IsTyping limit old s → type_nodes t ≤ limit → (u : Typing) × IsTyping limit mid u × Agrees (length old) s u × Fits u t r)
    → ((limit : ℕ) (s : Typing) → IsTyping limit mid s → IsTyping limit old s × ((x : Ty) → Fits s x r → x ≡ t))
    → IsPut old (mid ++ r ∷ []) t (length mid)
put_at_end old mid r t table longer is forth back =
    let l = more_length mid r in
    record {
      table = more_table mid r table is;
      longer = omega arith;
      inside = omega arith;
      forth = λ limit s typing k.
          let u = forth limit s typing k in (
            grown mid r table is u.0 u.1.solves t u.3,
            grown_typing mid r table is u.0 u.1.solves t u.3 limit u.1 k,
            λ i h. grown_front mid r table is u.0 u.1.solves t u.3 i (omega arith) ∙ u.2 i h,
          );
      back = λ limit s typing.
          let front = front_typing limit mid r s typing in
          let b = back limit s front in
          (b.0, b.1 (s (length mid)) (front_solves mid r s typing.solves).1);
    }

is_put_basic : (old : List Row) (b : Basic) → IsTable old → IsPut old (old ++ row.Basic b ∷ []) (basic_type b) (length old)
is_put_basic old b table =
    put_at_end old old (row.Basic b) (basic_type b) table (omega arith) tt
    (λ limit s typing k. (s, typing, λ i h. refl, refl))
    (λ limit s typing. (typing, λ x e. e))

is_put_set : (old mid : List Row) (t : Ty) (j : ℕ) → IsPut old mid t j → IsPut old (mid ++ row.Set j ∷ []) (Set t) (length mid)
is_put_set old mid t j p =
    let n = nodes-Set t in
    put_at_end old mid (row.Set j) (Set t) p.table p.longer p.inside
    (λ limit s typing k.
    let u = p.forth limit s typing (omega arith) in
    (u.0, u.1, u.2, ap Set (sym (p.back limit u.0 u.1).1)))
    (λ limit s typing. let b = p.back limit s typing in (b.0, λ x e. e ∙ ap Set b.1))

is_put_pair : (old mid next : List Row) (t u : Ty) (j k : ℕ) → IsPut old mid t j → IsPut mid next u k → IsPut old (next ++ row.Pair j k ∷ []) (Pair t u) (length next)
is_put_pair old mid next t u j k p q =
    let n = nodes-Pair t u in
    let a = p.inside in
    let b = q.longer in
    let c = p.longer in
    put_at_end old next (row.Pair j k) (Pair t u) q.table (omega arith) (omega arith, q.inside)
    (λ limit s typing h.
    let v = p.forth limit s typing (omega arith) in
    let w = q.forth limit v.0 v.1 (omega arith) in
    let y = q.back limit w.0 w.1 in
    let z = p.back limit w.0 y.0 in
    (w.0, w.1, λ i l. w.2 i (omega arith) ∙ v.2 i l, ap (λ x. Pair x u) (sym z.1) ∙ ap (Pair (w.0 j)) (sym y.1)))
    (λ limit s typing.
    let y = q.back limit s typing in
    let z = p.back limit s y.0 in
    (z.0, λ x e. e ∙ ap (λ f. Pair f (s k)) z.1 ∙ ap (Pair t) y.1))

pub put_basic_row : (old new : List Row) (b : Basic) (t : Ty) (r : Result ℕ AllocError) → IsTable old → t ≡ basic_type b → IfOk r (λ p. p ≡ length old) → OnOk r (new ≡ old ++ row.Basic b ∷ []) → Puts old new t r
put_basic_row old new b t (Ok p) table e f g =
    subst (λ l. IsPut old l t p) (sym g) (subst (IsPut old (old ++ row.Basic b ∷ []) t) (sym f) (subst (λ u. IsPut old (old ++ row.Basic b ∷ []) u (length old)) (sym e) (is_put_basic old b table)))
put_basic_row old new b t (Err x) table e f g = tt

pub put_set_row : (old mid new : List Row) (u t : Ty) (j : ℕ) (r : Result ℕ AllocError) → IsPut old mid u j → t ≡ Set u → IfOk r (λ p. p ≡ length mid) → OnOk r (new ≡ mid ++ row.Set j ∷ []) → Puts old new t r
put_set_row old mid new u t j (Ok p) i e f g =
    subst (λ l. IsPut old l t p) (sym g) (subst (IsPut old (mid ++ row.Set j ∷ []) t) (sym f) (subst (λ v. IsPut old (mid ++ row.Set j ∷ []) v (length mid)) (sym e) (is_put_set old mid u j i)))
put_set_row old mid new u t j (Err x) i e f g = tt

pub put_pair_row : (old mid next new : List Row) (u v t : Ty) (j k : ℕ) (r : Result ℕ AllocError) → IsPut old mid u j → IsPut mid next v k → t ≡ Pair u v → IfOk r (λ p. p ≡ length next) → OnOk r (new ≡ next ++ row.Pair j k ∷ []) → Puts old new t r
put_pair_row old mid next new u v t j k (Ok p) i l e f g =
    subst (λ x. IsPut old x t p) (sym g) (subst (IsPut old (next ++ row.Pair j k ∷ []) t) (sym f) (subst (λ y. IsPut old (next ++ row.Pair j k ∷ []) y (length next)) (sym e) (is_put_pair old mid next u v j k i l)))
put_pair_row old mid next new u v t j k (Err x) i l e f g = tt

pub put_table : (old new : List Row) (t : Ty) (p : ℕ) → IsPut old new t p → IsTable new
put_table old new t p i = i.table

-- ---- a part of a known type

known_true : (old mid new : List Row) (t : Ty) (p i : ℕ) → i < length old → IsPut old mid t p → Adds mid new (λ s. s i ≡ s p) true → Extends old new (λ s. s i ≡ t)
known_true old mid new t p i inside put add = record {
  table = add.table;
  longer = (let a = put.longer in let b = add.count in omega arith);
  forth = λ limit s typing e.
      let k = ap type_nodes e in
      let h = typing.small i inside in
      let u = put.forth limit s typing (omega arith) in
      let back = put.back limit u.0 u.1 in
      let f = add.forth u.0 u.1.solves (u.2 i inside ∙ e ∙ sym back.1) in
      (u.0, record { solves = f.0; small = λ j l. u.1.small j (let b = add.count in omega arith) }, u.2);
  back = λ limit s typing.
      let b = add.back s refl typing.solves in
      let c = put.back limit s (record { solves = b.0; small = λ j l. typing.small j (let d = add.count in omega arith) }) in
      (c.0, b.1 ∙ c.1);
}

known_false : (old mid new : List Row) (t : Ty) (p i : ℕ) → i < length old → IsPut old mid t p → Adds mid new (λ s. s i ≡ s p) false → (limit : ℕ) (s : Typing) → IsTyping limit old s → s i ≡ t → ⊥
known_false old mid new t p i inside put add limit s typing e =
    let k = ap type_nodes e in
    let h = typing.small i inside in
    let u = put.forth limit s typing (omega arith) in
    let back = put.back limit u.0 u.1 in
    let f = (add.forth u.0 u.1.solves (u.2 i inside ∙ e ∙ sym back.1)).1 in
    absurd cc

pub known_one : (old mid slice new out : List Row) (t : Ty) (p i : ℕ) (r : Result Bool AllocError) → i < length old → IsPut old mid t p → slice ≡ mid → out ≡ new → Unifies slice new i p r → Demands old out (λ s. s i ≡ t) r
known_one old mid slice new out t p i (Ok true) inside put e f u = subst (λ l. Extends old l (λ s. s i ≡ t)) (sym f) (known_true old mid new t p i inside put (subst (λ l. Adds l new (λ s. s i ≡ s p) true) e u))
known_one old mid slice new out t p i (Ok false) inside put e f u = known_false old mid new t p i inside put (subst (λ l. Adds l new (λ s. s i ≡ s p) false) e u)
known_one old mid slice new out t p i (Err x) inside put e f u = tt

-- the same of what the part's type has to be, said otherwise
pub demands_as : (old new : List Row) (Q R : Typing → Type 0) (r : Result Bool AllocError) → ((s : Typing) → Q s → R s) → ((s : Typing) → R s → Q s) → Demands old new Q r → Demands old new R r
demands_as old new Q R (Ok true) to from e = record {
  table = e.table;
  longer = e.longer;
  forth = λ limit s typing r. e.forth limit s typing (from s r);
  back = λ limit s typing. let b = e.back limit s typing in (b.0, to s b.1);
}
demands_as old new Q R (Ok false) to from e = λ limit s typing r. e limit s typing (from s r)
demands_as old new Q R (Err x) to from e = tt

-- ---- one of several lists that stand one after another

get_front : (xs ys : List NameFace) (i : ℕ) (d : NameFace) → i < length xs → get_or (xs ++ ys) i d ≡ get_or xs i d
get_front [] ys i d h = absurd (omega arith)
get_front (x ∷ xs) ys zero d h = refl
get_front (x ∷ xs) ys (suc i) d h = get_front xs ys i d (omega arith)

get_back : (xs ys : List NameFace) (i j : ℕ) (d : NameFace) → i ≡ length xs + j → get_or (xs ++ ys) i d ≡ get_or ys j d
get_back [] ys i j d e = let f : i ≡ j = omega arith in ap (λ k. get_or ys k d) f
get_back (x ∷ xs) ys zero j d e = absurd (omega arith)
get_back (x ∷ xs) ys (suc i) j d e = get_back xs ys i j d (omega arith)

get_any : (l : List NameFace) (i : ℕ) (x y : NameFace) → i < length l → get_or l i x ≡ get_or l i y
get_any [] i x y h = absurd (omega arith)
get_any (z ∷ l) zero x y h = refl
get_any (z ∷ l) (suc i) x y h = get_any l i x y (omega arith)

at_as : (known : List NameFace) (i : ℕ) (old new : List Row) (k : NameFace) (r : Result Bool AllocError) → ((d : NameFace) → get_or known i d ≡ k) → Demands old new (λ s. s i ≡ k.ty) r → Demands old new (IsAt known i) r
at_as known i old new k r e h =
    demands_as old new (λ s. s i ≡ k.ty) (IsAt known i) r
    (λ s f d. f ∙ sym (ap (λ (x : NameFace). x.ty) (e d)))
    (λ s f. f k ∙ ap (λ (x : NameFace). x.ty) (e k))
    h

pub at_first : (a b c d : List NameFace) (i : ℕ) (old new : List Row) (k : NameFace) (r : Result Bool AllocError) → i < length a → k ≡ get_or a i k → Demands old new (λ s. s i ≡ (get_or a i k).ty) r → Demands old new (IsAt (a ++ b ++ c ++ d) i) r
at_first a b c d i old new k r h e f =
    at_as (a ++ b ++ c ++ d) i old new k r
    (λ x. get_front (a ++ b ++ c) d i x (let l = length-append (a ++ b) c in let m = length-append a b in omega arith) ∙ get_front (a ++ b) c i x (let m = length-append a b in omega arith) ∙ get_front a b i x h ∙ get_any a i x k h ∙ sym e)
    (subst (λ (y : NameFace). Demands old new (λ s. s i ≡ y.ty) r) (sym e) f)

pub at_second : (a b c d : List NameFace) (i j : ℕ) (old new : List Row) (k : NameFace) (r : Result Bool AllocError) → i ≡ length a + j → j < length b → k ≡ get_or b j k → Demands old new (λ s. s i ≡ (get_or b j k).ty) r → Demands old new (IsAt (a ++ b ++ c ++ d) i) r
at_second a b c d i j old new k r g h e f =
    at_as (a ++ b ++ c ++ d) i old new k r
    (λ x. get_front (a ++ b ++ c) d i x (let l = length-append (a ++ b) c in let m = length-append a b in omega arith) ∙ get_front (a ++ b) c i x (let m = length-append a b in omega arith) ∙ get_back a b i j x g ∙ get_any b j x k h ∙ sym e)
    (subst (λ (y : NameFace). Demands old new (λ s. s i ≡ y.ty) r) (sym e) f)

pub at_third : (a b c d : List NameFace) (i j : ℕ) (old new : List Row) (k : NameFace) (r : Result Bool AllocError) → i ≡ length a + length b + j → j < length c → k ≡ get_or c j k → Demands old new (λ s. s i ≡ (get_or c j k).ty) r → Demands old new (IsAt (a ++ b ++ c ++ d) i) r
at_third a b c d i j old new k r g h e f =
    let m = length-append a b in
    at_as (a ++ b ++ c ++ d) i old new k r
    (λ x. get_front (a ++ b ++ c) d i x (let l = length-append (a ++ b) c in omega arith) ∙ get_back (a ++ b) c i j x (omega arith) ∙ get_any c j x k h ∙ sym e)
    (subst (λ (y : NameFace). Demands old new (λ s. s i ≡ y.ty) r) (sym e) f)

pub at_fourth : (a b c d : List NameFace) (i j : ℕ) (old new : List Row) (k : NameFace) (r : Result Bool AllocError) → i ≡ length a + length b + length c + j → j < length d → k ≡ get_or d j k → Demands old new (λ s. s i ≡ (get_or d j k).ty) r → Demands old new (IsAt (a ++ b ++ c ++ d) i) r
at_fourth a b c d i j old new k r g h e f =
    let m = length-append a b in
    let l = length-append (a ++ b) c in
    at_as (a ++ b ++ c ++ d) i old new k r
    (λ x. get_back (a ++ b ++ c) d i j x (omega arith) ∙ get_any d j x k h ∙ sym e)
    (subst (λ (y : NameFace). Demands old new (λ s. s i ≡ y.ty) r) (sym e) f)

-- ---- the known names, one by one

abbrev KnownBelow : List NameFace → ℕ → Typing → Type 0
KnownBelow known n s = (i : ℕ) (d : NameFace) → i < n → s i ≡ (get_or known i d).ty

pub record IsKnowing (old now : List Row) (known : List NameFace) (n : ℕ) : Type 0 where
  pub within : n ≤ length known
  pub extends : Extends old now (KnownBelow known n)

pub knowing_none : (old : List Row) (known : List NameFace) → IsTable old → IsKnowing old old known 0
knowing_none old known table = record {
  within = omega arith;
  extends = record {
    table = table;
    longer = omega arith;
    forth = λ limit s typing k. (s, typing, λ i h. refl);
    back = λ limit s typing. (typing, λ i d h. absurd (omega arith));
  };
}

module _ (old now : List Row) (known : List NameFace) (n : ℕ) (inside : length known ≤ length old) (below : n < length known) (g : IsKnowing old now known n) where
  pub knowing_inside : n < length now
  knowing_inside = let a = g.extends.longer in omega arith

  below_more : (s : Typing) → KnownBelow known n s → IsAt known n s → KnownBelow known (n + 1) s
  below_more s b e i d h = elim (cases_eq i n) [
    | inl f ↦ subst (λ j. s j ≡ (get_or known j d).ty) (sym f) (e d)
    | inr f ↦ b i d (omega arith)
  ]

  pub knowing_more : (new : List Row) → Extends now new (IsAt known n) → IsKnowing old new known (n + 1)
  knowing_more new e = record {
    within = omega arith;
    extends = record {
      table = e.table;
      longer = (let a = g.extends.longer in let b = e.longer in omega arith);
      forth = λ limit s typing b.
          let t = g.extends.forth limit s typing (λ i d h. b i d (omega arith)) in
          let u = e.forth limit t.0 t.1 (λ d. t.2 n (omega arith) ∙ b n d (omega arith)) in
          (u.0, u.1, λ i h. u.2 i (let a = g.extends.longer in omega arith) ∙ t.2 i h);
      back = λ limit s typing.
          let a = e.back limit s typing in
          let b = g.extends.back limit s a.0 in
          (b.0, below_more s b.1 a.1);
    };
  }

  pub knowing_clash : ((limit : ℕ) (s : Typing) → IsTyping limit now s → IsAt known n s → ⊥) → (limit : ℕ) (s : Typing) → IsTyping limit old s → AreKnown known s → ⊥
  knowing_clash without limit s typing b =
      let t = g.extends.forth limit s typing (λ i d h. b i d (omega arith)) in
      without limit t.0 t.1 (λ d. t.2 n (omega arith) ∙ b n d below)

pub knowing_all : (old now : List Row) (known : List NameFace) (n : ℕ) → length known ≤ n → IsKnowing old now known n → Extends old now (AreKnown known)
knowing_all old now known n h g = record {
  table = g.extends.table;
  longer = g.extends.longer;
  forth = λ limit s typing b. g.extends.forth limit s typing (λ i d k. b i d (let w = g.within in omega arith));
  back = λ limit s typing. let c = g.extends.back limit s typing in (c.0, λ i d k. c.1 i d (omega arith));
}
