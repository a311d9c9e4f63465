-- The steps of a walk: what they find, how it stands then, and that less is left to be done.
use borrow.Author.Tests.{ltb-true, ltb-false}
use Rattle.std.proofs.Common.{◌≡◌, ◌⊎◌, ◌<◌, ◌≤◌, ◌+◌, ◌-◌, ℕ, zero, suc, Bool, true, false, List, [], ◌∷◌, ◌++◌, length, map, drop, arith, refl, sym, ap, ◌∙◌, subst, inl, inr, append_assoc, append-nil, length-append, Result, Ok, Err}
use Rattle.std.specs.Prelude.{IsTrue, nat_lt, if◌then◌else◌}
use Rattle.std.specs.List.{AllByRecursion}
use Rattle.std.proofs.lemmas.List.{map-append}
use Rattle.ascending.specs.Members.{all_append, all_front, all_back}
use Rattle.b_values.specs.Values.{IsKept}
use Rattle.b_values.specs.declared.values.Value.{Value}
use Rattle.b_places.specs.Places.{RangeOf, Candidate, places}
use Rattle.b_places.specs.Scopes.{Slots}
use Rattle.b_places.specs.Walks.{rest, node_work, rest_work, to_come, walk_work, lefts_in, left_in, whole_or_asks, pending, pending_work, IsTurning, IsResting, IsAsking, IsKeptWalk, IsNextRange, IsBack, IsForward, Shifts, StandsAt}
use Rattle.b_places.specs.declared.walk.Shift.TheVariants.{End, Back, Forward}
use Rattle.b_places.specs.declared.walk.Stand.{Stand}
use Rattle.b_places.specs.declared.walk.Stand.TheVariants.{Tuple, Over, Asks}
use Rattle.b_places.specs.declared.walk.Range.{Range}
use Rattle.b_places.specs.declared.walk.Walk.{Walk}
use Rattle.b_places.proofs.Standing.{nothing, back, back_work, gone, gone_work, forth, forth_work, entered, entered_work}

pub length_lefts : (rs : List Range) → length (lefts_in rs) ≡ length rs
length_lefts [] = refl
length_lefts (r ∷ rs) = ap suc (length_lefts rs)

-- ---- what is kept

pub kept_back : (w u : Walk) → IsBack w.values u.values → lefts_in w.ranges ≡ lefts_in u.ranges ++ [] ∷ [] → IsKeptWalk w → IsKeptWalk u
kept_back w u b e k = record {
  values = elim b [
    | inl h ↦ subst (λ (vs : List Value). AllByRecursion IsKept vs) (sym h.1) tt
    | inr h ↦ all_front IsKept u.values (h.0 ∷ []) (subst (λ (vs : List Value). AllByRecursion IsKept vs) h.1 k.values)
  ];
  lefts = all_front (AllByRecursion IsKept) (lefts_in u.ranges) ([] ∷ []) (subst (λ (ls : List (List Value)). AllByRecursion (AllByRecursion IsKept) ls) e k.lefts);
}

pub kept_forward : (w u : Walk) → IsForward w.values u.values (lefts_in w.ranges) (lefts_in u.ranges) → IsKeptWalk w → IsKeptWalk u
kept_forward w u f k =
    let whole : AllByRecursion (AllByRecursion IsKept) (f.outer ++ (f.next ∷ f.left) ∷ []) = subst (λ (ls : List (List Value)). AllByRecursion (AllByRecursion IsKept) ls) f.before k.lefts in
    let last = all_back (AllByRecursion IsKept) f.outer ((f.next ∷ f.left) ∷ []) whole in
    record {
      values = subst (λ (vs : List Value). AllByRecursion IsKept vs) (sym f.values) (all_append IsKept w.values (f.next ∷ []) k.values (last.0.0, tt));
      lefts = subst (λ (ls : List (List Value)). AllByRecursion (AllByRecursion IsKept) ls) (sym f.after)
          (all_append (AllByRecursion IsKept) f.outer (f.left ∷ []) (all_front (AllByRecursion IsKept) f.outer ((f.next ∷ f.left) ∷ []) whole) (last.0.1, tt));
    }

-- ---- the steps of walks

-- an old walk's places to come
pub old_walk : (rs : List RangeOf) (env : Slots) (w : Walk) → w.fresh ≡ false → to_come rs env w ≡ rest rs env [] w.values (lefts_in w.ranges)
old_walk rs env w e = ap (λ b. if b then places rs env [] else rest rs env [] w.values (lefts_in w.ranges)) e

module _ (rs : List RangeOf) (env : Slots) (count : ℕ) (size : count ≡ length rs) (w u : Walk) (t : IsTurning count w) (same : u.fresh ≡ w.fresh) where
  new : u.fresh ≡ false
  new = same ∙ t.old

  pub over : Shifts w u (Ok End) → to_come rs env w ≡ []
  over s = old_walk rs env w t.old ∙ ap (λ (r : List Range). rest rs env [] w.values (lefts_in r)) s.0 ∙ nothing rs env [] w.values

  pub over_stands : Shifts w u (Ok End) → IsResting count u
  over_stands s = elim t.odd [
    | inl h ↦ absurd (let l = ap (λ (r : List Range). length r) s.0 in omega arith)
    | inr h ↦ record {
      even = ap (λ (vs : List Value). length vs) (s.2 ∙ h.0) ∙ ap (λ (r : List Range). length r) (sym s.1);
      within = rw s.1 (omega arith);
      new = λ e. s.2 ∙ h.0;
    }
  ]

  -- as many values as ranges before the last
  levels : (k : List (List Value)) (l : List Value) → lefts_in w.ranges ≡ k ++ l ∷ [] → (length w.values ≡ length k) × (length w.values < length rs)
  levels k l e = elim t.odd [
    | inl h ↦ (let n = length_lefts w.ranges in let m = ap (λ (ls : List (List Value)). length ls) e in let a = length-append k (l ∷ []) in let i = t.within in (omega (arith, n, m, a), omega (arith, n, m, a, i, size)))
    | inr h ↦ absurd (let m = ap (λ (ls : List (List Value)). length ls) (ap lefts_in (sym h.1) ∙ e) in let a = length-append k (l ∷ []) in omega (arith, m, a))
  ]

  module _ (e : lefts_in w.ranges ≡ lefts_in u.ranges ++ [] ∷ []) (b : IsBack w.values u.values) where
    shape : (length w.values ≡ length (lefts_in u.ranges)) × (length w.values < length rs)
    shape = levels (lefts_in u.ranges) [] e

    back_rest : rest rs env [] w.values (lefts_in u.ranges) ≡ rest rs env [] u.values (lefts_in u.ranges)
    back_rest = elim b [
      | inl h ↦ ap (λ (vs : List Value). rest rs env [] vs (lefts_in u.ranges)) (h.0 ∙ sym h.1)
      | inr h ↦ ap (λ (vs : List Value). rest rs env [] vs (lefts_in u.ranges)) h.1
          ∙ back rs env [] u.values h.0 (lefts_in u.ranges) (let n = shape.0 in let m = ap (λ (vs : List Value). length vs) h.1 in let a = length-append u.values (h.0 ∷ []) in omega (arith, n, m, a))
    ]

    back_rest_work : rest_work rs env [] w.values (lefts_in u.ranges) ≡ rest_work rs env [] u.values (lefts_in u.ranges)
    back_rest_work = elim b [
      | inl h ↦ ap (λ (vs : List Value). rest_work rs env [] vs (lefts_in u.ranges)) (h.0 ∙ sym h.1)
      | inr h ↦ ap (λ (vs : List Value). rest_work rs env [] vs (lefts_in u.ranges)) h.1
          ∙ back_work rs env [] u.values h.0 (lefts_in u.ranges) (let n = shape.0 in let m = ap (λ (vs : List Value). length vs) h.1 in let a = length-append u.values (h.0 ∷ []) in omega (arith, n, m, a))
    ]

    pub on_back : to_come rs env w ≡ to_come rs env u
    on_back = old_walk rs env w t.old ∙ ap (λ (ls : List (List Value)). rest rs env [] w.values ls) e ∙ gone rs env w.values (lefts_in u.ranges) shape.0 shape.1 ∙ back_rest ∙ sym (old_walk rs env u new)

    pub on_back_work : walk_work rs env u < walk_work rs env w
    on_back_work =
        let a = ap (λ (ls : List (List Value)). rest_work rs env [] w.values ls) e in
        let b = gone_work rs env w.values (lefts_in u.ranges) shape.0 shape.1 in
        let c = back_rest_work in
        omega (arith, a, b, c)

    pub on_back_stands : IsTurning count u
    on_back_stands = record {
      odd = elim b [
        | inl h ↦ inr (h.1, none u.ranges (let n = shape.0 in let m = ap (λ (vs : List Value). length vs) h.0 in let c = length_lefts u.ranges in omega (arith, n, m, c)))
        | inr h ↦ inl (let n = shape.0 in let m = ap (λ (vs : List Value). length vs) h.1 in let a = length-append u.values (h.0 ∷ []) in let c = length_lefts u.ranges in omega (arith, n, m, a, c))
      ];
      within = (let n = shape.1 in let m = shape.0 in let c = length_lefts u.ranges in omega (arith, n, m, c, size));
      old = new;
    }
      where
        none : (r : List Range) → length r ≡ 0 → r ≡ []
        none [] h = refl
        none (x ∷ r) h = absurd (omega arith)

  module _ (f : IsForward w.values u.values (lefts_in w.ranges) (lefts_in u.ranges)) where
    forward_shape : (length w.values ≡ length f.outer) × (length w.values < length rs)
    forward_shape = levels f.outer (f.next ∷ f.left) f.before

    one_more : length u.values ≡ suc (length w.values)
    one_more = let m = ap (λ (vs : List Value). length vs) f.values in let a = length-append w.values (f.next ∷ []) in omega (arith, m, a)

    pub forward_even : length u.values ≡ length u.ranges
    forward_even =
        let m = one_more in let n = forward_shape.0 in let c = length_lefts u.ranges in let d = ap (λ (ls : List (List Value)). length ls) f.after in let a = length-append f.outer (f.left ∷ []) in
        omega (arith, m, n, c, d, a)

    pub forward_within : length u.values ≤ count
    forward_within = let m = one_more in let n = forward_shape.1 in omega (arith, m, n, size)

    pub forward_rest : to_come rs env w ≡ places (drop (length u.values) rs) env u.values ++ to_come rs env u
    forward_rest =
        old_walk rs env w t.old ∙ ap (λ (ls : List (List Value)). rest rs env [] w.values ls) f.before ∙ forth rs env w.values f.outer forward_shape.0 forward_shape.1 f.next f.left
        ∙ ap (λ (vs : List Value). places (drop (suc (length w.values)) rs) env vs ++ rest rs env [] vs (f.outer ++ f.left ∷ [])) (sym f.values)
        ∙ ap (λ (n : ℕ). places (drop n rs) env u.values ++ rest rs env [] u.values (f.outer ++ f.left ∷ [])) (sym one_more)
        ∙ ap (λ (ls : List (List Value)). places (drop (length u.values) rs) env u.values ++ rest rs env [] u.values ls) (sym f.after)
        ∙ ap (λ (ps : List Candidate). places (drop (length u.values) rs) env u.values ++ ps) (sym (old_walk rs env u new))

    pub forward_work : walk_work rs env w ≡ suc (node_work (drop (length u.values) rs) env u.values + walk_work rs env u)
    forward_work =
        ap (λ (ls : List (List Value)). rest_work rs env [] w.values ls) f.before ∙ forth_work rs env w.values f.outer forward_shape.0 forward_shape.1 f.next f.left
        ∙ ap (λ (vs : List Value). suc (node_work (drop (suc (length w.values)) rs) env vs + rest_work rs env [] vs (f.outer ++ f.left ∷ []))) (sym f.values)
        ∙ ap (λ (n : ℕ). suc (node_work (drop n rs) env u.values + rest_work rs env [] u.values (f.outer ++ f.left ∷ []))) (sym one_more)
        ∙ ap (λ (ls : List (List Value)). suc (node_work (drop (length u.values) rs) env u.values + rest_work rs env [] u.values ls)) (sym f.after)

-- ---- a walk that looks whether its tuple is whole

all_dropped : (rs : List RangeOf) (n : ℕ) → length rs ≤ n → drop n rs ≡ []
all_dropped [] zero h = refl
all_dropped [] (suc n) h = refl
all_dropped (r ∷ rs) zero h = absurd (omega arith)
all_dropped (r ∷ rs) (suc n) h = all_dropped rs n (omega arith)

abbrev stand_by : Bool → Stand
stand_by b = if b then Asks else Tuple

module _ (rs : List RangeOf) (env : Slots) (count : ℕ) (size : count ≡ length rs) (w : Walk) where
  pub stood : places (drop (length w.values) rs) env w.values ++ to_come rs env w ≡ pending rs env w (whole_or_asks w count)
  stood = go (nat_lt (length w.values) count) refl
    where
      go : (b : Bool) → nat_lt (length w.values) count ≡ b → places (drop (length w.values) rs) env w.values ++ to_come rs env w ≡ pending rs env w (stand_by b)
      go true e = refl
      go false e =
          let h = ltb-false (length w.values) count e in
          ap (λ (qs : List RangeOf). places qs env w.values ++ to_come rs env w) (all_dropped rs (length w.values) (omega (arith, h, size)))

  pub stood_work : pending_work rs env w (whole_or_asks w count) ≤ suc (node_work (drop (length w.values) rs) env w.values + walk_work rs env w)
  stood_work = go (nat_lt (length w.values) count) refl
    where
      go : (b : Bool) → nat_lt (length w.values) count ≡ b → pending_work rs env w (stand_by b) ≤ suc (node_work (drop (length w.values) rs) env w.values + walk_work rs env w)
      go true e = omega arith
      go false e = omega arith

pub stood_stands : (count : ℕ) (w : Walk) → length w.values ≡ length w.ranges → length w.values ≤ count → w.fresh ≡ false → StandsAt count w (whole_or_asks w count)
stood_stands count w even within old = go (nat_lt (length w.values) count) refl
  where
    go : (b : Bool) → nat_lt (length w.values) count ≡ b → StandsAt count w (stand_by b)
    go true e = record { even = even; below = ltb-true (length w.values) count e; old = old }
    go false e = record { even = even; within = omega (arith, even, within); new = λ t. absurd (let n = old in cc) }

-- ---- a value is taken

module _ (rs : List RangeOf) (env : Slots) (count : ℕ) (size : count ≡ length rs) (w u : Walk) (t : IsTurning count w) (same : u.fresh ≡ w.fresh) (f : IsForward w.values u.values (lefts_in w.ranges) (lefts_in u.ranges)) where
  pub took : to_come rs env w ≡ pending rs env u (whole_or_asks u count)
  took = forward_rest rs env count size w u t same f ∙ stood rs env count size u

  pub took_work : pending_work rs env u (whole_or_asks u count) ≤ walk_work rs env w
  took_work = let a = stood_work rs env count size u in let b = forward_work rs env count size w u t same f in omega (arith, a, b)

  pub took_stands : StandsAt count u (whole_or_asks u count)
  took_stands = stood_stands count u (forward_even rs env count size w u t same f) (forward_within rs env count size w u t same f) (same ∙ t.old)

-- ---- leaving a place

module _ (rs : List RangeOf) (env : Slots) (count : ℕ) (w u : Walk) (r : IsResting count w) where
  -- before its first step a walk has its tuples' places to come, and none after them
  module _ (is : IsTrue w.fresh) (v : u.values ≡ w.values) (k : u.ranges ≡ w.ranges) (g : u.fresh ≡ false) where
    none : u.values ≡ []
    none = v ∙ r.new is

    empty : (x : List Range) → length x ≡ 0 → x ≡ []
    empty [] e = refl
    empty (y ∷ ys) e = absurd (omega arith)

    pub first_pending : to_come rs env w ≡ places (drop (length u.values) rs) env u.values ++ to_come rs env u
    first_pending =
        ap (λ b. if b then places rs env [] else rest rs env [] w.values (lefts_in w.ranges)) is
        ∙ sym (append-nil (places rs env []))
        ∙ ap (λ (ps : List Candidate). places rs env [] ++ ps) (sym past)
        ∙ ap (λ (vs : List Value). places (drop (length vs) rs) env vs ++ to_come rs env u) (sym none)
      where
        past : to_come rs env u ≡ []
        past =
            let size = r.even in
            let no : length w.values ≡ 0 = ap (λ (vs : List Value). length vs) (r.new is) in
            old_walk rs env u g ∙ ap (λ (x : List Range). rest rs env [] u.values (lefts_in x)) (k ∙ empty w.ranges (omega (arith, size, no))) ∙ nothing rs env [] u.values

    pub first_even : length u.values ≡ length u.ranges
    first_even = ap (λ (l : List Value). length l) v ∙ r.even ∙ ap (λ (l : List Range). length l) (sym k)

    pub first_within : length u.values ≤ count
    first_within = let a = first_even in let b = ap (λ (l : List Range). length l) k in let c = r.within in omega (arith, a, b, c)

  module _ (old : w.fresh ≡ false) (b : IsBack w.values u.values) (k : u.ranges ≡ w.ranges) (fresh : u.fresh ≡ w.fresh) where
    pub leaves : to_come rs env w ≡ to_come rs env u
    leaves =
        old_walk rs env w old
        ∙ elim b [
          | inl h ↦ ap (λ (l : List Value). rest rs env [] l (lefts_in w.ranges)) (h.0 ∙ sym h.1)
          | inr h ↦ ap (λ (l : List Value). rest rs env [] l (lefts_in w.ranges)) h.1
              ∙ back rs env [] u.values h.0 (lefts_in w.ranges) (let n = length_lefts w.ranges in let m = ap (λ (l : List Value). length l) h.1 in let a = length-append u.values (h.0 ∷ []) in let e = r.even in omega (arith, n, m, a, e))
        ]
        ∙ ap (λ (l : List Range). rest rs env [] u.values (lefts_in l)) (sym k)
        ∙ sym (old_walk rs env u (fresh ∙ old))

pub leaves_stands : (count : ℕ) (w u : Walk) → IsResting count w → w.fresh ≡ false → IsBack w.values u.values → u.ranges ≡ w.ranges → u.fresh ≡ w.fresh → IsTurning count u
leaves_stands count w u r old b k fresh = record {
  odd = elim b [
    | inl h ↦ inr (h.1, k ∙ empty w.ranges (let m = ap (λ (l : List Value). length l) h.0 in let e = r.even in omega (arith, m, e)))
    | inr h ↦ inl (let m = ap (λ (l : List Value). length l) h.1 in let a = length-append u.values (h.0 ∷ []) in let e = r.even in let c = ap (λ (l : List Range). length l) k in omega (arith, m, a, e, c))
  ];
  within = (let c = ap (λ (l : List Range). length l) k in let e = r.within in omega (arith, c, e));
  old = fresh ∙ old;
}
  where
    empty : (l : List Range) → length l ≡ 0 → l ≡ []
    empty [] e = refl
    empty (y ∷ l) e = absurd (omega arith)

pub leaves_kept : (w u : Walk) → IsBack w.values u.values → u.ranges ≡ w.ranges → IsKeptWalk w → IsKeptWalk u
leaves_kept w u b k h = record {
  values = elim b [
    | inl g ↦ subst (λ (l : List Value). AllByRecursion IsKept l) (sym g.1) tt
    | inr g ↦ all_front IsKept u.values (g.0 ∷ []) (subst (λ (l : List Value). AllByRecursion IsKept l) g.1 h.values)
  ];
  lefts = subst (λ (l : List Range). AllByRecursion (AllByRecursion IsKept) (lefts_in l)) (sym k) h.lefts;
}

-- ---- a range is put last

module _ (w x : Walk) (range : Range) (values : x.values ≡ w.values) (ranges : x.ranges ≡ w.ranges ++ range ∷ []) (fresh : x.fresh ≡ w.fresh) where
  more_lefts : lefts_in x.ranges ≡ lefts_in w.ranges ++ left_in range ∷ []
  more_lefts = ap lefts_in ranges ∙ map-append left_in w.ranges (range ∷ [])

  pub pushed_kept : IsKeptWalk w → AllByRecursion IsKept (left_in range) → IsKeptWalk x
  pushed_kept k h = record {
    values = subst (λ (l : List Value). AllByRecursion IsKept l) (sym values) k.values;
    lefts = subst (λ (l : List (List Value)). AllByRecursion (AllByRecursion IsKept) l) (sym more_lefts) (all_append (AllByRecursion IsKept) (lefts_in w.ranges) (left_in range ∷ []) k.lefts (h, tt));
  }

  pub pushed_stands : (count : ℕ) → IsAsking count w → IsTurning count x
  pushed_stands count a =
      let e = a.even in let b = a.below in let m = ap (λ (l : List Value). length l) values in let n = ap (λ (l : List Range). length l) ranges in let c = length-append w.ranges (range ∷ []) in
      record {
        odd = inl (omega (arith, e, m, n, c));
        within = omega (arith, e, b, n, c);
        old = fresh ∙ a.old;
      }

  module _ (rs : List RangeOf) (env : Slots) (count : ℕ) (size : count ≡ length rs) (a : IsAsking count w) (g : IsNextRange rs env w (left_in range)) where
    length_even : length w.values ≡ length (lefts_in w.ranges)
    length_even = a.even ∙ sym (length_lefts w.ranges)

    few : length w.values < length rs
    few = let b = a.below in omega (arith, b, size)

    pub pushed : pending rs env w Asks ≡ to_come rs env x
    pushed =
        ap (λ (ps : List Candidate). places (drop (length w.values) rs) env w.values ++ ps) (old_walk rs env w a.old)
        ∙ sym (entered rs env w.values (lefts_in w.ranges) length_even few g.range (left_in range) g.is_next g.gives)
        ∙ ap (λ (ls : List (List Value)). rest rs env [] w.values ls) (sym more_lefts)
        ∙ ap (λ (vs : List Value). rest rs env [] vs (lefts_in x.ranges)) (sym values)
        ∙ sym (old_walk rs env x (fresh ∙ a.old))

    pub pushed_work : walk_work rs env x < pending_work rs env w Asks
    pushed_work =
        let e =
        ap (λ (vs : List Value). rest_work rs env [] vs (lefts_in x.ranges)) values
        ∙ ap (λ (ls : List (List Value)). rest_work rs env [] w.values ls) more_lefts
        ∙ entered_work rs env w.values (lefts_in w.ranges) length_even few g.range (left_in range) g.is_next g.gives in
        omega (arith, e)
