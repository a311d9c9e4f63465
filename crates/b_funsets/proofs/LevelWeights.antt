-- No row is given up, so levels only gain nodes.
use Rattle.std.proofs.Common.{◌≡◌, ◌⊎◌, ℕ, zero, suc, ◌+◌, ◌-◌, ◌≤◌, ◌<◌, Bool, true, false, List, [], ◌∷◌, ◌++◌, map, length, get_or, drop, drop-cons, arith, refl, sym, ap, ◌∙◌, subst, inl, inr}
use Rattle.std.specs.Prelude.{not, nat_lt, reverse, filter, if◌then◌else◌}
use Rattle.std.specs.List.{flat_map}
use Rattle.std.proofs.lemmas.List.{reverse-append}
use Rattle.ascending.specs.Ascending.{In, IsAscending}
use Rattle.ascending.specs.Members.{in_append}
use Rattle.ascending.specs.AscendingLaws.{ascending_tail}
use Rattle.b_values.specs.Values.{value_cmp}
use Rattle.b_values.specs.declared.values.Value.{Value}
use Rattle.b_values.specs.declared.values.Value.TheVariants.{Pair, Set}
use Rattle.set_making.specs.Sums.{map_cons_sum, map_append_sum, map_member_sum}
use Rattle.b_funsets.specs.declared.levels.Arrow.{Arrow}
use Rattle.b_funsets.specs.declared.levels.Row.{Row}
use Rattle.b_funsets.specs.Arrows.{second}
use Rattle.b_funsets.specs.Levels.{read, hits, viable, left_after, takes, skips, extended, children, level, weight}
use Rattle.b_funsets.proofs.ArrowTests.{both_true, either_way, in_reverse, second-Pair}
use Rattle.b_funsets.proofs.Counting.{IsReady, ready_means, free_one}
use Rattle.b_funsets.proofs.LevelRows.{IsPartRow, takes_means, some_there, child_there, rows_are_parts}

-- a row that carries on another, with no fewer nodes
pub record IsCarried (rows : List Row) (row : Row) : Type 0 where
  pub child : Row
  pub member : In child rows
  pub heavier : row.nodes ≤ child.nodes

at_most : (n : ℕ) (b : Bool) → left_after n b ≤ n
at_most n true = omega arith
at_most n false = omega arith

none_or_some : (n : ℕ) → (n ≡ 0) ⊎ (0 < n)
none_or_some zero = inl refl
none_or_some (suc n) = inr (omega arith)

module _ (a : Arrow) (t : List Value) (rising : IsAscending value_cmp t) where
  takes_on : (s : List Value) (k : ℕ) (x y : Value) (row : Row) → In y t → takes a k (nat_lt 0 (length t)) row (Pair x y) ≡ true → IsCarried (children a k (nat_lt 0 (length t)) (map (λ y. Pair x y) t) row) row
  takes_on s k x y row m may = record { child = extended row (Pair x y); member = child_there a t rising k x y row m may; heavier = omega arith }

  some_left : (s : List Value) (k : ℕ) (x : Value) (row : Row) → IsPartRow a s t (k + 1) row → 0 < row.left → IsCarried (children a k (nat_lt 0 (length t)) (map (λ y. Pair x y) t) row) row
  some_left s k x row h l =
      let f = free_one a t (read row) (subst (λ n. 0 < n) h.counted l) in
      let fresh : hits (read row) (second (Pair x f.item)) ≡ false = ap (hits (read row)) (second-Pair x f.item) ∙ f.fresh in
      let ready : IsReady a k (row.left - 1) (nat_lt 0 (length t)) = record {
        hit = λ o. (let u = h.ready.hit o in omega arith);
        enough = λ o w. (let u = h.ready.enough o w in omega arith);
        any = λ o. inr (some_there a t rising f.item t f.member);
      } in
      takes_on s k x f.item row f.member
      ((takes_means a k (nat_lt 0 (length t)) row (Pair x f.item)).1
      (λ o. fresh, subst (λ b. IsReady a k (left_after row.left b) (nat_lt 0 (length t))) (sym fresh) ready))

  passed : (s : List Value) (k : ℕ) (x : Value) (row : Row) → IsPartRow a s t (k + 1) row → row.left ≡ 0 → a.total ≡ false → IsCarried (children a k (nat_lt 0 (length t)) (map (λ y. Pair x y) t) row) row
  passed s k x row h e off =
      let ready : IsReady a k row.left (nat_lt 0 (length t)) = record { hit = λ o. omega arith; enough = λ o w. absurd cc; any = λ o. absurd cc } in
      let may : skips a k (nat_lt 0 (length t)) row ≡ true = both_true (not a.total) (viable a k row.left (nat_lt 0 (length t))) (ap not off) ((ready_means a k row.left (nat_lt 0 (length t))).1 ready) in
      record {
        child = row;
        member = (in_append row (map (extended row) (filter (takes a k (nat_lt 0 (length t)) row) (map (λ y. Pair x y) t))) (if skips a k (nat_lt 0 (length t)) row then row ∷ [] else [])).1
            (inr (subst (λ b. In row (if b then row ∷ [] else [])) (sym may) (inl refl)));
        heavier = omega arith;
      }

  a_member : (ys : List Value) → nat_lt 0 (length ys) ≡ true → (y : Value) × In y ys
  a_member [] e = absurd cc
  a_member (y ∷ ys) e = (y, inl refl)

  forced : (s : List Value) (k : ℕ) (x : Value) (row : Row) → IsPartRow a s t (k + 1) row → row.left ≡ 0 → a.total ≡ true → IsCarried (children a k (nat_lt 0 (length t)) (map (λ y. Pair x y) t) row) row
  forced s k x row h e on = elim (either_way a.one_to_one) [
    | inl o ↦ absurd (let u = h.ready.enough on o in omega arith)
    | inr o ↦ elim (h.ready.any on) [
      | inl z ↦ absurd (omega arith)
      | inr w ↦ (let m = a_member t w in go o w m.0 m.1)
    ]
  ]
    where
      go : a.one_to_one ≡ false → nat_lt 0 (length t) ≡ true → (y : Value) → In y t → IsCarried (children a k (nat_lt 0 (length t)) (map (λ y. Pair x y) t) row) row
      go o w y m = takes_on s k x y row m ((takes_means a k (nat_lt 0 (length t)) row (Pair x y)).1 (
        λ f. absurd cc,
        record {
          hit = λ f. (let u = at_most row.left (hits (read row) (second (Pair x y))) in omega arith);
          enough = λ f g. absurd cc;
          any = λ f. inr w;
        },
      ))

  -- each row is carried on
  pub carried : (s : List Value) (k : ℕ) (x : Value) (row : Row) → IsPartRow a s t (k + 1) row → IsCarried (children a k (nat_lt 0 (length t)) (map (λ y. Pair x y) t) row) row
  carried s k x row h = elim (none_or_some row.left) [
    | inr l ↦ some_left s k x row h l
    | inl e ↦ elim (either_way a.total) [ inl o ↦ forced s k x row h e o | inr o ↦ passed s k x row h e o ]
  ]

  weight_reverse : (rows : List Row) → weight (reverse rows) ≡ weight rows
  weight_reverse [] = refl
  weight_reverse (row ∷ rows) =
      let turned : weight (reverse (row ∷ rows)) ≡ weight (reverse rows ++ row ∷ []) = ap weight (reverse-append (row ∷ []) rows) in
      omega (arith, turned, weight_reverse rows, map_append_sum (λ (r : Row). r.nodes) (reverse rows) (row ∷ []), map_cons_sum (λ (r : Row). r.nodes) row rows)

  flat_weight : (g : Row → List Row) (rows : List Row) → ((row : Row) → In row rows → row.nodes ≤ weight (g row)) → weight rows ≤ weight (flat_map g rows)
  flat_weight g [] f = omega arith
  flat_weight g (row ∷ rows) f =
      omega (arith, f row (inl refl), flat_weight g rows (λ r m. f r (inr m)), map_append_sum (λ (r : Row). r.nodes) (g row) (flat_map g rows), map_cons_sum (λ (r : Row). r.nodes) row rows)

  level_grows : (s : List Value) (k : ℕ) (x : Value) → IsAscending value_cmp (x ∷ s) → weight (level a t (k + 1) s) ≤ weight (level a t k (x ∷ s))
  level_grows s k x up =
      let g = children a k (nat_lt 0 (length t)) (map (λ y. Pair x y) t) in
      let more : weight (reverse (level a t (k + 1) s)) ≤ weight (flat_map g (reverse (level a t (k + 1) s))) =
      flat_weight g (reverse (level a t (k + 1) s)) (λ row m.
      let c = carried s k x row (rows_are_parts a t rising s (k + 1) row (ascending_tail value_cmp x s up) ((in_reverse row (level a t (k + 1) s)).0 m)) in
      omega (arith, c.heavier, map_member_sum (λ (r : Row). r.nodes) c.child (g row) c.member)) in
      omega (arith, weight_reverse (level a t (k + 1) s))

  rest_ascends : (k : ℕ) (s : List Value) → IsAscending value_cmp s → IsAscending value_cmp (drop k s)
  rest_ascends zero s up = up
  rest_ascends (suc k) [] up = up
  rest_ascends (suc k) (x ∷ s) up = rest_ascends k s (ascending_tail value_cmp x s up)

  -- a level has no more nodes than the last one
  pub levels_grow : (s : List Value) (k : ℕ) → IsAscending value_cmp s → k ≤ length s → weight (level a t k (drop k s)) ≤ weight (level a t 0 s)
  levels_grow s zero up l = omega arith
  levels_grow s (suc k) up l =
      let x = get_or s k (Set []) in
      let rest : drop k s ≡ x ∷ drop (suc k) s = drop-cons s k (Set []) (omega arith) in
      let count : suc k ≡ k + 1 = omega arith in
      let same : weight (level a t (suc k) (drop (suc k) s)) ≡ weight (level a t (k + 1) (drop (suc k) s)) = ap (λ n. weight (level a t n (drop (suc k) s))) count in
      let here : weight (level a t k (drop k s)) ≡ weight (level a t k (x ∷ drop (suc k) s)) = ap (λ (ws : List Value). weight (level a t k ws)) rest in
      let step = level_grows (drop (suc k) s) k x (subst (IsAscending value_cmp) rest (rest_ascends k s up)) in
      let more = levels_grow s k up (omega arith) in
      omega arith
