-- The set of the rows of the last level is the set of the functions that are asked for.
use Rattle.std.proofs.Common.{◌≡◌, ◌↔◌, ◌≤◌, ◌<◌, Bool, true, false, List, [], ◌∷◌, map, length, drop, arith, refl, sym, ap, ap₂, ◌∙◌, subst, inl, inr, Result, Err}
use Rattle.std.specs.Prelude.{◌&&◌, ◌||◌, not, reverse, filter, IfOk, if◌then◌else◌}
use Rattle.ascending.specs.Ascending.{In, IsAscending, set_of}
use Rattle.ascending.specs.Members.{all_in, all_from}
use Rattle.b_values.specs.OrderLaws.{value_total}
use Rattle.b_values.specs.SameLaws.{value_decides}
use Rattle.b_values.specs.SizeLaws.{count-Set}
use Rattle.b_values.specs.Values.{elements, node_count, same_value, value_cmp, IsValue, IsKept}
use Rattle.b_values.specs.ValueLaws.{elements-Set, elements_ascend, elements_are_values}
use Rattle.b_values.specs.declared.values.FaultKind.TheVariants.{IllDefined, Overflow, TooLarge}
use Rattle.b_values.specs.declared.values.Value.{Value}
use Rattle.b_values.specs.declared.values.Value.TheVariants.{Pair, Set}
use Rattle.set_making.specs.Making.{set_with, Answers}
use Rattle.set_making.specs.MakingLaws.{set_with_same, answers_same, answers_law, answers_kept, limited_refuses}
use Rattle.set_making.specs.Sums.{map_cons_sum}
use Rattle.set_making.specs.declared.OpFault.{OpFault}
use Rattle.set_making.specs.declared.OpFault.TheVariants.{Fault, Memory}
use Rattle.b_funsets.specs.declared.levels.Arrow.{Arrow}
use Rattle.b_funsets.specs.declared.levels.Row.{Row}
use Rattle.b_funsets.specs.Families.{couples, sublists, IsRelation}
use Rattle.b_funsets.specs.Arrows.{first, second, is_one_to_one, is_total, is_onto, relations_that, IsFunctional, IsOneToOne, IsTotal, IsOnto}
use Rattle.b_funsets.specs.Levels.{read, hits, counts, level, weight, is_such, IsSuch, Gives, GrowsLarge}
use Rattle.b_funsets.proofs.SublistLaws.{in_map, map_from, sublist_within, sublist_ascends, is_sublist}
use Rattle.b_funsets.proofs.SubsetSizes.{total}
use Rattle.b_funsets.proofs.FamilyLaws.{subsets_are_values}
use Rattle.b_funsets.proofs.CoupleLaws.{in_couples, couple_from, couples_ascend, couples_are_values, relation_of_sublist, sublist_of_relation}
use Rattle.b_funsets.proofs.ArrowTests.{and_parts, both_true, implies, implied, any_true, true_any, in_filter, in_reverse, first-Pair, second-Pair, OneImage, OneArgument, AllFirst, AllSecond, function_means, one_to_one_means, total_means, onto_means}
use Rattle.b_funsets.proofs.Counting.{free, none_left}
use Rattle.b_funsets.proofs.LevelRows.{Reached, rows_are_parts, all_there, left_is}
use Rattle.b_funsets.proofs.LevelWeights.{levels_grow}
use Rattle.b_funsets.proofs.LevelApart.{level_apart, sets_apart, set_total}

-- ---- the tests in the words of membership

module _ (s t v : Value) (h : IsRelation s t v) where
  parts_first : (p : Value) (m : In p (elements v)) → first p ≡ (h.within p m).first
  parts_first p m = let c = h.within p m in ap first c.parts ∙ first-Pair c.first c.second

  parts_second : (p : Value) (m : In p (elements v)) → second p ≡ (h.within p m).second
  parts_second p m = let c = h.within p m in ap second c.parts ∙ second-Pair c.first c.second

  functional_words : OneImage (elements v) → IsFunctional v
  functional_words one = record {
    same_image = λ x y z m n.
        (let e = one (Pair x y) (Pair x z) m n (first-Pair x y ∙ sym (first-Pair x z)) in sym (second-Pair x y) ∙ ap second e ∙ second-Pair x z);
  }

  words_functional : IsFunctional v → OneImage (elements v)
  words_functional f p q m n e =
      let c = h.within p m in
      let d = h.within q n in
      let same : c.first ≡ d.first = sym (parts_first p m) ∙ e ∙ parts_first q n in
      let image : c.second ≡ d.second = f.same_image d.first c.second d.second
      (subst (λ w. In w (elements v)) (c.parts ∙ ap (λ w. Pair w c.second) same) m) (subst (λ w. In w (elements v)) d.parts n) in
      c.parts ∙ ap₂ Pair same image ∙ sym d.parts

  one_to_one_words : OneArgument (elements v) → IsOneToOne v
  one_to_one_words one = record {
    same_argument = λ x y z m n.
        (let e = one (Pair x z) (Pair y z) m n (second-Pair x z ∙ sym (second-Pair y z)) in sym (first-Pair x z) ∙ ap first e ∙ first-Pair y z);
  }

  words_one_to_one : IsOneToOne v → OneArgument (elements v)
  words_one_to_one f p q m n e =
      let c = h.within p m in
      let d = h.within q n in
      let same : c.second ≡ d.second = sym (parts_second p m) ∙ e ∙ parts_second q n in
      let argument : c.first ≡ d.first = f.same_argument c.first d.first d.second
      (subst (λ w. In w (elements v)) (c.parts ∙ ap (λ w. Pair c.first w) same) m) (subst (λ w. In w (elements v)) d.parts n) in
      c.parts ∙ ap₂ Pair argument same ∙ sym d.parts

  total_words : AllFirst (elements s) (elements v) → IsTotal s v
  total_words all = record {
    image_of = λ x m. (let g = all x m in let c = h.within g.couple g.member in
        record { image = c.second; couple = subst (λ w. In w (elements v)) (c.parts ∙ ap (λ w. Pair w c.second) (sym (parts_first g.couple g.member) ∙ g.is)) g.member });
  }

  words_total : IsTotal s v → AllFirst (elements s) (elements v)
  words_total f x m = let g = f.image_of x m in record { couple = Pair x g.image; member = g.couple; is = first-Pair x g.image }

  onto_words : AllSecond (elements t) (elements v) → IsOnto t v
  onto_words all = record {
    argument_of = λ y m. (let g = all y m in let c = h.within g.couple g.member in
        record { argument = c.first; couple = subst (λ w. In w (elements v)) (c.parts ∙ ap (λ w. Pair c.first w) (sym (parts_second g.couple g.member) ∙ g.is)) g.member });
  }

  words_onto : IsOnto t v → AllSecond (elements t) (elements v)
  words_onto f y m = let g = f.argument_of y m in record { couple = Pair g.argument y; member = g.couple; is = second-Pair g.argument y }

-- what the tests of a relation come to
pub record IsTested (a : Arrow) (s t r : List Value) : Type 0 where
  pub one_image : OneImage r
  pub all_first : a.total ≡ true → AllFirst s r
  pub one_argument : a.one_to_one ≡ true → OneArgument r
  pub all_second : a.onto ≡ true → AllSecond t r

such_means : (a : Arrow) (s t r : List Value) → (is_such a s t r ≡ true) ↔ IsTested a s t r
such_means a s t r = (
  λ e. (let p = and_parts _ _ e in let q = and_parts _ _ p.0 in let u = and_parts _ _ q.0 in
      record {
        one_image = (function_means r).0 u.0;
        all_first = λ o. (total_means s r).0 (implies a.total (is_total s r) u.1 o);
        one_argument = λ o. (one_to_one_means r).0 (implies a.one_to_one (is_one_to_one r) q.1 o);
        all_second = λ o. (onto_means t r).0 (implies a.onto (is_onto t r) p.1 o);
      }),
  λ h. both_true _ _ (both_true _ _ (both_true _ _
      ((function_means r).1 h.one_image)
      (implied a.total (is_total s r) (λ o. (total_means s r).1 (h.all_first o))))
      (implied a.one_to_one (is_one_to_one r) (λ o. (one_to_one_means r).1 (h.one_argument o))))
      (implied a.onto (is_onto t r) (λ o. (onto_means t r).1 (h.all_second o))),
)

such_words : (a : Arrow) (s t v : Value) → IsRelation s t v → is_such a (elements s) (elements t) (elements v) ≡ true → IsSuch a s t v
such_words a s t v h e = let k = (such_means a (elements s) (elements t) (elements v)).0 e in record {
  relation = h;
  functional = functional_words s t v h k.one_image;
  total = λ o. total_words s t v h (k.all_first o);
  one_to_one = λ o. one_to_one_words s t v h (k.one_argument o);
  onto = λ o. onto_words s t v h (k.all_second o);
}

words_such : (a : Arrow) (s t v : Value) → IsSuch a s t v → is_such a (elements s) (elements t) (elements v) ≡ true
words_such a s t v k = (such_means a (elements s) (elements t) (elements v)).1 (record {
  one_image = words_functional s t v k.relation k.functional;
  all_first = λ o. words_total s t v k.relation (k.total o);
  one_argument = λ o. words_one_to_one s t v k.relation (k.one_to_one o);
  all_second = λ o. words_onto s t v k.relation (k.onto o);
})

-- ---- rows and relations

-- each is an image where none is left, and none is left where each is one
none_free : (t r : List Value) → AllSecond t r → length (free t r) ≡ 0
none_free [] r all = refl
none_free (y ∷ t) r all = go (hits r y) (let g = all y (inl refl) in true_any (λ p. same_value (second p) y) r g.couple g.member ((value_decides (second g.couple) y).1 g.is)) (none_free t r (λ z m. all z (inr m)))
  where
    go : (b : Bool) → b ≡ true → length (free t r) ≡ 0 → length (if not b then y ∷ free t r else free t r) ≡ 0
    go true e more = more
    go false e more = cc

onto_counts : (a : Arrow) → a.onto ≡ true → counts a ≡ true
onto_counts a o = ap (λ b. b || (a.total && a.one_to_one)) o

module _ (a : Arrow) (s t : List Value) (up : IsAscending value_cmp s) (rising : IsAscending value_cmp t) where
  row_is_such : (row : Row) → In row (level a t 0 s) → In (read row) (filter (is_such a s t) (sublists (couples s t)))
  row_is_such row m =
      let h = rows_are_parts a t rising s 0 row up m in
      (in_filter (is_such a s t) (read row) (sublists (couples s t))).1 (
        is_sublist value_cmp value_total (couples s t) (read row) (couples_ascend s t up rising) h.ascends
            (λ z n. let o = h.within z n in subst (λ w. In w (couples s t)) (sym o.parts) (in_couples s t o.first o.second o.left o.right)),
        (such_means a s t (read row)).1 (record {
          one_image = h.one_image;
          all_first = h.all_first;
          one_argument = h.one_argument;
          all_second = λ o y n. (let zero : length (free t (read row)) ≡ 0 = (let l = h.ready.hit o in let e = h.counted in let f = left_is a t rising (read row) (onto_counts a o) in omega arith) in
              let f = any_true (λ p. same_value (second p) y) (read row) (none_left t (read row) zero y n) in
              record { couple = f.item; member = f.member; is = (value_decides (second f.item) y).0 f.passes });
        }),
      )

  such_is_row : (r : List Value) → In r (filter (is_such a s t) (sublists (couples s t))) → Reached a t rising (level a t 0 s) r
  such_is_row r m =
      let f = (in_filter (is_such a s t) r (sublists (couples s t))).0 m in
      let k = (such_means a s t r).0 f.1 in
      all_there a t rising s 0 r up (record {
        within = λ z n. couple_from s t z (sublist_within (couples s t) r f.0 z n);
        ascends = sublist_ascends value_cmp (couples s t) r (couples_ascend s t up rising) f.0;
        one_image = k.one_image;
        all_first = k.all_first;
        one_argument = k.one_argument;
        ready = record {
          hit = λ o. (let e = none_free t r (k.all_second o) in let g = left_is a t rising r (onto_counts a o) in omega arith);
          enough = λ o w. omega arith;
          any = λ o. inl refl;
        };
      })

  pub rows_such : (z : Value) → In z (map (λ row. Set (read row)) (level a t 0 s)) ↔ In z (map Set (filter (is_such a s t) (sublists (couples s t))))
  rows_such z = (
    λ m. (let c = map_from (λ row. Set (read row)) z (level a t 0 s) m in
        subst (λ w. In w (map Set (filter (is_such a s t) (sublists (couples s t))))) (sym c.is)
        (in_map Set (read c.source) (filter (is_such a s t) (sublists (couples s t))) (row_is_such c.source c.member))),
    λ m. (let c = map_from Set z (filter (is_such a s t) (sublists (couples s t))) m in
        let d = such_is_row c.source c.member in
        subst (λ w. In w (map (λ row. Set (read row)) (level a t 0 s))) (ap Set d.is ∙ sym c.is) (in_map (λ row. Set (read row)) d.row (level a t 0 s) d.member)),
  )

  pub turned_same : (rows : List Row) (z : Value) → In z (map (λ row. Set (read row)) (reverse rows)) ↔ In z (map (λ row. Set (read row)) rows)
  turned_same rows z = (
    λ m. (let c = map_from (λ row. Set (read row)) z (reverse rows) m in
        subst (λ w. In w (map (λ row. Set (read row)) rows)) (sym c.is) (in_map (λ row. Set (read row)) c.source rows ((in_reverse c.source rows).0 c.member))),
    λ m. (let c = map_from (λ row. Set (read row)) z rows m in
        subst (λ w. In w (map (λ row. Set (read row)) (reverse rows))) (sym c.is) (in_map (λ row. Set (read row)) c.source (reverse rows) ((in_reverse c.source rows).1 c.member))),
  )

  rows_total : (rows : List Row) → ((row : Row) → In row rows → row.nodes ≡ node_count (Set (read row))) → total (map (λ row. Set (read row)) rows) ≡ weight rows
  rows_total [] f = refl
  rows_total (row ∷ rows) f = omega (
    arith,
    rows_total rows (λ r m. f r (inr m)),
    f row (inl refl),
    map_cons_sum node_count (Set (read row)) (map (λ r. Set (read r)) rows),
    map_cons_sum (λ (r : Row). r.nodes) row rows,
  )

  -- where a level is too large, the set of the functions is
  pub large_refused : GrowsLarge a t s → set_with (map (λ row. Set (read row)) (level a t 0 s)) ≡ Err TooLarge
  large_refused g =
      let zs = map (λ row. Set (read row)) (level a t 0 s) in
      let grown : weight (level a t g.0 (drop g.0 s)) ≤ weight (level a t 0 s) = levels_grow a t rising s g.0 up g.1 in
      let large : 999999 < weight (level a t g.0 (drop g.0 s)) = g.2 in
      let apart : total (set_of value_cmp zs) ≡ total zs = set_total zs (sets_apart (level a t 0 s) (level_apart a t rising s 0 up)) in
      let weighed : total zs ≡ weight (level a t 0 s) = rows_total (level a t 0 s) (λ row m. (rows_are_parts a t rising s 0 row up m).weighed) in
      limited_refuses (Set (set_of value_cmp zs)) (omega (arith, count-Set (set_of value_cmp zs)))

module _ (a : Arrow) (s t : Value) (k : IsKept s) (l : IsKept t) where
  pub arrows_found : (xs ys sets : List Value) (rows : List Row) (r : Result Value OpFault) → xs ≡ elements s → ys ≡ elements t → rows ≡ level a ys 0 xs
      → sets ≡ map (λ row. Set (read row)) (reverse rows) → Answers (set_with sets) r → Answers (relations_that (is_such a (elements s) (elements t)) s t) r
  arrows_found xs ys sets rows r e f g i h =
      let is : rows ≡ level a (elements t) 0 (elements s) = g ∙ ap₂ (λ y x. level a y 0 x) f e in
      let up = elements_ascend s k.value in
      let rising = elements_ascend t l.value in
      let as_sets : Answers (set_with (map (λ row. Set (read row)) (reverse (level a (elements t) 0 (elements s))))) r =
      subst (λ (zs : List Value). Answers (set_with zs) r) (i ∙ ap (λ rs. map (λ row. Set (read row)) (reverse rs)) is) h in
      answers_same (map (λ row. Set (read row)) (reverse (level a (elements t) 0 (elements s)))) (map Set (filter (is_such a (elements s) (elements t)) (sublists (couples (elements s) (elements t))))) r
      (λ z. let u = turned_same a (elements s) (elements t) up rising (level a (elements t) 0 (elements s)) z in let w = rows_such a (elements s) (elements t) up rising z in
      (λ m. w.0 (u.0 m), λ m. u.1 (w.1 m)))
      as_sets

  arrows_large : GrowsLarge a (elements t) (elements s) → relations_that (is_such a (elements s) (elements t)) s t ≡ Err TooLarge
  arrows_large g =
      let up = elements_ascend s k.value in
      let rising = elements_ascend t l.value in
      sym (set_with_same (map (λ row. Set (read row)) (level a (elements t) 0 (elements s))) (map Set (filter (is_such a (elements s) (elements t)) (sublists (couples (elements s) (elements t))))) (rows_such a (elements s) (elements t) up rising))
      ∙ large_refused a (elements s) (elements t) up rising g

  fault_answers : (e : OpFault) → Gives (level a (elements t) 0 (elements s)) (GrowsLarge a (elements t) (elements s)) (Err e) → Answers (relations_that (is_such a (elements s) (elements t)) s t) (Err e)
  fault_answers (Fault IllDefined) h = absurd h
  fault_answers (Fault Overflow) h = absurd h
  fault_answers (Fault TooLarge) h = arrows_large h
  fault_answers Memory h = tt

  pub arrows_refused : (xs ys : List Value) (e : OpFault) → xs ≡ elements s → ys ≡ elements t → Gives (level a ys 0 xs) (GrowsLarge a ys xs) (Err e) → Answers (relations_that (is_such a (elements s) (elements t)) s t) (Err e)
  arrows_refused xs ys e f g h = fault_answers e (subst (λ (us : List Value). Gives (level a (elements t) 0 us) (GrowsLarge a (elements t) us) (Err e)) f (subst (λ (ws : List Value). Gives (level a ws 0 xs) (GrowsLarge a ws xs) (Err e)) g h))

  pub arrows_kept : (r : Result Value OpFault) → Answers (relations_that (is_such a (elements s) (elements t)) s t) r → IfOk r (λ v. IsKept v)
  arrows_kept r h =
      let all = subsets_are_values (couples (elements s) (elements t)) (couples_ascend (elements s) (elements t) (elements_ascend s k.value) (elements_ascend t l.value))
      (couples_are_values (elements s) (elements t) (elements_are_values s k.value) (elements_are_values t l.value)) in
      answers_kept (map Set (filter (is_such a (elements s) (elements t)) (sublists (couples (elements s) (elements t))))) r
      (all_from IsValue (map Set (filter (is_such a (elements s) (elements t)) (sublists (couples (elements s) (elements t))))) (λ z m.
      let c = map_from Set z (filter (is_such a (elements s) (elements t)) (sublists (couples (elements s) (elements t)))) m in
      let f = (in_filter (is_such a (elements s) (elements t)) c.source (sublists (couples (elements s) (elements t)))).0 c.member in
      all_in IsValue (map Set (sublists (couples (elements s) (elements t)))) all z (subst (λ w. In w (map Set (sublists (couples (elements s) (elements t))))) (sym c.is) (in_map Set c.source (sublists (couples (elements s) (elements t))) f.0))))
      h

  pub found_words : (z : Value) → In z (map Set (filter (is_such a (elements s) (elements t)) (sublists (couples (elements s) (elements t))))) ↔ IsSuch a s t z
  found_words z =
      let up = elements_ascend s k.value in
      let rising = elements_ascend t l.value in (
        λ m. (let c = map_from Set z (filter (is_such a (elements s) (elements t)) (sublists (couples (elements s) (elements t)))) m in
            let f = (in_filter (is_such a (elements s) (elements t)) c.source (sublists (couples (elements s) (elements t)))).0 c.member in
            subst (IsSuch a s t) (sym c.is) (such_words a s t (Set c.source) (relation_of_sublist s t up rising c.source f.0)
            (subst (λ (r : List Value). is_such a (elements s) (elements t) r ≡ true) (sym (elements-Set c.source)) f.1))),
        λ h. subst (λ w. In w (map Set (filter (is_such a (elements s) (elements t)) (sublists (couples (elements s) (elements t)))))) (sym h.relation.is_set)
            (in_map Set (elements z) (filter (is_such a (elements s) (elements t)) (sublists (couples (elements s) (elements t))))
            ((in_filter (is_such a (elements s) (elements t)) (elements z) (sublists (couples (elements s) (elements t)))).1
            (sublist_of_relation s t up rising z h.relation, words_such a s t z h))),
      )

  pub arrows_members : (r : Result Value OpFault) → Answers (relations_that (is_such a (elements s) (elements t)) s t) r → IfOk r (λ v. (x : Value) → In x (elements v) ↔ IsSuch a s t x)
  arrows_members r h = answers_law (IsSuch a s t) (map Set (filter (is_such a (elements s) (elements t)) (sublists (couples (elements s) (elements t))))) r found_words h
