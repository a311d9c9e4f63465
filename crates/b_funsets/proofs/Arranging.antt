-- One-to-one sequences, gathered length by length.
use Rattle.std.proofs.Common.{◌≡◌, ◌⊎◌, ◌↔◌, ℕ, zero, suc, ◌+◌, ◌≤◌, ◌<◌, true, false, List, [], ◌++◌, map, length, arith, sym, ap, ◌∙◌, subst, inl, inr, Result, Err}
use Rattle.std.specs.Prelude.{◌&&◌, filter, reverse, IfOk}
use Rattle.std.specs.List.{AllByRecursion}
use Rattle.std.proofs.Math.Nat.{eq-or-lt_of_le}
use Rattle.ascending.specs.Ascending.{In, IsAscending}
use Rattle.ascending.specs.Members.{all_in, all_from, in_append}
use Rattle.b_values.specs.Values.{elements, value_cmp, IsValue, IsKept}
use Rattle.b_values.specs.ValueLaws.{elements-Set, elements_ascend, elements_are_values}
use Rattle.b_values.specs.declared.values.FaultKind.TheVariants.{IllDefined, Overflow, TooLarge}
use Rattle.b_values.specs.declared.values.Value.{Value}
use Rattle.b_values.specs.declared.values.Value.TheVariants.{Set}
use Rattle.set_making.specs.Making.{set_with, Answers, FaultOf}
use Rattle.set_making.specs.MakingLaws.{set_with_too_large, answers_same, answers_law, answers_kept}
use Rattle.set_making.specs.declared.OpFault.{OpFault}
use Rattle.set_making.specs.declared.OpFault.TheVariants.{Fault, Memory}
use Rattle.b_funsets.specs.Families.{couples, sublists}
use Rattle.b_funsets.specs.Arrows.{is_function, is_total, is_one_to_one, IsTotalInjection}
use Rattle.b_funsets.specs.Arrangements.{places, injections, injections_below, IsArrangement}
use Rattle.b_funsets.specs.Levels.{read, level, is_such, Gives, GrowsLarge}
use Rattle.b_funsets.proofs.SublistLaws.{in_map, map_from}
use Rattle.b_funsets.proofs.SubsetSizes.{map_append_sets}
use Rattle.b_funsets.proofs.FamilyLaws.{subsets_are_values}
use Rattle.b_funsets.proofs.CoupleLaws.{couples_ascend, couples_are_values}
use Rattle.b_funsets.proofs.ArrowTests.{filter_same, in_filter}
use Rattle.b_funsets.proofs.ArrowRows.{rows_such, turned_same, large_refused, found_words}
use Rattle.b_funsets.proofs.ArrowWords.{arrow, two_asked, injection_words}
use Rattle.b_funsets.proofs.Placing.{places_ascend, places_are_values, places_kept}

-- the test of the arrow is that of the injections
same_filter : (s t : List Value) → filter (is_such (arrow true true false) s t) (sublists (couples s t)) ≡ injections s t
same_filter s t = filter_same (is_such (arrow true true false) s t) (λ r. is_function r && is_total s r && is_one_to_one r) (sublists (couples s t)) (λ z m. two_asked (is_function z) (is_total s z) (is_one_to_one z))

module _ (t : List Value) (rising : IsAscending value_cmp t) where
  rows_injections : (n : ℕ) (z : Value) → In z (map (λ row. Set (read row)) (level (arrow true true false) t 0 (places n))) ↔ In z (map Set (injections (places n) t))
  rows_injections n z = subst (λ (rs : List (List Value)). In z (map (λ row. Set (read row)) (level (arrow true true false) t 0 (places n))) ↔ In z (map Set rs)) (same_filter (places n) t)
      (rows_such (arrow true true false) (places n) t (places_ascend n) rising z)

  in_below : (n : ℕ) (z : Value) → In z (map Set (injections_below (suc n) t)) ↔ (In z (map Set (injections_below n t)) ⊎ In z (map Set (injections (places n) t)))
  in_below n z = subst (λ (zs : List Value). In z zs ↔ (In z (map Set (injections_below n t)) ⊎ In z (map Set (injections (places n) t)))) (sym (map_append_sets (injections_below n t) (injections (places n) t)))
      (in_append z (map Set (injections_below n t)) (map Set (injections (places n) t)))

  -- the sets of one length more
  pub gathers : (n m : ℕ) (old new : List Value) → m ≡ n + 1 → ((z : Value) → In z old ↔ In z (map Set (injections_below n t)))
      → new ≡ old ++ map (λ row. Set (read row)) (reverse (level (arrow true true false) t 0 (places n))) → (z : Value) → In z new ↔ In z (map Set (injections_below m t))
  gathers n m old new j was is z =
      let rows = level (arrow true true false) t 0 (places n) in
      let turned = turned_same (arrow true true false) (places n) t (places_ascend n) rising rows z in
      let found = rows_injections n z in
      let both = in_append z old (map (λ row. Set (read row)) (reverse rows)) in
      let more = in_below n z in
      let count : suc n ≡ m = omega arith in (
        λ h. subst (λ k. In z (map Set (injections_below k t))) count (more.1 (elim (both.0 (subst (λ (zs : List Value). In z zs) is h)) [ inl k ↦ inl ((was z).0 k) | inr k ↦ inr (found.0 (turned.0 k)) ])),
        λ h. subst (λ (zs : List Value). In z zs) (sym is) (both.1 (elim (more.0 (subst (λ k. In z (map Set (injections_below k t))) (sym count) h)) [ inl k ↦ inl ((was z).1 k) | inr k ↦ inr (turned.1 (found.1 k)) ])),
      )

  below_has : (m n : ℕ) (z : Value) → n < m → In z (map Set (injections (places n) t)) → In z (map Set (injections_below m t))
  below_has zero n z l h = absurd (omega arith)
  below_has (suc m) n z l h = (in_below m z).1 (elim (eq-or-lt_of_le {n = n} {m = m} (omega arith)) [
    | inl e ↦ inr (subst (λ k. In z (map Set (injections (places k) t))) e h)
    | inr k ↦ inl (below_has m n z k h)
  ])

  -- where those of one length are too large, all are
  pub refuses : (e : OpFault) (n m : ℕ) → n < m → Gives [] (GrowsLarge (arrow true true false) t (places n)) (Err e) → FaultOf (set_with (map Set (injections_below m t))) e
  refuses (Fault IllDefined) n m l h = absurd h
  refuses (Fault Overflow) n m l h = absurd h
  refuses (Fault TooLarge) n m l h = set_with_too_large (map (λ row. Set (read row)) (level (arrow true true false) t 0 (places n))) (map Set (injections_below m t))
      (λ z k. below_has m n z l ((rows_injections n z).0 k)) (large_refused (arrow true true false) (places n) t (places_ascend n) rising h)
  refuses Memory n m l h = tt

  -- which length a member is of
  pub record IsOfLength (m : ℕ) (z : Value) : Type 0 where
    pub size : ℕ
    pub within : size < m
    pub member : In z (map Set (injections (places size) t))

  pub of_length : (m : ℕ) (z : Value) → In z (map Set (injections_below m t)) → IsOfLength m z
  of_length zero z h = absurd h
  of_length (suc m) z h = elim ((in_below m z).0 h) [
    | inl k ↦ (let c = of_length m z k in record { size = c.size; within = (let w = c.within in omega arith); member = c.member })
    | inr k ↦ record { size = m; within = omega arith; member = k }
  ]

  pub in_length : (m : ℕ) (z : Value) → IsOfLength m z → In z (map Set (injections_below m t))
  in_length m z h = below_has m h.size z h.within h.member

module _ (s : Value) (k : IsKept s) where
  up : IsAscending value_cmp (elements s)
  up = elements_ascend s k.value

  -- the injections from places in words
  words : (n : ℕ) (z : Value) → n ≤ length (elements s) → In z (map Set (injections (places n) (elements s))) ↔ IsTotalInjection (Set (places n)) s z
  words n z l =
      let w = found_words (arrow true true false) (Set (places n)) s (places_kept s n k l) k z in
      let v = injection_words (Set (places n)) s z in
      let same : filter (is_such (arrow true true false) (elements (Set (places n))) (elements s)) (sublists (couples (elements (Set (places n))) (elements s))) ≡ injections (places n) (elements s) =
      ap (λ (ps : List Value). filter (is_such (arrow true true false) ps (elements s)) (sublists (couples ps (elements s)))) (elements-Set (places n)) ∙ same_filter (places n) (elements s) in (
        λ h. v.0 (w.0 (subst (λ (rs : List (List Value)). In z (map Set rs)) (sym same) h)),
        λ h. subst (λ (rs : List (List Value)). In z (map Set rs)) same (w.1 (v.1 h)),
      )

  arrangement_members : (z : Value) → In z (map Set (injections_below (suc (length (elements s))) (elements s))) ↔ IsArrangement s z
  arrangement_members z = (
    λ h. (let c = of_length (elements s) up (suc (length (elements s))) z h in
        let l : c.size ≤ length (elements s) = (let w = c.within in omega arith) in
        record { size = c.size; within = l; injection = (words c.size z l).0 c.member }),
    λ h. in_length (elements s) up (suc (length (elements s))) z (record { size = h.size; within = (let w = h.within in omega arith); member = (words h.size z h.within).1 h.injection }),
  )

  are_values : AllByRecursion IsValue (map Set (injections_below (suc (length (elements s))) (elements s)))
  are_values = all_from IsValue (map Set (injections_below (suc (length (elements s))) (elements s))) (λ z h.
      let c = of_length (elements s) up (suc (length (elements s))) z h in
      let d = map_from Set z (injections (places c.size) (elements s)) c.member in
      let f = (in_filter (λ r. is_function r && is_total (places c.size) r && is_one_to_one r) d.source (sublists (couples (places c.size) (elements s)))).0 d.member in
      all_in IsValue (map Set (sublists (couples (places c.size) (elements s))))
      (subsets_are_values (couples (places c.size) (elements s)) (couples_ascend (places c.size) (elements s) (places_ascend c.size) up)
      (couples_are_values (places c.size) (elements s) (places_are_values c.size) (elements_are_values s k.value)))
      z (subst (λ w. In w (map Set (sublists (couples (places c.size) (elements s))))) (sym d.is) (in_map Set d.source (sublists (couples (places c.size) (elements s))) f.0)))

  module _ (t sets : List Value) (is : t ≡ elements s) (r : Result Value OpFault)
      (found : (z : Value) → In z sets ↔ In z (map Set (injections_below (suc (length t)) t))) (h : Answers (set_with sets) r) where
    pub arranged : Answers (set_with (map Set (injections_below (suc (length (elements s))) (elements s)))) r
    arranged = subst (λ (us : List Value). Answers (set_with (map Set (injections_below (suc (length us)) us))) r) is (answers_same sets (map Set (injections_below (suc (length t)) t)) r found h)

    pub arranged_kept : IfOk r (λ v. IsKept v)
    arranged_kept = answers_kept (map Set (injections_below (suc (length (elements s))) (elements s))) r are_values arranged

    pub arranged_members : IfOk r (λ v. (x : Value) → In x (elements v) ↔ IsArrangement s x)
    arranged_members = answers_law (IsArrangement s) (map Set (injections_below (suc (length (elements s))) (elements s))) r arrangement_members arranged

  pub refused_answer : (t : List Value) (e : OpFault) → t ≡ elements s → FaultOf (set_with (map Set (injections_below (suc (length t)) t))) e → Answers (set_with (map Set (injections_below (suc (length (elements s))) (elements s)))) (Err e)
  refused_answer t (Fault f) is h = subst (λ (us : List Value). set_with (map Set (injections_below (suc (length us)) us)) ≡ Err f) is h
  refused_answer t Memory is h = tt
