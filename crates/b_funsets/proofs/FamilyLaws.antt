-- Sets of subsets: their order, their members, and that they are values.
use Rattle.std.proofs.Common.{◌≡◌, ◌↔◌, List, [], ◌∷◌, map, refl, sym, ap, ◌∙◌, subst, inl, inr}
use Rattle.std.specs.Cmp.Lexicographic.{slice_cmp}
use Rattle.std.specs.List.{AllByRecursion}
use Rattle.ascending.specs.Ascending.{In, IsAscending}
use Rattle.ascending.specs.Members.{all_in, all_from}
use Rattle.ascending.specs.AscendingLaws.{AllAbove, ascending_none, ascending_cons, ascending_head, ascending_tail}
use Rattle.b_values.specs.OrderLaws.{value_total, layers_cmp, cmp_out, slices}
use Rattle.b_values.specs.Values.{elements, value_cmp, IsValue}
use Rattle.b_values.specs.ValueLaws.{elements-Set, is_set}
use Rattle.b_values.specs.declared.values.Value.{Value, out-Value}
use Rattle.b_values.specs.declared.values.Value.TheOpen.{Value-F}
use Rattle.b_values.specs.declared.values.Value.TheVariants.{Set, outs-Set}
use Rattle.b_funsets.specs.Families.{nonempty_sublists, sublists, IsSubset, IsNonemptySubset}
use Rattle.b_funsets.proofs.SublistLaws.{in_map, map_from, sublist_within, sublist_ascends, is_sublist, sublists_ascend, first_is_member}

-- sets are compared as lists
pub cmp-Set : (xs ys : List Value) → value_cmp (Set xs) (Set ys) ≡ slice_cmp value_cmp xs ys
cmp-Set xs ys = cmp_out (Set xs) (Set ys) ∙ ap (λ l. layers_cmp l (out-Value (Set ys))) (outs-Set xs) ∙ ap (layers_cmp (Value-F.Set xs)) (outs-Set ys) ∙ slices xs ys

all_sets_above : (q : List Value) (rs : List (List Value)) → AllAbove (slice_cmp value_cmp) q rs → AllAbove value_cmp (Set q) (map Set rs)
all_sets_above q [] h = tt
all_sets_above q (r ∷ rs) h = (cmp-Set q r ∙ h.0, all_sets_above q rs h.1)

-- lists in dictionary order are ascending sets
pub sets_ascend : (rs : List (List Value)) → IsAscending (slice_cmp value_cmp) rs → IsAscending value_cmp (map Set rs)
sets_ascend [] a = ascending_none value_cmp
sets_ascend (r ∷ rs) a = ascending_cons value_cmp (Set r) (map Set rs)
    (all_sets_above r rs (ascending_head (slice_cmp value_cmp) r rs a)) (sets_ascend rs (ascending_tail (slice_cmp value_cmp) r rs a))

pub subsets_ascend : (xs : List Value) → IsAscending value_cmp xs → IsAscending value_cmp (map Set (sublists xs))
subsets_ascend xs a = sets_ascend (sublists xs) (sublists_ascend value_cmp value_total xs a)

pub nonempty_subsets_ascend : (xs : List Value) → IsAscending value_cmp xs → IsAscending value_cmp (map Set (nonempty_sublists xs))
nonempty_subsets_ascend xs a = ascending_tail value_cmp (Set []) (map Set (nonempty_sublists xs)) (subsets_ascend xs a)

-- the sets of sublists of values are values
pub subsets_are_values : (xs : List Value) → IsAscending value_cmp xs → AllByRecursion IsValue xs → AllByRecursion IsValue (map Set (sublists xs))
subsets_are_values xs a k = all_from IsValue (map Set (sublists xs)) (λ z h.
    let c = map_from Set z (sublists xs) h in
    subst IsValue (sym c.is) (is_set c.source (sublist_ascends value_cmp xs c.source a c.member)
    (all_from IsValue c.source (λ w m. all_in IsValue xs k w (sublist_within xs c.source c.member w m)))))

-- ---- the members of a set of subsets

module _ (s : Value) (a : IsAscending value_cmp (elements s)) where
  subset_of_sublist : (r : List Value) → In r (sublists (elements s)) → IsSubset s (Set r)
  subset_of_sublist r h = record {
    is_set = ap Set (sym (elements-Set r));
    ascends = subst (IsAscending value_cmp) (sym (elements-Set r)) (sublist_ascends value_cmp (elements s) r a h);
    within = λ z m. sublist_within (elements s) r h z (subst (In z) (elements-Set r) m);
  }

  sublist_of_subset : (v : Value) → IsSubset s v → In (elements v) (sublists (elements s))
  sublist_of_subset v h = is_sublist value_cmp value_total (elements s) (elements v) a h.ascends h.within

  pub subset_members : (z : Value) → In z (map Set (sublists (elements s))) ↔ IsSubset s z
  subset_members z = (
    λ h. (let c = map_from Set z (sublists (elements s)) h in subst (IsSubset s) (sym c.is) (subset_of_sublist c.source c.member)),
    λ h. subst (λ w. In w (map Set (sublists (elements s)))) (sym h.is_set) (in_map Set (elements z) (sublists (elements s)) (sublist_of_subset z h)),
  )

  pub nonempty_subset_members : (z : Value) → In z (map Set (nonempty_sublists (elements s))) ↔ IsNonemptySubset s z
  nonempty_subset_members z = (
    λ h. (let c = map_from Set z (nonempty_sublists (elements s)) h in
        subst (IsNonemptySubset s) (sym c.is) (has_member c.source c.member)),
    λ h. elim ((subset_members z).1 h.subset) [
      | inl e ↦ absurd (subst (In h.member) (ap elements e ∙ elements-Set []) h.is_member)
      | inr m ↦ m
    ],
  )
    where
      has_member : (r : List Value) → In r (nonempty_sublists (elements s)) → IsNonemptySubset s (Set r)
      has_member r m = first_is_member value_cmp value_total (elements s) r (λ q. In q (nonempty_sublists (elements s)) → IsNonemptySubset s (Set q)) m
          (λ y q k n. record { subset = subset_of_sublist (y ∷ q) (inr n); member = y; is_member = subst (In y) (sym (elements-Set (y ∷ q))) (inl refl) }) m
