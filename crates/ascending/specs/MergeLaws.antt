-- A merge of two ascending lists: what is out, what is left of each, and that the end is the set of both.
use Rattle.std.proofs.Common.{◌≡◌, ◌⊎◌, ◌↔◌, List, [], ◌∷◌, ◌++◌, sym, subst, inl, inr, append_assoc, append-nil}
use Rattle.std.specs.declared.cmp.Ordering.{Ordering}
use Rattle.std.specs.declared.cmp.Ordering.TheVariants.{Less, Equal, Greater}
use Rattle.std.specs.Cmp.{IsTotalOrder}
use Rattle.std.specs.FinSet.{IsAntisymmetric}
use Rattle.ascending.specs.Ascending.{In, IsAscending, set_of}
use Rattle.ascending.specs.Members.{in_append, in_push}
use Rattle.ascending.specs.AscendingLaws.{AllAbove, is_set_of, ascending_front, ascending_back, ascending_across, ascending_join, below_first, below_from_above}

-- what is out so far, and what is left of each list
pub record IsMerging {K : Type 0} (R : K → K → Ordering) (xs ys out left right : List K) : Type 0 where
  pub out_in : (z : K) → In z out → In z xs ⊎ In z ys
  pub left_in : (z : K) → In z left → In z xs
  pub right_in : (z : K) → In z right → In z ys
  pub left_kept : (z : K) → In z xs → In z out ⊎ In z left
  pub right_kept : (z : K) → In z ys → In z out ⊎ In z right
  pub with_left : IsAscending R (out ++ left)
  pub with_right : IsAscending R (out ++ right)

either : {A B : Type 0} → A ⊎ B → B ⊎ A
either (inl a) = inr a
either (inr b) = inl b

-- one moves from a rest to the end of what is out
moved : {K : Type 0} (z x : K) (out left : List K) → In z out ⊎ In z (x ∷ left) → In z (out ++ x ∷ []) ⊎ In z left
moved z x out left (inl h) = inl ((in_push z out x).1 (inl h))
moved z x out left (inr (inl e)) = inl ((in_push z out x).1 (inr e))
moved z x out left (inr (inr h)) = inr h

stays : {K : Type 0} (z x : K) (out left : List K) → In z out ⊎ In z left → In z (out ++ x ∷ []) ⊎ In z left
stays z x out left (inl h) = inl ((in_push z out x).1 (inl h))
stays z x out left (inr h) = inr h

module _ {K : Type 0} (R : K → K → Ordering) (o : IsTotalOrder R) (one : IsAntisymmetric R) where
  pub merging_turned : (xs ys out left right : List K) → IsMerging R xs ys out left right → IsMerging R ys xs out right left
  merging_turned xs ys out left right m = record {
    out_in = λ z h. either (m.out_in z h);
    left_in = m.right_in;
    right_in = m.left_in;
    left_kept = m.right_kept;
    right_kept = m.left_kept;
    with_left = m.with_right;
    with_right = m.with_left;
  }

  pub merging_begins : (xs ys : List K) → IsAscending R xs → IsAscending R ys → IsMerging R xs ys [] xs ys
  merging_begins xs ys a b = record {
    out_in = λ z h. absurd h;
    left_in = λ z h. h;
    right_in = λ z h. h;
    left_kept = λ z h. inr h;
    right_kept = λ z h. inr h;
    with_left = a;
    with_right = b;
  }

  -- the first of the left rest is the next
  pub take_left : (xs ys out : List K) (x y : K) (left right : List K) → R x y ≡ Less → IsMerging R xs ys out (x ∷ left) (y ∷ right) → IsMerging R xs ys (out ++ x ∷ []) left (y ∷ right)
  take_left xs ys out x y left right e m =
      let whole : IsAscending R ((out ++ x ∷ []) ++ left) = subst (IsAscending R) (sym (append_assoc out (x ∷ []) left)) m.with_left in
      let rest : IsAscending R (y ∷ right) = ascending_back R out (y ∷ right) m.with_right in
      record {
        out_in = λ z h. elim ((in_push z out x).0 h) [ inl f ↦ m.out_in z f | inr f ↦ inl (m.left_in z (inl f)) ];
        left_in = λ z h. m.left_in z (inr h);
        right_in = m.right_in;
        left_kept = λ z h. moved z x out left (m.left_kept z h);
        right_kept = λ z h. stays z x out (y ∷ right) (m.right_kept z h);
        with_left = whole;
        with_right = ascending_join R (out ++ x ∷ []) (y ∷ right) (ascending_front R (out ++ x ∷ []) left whole) rest
            (λ z h. elim ((in_push z out x).0 h) [
              | inl f ↦ ascending_across R out (y ∷ right) m.with_right z f
              | inr f ↦ subst (λ v. AllAbove R v (y ∷ right)) (sym f) (below_first R o x y right e rest)
            ]);
      }

  -- the first of the right rest is the next
  pub take_right : (xs ys out : List K) (x y : K) (left right : List K) → R x y ≡ Greater → IsMerging R xs ys out (x ∷ left) (y ∷ right) → IsMerging R xs ys (out ++ y ∷ []) (x ∷ left) right
  take_right xs ys out x y left right e m =
      merging_turned ys xs (out ++ y ∷ []) right (x ∷ left) (take_left ys xs out y x right left (below_from_above R o x y e) (merging_turned xs ys out (x ∷ left) (y ∷ right) m))

  -- the first of both rests is the next
  pub take_both : (xs ys out : List K) (x y : K) (left right : List K) → R x y ≡ Equal → IsMerging R xs ys out (x ∷ left) (y ∷ right) → IsMerging R xs ys (out ++ x ∷ []) left right
  take_both xs ys out x y left right e m =
      let same : x ≡ y = one x y e in
      record {
        out_in = λ z h. elim ((in_push z out x).0 h) [ inl f ↦ m.out_in z f | inr f ↦ inl (m.left_in z (inl f)) ];
        left_in = λ z h. m.left_in z (inr h);
        right_in = λ z h. m.right_in z (inr h);
        left_kept = λ z h. moved z x out left (m.left_kept z h);
        right_kept = λ z h. moved z x out right (subst (λ v. In z out ⊎ In z (v ∷ right)) (sym same) (m.right_kept z h));
        with_left = subst (IsAscending R) (sym (append_assoc out (x ∷ []) left)) m.with_left;
        with_right = subst (IsAscending R) (sym (append_assoc out (x ∷ []) right)) (subst (λ v. IsAscending R (out ++ v ∷ right)) (sym same) m.with_right);
      }

  all_members : (xs ys out left right : List K) → IsMerging R xs ys out left right → (z : K) → In z (out ++ (left ++ right)) ↔ In z (xs ++ ys)
  all_members xs ys out left right m z = (
    λ h. (in_append z xs ys).1 (elim ((in_append z out (left ++ right)).0 h) [ inl e ↦ m.out_in z e | inr e ↦ elim ((in_append z left right).0 e) [ inl f ↦ inl (m.left_in z f) | inr f ↦ inr (m.right_in z f) ] ]),
    λ h. (in_append z out (left ++ right)).1 (elim ((in_append z xs ys).0 h) [
      | inl e ↦ elim (m.left_kept z e) [ inl f ↦ inl f | inr f ↦ inr ((in_append z left right).1 (inl f)) ]
      | inr e ↦ elim (m.right_kept z e) [ inl f ↦ inl f | inr f ↦ inr ((in_append z left right).1 (inr f)) ]
    ]),
  )

  -- where one rest is empty, what is out and the other rest are the set of both lists
  pub merging_ends : (xs ys out left right : List K) → IsMerging R xs ys out left right → (left ≡ []) ⊎ (right ≡ []) → out ++ (left ++ right) ≡ set_of R (xs ++ ys)
  merging_ends xs ys out left right m (inl e) =
      is_set_of R o one (xs ++ ys) (out ++ (left ++ right)) (subst (λ v. IsAscending R (out ++ (v ++ right))) (sym e) m.with_right) (all_members xs ys out left right m)
  merging_ends xs ys out left right m (inr e) =
      is_set_of R o one (xs ++ ys) (out ++ (left ++ right)) (subst (λ v. IsAscending R (out ++ (left ++ v))) (sym e) (subst (λ v. IsAscending R (out ++ v)) (sym (append-nil left)) m.with_left)) (all_members xs ys out left right m)
