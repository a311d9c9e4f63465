-- The sequences over the empty set.
use Rattle.std.proofs.Common.{ℕ, zero, suc, ◌+◌, map, sum, ◌≡◌, ◌↔◌, ◌==◌, true, List, [], ◌∷◌, length, refl, sym, ap, ◌∙◌, subst, inl, inr, Result, arith}
use borrow.Author.Tests.{eqb-true}
use Rattle.std.specs.Prelude.{IfOk}
use Rattle.ascending.specs.Ascending.{In}
use Rattle.ascending.specs.AscendingLaws.{ascending_none}
use Rattle.b_values.specs.Reading.{numbered}
use Rattle.b_values.specs.SizeLaws.{count-Set}
use Rattle.b_values.specs.Values.{elements, node_count, value_cmp, IsKept}
use Rattle.b_values.specs.ValueLaws.{is_set}
use Rattle.b_values.specs.declared.values.Value.{Value}
use Rattle.set_making.specs.Making.{set_with, Answers}
use Rattle.set_making.specs.MakingLaws.{answers_law, answers_kept}
use Rattle.set_making.specs.declared.OpFault.{OpFault}
use Rattle.set_making.specs.Sums.{map_member_sum, length_below_sum}
use Rattle.b_funsets.proofs.SubsetSizes.{node_positive}
use Rattle.b_funsets.specs.Families.{sequence_of, IsSequence, IsNonemptySequence}

pub empty_from : {X : Type 0} (xs : List X) → true ≡ (length xs == 0) → xs ≡ []
empty_from [] e = refl
empty_from (x ∷ xs) e = absurd (let f = eqb-true _ _ (sym e) in omega arith)

nothing_in : (xs : List Value) → ((z : Value) → In z xs → ⊥) → xs ≡ []
nothing_in [] f = refl
nothing_in (x ∷ xs) f = absurd (f x (inl refl))

module _ (s : Value) (xs : List Value) (is : xs ≡ elements s) (none : true ≡ (length xs == 0)) where
  e : elements s ≡ []
  e = sym is ∙ empty_from xs none

  only_empty : (z : Value) → In z (sequence_of [] ∷ []) ↔ IsSequence s z
  only_empty z = (
    λ h. elim h [ inl f ↦ record { items = []; is = f; within = λ w m. absurd m } | inr f ↦ absurd f ],
    λ h. inl (h.is ∙ ap sequence_of (nothing_in h.items (λ w m. subst (In w) e (h.within w m)))),
  )

  none_nonempty : (z : Value) → In z [] ↔ IsNonemptySequence s z
  none_nonempty z = (λ h. absurd h, λ h. subst (In h.first) e (h.sequence.within h.first h.is_item))

  pub seq_members : (items : List Value) (r : Result Value OpFault) → items ≡ sequence_of [] ∷ [] → Answers (set_with items) r → IfOk r (λ v. (x : Value) → In x (elements v) ↔ IsSequence s x)
  seq_members items r i h = answers_law (IsSequence s) (sequence_of [] ∷ []) r only_empty (subst (λ (ys : List Value). Answers (set_with ys) r) i h)

  pub seq1_members : (items : List Value) (r : Result Value OpFault) → items ≡ [] → Answers (set_with items) r → IfOk r (λ v. (x : Value) → In x (elements v) ↔ IsNonemptySequence s x)
  seq1_members items r i h = answers_law (IsNonemptySequence s) [] r none_nonempty (subst (λ (ys : List Value). Answers (set_with ys) r) i h)

pub seq_kept : (items : List Value) (r : Result Value OpFault) → items ≡ sequence_of [] ∷ [] → Answers (set_with items) r → IfOk r (λ v. IsKept v)
seq_kept items r i h = answers_kept (sequence_of [] ∷ []) r (is_set [] (ascending_none value_cmp) tt, tt) (subst (λ (ys : List Value). Answers (set_with ys) r) i h)

pub seq1_kept : (items : List Value) (r : Result Value OpFault) → items ≡ [] → Answers (set_with items) r → IfOk r (λ v. IsKept v)
seq1_kept items r i h = answers_kept [] r tt (subst (λ (ys : List Value). Answers (set_with ys) r) i h)

-- ---- why sequences of a member are too many

copies : ℕ → Value → List Value
copies zero x = []
copies (suc n) x = x ∷ copies n x

in_copies : (n : ℕ) (x z : Value) → In z (copies n x) → z ≡ x
unfolding copies
in_copies zero x z h = absurd h
in_copies (suc n) x z (inl e) = e
in_copies (suc n) x z (inr h) = in_copies n x z h

length-copies : (n k : ℕ) (x : Value) → length (numbered k (copies n x)) ≡ n
unfolding copies
length-copies zero k x = refl
length-copies (suc n) k x = let more = length-copies n (k + 1) x in omega arith

-- no list has all sequences of members of a set with a member
pub no_end : (s x : Value) → In x (elements s) → (zs : List Value) → ((z : Value) → IsSequence s z → In z zs) → ⊥
no_end s x h zs all =
    let n = sum (map node_count zs) + 1 in
    let z = sequence_of (copies n x) in
    let there : In z zs = all z (record { items = copies n x; is = refl; within = λ w m. subst (λ v. In v (elements s)) (sym (in_copies n x w m)) h }) in
    omega (arith, map_member_sum node_count z zs there, count-Set (numbered 1 (copies n x)), length_below_sum node_count node_positive (numbered 1 (copies n x)), length-copies n 1 x)
