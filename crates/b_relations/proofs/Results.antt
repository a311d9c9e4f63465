-- What a call's answer says, from the row that it answers.
use Rattle.std.proofs.Common.{◌≡◌, ◌↔◌, Bool, List, map, Result, Ok, Err, refl, sym, ◌∙◌, subst}
use Rattle.std.specs.Prelude.{IfOk}
use Rattle.std.specs.List.{filter}
use Rattle.ascending.specs.Ascending.{In, IsAscending, set_of}
use Rattle.ascending.specs.AscendingLaws.{set_of_ascends}
use Rattle.b_values.specs.OrderLaws.{value_total, value_same}
use Rattle.b_values.specs.Values.{elements, value_cmp}
use Rattle.b_values.specs.declared.values.Value.{Value}
use Rattle.b_values.specs.declared.values.Value.TheVariants.{Pair}
use Rattle.set_making.specs.declared.OpFault.{OpFault}
use Rattle.set_making.specs.ListMembers.{filter_ascends}
use Rattle.set_making.specs.Making.{set_with, Answers}
use Rattle.set_making.specs.MakingLaws.{set_with_members}
use Rattle.b_relations.specs.Parts.{keeps, passes}
use Rattle.b_relations.specs.declared.walking.Side.{Side}
use Rattle.b_relations.specs.Relations.{Relates, couple, couples_in}
use Rattle.b_relations.proofs.Searching.{chosen_parts}

-- what holds of each value with the listed members holds of the answer
pub answers_fact : (Q : Value → Type 0) (xs : List Value) (r : Result Value OpFault) → ((v : Value) → ((z : Value) → In z (elements v) ↔ In z xs) → Q v) → Answers (set_with xs) r → IfOk r Q
answers_fact Q xs (Ok v) f a = f v (set_with_members xs v a)
answers_fact Q xs (Err e) f a = tt

-- which values the answer relates
pub answers_relation : (Q : Value → Value → Type 0) (xs : List Value) (r : Result Value OpFault) → ((x y : Value) → In (Pair x y) xs ↔ Q x y) → Answers (set_with xs) r → IfOk r (λ v. (x y : Value) → Relates v x y ↔ Q x y)
answers_relation Q xs r f a = answers_fact (λ v. (x y : Value) → Relates v x y ↔ Q x y) xs r (λ v m x y. (
  λ h. (f x y).0 ((m (Pair x y)).0 h),
  λ h. (m (Pair x y)).1 ((f x y).1 h),
)) a

-- the answer for the members that pass a test, as parts
pub chosen_answer : (t : Value × Value → Bool) (xs ys : List Value) (r : Result Value OpFault) → ys ≡ filter (passes t) xs → Answers (set_with ys) r → Answers (set_with (map couple (filter t (couples_in xs)))) r
chosen_answer t xs ys r e a = subst (λ l. Answers (set_with l) r) (e ∙ chosen_parts t xs) a

-- a filter of an ascending list ascends
pub filtered_ascends : (t : Value → Bool) (xs ys : List Value) → IsAscending value_cmp xs → ys ≡ filter t xs → IsAscending value_cmp ys
filtered_ascends t xs ys a e = subst (IsAscending value_cmp) (sym e) (filter_ascends value_cmp t xs a)

-- a set's list ascends
pub made_ascends : (xs ys : List Value) → ys ≡ set_of value_cmp xs → IsAscending value_cmp ys
made_ascends xs ys e = subst (IsAscending value_cmp) (sym e) (set_of_ascends value_cmp value_total value_same xs)

-- what a walk kept, at the operands' members
pub kept_of : (side : Side) (within : Bool) (r s members set kept : List Value) → members ≡ r → set ≡ s → kept ≡ filter (passes (keeps side set within)) members → kept ≡ filter (passes (keeps side s within)) r
kept_of side within r s members set kept e f g = g ∙ rw (e, f) refl
