-- The laws of outcomes.
use Rattle.std.proofs.Common.{◌≡◌, ◌↔◌, ◌⊎◌, ℕ, Bool, true, false, nat_lt, List, [], ◌∷◌, ◌++◌, length, Option, Some, None, Result, Ok, Err, refl, sym, ap, ◌∙◌, subst, inl, inr}
use Rattle.std.specs.Prelude.{if◌then◌else◌}
use Rattle.ascending.specs.Ascending.{In, IsAscending}
use Rattle.ascending.specs.AscendingLaws.{set_of_ascends, in_set_of}
use Rattle.ascending.specs.Members.{in_append}
use Rattle.b_places.specs.Scopes.{Slots}
use Rattle.b_rows.specs.Answers.{Answer, bind, fault}
use Rattle.b_tree.specs.declared.Place.{Place}
use Rattle.b_tree.specs.declared.substitutions.SubstTree.{SubstTree}
use Rattle.b_values.specs.declared.values.EvalFault.{EvalFault}
use Rattle.b_values.specs.declared.values.FaultKind.TheVariants.{TooLarge}
use Rattle.b_outcomes.specs.FrameLaws.{frame_total, frame_same}
use Rattle.b_outcomes.specs.Frames.{frame_cmp, in_order}
use Rattle.b_outcomes.specs.Outcomes.{effect_of, outcome_limit, outcomes, union_of, within}
use Rattle.b_outcomes.specs.declared.frames.Frame.{Frame}

-- the value of an answer, and its fault
abbrev pub got : {A : Type 0} → A → Answer A → A
got d (Ok a) = a
got d (Err f) = d

abbrev pub failed : {A : Type 0} → EvalFault → Answer A → EvalFault
failed d (Ok a) = d
failed d (Err f) = f

abbrev pub these : Option (List Frame) → List Frame
these None = []
these (Some fs) = fs

-- one way or the other
choice_is : (b : Bool) (p : Place) (gs fs : List Frame) → (if b then fault TooLarge p else Ok gs) ≡ Ok fs → fs ≡ gs
choice_is true p gs fs e = absurd (cc)
choice_is false p gs fs e = sym (ap (got gs) e)

-- outcomes are the frames in order: they ascend, and each is there once
pub outcomes_ascend : (limit first : ℕ) (s : SubstTree) (p : Place) (f : Frame) (env : Slots) (fs : List Frame) → outcomes limit first s p f env ≡ Ok fs → IsAscending frame_cmp fs
outcomes_ascend limit first s p f env fs e = go (effect_of limit first s f env) e
  where
    go : (a : Answer (List Frame)) → bind a (within outcome_limit p) ≡ Ok fs → IsAscending frame_cmp fs
    go (Err f) e = absurd (cc)
    go (Ok gs) e = subst (IsAscending frame_cmp) (sym (choice_is (nat_lt outcome_limit (length (in_order gs))) p (in_order gs) fs e)) (set_of_ascends frame_cmp frame_total frame_same gs)

-- a union has the frames of its parts
pub in_union : (z : Frame) (a : Answer (List Frame)) (rest : List (Answer (List Frame))) (xs ys : List Frame) → a ≡ Ok xs → union_of rest ≡ Ok ys → In z (got [] (union_of (a ∷ rest))) ↔ (In z xs ⊎ In z ys)
in_union z a rest xs ys e g =
    let whole : union_of (a ∷ rest) ≡ Ok (xs ++ ys) =
    ap (λ (m : Answer (List Frame)). bind m (λ us. bind (union_of rest) (λ vs. Ok (us ++ vs)))) e
    ∙ ap (λ (m : Answer (List Frame)). bind m (λ vs. Ok (xs ++ vs))) g in
    subst (λ (m : Answer (List Frame)). In z (got [] m) ↔ (In z xs ⊎ In z ys)) (sym whole) (in_append z xs ys)
