use Rattle.std.proofs.Common.{◌≡◌, ◌+◌, ◌<◌, ℕ, List, [], ◌∷◌, ◌++◌, take, drop, length, get_or, sym, ap, ◌∙◌, subst}
use Rattle.std.proofs.lemmas.List.{take_more, take-append-drop}
use Rattle.ascending.specs.Ascending.{IsAscending}
use Rattle.ascending.specs.AscendingLaws.{ascending_front}
use Rattle.b_values.specs.Values.{value_cmp}
use Rattle.b_values.specs.declared.values.Value.{Value}
use Rattle.std.proofs.Common.{inl, inr}
use Rattle.ascending.specs.Ascending.{In}
use Rattle.ascending.specs.Members.{in_append}
use Rattle.set_making.specs.declared.OpFault.{OpFault}
use Rattle.set_making.specs.Making.{Answers, FaultOf, set_with}
use Rattle.set_making.specs.MakingLaws.{answers_fault, fault_of_more}
use Rattle.std.proofs.Common.{Err}
use Rattle.operator_rows.proofs.making.grown.Goals as goal

prefix_is : (xs found : List Value) (i : ℕ) (x m : Value) → i < length xs → x ≡ get_or xs i x → m ≡ x → found ≡ take i xs → (found ++ m ∷ []) ++ drop (i + 1) xs ≡ xs
prefix_is xs found i x m h e f g =
    let same : take (i + 1) xs ≡ found ++ m ∷ [] = take_more xs i x h ∙ ap (λ y. take i xs ++ y ∷ []) (sym e ∙ sym f) ∙ ap (λ ys. ys ++ m ∷ []) (sym g) in
    ap (λ ys. ys ++ drop (i + 1) xs) (sym same) ∙ take-append-drop (i + 1) xs

prefix_fault : (xs found : List Value) (i : ℕ) (x m : Value) (e : OpFault) → i < length xs → x ≡ get_or xs i x → m ≡ x → found ≡ take i xs → FaultOf (set_with (found ++ m ∷ [])) e → Answers (set_with xs) (Err e)
prefix_fault xs found i x m e h f g k a = answers_fault _ e (fault_of_more (found ++ m ∷ []) xs e
    (λ z l. subst (In z) (prefix_is xs found i x m h f g k) ((in_append z (found ++ m ∷ []) (drop (i + 1) xs)).1 (inl l))) a)

prefix_ascends : (xs found : List Value) (i : ℕ) (x m : Value) → IsAscending value_cmp xs → i < length xs → x ≡ get_or xs i x → m ≡ x → found ≡ take i xs → IsAscending value_cmp (found ++ m ∷ [])
prefix_ascends xs found i x m a h e f g =
    ascending_front value_cmp (found ++ m ∷ []) (drop (i + 1) xs) (subst (IsAscending value_cmp) (sym (prefix_is xs found i x m h e f g)) a)

pub add-requires : goal.add-requires
add-requires c = prefix_ascends _ _ _ _ _ c.requires c.loop-member-test.true c.member-item.is c.in-Ok.ensures c.loop-member.invariant

pub returns-in-Err-add : goal.returns-in-Err-add
returns-in-Err-add c = prefix_fault c.args.members.now _ _ _ _ c.in-Err-add.fault c.loop-member-test.true c.member-item.is c.in-Ok.ensures c.loop-member.invariant c.in-Err-add.ensures.fault
