-- Lists opened at a place.
use Rattle.std.proofs.Common.{◌≡◌, ◌∙◌, ◌≤◌, ◌<◌, min, inl, inr, sym, ap, refl, ℕ, zero, suc, ◌+◌, ◌-◌, Bool, true, false, List, [], ◌∷◌, ◌++◌, length, get_or, take, drop, Option, Some, None, slice_get, add-one, arith}
use Rattle.std.proofs.lemmas.Bool.Decides.{leb_tells}
use Rattle.std.proofs.Math.Seq.{drop-cons}
use Rattle.std.proofs.Math.ListN.{drop_of_length-le}
use Rattle.engine_face.specs.declared.answers.Step.{Step}
use Rattle.engine_face.specs.declared.answers.OpList.{OpList}
use Rattle.session_words.specs.declared.replies.Numbered.{Numbered}
use Rattle.session_words.specs.declared.replies.SubValue.{SubValue}
use Rattle.engine_face.specs.declared.answers.ValueAnswer.{ValueAnswer}
use Rattle.formulas.specs.declared.subs.Sub.{Sub}
use Rattle.session_core.specs.declared.stages.Arrival.{Arrival}
use Rattle.session_core.specs.declared.stages.Stage.TheVariants.{Telling}
use Rattle.session_core.specs.declared.stages.Next.TheVariants.{Goes, Ends}
use Rattle.session_core.specs.Moving.{numbered_step, numbered_steps, numbered_lists, packed_steps, opened, telling}

-- the element at a place, and those behind it
pub opened_at : {A : Type 0} (xs : List A) (i : ℕ) (x : A) → i < length xs → x ≡ get_or xs i x → drop i xs ≡ x ∷ drop (i + 1) xs
opened_at xs i x small is = drop-cons xs i x small ∙ ap (λ y. y ∷ drop (suc i) xs) (sym is) ∙ ap (λ n. x ∷ drop n xs) (sym (add-one i))

pub steps_opened : (steps : List (Step (List ℕ))) (numbers : List ℕ) (i : ℕ) (step : Step (List ℕ)) → i < length steps → i < length numbers → step ≡ get_or steps i step
    → numbered_steps (drop i steps) (drop i numbers) ≡ numbered_step step (get_or numbers i 0) ∷ numbered_steps (drop (i + 1) steps) (drop (i + 1) numbers)
steps_opened steps numbers i step a b is =
    ap (λ l. numbered_steps l (drop i numbers)) (opened_at steps i step a is)
    ∙ ap (λ l. numbered_steps (step ∷ drop (i + 1) steps) l) (drop-cons numbers i 0 b ∙ ap (λ n. get_or numbers i 0 ∷ drop n numbers) (sym (add-one i)))

no_numbers : (steps : List (Step (List ℕ))) → numbered_steps steps [] ≡ []
no_numbers [] = refl
no_numbers (step ∷ steps) = refl

pub steps_ended : (steps : List (Step (List ℕ))) (numbers : List ℕ) (i : ℕ) → length steps ≤ i → numbered_steps (drop i steps) (drop i numbers) ≡ []
steps_ended steps numbers i past = ap (λ l. numbered_steps l (drop i numbers)) (drop_of_length-le steps past)

pub numbers_ended : (steps : List (Step (List ℕ))) (numbers : List ℕ) (i : ℕ) → length numbers ≤ i → numbered_steps (drop i steps) (drop i numbers) ≡ []
numbers_ended steps numbers i past = ap (λ l. numbered_steps (drop i steps) l) (drop_of_length-le numbers past) ∙ no_numbers (drop i steps)

-- behind the shorter of both lists nothing is left
pub steps_past : (steps : List (Step (List ℕ))) (numbers : List ℕ) (i : ℕ) → min (length steps) (length numbers) ≤ i → numbered_steps (drop i steps) (drop i numbers) ≡ []
steps_past steps numbers i past = elim (leb_tells (length steps) i) [ inl p ↦ steps_ended steps numbers i p.1 | inr p ↦ numbers_ended steps numbers i (omega (arith, p.1, past)) ]

pub lists_opened : (lists : List (OpList (List ℕ))) (numbers : List ℕ) (i : ℕ) (list : OpList (List ℕ)) → i < length lists → list ≡ get_or lists i list
    → numbered_lists (drop i lists) numbers ≡ record { op = list.op; steps = numbered_steps list.steps (take (length list.steps) numbers); end = list.end } ∷ numbered_lists (drop (i + 1) lists) (drop (length list.steps) numbers)
lists_opened lists numbers i list a is = ap (λ l. numbered_lists l numbers) (opened_at lists i list a is)

pub packed_opened : (lists : List (OpList (List ℕ))) (i : ℕ) (list : OpList (List ℕ)) → i < length lists → list ≡ get_or lists i list → packed_steps (drop i lists) ≡ list.steps ++ packed_steps (drop (i + 1) lists)
packed_opened lists i list a is = ap packed_steps (opened_at lists i list a is)

get_left : {A : Type 0} (xs ys : List A) (i : ℕ) → i < length xs → slice_get (xs ++ ys) i ≡ slice_get xs i
get_left [] ys i a = let no : ⊥ = omega arith in absurd no
get_left (x ∷ xs) ys zero a = refl
get_left (x ∷ xs) ys (suc i) a = get_left xs ys i (omega arith)

get_right : {A : Type 0} (xs ys : List A) (i : ℕ) → length xs ≤ i → slice_get (xs ++ ys) i ≡ slice_get ys (i - length xs)
get_right [] ys i a = let same : i ≡ i - 0 = omega arith in ap (λ n. slice_get ys n) same
get_right (x ∷ xs) ys zero a = let no : ⊥ = omega arith in absurd no
get_right (x ∷ xs) ys (suc i) a = get_right xs ys i (omega arith) ∙ ap (λ n. slice_get ys n) (let same : i - length xs ≡ suc i - suc (length xs) = omega arith in same)

pub step_left : (lists : List (OpList (List ℕ))) (i : ℕ) (list : OpList (List ℕ)) (k : ℕ) → i < length lists → list ≡ get_or lists i list → k < length list.steps
    → slice_get (packed_steps (drop i lists)) k ≡ slice_get list.steps k
step_left lists i list k a is few = ap (λ l. slice_get l k) (packed_opened lists i list a is) ∙ get_left list.steps _ k few

pub step_right : (lists : List (OpList (List ℕ))) (i : ℕ) (list : OpList (List ℕ)) (k : ℕ) → i < length lists → list ≡ get_or lists i list → length list.steps ≤ k
    → slice_get (packed_steps (drop i lists)) k ≡ slice_get (packed_steps (drop (i + 1) lists)) (k - length list.steps)
step_right lists i list k a is many = ap (λ l. slice_get l k) (packed_opened lists i list a is) ∙ get_right list.steps _ k many

-- ---- the first of some subscriptions

pub telling_last : (subs : List Sub) (sub : Sub) (arrival : Arrival) (told : List SubValue) (value : ValueAnswer) → slice_get subs 0 ≡ Some sub → length subs ≡ 1
    → telling subs arrival told value ≡ Some (Ends arrival.change (opened arrival.opening (told ++ record { number = sub.number; answer = value } ∷ [])))
telling_last [] sub arrival told value is one = cc
telling_last (s ∷ []) sub arrival told value is one =
    let same : s ≡ sub = cc in
    ap (λ (x : Sub). Some (Ends arrival.change (opened arrival.opening (told ++ record { number = x.number; answer = value } ∷ [])))) same
telling_last (s ∷ t ∷ subs) sub arrival told value is one = let no : ⊥ = omega arith in absurd no

pub telling_on : (subs : List Sub) (sub : Sub) (arrival : Arrival) (told : List SubValue) (value : ValueAnswer) → slice_get subs 0 ≡ Some sub → 1 < length subs
    → telling subs arrival told value ≡ Some (Goes (Telling arrival (told ++ record { number = sub.number; answer = value } ∷ [])))
telling_on [] sub arrival told value is more = cc
telling_on (s ∷ []) sub arrival told value is more = let no : ⊥ = omega arith in absurd no
telling_on (s ∷ t ∷ subs) sub arrival told value is more =
    let same : s ≡ sub = cc in
    ap (λ (x : Sub). Some (Goes (Telling arrival (told ++ record { number = x.number; answer = value } ∷ [])))) same
