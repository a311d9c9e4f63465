-- Beginnings of one history.
use Rattle.std.proofs.Common.{◌≡◌, ◌<◌, ◌≤◌, Bool, true, false, List, [], ◌∷◌, ◌++◌, length, refl, sym, ap, ◌∙◌, arith, cond, nat_lt, append_assoc, append-nil, ltb-true, ltb-false}
use Rattle.turn_lock.specs.Histories.{Begins, longer_of}

pub begins_more : {A : Type 0} (xs ys zs : List A) → Begins xs ys → Begins xs (ys ++ zs)
begins_more xs ys zs b = (b.0 ++ zs, ap (λ l. l ++ zs) b.1 ∙ append_assoc xs b.0 zs)

-- of two beginnings of one list the shorter begins the longer_of
pub shorter_begins : {A : Type 0} (xs ys s : List A) → Begins xs s → Begins ys s → length xs ≤ length ys → Begins xs ys
shorter_begins [] ys s a b le = (ys, refl)
shorter_begins (x ∷ xs) [] s a b le = absurd (omega arith)
shorter_begins (x ∷ xs) (y ∷ ys) s a b le =
    let e : x ∷ (xs ++ a.0) ≡ y ∷ (ys ++ b.0) = sym a.1 ∙ b.1 in
    let same : x ≡ y = cc in
    let rest : xs ++ a.0 ≡ ys ++ b.0 = cc in
    let t = shorter_begins xs ys (xs ++ a.0) (a.0, refl) (b.0, rest) (omega arith) in
    (t.0, λ i. sym same i ∷ t.1 i)

pub longer_has : {A : Type 0} (xs ys s : List A) → Begins xs s → Begins ys s → Begins xs (longer_of xs ys) × Begins ys (longer_of xs ys)
longer_has {A} xs ys s a b = go (nat_lt (length xs) (length ys)) refl
  where
    go : (t : Bool) → nat_lt (length xs) (length ys) ≡ t → Begins xs (cond t ys xs) × Begins ys (cond t ys xs)
    go true e = let lt : length xs < length ys = ltb-true _ _ e in (shorter_begins xs ys s a b (omega arith), ([], sym (append-nil ys)))
    go false e = let ge : length ys ≤ length xs = ltb-false _ _ e in (([], sym (append-nil xs)), shorter_begins ys xs s b a ge)

pub quiet_begins : {A : Type 0} (l s : List A) → l ≡ [] → Begins l s
quiet_begins l s e = (s, ap (λ x. x ++ s) (sym e))

pub longer_begins : {A : Type 0} (xs ys s : List A) → Begins xs s → Begins ys s → Begins (longer_of xs ys) s
longer_begins xs ys s a b = elim (nat_lt (length xs) (length ys)) as (λ t. Begins (cond t ys xs) s) [ true ↦ b | false ↦ a ]
