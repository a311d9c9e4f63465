-- What substitutions write may be kept.
use Rattle.std.proofs.Common.{◌≡◌, ◌<◌, ◌+◌, ◌-◌, ℕ, zero, suc, Bool, true, false, List, [], ◌∷◌, ◌++◌, length, map, set, get_or, take, drop, Option, Some, None, arith, refl, sym, ap, ◌∙◌, subst}
use Rattle.std.proofs.Math.Seq.{drop-nil}
use Rattle.std.specs.List.{AllByRecursion}
use Rattle.ascending.specs.Members.{all_append, all_front, all_back}
use Rattle.b_places.specs.Scopes.{Slots}
use Rattle.b_values.specs.SizeLaws.{count-Truth}
use Rattle.b_values.specs.ValueLaws.{is_truth}
use Rattle.b_values.specs.Values.{IsKept, elements}
use Rattle.set_making.specs.MakingLaws.{members_kept}
use Rattle.b_values.specs.declared.values.Value.{Value}
use Rattle.b_values.specs.declared.values.Value.TheVariants.{Truth}
use Rattle.b_outcomes.specs.Frames.{Slot, read, reads, put, written, joined, middle, IsKeptFrame}
use Rattle.b_outcomes.specs.declared.frames.Frame.{Frame}

pub kept_filler : IsKept (Truth false)
kept_filler = record { value = is_truth false; size = omega (arith, count-Truth false) }

kept_set : (xs : List Slot) (i : ℕ) (s : Slot) → IsKept (read s) → AllByRecursion IsKept (map read xs) → AllByRecursion IsKept (map read (set xs i s))
kept_set [] i s h k = k
kept_set (x ∷ xs) zero s h k = (h, k.1)
kept_set (x ∷ xs) (suc i) s h k = (k.0, kept_set xs i s h k.1)

pub kept_put : (at : ℕ) (s : Slot) (f : Frame) → IsKept (read s) → IsKeptFrame f → IsKeptFrame (put at s f)
kept_put at s f h k = kept_set f.slots at s h k

pub kept_written : (first : ℕ) (ts : List ℕ) (vs : List Value) (f : Frame) → AllByRecursion IsKept vs → IsKeptFrame f → IsKeptFrame (written first ts vs f)
kept_written first [] vs f h k = k
kept_written first (t ∷ ts) [] f h k = k
kept_written first (t ∷ ts) (v ∷ vs) f h k = kept_written first ts vs (put (t - first) (Some v) f) h.1 (kept_put (t - first) (Some v) f h.0 k)

kept_at : (xs : List Slot) (i : ℕ) → AllByRecursion IsKept (map read xs) → IsKept (read (get_or xs i None))
kept_at [] i k = kept_filler
kept_at (x ∷ xs) zero k = k.0
kept_at (x ∷ xs) (suc i) k = kept_at xs i k.1

pub kept_joined : (first : ℕ) (ts : List ℕ) (x y : Frame) → IsKeptFrame x → IsKeptFrame y → IsKeptFrame (joined first ts x y)
kept_joined first [] x y h k = h
kept_joined first (t ∷ ts) x y h k = kept_joined first ts (put (t - first) (get_or y.slots (t - first) None) x) y (kept_put (t - first) (get_or y.slots (t - first) None) x (kept_at y.slots (t - first) k) h) k

pub all_take : {X : Type 0} (P : X → Type 0) (n : ℕ) (xs : List X) → AllByRecursion P xs → AllByRecursion P (take n xs)
all_take P zero xs k = tt
all_take P (suc n) [] k = tt
all_take P (suc n) (x ∷ xs) k = (k.0, all_take P n xs k.1)

pub all_drop : {X : Type 0} (P : X → Type 0) (n : ℕ) (xs : List X) → AllByRecursion P xs → AllByRecursion P (drop n xs)
all_drop P zero xs k = k
all_drop P (suc n) [] k = tt
all_drop P (suc n) (x ∷ xs) k = all_drop P n xs k.1

pub kept_middle : (first : ℕ) (f : Frame) (env : Slots) → IsKeptFrame f → AllByRecursion IsKept env → AllByRecursion IsKept (middle first f env)
kept_middle first f env h k =
    all_append IsKept (take first env ++ reads f) (drop (first + length f.slots) env)
    (all_append IsKept (take first env) (reads f) (all_take IsKept first env k) h)
    (all_drop IsKept (first + length f.slots) env k)

-- one value more
pub one_more_kept : (found more : List Value) (v : Value) → more ≡ found ++ v ∷ [] → AllByRecursion IsKept found → IsKept v → AllByRecursion IsKept more
one_more_kept found more v e k h = subst (AllByRecursion IsKept) (sym e) (all_append IsKept found (v ∷ []) k (h, tt))

-- the same of what the code made

pub next_put : (at : ℕ) (v : Value) (f next : Frame) → next ≡ put at (Some v) f → IsKept v → IsKeptFrame f → IsKeptFrame next
next_put at v f next e h k = subst IsKeptFrame (sym e) (kept_put at (Some v) f h k)

pub next_written : (first : ℕ) (ts : List ℕ) (vs : List Value) (f next : Frame) → next ≡ written first ts vs f → AllByRecursion IsKept vs → IsKeptFrame f → IsKeptFrame next
next_written first ts vs f next e h k = subst IsKeptFrame (sym e) (kept_written first ts vs f h k)

pub next_joined : (first : ℕ) (ts : List ℕ) (x y next : Frame) → next ≡ joined first ts x y → IsKeptFrame x → IsKeptFrame y → IsKeptFrame next
next_joined first ts x y next e h k = subst IsKeptFrame (sym e) (kept_joined first ts x y h k)

pub kept_members : (v : Value) (xs : List Value) → xs ≡ elements v → IsKept v → AllByRecursion IsKept xs
kept_members v xs e k = subst (AllByRecursion IsKept) (sym e) (members_kept v k)

drop_twice : (m n : ℕ) (xs : List Value) → drop n (drop m xs) ≡ drop (m + n) xs
drop_twice m n [] = ap (drop n) (drop-nil m) ∙ drop-nil n ∙ sym (drop-nil (m + n))
drop_twice zero n (x ∷ xs) = ap (λ (k : ℕ). drop k (x ∷ xs)) (let e : n ≡ zero + n = omega arith in e)
drop_twice (suc m) n (x ∷ xs) = drop_twice m n xs ∙ ap (λ (k : ℕ). drop k (x ∷ xs)) (let e : suc (m + n) ≡ suc m + n = omega arith in e)

-- the slots of a middle state, put together
pub middle_is : (first : ℕ) (f : Frame) (env a b : List Value) (all : List Value) → a ≡ drop first env → b ≡ drop (length f.slots) a → all ≡ (take first env ++ reads f) ++ b → all ≡ middle first f env
middle_is first f env a b all e g h =
    h ∙ ap (λ (l : List Value). (take first env ++ reads f) ++ l) (g ∙ ap (drop (length f.slots)) e ∙ drop_twice first (length f.slots) env)

pub next_middle : (first : ℕ) (f : Frame) (env all : List Value) → all ≡ middle first f env → IsKeptFrame f → AllByRecursion IsKept env → AllByRecursion IsKept all
next_middle first f env all e h k = subst (AllByRecursion IsKept) (sym e) (kept_middle first f env h k)
