-- Loops that write slots of a frame.
use Rattle.std.proofs.Common.{◌≡◌, ◌<◌, ◌≤◌, ◌+◌, ◌-◌, ◌⊎◌, ℕ, zero, suc, min, nat_le, Bool, true, false, List, [], ◌∷◌, length, map, drop, get_or, drop-cons, add-one, Option, Some, None, arith, refl, sym, ap, ◌∙◌, subst, inl, inr}
use Rattle.std.proofs.lemmas.List.{drop_all, set_past}
use Rattle.b_tree.specs.declared.substitutions.Assignment.{Assignment}
use Rattle.b_values.specs.declared.values.Value.{Value}
use Rattle.b_outcomes.specs.Frames.{Slot, put, written, joined}
use Rattle.b_outcomes.specs.declared.frames.Frame.{Frame}
use Rattle.b_outcomes.proofs.Loops.{rest_at}

-- what is written past the end is written nowhere
pub put_past : (at : ℕ) (s : Slot) (f : Frame) → length f.slots ≤ at → put at s f ≡ f
put_past at s f h = ap (λ (xs : List Slot). record { slots = xs }) (set_past f.slots at s h)

written_none : (first : ℕ) (ts : List ℕ) (f : Frame) → written first ts [] f ≡ f
written_none first [] f = refl
written_none first (t ∷ ts) f = refl

-- where one of the lists is over
pub written_end : (first : ℕ) (ts : List ℕ) (vs : List Value) (f : Frame) (i : ℕ) → (length ts ≤ i) ⊎ (length vs ≤ i) → written first (drop i ts) (drop i vs) f ≡ f
written_end first ts vs f i (inl h) = ap (λ (l : List ℕ). written first l (drop i vs) f) (drop_all i ts h)
written_end first ts vs f i (inr h) = ap (λ (l : List Value). written first (drop i ts) l f) (drop_all i vs h) ∙ written_none first (drop i ts) f

pub number_at : (ts : List ℕ) (i : ℕ) → i < length ts → drop i ts ≡ get_or ts i 0 ∷ drop (i + 1) ts
number_at ts i below = rw (add-one, drop-cons ts i 0) refl

pub joined_more : (first : ℕ) (ts : List ℕ) (x y : Frame) (i : ℕ) → i < length ts
    → joined first (drop i ts) x y ≡ joined first (drop (i + 1) ts) (put (get_or ts i 0 - first) (get_or y.slots (get_or ts i 0 - first) None) x) y
joined_more first ts x y i below = ap (λ (l : List ℕ). joined first l x y) (number_at ts i below)

-- one target more
module _ (first : ℕ) (vs : List Value) (f : Frame) (i : ℕ) (v : Value) (within : i < length vs) (at : v ≡ get_or vs i v) where
  pub written_more : (ts : List ℕ) → i < length ts → written first (drop i ts) (drop i vs) f ≡ written first (drop (i + 1) ts) (drop (i + 1) vs) (put (get_or ts i 0 - first) (Some v) f)
  written_more ts below =
      ap (λ (l : List ℕ). written first l (drop i vs) f) (number_at ts i below)
      ∙ ap (λ (l : List Value). written first (get_or ts i 0 ∷ drop (i + 1) ts) l f) (rest_at vs i v within at)

  pub assigned_more : (parts : List Assignment) (a : Assignment) → i < length parts → a ≡ get_or parts i a
      → written first (map (λ a. a.target) (drop i parts)) (drop i vs) f ≡ written first (map (λ a. a.target) (drop (i + 1) parts)) (drop (i + 1) vs) (put (a.target - first) (Some v) f)
  assigned_more parts a below is =
      ap (λ (l : List Assignment). written first (map (λ a. a.target) l) (drop i vs) f) (rest_at parts i a below is)
      ∙ ap (λ (l : List Value). written first (a.target ∷ map (λ a. a.target) (drop (i + 1) parts)) l f) (rest_at vs i v within at)

pub assigned_end : (first : ℕ) (parts : List Assignment) (vs : List Value) (f : Frame) (i : ℕ) → (length parts ≤ i) ⊎ (length vs ≤ i) → written first (map (λ a. a.target) (drop i parts)) (drop i vs) f ≡ f
assigned_end first parts vs f i (inl h) = ap (λ (l : List Assignment). written first (map (λ a. a.target) l) (drop i vs) f) (drop_all i parts h)
assigned_end first parts vs f i (inr h) = ap (λ (l : List Value). written first (map (λ a. a.target) (drop i parts)) l f) (drop_all i vs h) ∙ written_none first (map (λ a. a.target) (drop i parts)) f

-- the slot at a place, and past the end
pub slot_there : (xs : List Slot) (i : ℕ) (x : Slot) → i < length xs → x ≡ get_or xs i x → get_or xs i None ≡ x
slot_there [] i x h e = absurd (omega arith)
slot_there (y ∷ xs) zero x h e = sym e
slot_there (y ∷ xs) (suc i) x h e = slot_there xs i x (omega arith) e

pub slot_past : (xs : List Slot) (i : ℕ) → length xs ≤ i → get_or xs i None ≡ None
slot_past [] i h = refl
slot_past (y ∷ xs) zero h = absurd (omega arith)
slot_past (y ∷ xs) (suc i) h = slot_past xs i (omega arith)

past_one : (m n i : ℕ) → min m n ≤ i → (m ≤ i) ⊎ (n ≤ i)
past_one m n i h = go (nat_le m i) refl
  where
    go : (b : Bool) → nat_le m i ≡ b → (m ≤ i) ⊎ (n ≤ i)
    go true e = inl (grind arith)
    go false e = inr (let l : i < m = grind arith in omega (arith, l, h))

pub written_ends : (first : ℕ) (ts : List ℕ) (vs : List Value) (f : Frame) (i : ℕ) → min (length ts) (length vs) ≤ i → written first (drop i ts) (drop i vs) f ≡ f
written_ends first ts vs f i h = written_end first ts vs f i (past_one (length ts) (length vs) i h)

pub assigned_ends : (first : ℕ) (parts : List Assignment) (vs : List Value) (f : Frame) (i : ℕ) → min (length parts) (length vs) ≤ i → written first (map (λ a. a.target) (drop i parts)) (drop i vs) f ≡ f
assigned_ends first parts vs f i h = assigned_end first parts vs f i (past_one (length parts) (length vs) i h)
