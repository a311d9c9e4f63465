-- Where a walk stands: the last range's values come first, and a last value without a range after it says nothing.
use Rattle.std.proofs.Common.{◌≡◌, ◌<◌, ◌≤◌, ◌+◌, ◌-◌, ℕ, zero, suc, List, [], ◌∷◌, ◌++◌, length, map, drop, arith, refl, sym, ap, ◌∙◌, subst, append_assoc, append-nil, add-zero, zero-add, add_assoc, one-add, sum, length-append, Ok, Err}
use Rattle.b_values.specs.declared.values.Value.{Value}
use Rattle.set_making.specs.Sums.{map_cons_sum}
use Rattle.b_rows.specs.Answers.{Answer}
use Rattle.b_places.specs.Scopes.{Slots}
use Rattle.b_places.specs.Places.{RangeOf, Candidate, places, spread}
use Rattle.b_places.specs.Walks.{level, rest, node_work, range_work, left_work, rest_work}

-- the last range's values come first
pub top : (rs : List RangeOf) (env t vs : List Value) (ls : List (List Value)) (l : List Value) → length vs ≡ length ls → length vs < length rs
    → rest rs env t vs (ls ++ l ∷ []) ≡ level (drop (suc (length vs)) rs) env (t ++ vs) l ++ rest rs env t vs ls
top [] env t vs ls l e h = absurd (omega arith)
top (r ∷ rs) env t [] [] l e h = ap (λ (u : List Value). level rs env u l) (sym (append-nil t)) ∙ sym (append-nil (level rs env (t ++ []) l))
top (r ∷ rs) env t [] (k ∷ ls) l e h = absurd (omega arith)
top (r ∷ rs) env t (v ∷ vs) [] l e h = absurd (omega arith)
top (r ∷ rs) env t (v ∷ vs) (k ∷ ls) l e h =
    ap (λ (ps : List Candidate). ps ++ level rs env t k) (top rs env (t ++ v ∷ []) vs ls l (omega arith) (omega arith))
    ∙ append_assoc (level (drop (suc (length vs)) rs) env ((t ++ v ∷ []) ++ vs) l) (rest rs env (t ++ v ∷ []) vs ls) (level rs env t k)
    ∙ ap (λ (u : List Value). level (drop (suc (length vs)) rs) env u l ++ (rest rs env (t ++ v ∷ []) vs ls ++ level rs env t k)) (append_assoc t (v ∷ []) vs)

none_left : (rs : List RangeOf) (env t : List Value) → rest rs env t [] [] ≡ []
none_left [] env t = refl
none_left (r ∷ rs) env t = refl

-- a last value without a range after it says nothing
pub back : (rs : List RangeOf) (env t vs : List Value) (v : Value) (ls : List (List Value)) → length ls ≡ length vs + 1 → rest rs env t (vs ++ v ∷ []) ls ≡ rest rs env t vs ls
back [] env t vs v ls e = refl
back (r ∷ rs) env t vs v [] e = absurd (omega arith)
back (r ∷ rs) env t [] v (l ∷ []) e = ap (λ (ps : List Candidate). ps ++ level rs env t l) (none_left rs env (t ++ v ∷ []))
back (r ∷ rs) env t [] v (l ∷ k ∷ ls) e = absurd (omega arith)
back (r ∷ rs) env t (u ∷ vs) v (l ∷ ls) e = ap (λ (ps : List Candidate). ps ++ level rs env t l) (back rs env (t ++ u ∷ []) vs v ls (omega arith))

-- ---- the same of the work that is left

pub top_work : (rs : List RangeOf) (env t vs : List Value) (ls : List (List Value)) (l : List Value) → length vs ≡ length ls → length vs < length rs
    → rest_work rs env t vs (ls ++ l ∷ []) ≡ left_work (drop (suc (length vs)) rs) env (t ++ vs) l + rest_work rs env t vs ls
top_work [] env t vs ls l e h = absurd (omega arith)
top_work (r ∷ rs) env t [] [] l e h = ap (λ (u : List Value). left_work rs env u l) (sym (append-nil t)) ∙ sym (add-zero (left_work rs env (t ++ []) l))
top_work (r ∷ rs) env t [] (k ∷ ls) l e h = absurd (omega arith)
top_work (r ∷ rs) env t (v ∷ vs) [] l e h = absurd (omega arith)
top_work (r ∷ rs) env t (v ∷ vs) (k ∷ ls) l e h =
    ap (λ (n : ℕ). n + left_work rs env t k) (top_work rs env (t ++ v ∷ []) vs ls l (omega arith) (omega arith))
    ∙ add_assoc (left_work (drop (suc (length vs)) rs) env ((t ++ v ∷ []) ++ vs) l) (rest_work rs env (t ++ v ∷ []) vs ls) (left_work rs env t k)
    ∙ ap (λ (u : List Value). left_work (drop (suc (length vs)) rs) env u l + (rest_work rs env (t ++ v ∷ []) vs ls + left_work rs env t k)) (append_assoc t (v ∷ []) vs)

no_work_left : (rs : List RangeOf) (env t : List Value) → rest_work rs env t [] [] ≡ 0
no_work_left [] env t = refl
no_work_left (r ∷ rs) env t = refl

pub back_work : (rs : List RangeOf) (env t vs : List Value) (v : Value) (ls : List (List Value)) → length ls ≡ length vs + 1 → rest_work rs env t (vs ++ v ∷ []) ls ≡ rest_work rs env t vs ls
back_work [] env t vs v ls e = refl
back_work (r ∷ rs) env t vs v [] e = absurd (omega arith)
back_work (r ∷ rs) env t [] v (l ∷ []) e = ap (λ (n : ℕ). n + left_work rs env t l) (no_work_left rs env (t ++ v ∷ [])) ∙ zero-add (left_work rs env t l)
back_work (r ∷ rs) env t [] v (l ∷ k ∷ ls) e = absurd (omega arith)
back_work (r ∷ rs) env t (u ∷ vs) v (l ∷ ls) e = ap (λ (n : ℕ). n + left_work rs env t l) (back_work rs env (t ++ u ∷ []) vs v ls (omega arith))

-- ---- the steps

pub nothing : (rs : List RangeOf) (env t vs : List Value) → rest rs env t vs [] ≡ []
nothing [] env t vs = refl
nothing (r ∷ rs) env t vs = refl

module _ (rs : List RangeOf) (env vs : List Value) (k : List (List Value)) (even : length vs ≡ length k) (within : length vs < length rs) where
  -- an empty last range goes
  pub gone : rest rs env [] vs (k ++ [] ∷ []) ≡ rest rs env [] vs k
  gone = top rs env [] vs k [] even within

  pub gone_work : rest_work rs env [] vs (k ++ [] ∷ []) ≡ suc (rest_work rs env [] vs k)
  gone_work = top_work rs env [] vs k [] even within ∙ one-add (rest_work rs env [] vs k)

  -- the first value of the last range is looked at
  pub forth : (w : Value) (l : List Value) → rest rs env [] vs (k ++ (w ∷ l) ∷ []) ≡ places (drop (suc (length vs)) rs) env (vs ++ w ∷ []) ++ rest rs env [] (vs ++ w ∷ []) (k ++ l ∷ [])
  forth w l =
      top rs env [] vs k (w ∷ l) even within
      ∙ append_assoc (places (drop (suc (length vs)) rs) env (vs ++ w ∷ [])) (level (drop (suc (length vs)) rs) env vs l) (rest rs env [] vs k)
      ∙ ap (λ (ps : List Candidate). places (drop (suc (length vs)) rs) env (vs ++ w ∷ []) ++ ps)
      (sym (top rs env [] vs k l even within) ∙ sym (back rs env [] vs w (k ++ l ∷ []) (rw length-append (omega arith))))

  pub forth_work : (w : Value) (l : List Value) → rest_work rs env [] vs (k ++ (w ∷ l) ∷ []) ≡ suc (node_work (drop (suc (length vs)) rs) env (vs ++ w ∷ []) + rest_work rs env [] (vs ++ w ∷ []) (k ++ l ∷ []))
  forth_work w l =
      let a = top_work rs env [] vs k (w ∷ l) even within in
      let d = map_cons_sum (λ (v : Value). 1 + node_work (drop (suc (length vs)) rs) env (vs ++ v ∷ [])) w l in
      let b = top_work rs env [] vs k l even within in
      let c = back_work rs env [] vs w (k ++ l ∷ []) (rw length-append (omega arith)) in
      omega (arith, a, b, c, d)

  -- the range of the next variable comes first
  pub entered : (r : RangeOf) (l : List Value) → drop (length vs) rs ≡ r ∷ drop (suc (length vs)) rs → r (env ++ vs) ≡ Ok l → rest rs env [] vs (k ++ l ∷ []) ≡ places (drop (length vs) rs) env vs ++ rest rs env [] vs k
  entered r l e f =
      top rs env [] vs k l even within
      ∙ ap (λ (ps : List Candidate). ps ++ rest rs env [] vs k)
      (sym (ap (λ (qs : List RangeOf). places qs env vs) e ∙ ap (λ (a : Answer (List Value)). spread a (λ v. places (drop (suc (length vs)) rs) env (vs ++ v ∷ []))) f))

  pub entered_work : (r : RangeOf) (l : List Value) → drop (length vs) rs ≡ r ∷ drop (suc (length vs)) rs → r (env ++ vs) ≡ Ok l → rest_work rs env [] vs (k ++ l ∷ []) ≡ node_work (drop (length vs) rs) env vs + rest_work rs env [] vs k
  entered_work r l e f =
      top_work rs env [] vs k l even within
      ∙ ap (λ (n : ℕ). n + rest_work rs env [] vs k)
      (sym (ap (λ (qs : List RangeOf). node_work qs env vs) e ∙ ap (λ (a : Answer (List Value)). range_work a (λ v. node_work (drop (suc (length vs)) rs) env (vs ++ v ∷ []))) f))
