-- What is gathered: doubles may go at any time, and past the limit nothing is told apart.
use Rattle.std.proofs.Common.{◌≡◌, ◌≤◌, ◌<◌, ℕ, suc, Bool, true, false, List, [], ◌∷◌, ◌++◌, length, nat_lt, Option, Some, None, Result, Ok, Err, arith, refl, sym, ap, ◌∙◌, subst, inl, inr}
use Rattle.std.specs.Prelude.{if◌then◌else◌, IfSome}
use Rattle.std.specs.List.{AllByRecursion}
use Rattle.std.specs.declared.cmp.Ordering.{Ordering}
use Rattle.std.specs.declared.cmp.Ordering.TheVariants.{Less, Equal, Greater}
use Rattle.ascending.specs.Ascending.{In, set_of, insert, placed}
use Rattle.ascending.specs.AscendingLaws.{in_set_of, set_of_ascends, set_of_itself, set_of_same}
use Rattle.ascending.specs.Members.{all_in, all_from, all_append, in_push}
use Rattle.b_outcomes.specs.FrameLaws.{frame_total, frame_same}
use Rattle.b_outcomes.specs.Frames.{frame_cmp, IsKeptFrame}
use Rattle.b_outcomes.specs.Gathered.{Gathered, passes, up_to, with_one, add, adds}
use Rattle.b_outcomes.specs.declared.frames.Frame.{Frame}

-- the set of kept frames has kept frames
pub kept_in_order : (fs : List Frame) → AllByRecursion IsKeptFrame fs → AllByRecursion IsKeptFrame (set_of frame_cmp fs)
kept_in_order fs k = all_from IsKeptFrame (set_of frame_cmp fs) (λ z h. all_in IsKeptFrame fs k z ((in_set_of frame_cmp frame_total frame_same z fs).0 h))

pub twice : (fs : List Frame) → set_of frame_cmp (set_of frame_cmp fs) ≡ set_of frame_cmp fs
twice fs = set_of_itself frame_cmp frame_total frame_same (set_of frame_cmp fs) (set_of_ascends frame_cmp frame_total frame_same fs)

pub one_more : (fs : List Frame) (f : Frame) → insert frame_cmp f (set_of frame_cmp fs) ≡ set_of frame_cmp (fs ++ f ∷ [])
one_more fs f = set_of_same frame_cmp frame_total frame_same (f ∷ fs) (fs ++ f ∷ []) (λ z. (
  λ h. (in_push z fs f).1 (elim h [ inl e ↦ inr e | inr e ↦ inl e ]),
  λ h. elim ((in_push z fs f).0 h) [ inl e ↦ inr e | inr e ↦ inl e ],
))

-- one more frame is no fewer frames
insert_grows : (f : Frame) (fs : List Frame) → length fs ≤ length (insert frame_cmp f fs)
insert_grows f [] = omega arith
insert_grows f (x ∷ xs) = go (frame_cmp f x) (insert_grows f xs)
  where
    go : (r : Ordering) → length xs ≤ length (insert frame_cmp f xs) → length (x ∷ xs) ≤ length (placed r f x xs (insert frame_cmp f xs))
    go Less h = omega arith
    go Equal h = omega arith
    go Greater h = omega arith

passes_more : (most : Option ℕ) (m n : ℕ) → m ≤ n → passes most m ≡ true → passes most n ≡ true
passes_more None m n h e = e
passes_more (Some k) m n h e = grind arith

-- what is gathered with one more frame
pub with_one_is : (most : Option ℕ) (fs : List Frame) (f : Frame) → with_one most (up_to most (set_of frame_cmp fs)) f ≡ up_to most (set_of frame_cmp (fs ++ f ∷ []))
with_one_is most fs f = go (passes most (length (set_of frame_cmp fs))) refl ∙ ap (up_to most) (one_more fs f)
  where
    go : (b : Bool) → passes most (length (set_of frame_cmp fs)) ≡ b → with_one most (if b then None else Some (set_of frame_cmp fs)) f ≡ up_to most (insert frame_cmp f (set_of frame_cmp fs))
    go true e =
        let over : passes most (length (insert frame_cmp f (set_of frame_cmp fs))) ≡ true = passes_more most (length (set_of frame_cmp fs)) (length (insert frame_cmp f (set_of frame_cmp fs))) (insert_grows f (set_of frame_cmp fs)) e in
        ap (λ (b : Bool). if b then None else Some (insert frame_cmp f (set_of frame_cmp fs))) (sym over)
    go false e = refl

-- past the limit one more changes nothing
pub add_many : (g : Gathered) (f : Frame) → g.1 ≡ None → g ≡ add g f
add_many g f e = let same : with_one g.0 g.1 f ≡ None = ap (λ (o : Option (List Frame)). with_one g.0 o f) e in ap (λ (o : Option (List Frame)). (g.0, o)) (e ∙ sym same)

-- nothing is within every limit
pub none_passes : (most : Option ℕ) → passes most 0 ≡ false
none_passes None = refl
none_passes (Some n) = grind arith

pub kept_more : (fs gs : List Frame) (f : Frame) → gs ≡ fs ++ f ∷ [] → AllByRecursion IsKeptFrame fs → IsKeptFrame f → AllByRecursion IsKeptFrame gs
kept_more fs gs f e k h = subst (AllByRecursion IsKeptFrame) (sym e) (all_append IsKeptFrame fs (f ∷ []) k (h, tt))
