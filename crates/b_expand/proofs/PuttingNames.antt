-- Parameters and the trees that stand for them, and trees that are there only if their parts are.
use Rattle.std.proofs.Common.{◌≡◌, ℕ, suc, ◌+◌, Bool, true, false, not, cond, List, [], ◌∷◌, length, Option, Some, None, refl, sym, ap, ◌∙◌, arith}
use Rattle.std.specs.Prelude.{slice_get, option_map, option_and_then, is_some, bytes_eq, position, nat_lt}
use Rattle.std.specs.List.{position_or_len}
use Rattle.std.proofs.lemmas.Bool.Decides.{nat_tests}
use Rattle.b_ast.specs.declared.Formula.{Formula}
use Rattle.b_expand.specs.Expansion.{both, all_three}

-- ---- what is there only if its parts are

-- where something is there, it is this
abbrev pub Gives : {X : Type 0} → Option X → X → Type 0
Gives {X} o w = (t : X) → o ≡ Some t → w ≡ t

-- what is there itself
pub gives_some : {X : Type 0} (w : X) → Gives (Some w) w
gives_some w t e = cc

-- from one part
pub gives_map : {X Y : Type 0} (f : X → Y) (o : Option X) (w : X) → Gives o w → Gives (option_map f o) (f w)
gives_map f None w h t e = absurd (cc)
gives_map f (Some v) w h t e = let k : f v ≡ t = cc in ap f (h v refl) ∙ k

-- from two
pub gives_both : {X Y Z : Type 0} (f : X → Y → Z) (o : Option X) (p : Option Y) (v : X) (w : Y) → Gives o v → Gives p w → Gives (both f o p) (f v w)
gives_both f None p v w h k t e = absurd (cc)
gives_both f (Some x) None v w h k t e = absurd (cc)
gives_both f (Some x) (Some y) v w h k t e =
    let l : f x y ≡ t = cc in
    ap (λ v. f v w) (h x refl) ∙ ap (f x) (k y refl) ∙ l

-- from three
pub gives_three : {W X Y Z : Type 0} (f : W → X → Y → Z) (o : Option W) (p : Option X) (q : Option Y) (u : W) (v : X) (w : Y) → Gives o u → Gives p v → Gives q w → Gives (all_three f o p q) (f u v w)
gives_three f None p q u v w h k l t e = absurd (cc)
gives_three f (Some x) None q u v w h k l t e = absurd (cc)
gives_three f (Some x) (Some y) None u v w h k l t e = absurd (cc)
gives_three f (Some x) (Some y) (Some z) u v w h k l t e =
    let m : f x y z ≡ t = cc in
    ap (λ u. f u v w) (h x refl) ∙ ap (λ v. f x v w) (k y refl) ∙ ap (f x y) (l z refl) ∙ m

-- ---- the first parameter of a name

-- the tree that stands for a name, list by list
abbrev pub looked : List (List ℕ) → List Formula → List ℕ → Option Formula
looked [] ts x = None
looked (p ∷ ps) [] x = None
looked (p ∷ ps) (t ∷ ts) x = cond (bytes_eq x p) (Some t) (looked ps ts x)

-- zero is below a successor
less_zero : (n : ℕ) → nat_lt 0 (suc n) ≡ true
less_zero n = grind (arith, nat_tests)

-- successors are in order as the numbers are
less_next : (m n : ℕ) → nat_lt (suc m) (suc n) ≡ nat_lt m n
less_next m n = grind (arith, nat_tests)

-- the successor of a number that may be missing
next_of : (k : ℕ) (b : Bool) → cond b (Some (suc k)) None ≡ option_map suc (cond b (Some k) None)
next_of k true = refl
next_of k false = refl

-- a parameter after the first
pub position_next : (x p : List ℕ) (ps : List (List ℕ)) (b : Bool) → bytes_eq x p ≡ b → position (bytes_eq x) (p ∷ ps) ≡ cond b (Some 0) (option_map suc (position (bytes_eq x) ps))
position_next x p ps true e =
    ap (λ (b : Bool). let k : ℕ = cond (not b) (1 + position_or_len (bytes_eq x) ps) 0 in cond (nat_lt k (suc (length ps))) (Some k) None) e
    ∙ ap (λ (b : Bool). cond b (Some 0) None) (less_zero (length ps))
position_next x p ps false e =
    let on : 1 + position_or_len (bytes_eq x) ps ≡ suc (position_or_len (bytes_eq x) ps) = omega arith in
    ap (λ (b : Bool). let k : ℕ = cond (not b) (1 + position_or_len (bytes_eq x) ps) 0 in cond (nat_lt k (suc (length ps))) (Some k) None) e
    ∙ ap (λ (k : ℕ). cond (nat_lt k (suc (length ps))) (Some k) None) on
    ∙ ap (λ (b : Bool). cond b (Some (suc (position_or_len (bytes_eq x) ps))) None) (less_next (position_or_len (bytes_eq x) ps) (length ps))
    ∙ next_of (position_or_len (bytes_eq x) ps) (nat_lt (position_or_len (bytes_eq x) ps) (length ps))

-- no tree stands in an empty list
none_of_none : (o : Option ℕ) → option_and_then (slice_get {X = Formula} []) o ≡ None
none_of_none None = refl
none_of_none (Some k) = refl

-- a tree after the first
one_further : (t : Formula) (ts : List Formula) (o : Option ℕ) → option_and_then (slice_get (t ∷ ts)) (option_map suc o) ≡ option_and_then (slice_get ts) o
one_further t ts None = refl
one_further t ts (Some k) = refl

-- the tree that stands for a name
pub looks : (ps : List (List ℕ)) (ts : List Formula) (x : List ℕ) → option_and_then (slice_get ts) (position (bytes_eq x) ps) ≡ looked ps ts x
looks [] ts x = refl
looks (p ∷ ps) [] x = none_of_none (position (bytes_eq x) (p ∷ ps))
looks (p ∷ ps) (t ∷ ts) x = go (bytes_eq x p) refl (looks ps ts x)
  where
    go : (b : Bool) → bytes_eq x p ≡ b → option_and_then (slice_get ts) (position (bytes_eq x) ps) ≡ looked ps ts x
        → option_and_then (slice_get (t ∷ ts)) (position (bytes_eq x) (p ∷ ps)) ≡ cond (bytes_eq x p) (Some t) (looked ps ts x)
    go true e h = ap (option_and_then (slice_get (t ∷ ts))) (position_next x p ps true e) ∙ sym (ap (λ (b : Bool). cond b (Some t) (looked ps ts x)) e)
    go false e h =
        ap (option_and_then (slice_get (t ∷ ts))) (position_next x p ps false e)
        ∙ one_further t ts (position (bytes_eq x) ps)
        ∙ h ∙ sym (ap (λ (b : Bool). cond b (Some t) (looked ps ts x)) e)

-- the successor of a number is there if the number is
is_there : (o : Option ℕ) → is_some (option_map suc o) ≡ is_some o
is_there None = refl
is_there (Some k) = refl

-- where each parameter has a tree, a tree stands for just the parameters
pub stands_for : (ps : List (List ℕ)) (ts : List Formula) (x : List ℕ) → length ts ≡ length ps → is_some (looked ps ts x) ≡ is_some (position (bytes_eq x) ps)
stands_for [] ts x h = refl
stands_for (p ∷ ps) [] x h = absurd (omega arith)
stands_for (p ∷ ps) (t ∷ ts) x h = go (bytes_eq x p) refl (stands_for ps ts x (omega arith))
  where
    go : (b : Bool) → bytes_eq x p ≡ b → is_some (looked ps ts x) ≡ is_some (position (bytes_eq x) ps) → is_some (cond (bytes_eq x p) (Some t) (looked ps ts x)) ≡ is_some (position (bytes_eq x) (p ∷ ps))
    go true e k = ap (λ (b : Bool). is_some (cond b (Some t) (looked ps ts x))) e ∙ sym (ap is_some (position_next x p ps true e))
    go false e k =
        ap (λ (b : Bool). is_some (cond b (Some t) (looked ps ts x))) e ∙ k
        ∙ sym (is_there (position (bytes_eq x) ps)) ∙ sym (ap is_some (position_next x p ps false e))
