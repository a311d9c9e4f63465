-- What grows by a part grows by the part's own size; sizes of trees that may be missing.
use Rattle.std.proofs.Common.{◌≡◌, ℕ, Bool, true, false, cond, List, [], ◌∷◌, map, Option, Some, None, refl, sym, ap, ◌∙◌, subst, arith}
use Rattle.std.specs.Prelude.{option_map}
use Rattle.std.specs.List.{AllByRecursion}
use Rattle.b_ast.specs.declared.Formula.{Formula}
use Rattle.b_ast.specs.declared.machine.Subst.{Subst, roll-Subst, map-Subst, fold-roll-Subst}
use Rattle.b_ast.specs.declared.machine.Subst.TheOpen.{Subst-F, Branch-F, CaseBranch-F, Step-F}
use Rattle.b_ast.specs.declared.machine.Branch.{Branch, roll-Branch, map-Branch, fold-roll-Branch}
use Rattle.b_ast.specs.declared.machine.CaseBranch.{CaseBranch, roll-CaseBranch, map-CaseBranch, fold-roll-CaseBranch}
use Rattle.b_ast.specs.declared.machine.Step.{Step, roll-Step, map-Step, fold-roll-Step}
use Rattle.b_expand.specs.Expansion.{both, all_three, all_of}
use Rattle.b_summaries.specs.declared.summary.Size.{Size}
use Rattle.b_summaries.specs.Sizes.{counted, deeper_of, plus, nothing, size_of}
use Rattle.b_summaries.specs.Making.{place_size}
use Rattle.b_summaries.specs.Summaries.{node}
use Rattle.b_summaries.proofs.Sums.{size_by, deeper_assoc}
use Rattle.b_substitutions.specs.Sizes.{Grows, with_node, with_formula, with_formulas, with_all, with_perhaps, branch_size, case_size, step_size, subst_size, with_subst, with_branch, with_case, with_step}
use Rattle.b_substitutions.proofs.Layers.{Perhaps, Below, BelowBranch, BelowCase, BelowStep, by_layers}

-- ---- what grows by its own size

-- the part's own size is added
abbrev pub IsAdded : Grows → Type 0
IsAdded f = (z : Size) → f z ≡ plus z (f nothing)

-- by a size
size_added : (c : Size) → IsAdded (λ z. plus z c)
size_added c z = size_by _ _ _ _ (omega arith) refl

plus_assoc : (a b c : Size) → plus (plus a b) c ≡ plus a (plus b c)
plus_assoc a b c = size_by _ _ _ _ (omega arith) (deeper_assoc a.depth b.depth c.depth)

-- one after the other
then_added : (f g : Grows) → IsAdded f → IsAdded g → IsAdded (λ z. g (f z))
then_added f g h k z = k (f z) ∙ (ap (λ y. plus y (g nothing)) (h z) ∙ (plus_assoc z (f nothing) (g nothing) ∙ ap (plus z) (sym (k (f nothing)))))

formula_added : (f : Grows) → IsAdded f → (e : Formula) → IsAdded (λ z. with_formula e (f z))
formula_added f h e = then_added f (with_formula e) h (size_added (size_of e))

formulas_added : (f : Grows) → IsAdded f → (es : List Formula) → IsAdded (λ z. with_formulas es (f z))
formulas_added f h [] = h
formulas_added f h (e ∷ es) = formulas_added (λ z. with_formula e (f z)) (formula_added f h e) es

all_added : {X : Type 0} (m : X → Grows) (f : Grows) → IsAdded f → (xs : List X) → AllByRecursion (λ x. IsAdded (m x)) xs → IsAdded (λ z. with_all (map m xs) (f z))
all_added m f h [] k = h
all_added m f h (x ∷ xs) k = all_added m (λ z. m x (f z)) (then_added f (m x) h k.0) xs k.1

perhaps_added : {X : Type 0} (m : X → Grows) (f : Grows) → IsAdded f → (o : Option X) → Perhaps (λ x. IsAdded (m x)) o → IsAdded (λ z. with_perhaps (option_map m o) (f z))
perhaps_added m f h None k = h
perhaps_added m f h (Some x) k = then_added f (m x) h k

-- a node first
node_added : (d : ℕ) → IsAdded (with_node d)
node_added d = size_added (place_size 1 d)

abbrev PB : Branch → Type 0
PB b = IsAdded (with_branch b)

abbrev PC : CaseBranch → Type 0
PC b = IsAdded (with_case b)

abbrev PK : Step → Type 0
PK k = IsAdded (with_step k)

abbrev PS : Subst → Type 0
PS u = IsAdded (with_subst u)

abbrev grown : Subst-F Subst Branch CaseBranch Step → Subst-F Grows Grows Grows Grows
grown = map-Subst Subst Branch CaseBranch Step Grows Grows Grows Grows with_subst with_branch with_case with_step

-- a part that is absent
after_part : (f : Grows) (r : Subst) → IsAdded f → PS r → IsAdded (λ z. with_subst r (f z))
after_part f r h k = then_added f (with_subst r) h k

layer_added : (x : Subst-F Subst Branch CaseBranch Step) → Below PB PC PK PS x → IsAdded (subst_size (grown x))
layer_added (Subst-F.Skip at) h = node_added at.depth
layer_added (Subst-F.Block at r) h = after_part (with_node at.depth) r (node_added at.depth) h
layer_added (Subst-F.Assign at xs es) h = formulas_added _ (node_added _) es
layer_added (Subst-F.Update at x e f) h = formula_added _ (formula_added _ (node_added _) e) f
layer_added (Subst-F.ChooseFrom at x e) h = formula_added _ (node_added _) e
layer_added (Subst-F.ChooseSuch at xs p) h = formula_added _ (node_added _) p
layer_added (Subst-F.Guarded at g p r) h = after_part _ r (formula_added _ (node_added at.depth) p) h
layer_added (Subst-F.If at bs None) h = perhaps_added with_subst _ (all_added with_branch (with_node at.depth) (node_added at.depth) bs h.0) None h.1
layer_added (Subst-F.If at bs (Some u)) h = perhaps_added with_subst _ (all_added with_branch (with_node at.depth) (node_added at.depth) bs h.0) (Some u) h.1
layer_added (Subst-F.Select at bs None) h = perhaps_added with_subst _ (all_added with_branch (with_node at.depth) (node_added at.depth) bs h.0) None h.1
layer_added (Subst-F.Select at bs (Some u)) h = perhaps_added with_subst _ (all_added with_branch (with_node at.depth) (node_added at.depth) bs h.0) (Some u) h.1
layer_added (Subst-F.Choice at rs) h = all_added with_subst (with_node at.depth) (node_added at.depth) rs h
layer_added (Subst-F.Case at e bs None) h = perhaps_added with_subst _ (all_added with_case _ (formula_added _ (node_added at.depth) e) bs h.0) None h.1
layer_added (Subst-F.Case at e bs (Some u)) h = perhaps_added with_subst _ (all_added with_case _ (formula_added _ (node_added at.depth) e) bs h.0) (Some u) h.1
layer_added (Subst-F.Any at xs p r) h = after_part _ r (formula_added _ (node_added _) p) h
layer_added (Subst-F.Let at xs es r) h = after_part _ r (formulas_added _ (node_added _) es) h
layer_added (Subst-F.Chain r ks) h = all_added with_step _ (after_part (λ z. plus z node) r (size_added node) h.0) ks h.1
layer_added (Subst-F.Use at x es) h = formulas_added _ (node_added at.depth) es

on_subst : (x : Subst-F Subst Branch CaseBranch Step) → Below PB PC PK PS x → PS (roll-Subst x)
on_subst x h = subst IsAdded (sym (fold-roll-Subst Grows Grows Grows Grows subst_size branch_size case_size step_size x)) (layer_added x h)

-- a formula before a part
guarded_added : (e : Formula) (r : Subst) → PS r → IsAdded (λ z. with_subst r (with_formula e z))
guarded_added e r k = then_added (with_formula e) (with_subst r) (size_added (size_of e)) k

labelled_added : (es : List Formula) (r : Subst) → PS r → IsAdded (λ z. with_subst r (with_formulas es z))
labelled_added [] r k = k
labelled_added (e ∷ es) r k = then_added (with_formula e) (λ z. with_subst r (with_formulas es z)) (size_added (size_of e)) (labelled_added es r k)

on_branch : (x : Branch-F Subst Branch CaseBranch Step) → BelowBranch PB PC PK PS x → PB (roll-Branch x)
on_branch x h = subst IsAdded (sym (fold-roll-Branch Grows Grows Grows Grows subst_size branch_size case_size step_size x)) (guarded_added x.guard x.body h)

on_case : (x : CaseBranch-F Subst Branch CaseBranch Step) → BelowCase PB PC PK PS x → PC (roll-CaseBranch x)
on_case x h = subst IsAdded (sym (fold-roll-CaseBranch Grows Grows Grows Grows subst_size branch_size case_size step_size x)) (labelled_added x.labels x.body h)

on_step : (x : Step-F Subst Branch CaseBranch Step) → BelowStep PB PC PK PS x → PK (roll-Step x)
on_step x h = subst IsAdded (sym (fold-roll-Step Grows Grows Grows Grows subst_size branch_size case_size step_size x)) (then_added (λ z. plus z (place_size 0 x.at.depth)) (with_subst x.body) (size_added (place_size 0 x.at.depth)) h)

-- a substitution adds its own size
pub subst_added : (u : Subst) → IsAdded (with_subst u)
subst_added = by_layers PB PC PK PS on_branch on_case on_step on_subst

-- ---- trees that may be missing

-- with a tree, if it is there
abbrev pub growing : {X : Type 0} → (X → Grows) → Option X → Option Size → Option Size
growing m o z = both (λ z x. m x z) z o

pub none_grows : {X : Type 0} (m : X → Grows) (z : Option Size) → growing m None z ≡ None
none_grows m None = refl
none_grows m (Some z) = refl

pub grows_none : {X : Type 0} (m : X → Grows) (o : Option X) → growing m o None ≡ None
grows_none m None = refl
grows_none m (Some x) = refl

-- a list of trees
abbrev pub with_list : {X : Type 0} → (X → Grows) → List X → Grows
with_list m [] z = z
with_list m (x ∷ xs) z = with_list m xs (m x z)

abbrev pub growing_all : {X : Type 0} → (X → Grows) → List (Option X) → Option Size → Option Size
growing_all m [] z = z
growing_all m (o ∷ os) z = growing_all m os (growing m o z)

-- a tree that may be absent
abbrev pub with_option : {X : Type 0} → (X → Grows) → Option X → Grows
with_option m None z = z
with_option m (Some x) z = m x z

module _ {W X Y Z : Type 0} (w : W → Grows) (x : X → Grows) (y : Y → Grows) (t : Z → Grows) (g : Grows) where
  -- from one tree
  pub one_grows : (c : X → W) → ((a : X) (z : Size) → w (c a) z ≡ x a (g z)) → (o : Option X) (z : Option Size) → growing x o (option_map g z) ≡ growing w (option_map c o) z
  one_grows c h None None = refl
  one_grows c h None (Some z) = refl
  one_grows c h (Some a) None = refl
  one_grows c h (Some a) (Some z) = ap Some (sym (h a z))

  -- from two
  pub two_grow : (c : X → Y → W) → ((a : X) (b : Y) (z : Size) → w (c a b) z ≡ y b (x a (g z))) → (o : Option X) (p : Option Y) (z : Option Size) → growing y p (growing x o (option_map g z)) ≡ growing w (both c o p) z
  two_grow c h None p None = grows_none y p
  two_grow c h None p (Some z) = grows_none y p ∙ sym (none_grows w (Some z))
  two_grow c h (Some a) None None = refl
  two_grow c h (Some a) None (Some z) = refl
  two_grow c h (Some a) (Some b) None = refl
  two_grow c h (Some a) (Some b) (Some z) = ap Some (sym (h a b z))

  -- from three
  pub three_grow : (c : X → Y → Z → W) → ((a : X) (b : Y) (d : Z) (z : Size) → w (c a b d) z ≡ t d (y b (x a (g z)))) → (o : Option X) (p : Option Y) (q : Option Z) (z : Option Size)
      → growing t q (growing y p (growing x o (option_map g z))) ≡ growing w (all_three c o p q) z
  three_grow c h None p q z = ap (growing t q) (ap (growing y p) (none_grows x (option_map g z)) ∙ grows_none y p) ∙ (grows_none t q ∙ sym (none_grows w z))
  three_grow c h (Some a) None q z = ap (growing t q) (none_grows y (growing x (Some a) (option_map g z))) ∙ (grows_none t q ∙ sym (none_grows w z))
  three_grow c h (Some a) (Some b) None z = none_grows t (growing y (Some b) (growing x (Some a) (option_map g z))) ∙ sym (none_grows w z)
  three_grow c h (Some a) (Some b) (Some d) None = refl
  three_grow c h (Some a) (Some b) (Some d) (Some z) = ap Some (sym (h a b d z))

-- without a size there is none
pub all_none : {X : Type 0} (m : X → Grows) (os : List (Option X)) → growing_all m os None ≡ None
all_none m [] = refl
all_none m (o ∷ os) = ap (growing_all m os) (grows_none m o) ∙ all_none m os

-- all of a list
pub all_grow : {X : Type 0} (m : X → Grows) (os : List (Option X)) (z : Option Size) → growing_all m os z ≡ growing (with_list m) (all_of os) z
all_grow m [] None = refl
all_grow m [] (Some z) = refl
all_grow m (None ∷ os) z = ap (growing_all m os) (none_grows m z) ∙ (all_none m os ∙ sym (none_grows (with_list m) z))
all_grow {X} m (Some x ∷ os) z = all_grow m os (growing m (Some x) z) ∙ go (all_of os) z
  where
    go : (w : Option (List X)) (z : Option Size) → growing (with_list m) w (growing m (Some x) z) ≡ growing (with_list m) (both (λ x xs. x ∷ xs) (Some x) w) z
    go None None = refl
    go None (Some z) = refl
    go (Some xs) None = refl
    go (Some xs) (Some z) = refl

-- lists in the two spellings
pub listed : {X : Type 0} (m : X → Grows) (xs : List X) (z : Size) → with_all (map m xs) z ≡ with_list m xs z
listed m [] z = refl
listed m (x ∷ xs) z = listed m xs (m x z)

pub formulas_listed : (es : List Formula) (z : Size) → with_formulas es z ≡ with_list with_formula es z
formulas_listed [] z = refl
formulas_listed (e ∷ es) z = formulas_listed es (with_formula e z)

pub optional : {X : Type 0} (m : X → Grows) (o : Option X) (z : Size) → with_perhaps (option_map m o) z ≡ with_option m o z
optional m None z = refl
optional m (Some x) z = refl

-- under a test
pub tested : {X : Type 0} (m : X → Grows) (b : Bool) (v : Option Size) (f : Bool → Option X) (z : Option Size) → v ≡ growing m (f true) z → f false ≡ None → cond b v None ≡ growing m (f b) z
tested m true v f z h k = h
tested m false v f z h k = sym (ap (λ o. growing m o z) k ∙ none_grows m z)
