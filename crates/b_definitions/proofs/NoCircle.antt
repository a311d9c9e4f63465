-- A table that can be arranged has no circle: along a circle the places of the arranged table would descend for ever.
use Rattle.std.proofs.Common.{◌≡◌, ℕ, zero, suc, ◌+◌, ◌<◌, ◌==◌, ◌||◌, Bool, true, false, cond, List, [], ◌∷◌, ◌++◌, map, length, Option, Some, None, refl, sym, ap, subst, ◌∙◌, arith}
use Rattle.std.specs.Prelude.{IfSome, option_map, option_and_then, is_some, bytes_eq, position, slice_get, unwrap_or}
use Rattle.std.specs.List.{AllByRecursion, list_any}
use borrow.Author.Tests.{eqb-true}
use Rattle.std.proofs.lemmas.Slice.Eq.{bytes_eq-Decides}
use Rattle.b_ast.specs.declared.Bound.{Bound}
use Rattle.b_ast.specs.declared.machine.Def.{Def}
use Rattle.b_ast.specs.declared.machine.DefBody.{DefBody}
use Rattle.b_ast.specs.declared.machine.DefBody.TheVariants as body
use Rattle.b_ast.specs.declared.Formula.{Formula, roll-Formula, map-Formula, fold-roll-Formula}
use Rattle.b_ast.specs.declared.Link.{Link, roll-Link, fold-roll-Link}
use Rattle.b_ast.specs.declared.After.{After, roll-After, map-After, fold-roll-After}
use Rattle.b_ast.specs.declared.After.TheOpen.{Formula-F, Link-F, After-F}
use Rattle.b_ast.specs.declared.machine.Subst.{Subst, roll-Subst, map-Subst, fold-roll-Subst}
use Rattle.b_ast.specs.declared.machine.Subst.TheOpen.{Subst-F, Branch-F, CaseBranch-F, Step-F}
use Rattle.b_ast.specs.declared.machine.Branch.{Branch, roll-Branch, fold-roll-Branch}
use Rattle.b_ast.specs.declared.machine.CaseBranch.{CaseBranch, roll-CaseBranch, fold-roll-CaseBranch}
use Rattle.b_ast.specs.declared.machine.Step.{Step, roll-Step, fold-roll-Step}
use Rattle.b_names.specs.Index.{place_of}
use Rattle.b_expand.proofs.Layers.{Below, BelowAfter, BelowLink, by_layers}
use Rattle.b_definitions.proofs.SubstLayers as layers
use Rattle.b_definitions.specs.Uses.{joined, listed, meant, binds, unless, after_step, formula_step, link_step, used_in, used_in_link, used_in_form, used_in_all, subst_step, branch_step, case_step, step_step, used_in_subst, used_in_branch, used_in_case, used_in_step, used_in_body, used_by, all_uses, uses, leads, is_circle}
use Rattle.b_definitions.specs.Tables.{first_named, SameFirst}
use Rattle.b_definitions.specs.Arranging.{is_ordered, IsArranged, HasNoCircle}
use Rattle.b_definitions.proofs.Firsts.{first_place, places, named_there, both_there, place_within, standing}
use Rattle.b_definitions.proofs.AnyOrder.{and_left, and_right, all_true, defined_same, uses_before}

-- an element of a mapped list
mapped_at : {X Y : Type 0} (f : X → Y) (xs : List X) (i : ℕ) → slice_get (map f xs) i ≡ option_map f (slice_get xs i)
mapped_at f [] i = refl
mapped_at f (x ∷ xs) zero = refl
mapped_at f (x ∷ xs) (suc i) = mapped_at f xs i

-- the definition at the place of a name has that name
name_there : (ds : List Def) (x : List ℕ) (i : ℕ) (d : Def) → first_place ds x ≡ Some i → slice_get ds i ≡ Some d → x ≡ d.name
name_there [] x i d e f = absurd (cc)
name_there (c ∷ ds) x i d e f = go (bytes_eq x c.name) refl (λ k. name_there ds x k d)
  where
    later : (o : Option ℕ) → first_place ds x ≡ o → option_map suc o ≡ Some i → ((k : ℕ) → first_place ds x ≡ Some k → slice_get ds k ≡ Some d → x ≡ d.name) → x ≡ d.name
    later None g h again = absurd (cc)
    later (Some k) g h again = let at : suc k ≡ i = cc in again k g (ap (slice_get (c ∷ ds)) at ∙ f)

    go : (b : Bool) → bytes_eq x c.name ≡ b → ((k : ℕ) → first_place ds x ≡ Some k → slice_get ds k ≡ Some d → x ≡ d.name) → x ≡ d.name
    go true g again =
        let first : Some 0 ≡ Some i = sym (ap (λ (b : Bool). cond b (Some 0) (option_map suc (first_place ds x))) g) ∙ e in
        let at : 0 ≡ i = cc in
        let here : Some c ≡ Some d = ap (slice_get (c ∷ ds)) at ∙ f in
        let is : c ≡ d = cc in
        (bytes_eq-Decides x c.name).0 g ∙ ap (λ (d : Def). d.name) is
    go false g again = later (first_place ds x) refl (sym (ap (λ (b : Bool). cond b (Some 0) (option_map suc (first_place ds x))) g) ∙ e) again

module _ (old new : List Def) (same : (x : List ℕ) → first_named x new ≡ first_named x old) where
  -- the places of one name in both tables
  record Pair (i k : ℕ) : Type 0 where
    name : List ℕ
    here : first_place old name ≡ Some i
    there : first_place new name ≡ Some k

  -- lists of such places
  abbrev Pairs : List ℕ → List ℕ → Type 0
  Pairs [] [] = Unit {0}
  Pairs [] (k ∷ ks) = ⊥
  Pairs (i ∷ is) [] = ⊥
  Pairs (i ∷ is) (k ∷ ks) = Pair i k × Pairs is ks

  two_pairs : (is ks js ls : List ℕ) → Pairs is ks → Pairs js ls → Pairs (is ++ js) (ks ++ ls)
  two_pairs [] [] js ls p q = q
  two_pairs [] (k ∷ ks) js ls p q = absurd p
  two_pairs (i ∷ is) [] js ls p q = absurd p
  two_pairs (i ∷ is) (k ∷ ks) js ls p q = (p.0, two_pairs is ks js ls p.1 q)

  defined_in_both : (x : List ℕ) → is_some (first_place old x) ≡ is_some (first_place new x)
  defined_in_both x = both_there old x ∙ (sym (ap is_some (same x)) ∙ sym (both_there new x))

  -- a name's places
  name_pairs : (x : List ℕ) (o p : Option ℕ) → first_place old x ≡ o → first_place new x ≡ p → Pairs (listed o) (listed p)
  name_pairs x None None e f = tt
  name_pairs x None (Some k) e f = absurd (cc (ap is_some e, ap is_some f, defined_in_both x))
  name_pairs x (Some i) None e f = absurd (cc (ap is_some e, ap is_some f, defined_in_both x))
  name_pairs x (Some i) (Some k) e f = (record { name = x; here = e; there = f }, tt)

  meant_pairs : (x : List ℕ) (b : Bool) → Pairs (listed (cond b None (place_of old x))) (listed (cond b None (place_of new x)))
  meant_pairs x true = tt
  meant_pairs x false = name_pairs x (place_of old x) (place_of new x) (sym (places old x)) (sym (places new x))

  -- bound names are definitions' in both tables or in none
  unless_pairs : (xs : List Bound) (is ks : List ℕ) → Pairs is ks → Pairs (unless (binds old xs) is) (unless (binds new xs) ks)
  unless_pairs xs is ks p = go (binds old xs) (binds new xs) (λ i. list_any (λ x. defined_same old new same x.name i) xs)
    where
      go : (b c : Bool) → b ≡ c → Pairs (unless b is) (unless c ks)
      go true true e = tt
      go true false e = absurd (cc)
      go false true e = absurd (cc)
      go false false e = p

  module _ (ps : List (List ℕ)) where
    -- ---- what a tree uses in both tables

    abbrev PF : Formula → Type 0
    PF t = Pairs (used_in old ps t) (used_in new ps t)

    abbrev PL : Link → Type 0
    PL l = Pairs (used_in_link old ps l) (used_in_link new ps l)

    abbrev PA : After → Type 0
    PA a = Pairs (used_in_form old ps a) (used_in_form new ps a)

    each : {X : Type 0} (f g : X → List ℕ) (xs : List X) → AllByRecursion (λ x. Pairs (f x) (g x)) xs → Pairs (joined (map f xs)) (joined (map g xs))
    each f g [] h = tt
    each f g (x ∷ xs) h = two_pairs (f x) (g x) (joined (map f xs)) (joined (map g xs)) h.0 (each f g xs h.1)

    joint : (x : Formula-F After Formula Link)
        → Pairs (formula_step old ps (map-Formula After Formula Link (List ℕ) (List ℕ) (List ℕ) (used_in_form old ps) (used_in old ps) (used_in_link old ps) x))
        (formula_step new ps (map-Formula After Formula Link (List ℕ) (List ℕ) (List ℕ) (used_in_form new ps) (used_in new ps) (used_in_link new ps) x))
        → PF (roll-Formula x)
    joint x h =
        subst (λ (is : List ℕ). Pairs is (used_in new ps (roll-Formula x))) (sym (fold-roll-Formula (List ℕ) (List ℕ) (List ℕ) after_step (formula_step old ps) link_step x))
        (subst (λ (ks : List ℕ). Pairs (formula_step old ps (map-Formula After Formula Link (List ℕ) (List ℕ) (List ℕ) (used_in_form old ps) (used_in old ps) (used_in_link old ps) x)) ks)
        (sym (fold-roll-Formula (List ℕ) (List ℕ) (List ℕ) after_step (formula_step new ps) link_step x)) h)

    joint_after : (x : After-F After Formula Link)
        → Pairs (after_step (map-After After Formula Link (List ℕ) (List ℕ) (List ℕ) (used_in_form old ps) (used_in old ps) (used_in_link old ps) x))
        (after_step (map-After After Formula Link (List ℕ) (List ℕ) (List ℕ) (used_in_form new ps) (used_in new ps) (used_in_link new ps) x))
        → PA (roll-After x)
    joint_after x h =
        subst (λ (is : List ℕ). Pairs is (used_in_form new ps (roll-After x))) (sym (fold-roll-After (List ℕ) (List ℕ) (List ℕ) after_step (formula_step old ps) link_step x))
        (subst (λ (ks : List ℕ). Pairs (after_step (map-After After Formula Link (List ℕ) (List ℕ) (List ℕ) (used_in_form old ps) (used_in old ps) (used_in_link old ps) x)) ks)
        (sym (fold-roll-After (List ℕ) (List ℕ) (List ℕ) after_step (formula_step new ps) link_step x)) h)

    on_formula : (x : Formula-F After Formula Link) → Below PA PF PL x → PF (roll-Formula x)
    on_formula (Formula-F.Number at n) h = joint (Formula-F.Number at n) tt
    on_formula (Formula-F.Text at x) h = joint (Formula-F.Text at x) tt
    on_formula (Formula-F.Name at x) h = joint (Formula-F.Name at x) (meant_pairs x (is_some (position (bytes_eq x) ps)))
    on_formula (Formula-F.Old at x) h = joint (Formula-F.Old at x) tt
    on_formula (Formula-F.Constant at c) h = joint (Formula-F.Constant at c) tt
    on_formula (Formula-F.Negative at e) h = joint (Formula-F.Negative at e) h
    on_formula (Formula-F.Chain e ls) h = joint (Formula-F.Chain e ls) (two_pairs (used_in old ps e) (used_in new ps e) _ _ h.0 (each (used_in_link old ps) (used_in_link new ps) ls h.1))
    on_formula (Formula-F.Row e fs) h = joint (Formula-F.Row e fs) (two_pairs (used_in old ps e) (used_in new ps e) _ _ h.0 (each (used_in_form old ps) (used_in_form new ps) fs h.1))
    on_formula (Formula-F.Call at f us) h = joint (Formula-F.Call at f us) (each (used_in old ps) (used_in new ps) us h)
    on_formula (Formula-F.Set at us) h = joint (Formula-F.Set at us) (each (used_in old ps) (used_in new ps) us h)
    on_formula (Formula-F.Sequence at us) h = joint (Formula-F.Sequence at us) (each (used_in old ps) (used_in new ps) us h)
    on_formula (Formula-F.Comprehension at xs p) h = joint (Formula-F.Comprehension at xs p) (unless_pairs xs (used_in old ps p) (used_in new ps p) h)
    on_formula (Formula-F.Quantified at q xs p) h = joint (Formula-F.Quantified at q xs p) (unless_pairs xs (used_in old ps p) (used_in new ps p) h)
    on_formula (Formula-F.Collected at c xs p e) h =
        joint (Formula-F.Collected at c xs p e)
        (unless_pairs xs (used_in old ps p ++ used_in old ps e) (used_in new ps p ++ used_in new ps e) (two_pairs (used_in old ps p) (used_in new ps p) (used_in old ps e) (used_in new ps e) h.0 h.1))
    on_formula (Formula-F.If at p e f) h =
        joint (Formula-F.If at p e f) (two_pairs (used_in old ps p) (used_in new ps p) _ _ h.0 (two_pairs (used_in old ps e) (used_in new ps e) _ _ h.1 h.2))

    on_link : (x : Link-F After Formula Link) → BelowLink PA PF PL x → PL (roll-Link x)
    on_link x h =
        subst (λ (is : List ℕ). Pairs is (used_in_link new ps (roll-Link x))) (sym (fold-roll-Link (List ℕ) (List ℕ) (List ℕ) after_step (formula_step old ps) link_step x))
        (subst (λ (ks : List ℕ). Pairs (used_in old ps x.operand) ks) (sym (fold-roll-Link (List ℕ) (List ℕ) (List ℕ) after_step (formula_step new ps) link_step x)) h)

    on_after : (x : After-F After Formula Link) → BelowAfter PA PF PL x → PA (roll-After x)
    on_after (After-F.Converse at) h = joint_after (After-F.Converse at) tt
    on_after (After-F.Apply at e) h = joint_after (After-F.Apply at e) h
    on_after (After-F.Image at e) h = joint_after (After-F.Image at e) h

    tree_pairs : (t : Formula) → PF t
    tree_pairs t = by_layers PA PF PL on_after on_formula on_link t

    all_pairs : (es : List Formula) → Pairs (used_in_all old ps es) (used_in_all new ps es)
    all_pairs [] = tt
    all_pairs (e ∷ es) = two_pairs (used_in old ps e) (used_in new ps e) (used_in_all old ps es) (used_in_all new ps es) (tree_pairs e) (all_pairs es)

    -- ---- substitutions

    abbrev PS : Subst → Type 0
    PS u = Pairs (used_in_subst old ps u) (used_in_subst new ps u)

    abbrev PB : Branch → Type 0
    PB b = Pairs (used_in_branch old ps b) (used_in_branch new ps b)

    abbrev PC : CaseBranch → Type 0
    PC b = Pairs (used_in_case old ps b) (used_in_case new ps b)

    abbrev PK : Step → Type 0
    PK k = Pairs (used_in_step old ps k) (used_in_step new ps k)

    joint_subst : (x : Subst-F Subst Branch CaseBranch Step)
        → Pairs (subst_step old ps (map-Subst Subst Branch CaseBranch Step (List ℕ) (List ℕ) (List ℕ) (List ℕ) (used_in_subst old ps) (used_in_branch old ps) (used_in_case old ps) (used_in_step old ps) x))
        (subst_step new ps (map-Subst Subst Branch CaseBranch Step (List ℕ) (List ℕ) (List ℕ) (List ℕ) (used_in_subst new ps) (used_in_branch new ps) (used_in_case new ps) (used_in_step new ps) x))
        → PS (roll-Subst x)
    joint_subst x h =
        subst (λ (is : List ℕ). Pairs is (used_in_subst new ps (roll-Subst x))) (sym (fold-roll-Subst (List ℕ) (List ℕ) (List ℕ) (List ℕ) (subst_step old ps) (branch_step old ps) (case_step old ps) step_step x))
        (subst (λ (ks : List ℕ). Pairs (subst_step old ps (map-Subst Subst Branch CaseBranch Step (List ℕ) (List ℕ) (List ℕ) (List ℕ) (used_in_subst old ps) (used_in_branch old ps) (used_in_case old ps) (used_in_step old ps) x)) ks)
        (sym (fold-roll-Subst (List ℕ) (List ℕ) (List ℕ) (List ℕ) (subst_step new ps) (branch_step new ps) (case_step new ps) step_step x)) h)

    -- branches, and what is done where none of them is
    with_part : (js ls : List ℕ) → (bs : List Branch) → AllByRecursion PB bs → Pairs js ls → Pairs (joined (map (used_in_branch old ps) bs) ++ js) (joined (map (used_in_branch new ps) bs) ++ ls)
    with_part js ls bs h p = two_pairs (joined (map (used_in_branch old ps) bs)) (joined (map (used_in_branch new ps) bs)) js ls (each (used_in_branch old ps) (used_in_branch new ps) bs h) p

    with_labels : (e : Formula) (js ls : List ℕ) → (bs : List CaseBranch) → AllByRecursion PC bs → Pairs js ls
        → Pairs (used_in old ps e ++ (joined (map (used_in_case old ps) bs) ++ js)) (used_in new ps e ++ (joined (map (used_in_case new ps) bs) ++ ls))
    with_labels e js ls bs h p =
        two_pairs (used_in old ps e) (used_in new ps e) _ _ (tree_pairs e)
        (two_pairs (joined (map (used_in_case old ps) bs)) (joined (map (used_in_case new ps) bs)) js ls (each (used_in_case old ps) (used_in_case new ps) bs h) p)

    on_subst : (x : Subst-F Subst Branch CaseBranch Step) → layers.Below PB PC PK PS x → PS (roll-Subst x)
    on_subst (Subst-F.Skip at) h = joint_subst (Subst-F.Skip at) tt
    on_subst (Subst-F.Block at u) h = joint_subst (Subst-F.Block at u) h
    on_subst (Subst-F.Assign at xs es) h = joint_subst (Subst-F.Assign at xs es) (all_pairs es)
    on_subst (Subst-F.Update at x e f) h = joint_subst (Subst-F.Update at x e f) (two_pairs (used_in old ps e) (used_in new ps e) (used_in old ps f) (used_in new ps f) (tree_pairs e) (tree_pairs f))
    on_subst (Subst-F.ChooseFrom at x e) h = joint_subst (Subst-F.ChooseFrom at x e) (tree_pairs e)
    on_subst (Subst-F.ChooseSuch at xs p) h = joint_subst (Subst-F.ChooseSuch at xs p) (tree_pairs p)
    on_subst (Subst-F.Guarded at g p u) h = joint_subst (Subst-F.Guarded at g p u) (two_pairs (used_in old ps p) (used_in new ps p) _ _ (tree_pairs p) h)
    on_subst (Subst-F.If at bs None) h = joint_subst (Subst-F.If at bs None) (with_part [] [] bs h.0 tt)
    on_subst (Subst-F.If at bs (Some u)) h = joint_subst (Subst-F.If at bs (Some u)) (with_part (used_in_subst old ps u) (used_in_subst new ps u) bs h.0 h.1)
    on_subst (Subst-F.Select at bs None) h = joint_subst (Subst-F.Select at bs None) (with_part [] [] bs h.0 tt)
    on_subst (Subst-F.Select at bs (Some u)) h = joint_subst (Subst-F.Select at bs (Some u)) (with_part (used_in_subst old ps u) (used_in_subst new ps u) bs h.0 h.1)
    on_subst (Subst-F.Choice at us) h = joint_subst (Subst-F.Choice at us) (each (used_in_subst old ps) (used_in_subst new ps) us h)
    on_subst (Subst-F.Case at e bs None) h = joint_subst (Subst-F.Case at e bs None) (with_labels e [] [] bs h.0 tt)
    on_subst (Subst-F.Case at e bs (Some u)) h = joint_subst (Subst-F.Case at e bs (Some u)) (with_labels e (used_in_subst old ps u) (used_in_subst new ps u) bs h.0 h.1)
    on_subst (Subst-F.Any at xs p u) h =
        joint_subst (Subst-F.Any at xs p u)
        (unless_pairs xs (used_in old ps p ++ used_in_subst old ps u) (used_in new ps p ++ used_in_subst new ps u) (two_pairs (used_in old ps p) (used_in new ps p) (used_in_subst old ps u) (used_in_subst new ps u) (tree_pairs p) h))
    on_subst (Subst-F.Let at xs es u) h =
        joint_subst (Subst-F.Let at xs es u)
        (unless_pairs xs (used_in_all old ps es ++ used_in_subst old ps u) (used_in_all new ps es ++ used_in_subst new ps u) (two_pairs (used_in_all old ps es) (used_in_all new ps es) (used_in_subst old ps u) (used_in_subst new ps u) (all_pairs es) h))
    on_subst (Subst-F.Chain u ks) h = joint_subst (Subst-F.Chain u ks) (two_pairs (used_in_subst old ps u) (used_in_subst new ps u) _ _ h.0 (each (used_in_step old ps) (used_in_step new ps) ks h.1))
    on_subst (Subst-F.Use at x es) h =
        joint_subst (Subst-F.Use at x es) (two_pairs (listed (meant old ps x)) (listed (meant new ps x)) _ _ (meant_pairs x (is_some (position (bytes_eq x) ps))) (all_pairs es))

    on_branch : (x : Branch-F Subst Branch CaseBranch Step) → layers.BelowBranch PB PC PK PS x → PB (roll-Branch x)
    on_branch x h =
        subst (λ (is : List ℕ). Pairs is (used_in_branch new ps (roll-Branch x))) (sym (fold-roll-Branch (List ℕ) (List ℕ) (List ℕ) (List ℕ) (subst_step old ps) (branch_step old ps) (case_step old ps) step_step x))
        (subst (λ (ks : List ℕ). Pairs (used_in old ps x.guard ++ used_in_subst old ps x.body) ks)
        (sym (fold-roll-Branch (List ℕ) (List ℕ) (List ℕ) (List ℕ) (subst_step new ps) (branch_step new ps) (case_step new ps) step_step x))
        (two_pairs (used_in old ps x.guard) (used_in new ps x.guard) _ _ (tree_pairs x.guard) h))

    on_case : (x : CaseBranch-F Subst Branch CaseBranch Step) → layers.BelowCase PB PC PK PS x → PC (roll-CaseBranch x)
    on_case x h =
        subst (λ (is : List ℕ). Pairs is (used_in_case new ps (roll-CaseBranch x))) (sym (fold-roll-CaseBranch (List ℕ) (List ℕ) (List ℕ) (List ℕ) (subst_step old ps) (branch_step old ps) (case_step old ps) step_step x))
        (subst (λ (ks : List ℕ). Pairs (used_in_all old ps x.labels ++ used_in_subst old ps x.body) ks)
        (sym (fold-roll-CaseBranch (List ℕ) (List ℕ) (List ℕ) (List ℕ) (subst_step new ps) (branch_step new ps) (case_step new ps) step_step x))
        (two_pairs (used_in_all old ps x.labels) (used_in_all new ps x.labels) _ _ (all_pairs x.labels) h))

    on_step : (x : Step-F Subst Branch CaseBranch Step) → layers.BelowStep PB PC PK PS x → PK (roll-Step x)
    on_step x h =
        subst (λ (is : List ℕ). Pairs is (used_in_step new ps (roll-Step x))) (sym (fold-roll-Step (List ℕ) (List ℕ) (List ℕ) (List ℕ) (subst_step old ps) (branch_step old ps) (case_step old ps) step_step x))
        (subst (λ (ks : List ℕ). Pairs (used_in_subst old ps x.body) ks)
        (sym (fold-roll-Step (List ℕ) (List ℕ) (List ℕ) (List ℕ) (subst_step new ps) (branch_step new ps) (case_step new ps) step_step x)) h)

    subst_pairs : (u : Subst) → PS u
    subst_pairs u = layers.by_layers PB PC PK PS on_branch on_case on_step on_subst u

    body_pairs : (b : DefBody) → Pairs (used_in_body old ps b) (used_in_body new ps b)
    body_pairs (body.Expr e) = tree_pairs e.formula
    body_pairs (body.Pred p) = tree_pairs p.formula
    body_pairs (body.Subst u) = subst_pairs u

  -- ---- one use

  -- a place that is found in one list has a partner in the other
  partner : (Q : ℕ → Type 0) (is ks : List ℕ) → Pairs is ks → (j : ℕ) → list_any (λ i. i == j) is ≡ true → AllByRecursion Q ks → (k : ℕ) × Pair j k × Q k
  partner Q [] ks p j h q = absurd (cc)
  partner Q (i ∷ is) [] p j h q = absurd p
  partner Q (i ∷ is) (k ∷ ks) p j h q = go (i == j) refl h (λ g. partner Q is ks p.1 j g q.1)
    where
      go : (b : Bool) → (i == j) ≡ b → (b || list_any (λ i. i == j) is) ≡ true → (list_any (λ i. i == j) is ≡ true → (k : ℕ) × Pair j k × Q k) → (k : ℕ) × Pair j k × Q k
      go true e g again = (k, subst (λ (i : ℕ). Pair i k) (eqb-true i j e) p.0, q.0)
      go false e g again = again g

  row_at : (i j : ℕ) → uses (all_uses old) i j ≡ true → (d : Def) × (slice_get old i ≡ Some d) × (list_any (λ k. k == j) (used_by old d) ≡ true)
  row_at i j h = go (slice_get old i) refl
    where
      go : (o : Option Def) → slice_get old i ≡ o → (d : Def) × (slice_get old i ≡ Some d) × (list_any (λ k. k == j) (used_by old d) ≡ true)
      go None e =
          let k : uses (all_uses old) i j ≡ false = ap (λ (o : Option (List ℕ)). list_any (λ k. k == j) (unwrap_or o [])) (mapped_at (used_by old) old i ∙ ap (option_map (used_by old)) e) in
          absurd (cc (k, h))
      go (Some d) e = (d, e, sym (ap (λ (o : Option (List ℕ)). list_any (λ k. k == j) (unwrap_or o [])) (mapped_at (used_by old) old i ∙ ap (option_map (used_by old)) e)) ∙ h)

  -- a use of a definition has a partner
  any_use : (i j : ℕ) → uses (all_uses old) i j ≡ true → (k : ℕ) × Pair j k
  any_use i j h =
      let r = row_at i j h in
      let f = partner (λ k. Unit {0}) (used_by old r.0) (used_by new r.0) (body_pairs r.0.params r.0.body) j r.2 (all_true (used_by new r.0)) in
      (f.0, f.1)

  module _ (ordered : is_ordered new ≡ true) where
    -- a use of a definition with a partner has one before it
    next_use : (i j p : ℕ) → Pair i p → uses (all_uses old) i j ≡ true → (k : ℕ) × Pair j k × (k < p)
    next_use i j p a h =
        let r = row_at i j h in
        let d : slice_get new p ≡ Some r.0 =
        sym (ap (option_and_then (slice_get new)) a.there)
        ∙ (sym (named_there new a.name) ∙ (same a.name ∙ (named_there old a.name ∙ (ap (option_and_then (slice_get old)) a.here ∙ r.1)))) in
        partner (λ k. k < p) (used_by old r.0) (used_by new r.0) (body_pairs r.0.params r.0.body) j r.2 (uses_before new ordered p r.0 d)

    -- ---- circles

    -- the end of a way has a partner
    end_of_way : (i : ℕ) (js : List ℕ) (last : ℕ) → leads (all_uses old) i js last ≡ true → (k : ℕ) × Pair last k
    end_of_way i [] last h = any_use i last h
    end_of_way i (j ∷ js) last h = end_of_way j js last (and_right (uses (all_uses old) i j) (leads (all_uses old) j js last) h)

    -- and one before that of the beginning
    way_down : (i p : ℕ) → Pair i p → (js : List ℕ) (last : ℕ) → leads (all_uses old) i js last ≡ true → (k : ℕ) × Pair last k × (k < p)
    way_down i p a [] last h = next_use i last p a h
    way_down i p a (j ∷ js) last h =
        let n = next_use i j p a (and_left (uses (all_uses old) i j) (leads (all_uses old) j js last) h) in
        let m = way_down j n.0 n.1 js last (and_right (uses (all_uses old) i j) (leads (all_uses old) j js last) h) in
        let below : n.0 < p = n.2 in
        let further : m.0 < n.0 = m.2 in
        (m.0, m.1, omega arith)

    -- a place has one partner
    one_partner : (i k l : ℕ) → Pair i k → Pair i l → k ≡ l
    one_partner i k l a b =
        let d = standing old i (subst (λ (o : Option ℕ). IfSome o (λ i. i < length old)) a.here (place_within old a.name)) in
        let names : a.name ≡ b.name = name_there old a.name i d.0 a.here d.1 ∙ sym (name_there old b.name i d.0 b.here d.1) in
        let e : Some k ≡ Some l = sym a.there ∙ (ap (first_place new) names ∙ b.there) in
        cc

    no_way_round : (circle : List ℕ) → is_circle (all_uses old) circle ≡ true → ⊥
    no_way_round [] h = absurd (cc)
    no_way_round (i ∷ js) h =
        let a = end_of_way i js i h in
        let b = way_down i a.0 a.1 js i h in
        let below : b.0 < a.0 = b.2 in
        let e : b.0 ≡ a.0 = one_partner i b.0 a.0 b.1 a.1 in
        omega arith

-- a table that can be arranged has no circle
pub no_circle : (old new : List Def) → IsArranged old new → HasNoCircle old
unfolding SameFirst
no_circle old new h c = no_way_round old new h.first h.ordered c.0 c.1
