-- A formula in which nothing is expanded becomes itself.
use Rattle.std.proofs.Common.{◌≡◌, ℕ, ◌+◌, ◌≤◌, min, Bool, true, false, ◌&&◌, ◌||◌, not, cond, ◌==◌, List, [], ◌∷◌, length, map, fold, Option, Some, None, refl, sym, ap, subst, ◌∙◌, arith}
use Rattle.std.specs.Prelude.{nat_lt, is_some, IfSome, bytes_eq, option_and_then}
use Rattle.std.specs.List.{AllByRecursion, list_any, position_from}
use Rattle.std.proofs.lemmas.Iterator.Adapters.{position_from-zero}
use borrow.Author.Tests.{ltb-false}
use Rattle.b_ast.specs.declared.Place.{Place}
use Rattle.b_ast.specs.declared.Bound.{Bound}
use Rattle.b_ast.specs.declared.Operator.{Operator}
use Rattle.b_ast.specs.declared.Operator.TheVariants as operator
use Rattle.b_ast.specs.declared.machine.Def.{Def}
use Rattle.b_names.specs.declared.places.Index.{Index}
use Rattle.b_names.specs.Index.{IsIndexOf, answer_of}
use Rattle.b_ast.specs.declared.Formula.{Formula, roll-Formula, map-Formula, fold-roll-Formula}
use Rattle.b_ast.specs.declared.Formula.TheVariants as formula
use Rattle.b_ast.specs.declared.Link.{Link, roll-Link, fold-roll-Link}
use Rattle.b_ast.specs.declared.After.{After, roll-After, map-After, fold-roll-After}
use Rattle.b_ast.specs.declared.After.TheVariants as after
use Rattle.b_ast.specs.declared.After.TheOpen.{Formula-F, Link-F, After-F}
use Rattle.b_expand.specs.Places.{deeper_place, deeper_bound}
use Rattle.b_expand.specs.Expansion.{alone, expanded_operator, is_comma}
use Rattle.b_expand.specs.Filling.{Insert, Inserts, Filling, Form, Side, named, called, row, after_step, formula_step, link_step, filling, form_of, side_of, with_definition, inserts, filled}
use Rattle.b_expand.specs.Settled.{is_shallow, are_shallow, all_true, after_settled, formula_settled, link_settled, is_settled, is_settled_link, is_settled_form}
use Rattle.b_expand.specs.Using.{is_defined}
use Rattle.b_expand.proofs.Naming.{means_next}
use Rattle.b_expand.proofs.Layers.{Below, BelowAfter, BelowLink, by_layers}

-- ---- names that are no definition's

neither_left : (a b : Bool) → (a || b) ≡ false → a ≡ false
neither_left false b h = refl
neither_left true b h = h

neither_right : (a b : Bool) → (a || b) ≡ false → b ≡ false
neither_right false b h = h
neither_right true b h = absurd (cc)

-- whether a name is one of the definitions'
abbrev is_among : List Def → List ℕ → Bool
is_among ds x = list_any (λ d. bytes_eq x d.name) ds

-- a name that is no definition's means nothing
unmeant : (m : Inserts) (ds : List Def) (x : List ℕ) → m x ≡ None → is_among ds x ≡ false → fold with_definition m ds x ≡ None
unmeant m [] x h k = h
unmeant m (d ∷ ds) x h k =
    unmeant (with_definition m d) ds x (means_next m d x false h (neither_left (bytes_eq x d.name) (is_among ds x) k)) (neither_right (bytes_eq x d.name) (is_among ds x) k)

-- a search finds a place exactly where there is one
found_any : (p : Def → Bool) (n : ℕ) (ds : List Def) → is_some (position_from p n ds) ≡ list_any p ds
found_any p n [] = refl
found_any p n (d ∷ ds) = cases (p d) (found_any p (n + 1) ds)
  where
    cases : (b : Bool) → is_some (position_from p (n + 1) ds) ≡ list_any p ds → is_some (cond b (Some n) (position_from p (n + 1) ds)) ≡ (b || list_any p ds)
    cases true k = refl
    cases false k = k

-- a name that the index doesn't have is none of the definitions'
unlisted : (ds : List Def) (index : Index) → IsIndexOf ds index → (x : List ℕ) → is_some (answer_of index x) ≡ false → is_among ds x ≡ false
unlisted ds index known x h =
    sym (found_any (λ (d : Def). bytes_eq x d.name) 0 ds) ∙ (sym (ap is_some (position_from-zero (λ (d : Def). bytes_eq x d.name) ds)) ∙ (sym (ap is_some (known x)) ∙ h))

-- ---- tests and places

and_true : (a b : Bool) → (a && b) ≡ true → (a ≡ true) × (b ≡ true)
and_true true b e = (refl, e)
and_true false b e = absurd (cc)

not_true : (a : Bool) → not a ≡ true → a ≡ false
not_true true e = absurd (cc)
not_true false e = refl

same_place : (at : Place) → is_shallow at ≡ true → deeper_place 0 at ≡ at
same_place at h =
    let few : at.depth ≤ 101 = ltb-false 101 at.depth (not_true (nat_lt 101 at.depth) h) in
    let e : min 101 (0 + at.depth) ≡ at.depth = omega arith in
    ap (λ (d : ℕ). record at { depth = d }) e

same_bounds : (xs : List Bound) → are_shallow xs ≡ true → map (deeper_bound 0) xs ≡ xs
same_bounds [] h = refl
same_bounds (x ∷ xs) h =
    let k = and_true (is_shallow x.at) (are_shallow xs) h in
    ap (λ (at : Place). record x { at = at } ∷ map (deeper_bound 0) xs) (same_place x.at k.0) ∙ ap (λ (ys : List Bound). x ∷ ys) (same_bounds xs k.1)

same_operator : (o : Operator) → is_comma o ≡ false → expanded_operator o ≡ o
same_operator operator.Comma e = absurd (cc)
same_operator o e = refl

module _ (ds : List Def) (index : Index) (known : IsIndexOf ds index) where
  -- a tree becomes itself, and is no name that means a definition
  record Itself (r : Filling) (t : Formula) : Type 0 where
    tree : r.part.tree alone ≡ t
    name : IfSome r.name (λ n. inserts ds n.1 ≡ None)

  abbrev PF : Formula → Type 0
  PF t = is_settled index t ≡ true → Itself (filling (inserts ds) t) t

  abbrev PL : Link → Type 0
  PL l = is_settled_link index l ≡ true → (side_of (inserts ds) l).link alone ≡ l

  abbrev PA : After → Type 0
  PA a = is_settled_form index a ≡ true → (form_of (inserts ds) a).form alone ≡ a

  -- ---- lists

  each : {X R : Type 0} (f : X → R) (tree : R → X) (p : X → Bool) (xs : List X) → AllByRecursion (λ x. p x ≡ true → tree (f x) ≡ x) xs → all_true (map p xs) ≡ true → map tree (map f xs) ≡ xs
  each f tree p [] h k = refl
  each {X} f tree p (x ∷ xs) h k =
      let a = and_true (p x) (all_true (map p xs)) k in
      ap (λ (y : X). y ∷ map tree (map f xs)) (h.0 a.0) ∙ ap (λ (ys : List X). x ∷ ys) (each f tree p xs h.1 a.1)

  each_tree : (us : List Formula) → AllByRecursion PF us → all_true (map (is_settled index) us) ≡ true → map (λ (r : Filling). r.part.tree alone) (map (filling (inserts ds)) us) ≡ us
  each_tree [] h k = refl
  each_tree (u ∷ us) h k =
      let a = and_true (is_settled index u) (all_true (map (is_settled index) us)) k in
      ap (λ (y : Formula). y ∷ map (λ (r : Filling). r.part.tree alone) (map (filling (inserts ds)) us)) (h.0 a.0).tree ∙ ap (λ (ys : List Formula). u ∷ ys) (each_tree us h.1 a.1)

  -- ---- layers

  abbrev layer_of : Formula-F After Formula Link → Filling
  layer_of x = formula_step (inserts ds) (map-Formula After Formula Link Form Filling Side (form_of (inserts ds)) (filling (inserts ds)) (side_of (inserts ds)) x)

  abbrev layer_settled : Formula-F After Formula Link → Bool
  layer_settled x = formula_settled index (map-Formula After Formula Link Bool Bool Bool (is_settled_form index) (is_settled index) (is_settled_link index) x)

  joint : (x : Formula-F After Formula Link) (t : Formula) → roll-Formula x ≡ t → (layer_settled x ≡ true → Itself (layer_of x) t) → PF (roll-Formula x)
  joint x t r k h =
      subst (λ (t : Formula). Itself (filling (inserts ds) (roll-Formula x)) t) (sym r)
      (subst (λ (f : Filling). Itself f t) (sym (fold-roll-Formula Form Filling Side after_step (formula_step (inserts ds)) link_step x))
      (k (sym (fold-roll-Formula Bool Bool Bool after_settled (formula_settled index) link_settled x) ∙ h)))

  -- a head that is no definition's name calls nothing
  not_called : (n : Option (ℕ × List ℕ)) → IfSome n (λ n. inserts ds n.1 ≡ None) → called (inserts ds) [] n ≡ None
  not_called None h = refl
  not_called (Some n) h = ap (λ (w : Option Insert). option_and_then (λ (m : Insert). cond (length m.params == 0) None (Some (n.0, m))) w) h

  on_formula : (x : Formula-F After Formula Link) → Below PA PF PL x → PF (roll-Formula x)
  on_formula (Formula-F.Name at x) k =
      joint (Formula-F.Name at x) (formula.Name at x) (formula.rolls-Name at x) (λ h.
      let a = and_true (is_shallow at) (not (is_defined index x)) h in
      let none : inserts ds x ≡ None = unmeant (λ y. None) ds x refl (unlisted ds index known x (not_true (is_defined index x) a.1)) in
      record { tree = ap (λ (w : Option Insert). named w None alone at x) none ∙ ap (λ (z : Place). formula.Name z x) (same_place at a.0); name = none })
  on_formula (Formula-F.Row e fs) k =
      joint (Formula-F.Row e fs) (formula.Row e fs) (formula.rolls-Row e fs) (λ h.
      let a = and_true (is_settled index e) (all_true (map (is_settled_form index) fs)) h in
      record {
        tree = ap (λ (c : Option (ℕ × Insert)). row c (filling (inserts ds) e) (map (form_of (inserts ds)) fs) alone) (not_called (filling (inserts ds) e).name (k.0 a.0).name)
            ∙ (ap (λ (z : Formula). formula.Row z (map (λ (g : Form). g.form alone) (map (form_of (inserts ds)) fs))) (k.0 a.0).tree
            ∙ ap (λ (zs : List After). formula.Row e zs) (each (form_of (inserts ds)) (λ (g : Form). g.form alone) (is_settled_form index) fs k.1 a.1));
        name = tt;
      })
  on_formula (Formula-F.Number at n) k =
      joint (Formula-F.Number at n) (formula.Number at n) (formula.rolls-Number at n) (λ h.
      record { tree = ap (λ (z : Place). formula.Number z n) (same_place at h); name = tt })
  on_formula (Formula-F.Text at x) k =
      joint (Formula-F.Text at x) (formula.Text at x) (formula.rolls-Text at x) (λ h.
      record { tree = ap (λ (z : Place). formula.Text z x) (same_place at h); name = tt })
  on_formula (Formula-F.Old at x) k =
      joint (Formula-F.Old at x) (formula.Old at x) (formula.rolls-Old at x) (λ h.
      record { tree = ap (λ (z : Place). formula.Old z x) (same_place at h); name = tt })
  on_formula (Formula-F.Constant at c) k =
      joint (Formula-F.Constant at c) (formula.Constant at c) (formula.rolls-Constant at c) (λ h.
      record { tree = ap (λ (z : Place). formula.Constant z c) (same_place at h); name = tt })
  on_formula (Formula-F.Negative at e) k =
      joint (Formula-F.Negative at e) (formula.Negative at e) (formula.rolls-Negative at e) (λ h.
      let a0 = and_true (is_shallow at) (is_settled index e) h in
      record { tree = ap (λ (z : Place). formula.Negative z ((filling (inserts ds) e).part.tree alone)) (same_place at a0.0) ∙ (ap (λ (z : Formula). formula.Negative at z) ((k a0.1).tree)); name = tt })
  on_formula (Formula-F.Chain e ls) k =
      joint (Formula-F.Chain e ls) (formula.Chain e ls) (formula.rolls-Chain e ls) (λ h.
      let a0 = and_true (is_settled index e) (all_true (map (is_settled_link index) ls)) h in
      record { tree = ap (λ (z : Formula). formula.Chain z (map (λ (g : Side). g.link alone) (map (side_of (inserts ds)) ls))) ((k.0 a0.0).tree) ∙ (ap (λ (z : List Link). formula.Chain e z) (each (side_of (inserts ds)) (λ (g : Side). g.link alone) (is_settled_link index) ls k.1 a0.1)); name = tt })
  on_formula (Formula-F.Call at w es) k =
      joint (Formula-F.Call at w es) (formula.Call at w es) (formula.rolls-Call at w es) (λ h.
      let a0 = and_true (is_shallow at) (all_true (map (is_settled index) es)) h in
      record { tree = ap (λ (z : Place). formula.Call z w (map (λ (r : Filling). r.part.tree alone) (map (filling (inserts ds)) es))) (same_place at a0.0) ∙ (ap (λ (z : List Formula). formula.Call at w z) (each_tree es k a0.1)); name = tt })
  on_formula (Formula-F.Set at es) k =
      joint (Formula-F.Set at es) (formula.Set at es) (formula.rolls-Set at es) (λ h.
      let a0 = and_true (is_shallow at) (all_true (map (is_settled index) es)) h in
      record { tree = ap (λ (z : Place). formula.Set z (map (λ (r : Filling). r.part.tree alone) (map (filling (inserts ds)) es))) (same_place at a0.0) ∙ (ap (λ (z : List Formula). formula.Set at z) (each_tree es k a0.1)); name = tt })
  on_formula (Formula-F.Sequence at es) k =
      joint (Formula-F.Sequence at es) (formula.Sequence at es) (formula.rolls-Sequence at es) (λ h.
      let a0 = and_true (is_shallow at) (all_true (map (is_settled index) es)) h in
      record { tree = ap (λ (z : Place). formula.Sequence z (map (λ (r : Filling). r.part.tree alone) (map (filling (inserts ds)) es))) (same_place at a0.0) ∙ (ap (λ (z : List Formula). formula.Sequence at z) (each_tree es k a0.1)); name = tt })
  on_formula (Formula-F.Comprehension at xs p) k =
      joint (Formula-F.Comprehension at xs p) (formula.Comprehension at xs p) (formula.rolls-Comprehension at xs p) (λ h.
      let a0 = and_true (is_shallow at) (are_shallow xs && is_settled index p) h in
      let a1 = and_true (are_shallow xs) (is_settled index p) a0.1 in
      record { tree = ap (λ (z : Place). formula.Comprehension z (map (deeper_bound 0) xs) ((filling (inserts ds) p).part.tree alone)) (same_place at a0.0) ∙ (ap (λ (z : List Bound). formula.Comprehension at z ((filling (inserts ds) p).part.tree alone)) (same_bounds xs a1.0) ∙ (ap (λ (z : Formula). formula.Comprehension at xs z) ((k a1.1).tree))); name = tt })
  on_formula (Formula-F.Quantified at q xs p) k =
      joint (Formula-F.Quantified at q xs p) (formula.Quantified at q xs p) (formula.rolls-Quantified at q xs p) (λ h.
      let a0 = and_true (is_shallow at) (are_shallow xs && is_settled index p) h in
      let a1 = and_true (are_shallow xs) (is_settled index p) a0.1 in
      record { tree = ap (λ (z : Place). formula.Quantified z q (map (deeper_bound 0) xs) ((filling (inserts ds) p).part.tree alone)) (same_place at a0.0) ∙ (ap (λ (z : List Bound). formula.Quantified at q z ((filling (inserts ds) p).part.tree alone)) (same_bounds xs a1.0) ∙ (ap (λ (z : Formula). formula.Quantified at q xs z) ((k a1.1).tree))); name = tt })
  on_formula (Formula-F.Collected at c xs p e) k =
      joint (Formula-F.Collected at c xs p e) (formula.Collected at c xs p e) (formula.rolls-Collected at c xs p e) (λ h.
      let a0 = and_true (is_shallow at) (are_shallow xs && (is_settled index p && is_settled index e)) h in
      let a1 = and_true (are_shallow xs) (is_settled index p && is_settled index e) a0.1 in
      let a2 = and_true (is_settled index p) (is_settled index e) a1.1 in
      record { tree = ap (λ (z : Place). formula.Collected z c (map (deeper_bound 0) xs) ((filling (inserts ds) p).part.tree alone) ((filling (inserts ds) e).part.tree alone)) (same_place at a0.0) ∙ (ap (λ (z : List Bound). formula.Collected at c z ((filling (inserts ds) p).part.tree alone) ((filling (inserts ds) e).part.tree alone)) (same_bounds xs a1.0) ∙ (ap (λ (z : Formula). formula.Collected at c xs z ((filling (inserts ds) e).part.tree alone)) ((k.0 a2.0).tree) ∙ (ap (λ (z : Formula). formula.Collected at c xs p z) ((k.1 a2.1).tree)))); name = tt })
  on_formula (Formula-F.If at p e u) k =
      joint (Formula-F.If at p e u) (formula.If at p e u) (formula.rolls-If at p e u) (λ h.
      let a0 = and_true (is_shallow at) (is_settled index p && (is_settled index e && is_settled index u)) h in
      let a1 = and_true (is_settled index p) (is_settled index e && is_settled index u) a0.1 in
      let a2 = and_true (is_settled index e) (is_settled index u) a1.1 in
      record { tree = ap (λ (z : Place). formula.If z ((filling (inserts ds) p).part.tree alone) ((filling (inserts ds) e).part.tree alone) ((filling (inserts ds) u).part.tree alone)) (same_place at a0.0) ∙ (ap (λ (z : Formula). formula.If at z ((filling (inserts ds) e).part.tree alone) ((filling (inserts ds) u).part.tree alone)) ((k.0 a1.0).tree) ∙ (ap (λ (z : Formula). formula.If at p z ((filling (inserts ds) u).part.tree alone)) ((k.1 a2.0).tree) ∙ (ap (λ (z : Formula). formula.If at p e z) ((k.2 a2.1).tree)))); name = tt })

  on_link : (x : Link-F After Formula Link) → BelowLink PA PF PL x → PL (roll-Link x)
  on_link x k h =
      let a = and_true (not (is_comma x.operator)) (is_shallow x.at && is_settled index x.operand) (sym (fold-roll-Link Bool Bool Bool after_settled (formula_settled index) link_settled x) ∙ h) in
      let b = and_true (is_shallow x.at) (is_settled index x.operand) a.1 in
      ap (λ (g : Side). g.link alone) (fold-roll-Link Form Filling Side after_step (formula_step (inserts ds)) link_step x)
      ∙ (ap (λ (o : Operator). roll-Link (record { operator = o; at = deeper_place 0 x.at; operand = (filling (inserts ds) x.operand).part.tree alone })) (same_operator x.operator (not_true (is_comma x.operator) a.0))
      ∙ (ap (λ (z : Place). roll-Link (record { operator = x.operator; at = z; operand = (filling (inserts ds) x.operand).part.tree alone })) (same_place x.at b.0)
      ∙ ap (λ (z : Formula). roll-Link (record { operator = x.operator; at = x.at; operand = z })) (k b.1).tree))

  abbrev form_layer_settled : After-F After Formula Link → Bool
  form_layer_settled x = after_settled (map-After After Formula Link Bool Bool Bool (is_settled_form index) (is_settled index) (is_settled_link index) x)

  abbrev form_layer : After-F After Formula Link → Form
  form_layer x = after_step (map-After After Formula Link Form Filling Side (form_of (inserts ds)) (filling (inserts ds)) (side_of (inserts ds)) x)

  joint_form : (x : After-F After Formula Link) (t : After) → roll-After x ≡ t → (form_layer_settled x ≡ true → (form_layer x).form alone ≡ t) → PA (roll-After x)
  joint_form x t r k h =
      ap (λ (g : Form). g.form alone) (fold-roll-After Form Filling Side after_step (formula_step (inserts ds)) link_step x)
      ∙ (k (sym (fold-roll-After Bool Bool Bool after_settled (formula_settled index) link_settled x) ∙ h) ∙ sym r)

  on_after : (x : After-F After Formula Link) → BelowAfter PA PF PL x → PA (roll-After x)
  on_after (After-F.Converse at) k = joint_form (After-F.Converse at) (after.Converse at) (after.rolls-Converse at) (λ h. ap (λ (z : Place). after.Converse z) (same_place at h))
  on_after (After-F.Apply at e) k =
      joint_form (After-F.Apply at e) (after.Apply at e) (after.rolls-Apply at e) (λ h.
      let a = and_true (is_shallow at) (is_settled index e) h in
      ap (λ (z : Place). after.Apply z ((filling (inserts ds) e).part.tree alone)) (same_place at a.0) ∙ ap (λ (z : Formula). after.Apply at z) (k a.1).tree)
  on_after (After-F.Image at e) k =
      joint_form (After-F.Image at e) (after.Image at e) (after.rolls-Image at e) (λ h.
      let a = and_true (is_shallow at) (is_settled index e) h in
      ap (λ (z : Place). after.Image z ((filling (inserts ds) e).part.tree alone)) (same_place at a.0) ∙ ap (λ (z : Formula). after.Image at z) (k a.1).tree)

  itself : (t : Formula) → PF t
  itself t = by_layers PA PF PL on_after on_formula on_link t

-- a formula in which nothing is expanded becomes itself
pub settled_same : (ds : List Def) (index : Index) → IsIndexOf ds index → (t : Formula) → is_settled index t ≡ true → t ≡ filled ds t
settled_same ds index known t h = sym (itself ds index known t h).tree
