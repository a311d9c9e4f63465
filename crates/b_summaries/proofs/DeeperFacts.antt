-- The facts of a tree under more brackets.
use Rattle.std.proofs.Common.{◌≡◌, ℕ, ◌+◌, Bool, List, [], ◌∷◌, map, sum, refl, sym, ap, ◌∙◌, arith}
use Rattle.std.specs.Prelude.{min, max}
use Rattle.std.specs.List.{AllByRecursion}
use Rattle.b_ast.specs.declared.Place.{Place}
use Rattle.b_ast.specs.declared.Bound.{Bound}
use Rattle.b_ast.specs.declared.Operator.{Operator}
use Rattle.b_ast.specs.declared.Formula.{Formula, roll-Formula, map-Formula, fold-roll-Formula}
use Rattle.b_ast.specs.declared.Formula.TheVariants as formula
use Rattle.b_ast.specs.declared.Link.{Link, roll-Link, fold-roll-Link}
use Rattle.b_ast.specs.declared.After.{After, roll-After, map-After, fold-roll-After}
use Rattle.b_ast.specs.declared.After.TheVariants as after
use Rattle.b_ast.specs.declared.After.TheOpen.{Formula-F, Link-F, After-F}
use Rattle.b_ast.specs.Sorts as sorts
use Rattle.b_ast.specs.Sorts.{Sorted}
use Rattle.b_expand.specs.Places.{greatest, names_depth, brackets, deeper_place, deeper_bound, deeper, deeper_link, deeper_after, after_deeper, formula_deeper, link_deeper}
use Rattle.b_summaries.specs.Sizes.{counted}
use Rattle.b_summaries.proofs.LayerFacts.{Facts, LinkFacts, FormFacts, facts_of, facts_of_link, facts_of_form, layer_sort, layer_nodes, layer_depth, layer_facts, form_facts, link_facts, deepened}
use Rattle.b_expand.proofs.Layers.{Below, BelowAfter, BelowLink, by_layers}
use Rattle.b_summaries.proofs.LayersOfFacts.{map_after, facts_by, form_facts_by, link_facts_by, known, known_after, facts_layer, facts_after, facts_link}

-- ---- the greatest of numbers under more brackets

-- the greater of two limited sums
max_limited : (k n a b : ℕ) → max (min k (n + a)) (min k (n + b)) ≡ min k (n + max a b)
max_limited k n a b = omega arith

module _ (n : ℕ) where
  -- the greater of two depths
  max_brackets : (a b : ℕ) → max (brackets n a) (brackets n b) ≡ brackets n (max a b)
  max_brackets a b = max_limited 101 n a b

  -- the greatest of some depths
  pub greatest_brackets : {X : Type 0} (f : X → ℕ) (g : X → X) → ((x : X) → f (g x) ≡ brackets n (f x)) → (m : ℕ) (xs : List X) → greatest (brackets n m) (map f (map g xs)) ≡ brackets n (greatest m (map f xs))
  greatest_brackets f g e m [] = refl
  greatest_brackets f g e m (x ∷ xs) =
      ap (λ (d : ℕ). greatest (max (brackets n m) d) (map f (map g xs))) (e x) ∙ ap (λ (d : ℕ). greatest d (map f (map g xs))) (max_brackets m (f x))
      ∙ greatest_brackets f g e (max m (f x)) xs

  -- the depth of bound names
  pub names_brackets : (at : Place) (xs : List Bound) → names_depth (deeper_place n at) (map (deeper_bound n) xs) ≡ brackets n (names_depth at xs)
  names_brackets at xs = greatest_brackets (λ (x : Bound). x.at.depth) (deeper_bound n) (λ x. refl) at.depth xs

  -- ---- layers under more brackets

  -- a form after an operand under the brackets
  abbrev deepened_form : FormFacts → FormFacts
  deepened_form f = record f { depth = brackets n f.depth }

  -- a link under the brackets
  abbrev deepened_link : LinkFacts → LinkFacts
  deepened_link l = record l { depth = brackets n l.depth }

  -- a layer under the brackets
  abbrev deepened_layer : Formula-F FormFacts Facts LinkFacts → Formula-F FormFacts Facts LinkFacts
  deepened_layer (Formula-F.Number at k) = Formula-F.Number (deeper_place n at) k
  deepened_layer (Formula-F.Text at x) = Formula-F.Text (deeper_place n at) x
  deepened_layer (Formula-F.Name at x) = Formula-F.Name (deeper_place n at) x
  deepened_layer (Formula-F.Old at x) = Formula-F.Old (deeper_place n at) x
  deepened_layer (Formula-F.Constant at c) = Formula-F.Constant (deeper_place n at) c
  deepened_layer (Formula-F.Negative at e) = Formula-F.Negative (deeper_place n at) (deepened n e)
  deepened_layer (Formula-F.Chain e ls) = Formula-F.Chain (deepened n e) (map deepened_link ls)
  deepened_layer (Formula-F.Row e fs) = Formula-F.Row (deepened n e) (map deepened_form fs)
  deepened_layer (Formula-F.Call at f us) = Formula-F.Call (deeper_place n at) f (map (deepened n) us)
  deepened_layer (Formula-F.Set at us) = Formula-F.Set (deeper_place n at) (map (deepened n) us)
  deepened_layer (Formula-F.Sequence at us) = Formula-F.Sequence (deeper_place n at) (map (deepened n) us)
  deepened_layer (Formula-F.Comprehension at xs p) = Formula-F.Comprehension (deeper_place n at) (map (deeper_bound n) xs) (deepened n p)
  deepened_layer (Formula-F.Quantified at q xs p) = Formula-F.Quantified (deeper_place n at) q (map (deeper_bound n) xs) (deepened n p)
  deepened_layer (Formula-F.Collected at c xs p e) = Formula-F.Collected (deeper_place n at) c (map (deeper_bound n) xs) (deepened n p) (deepened n e)
  deepened_layer (Formula-F.If at p e f) = Formula-F.If (deeper_place n at) (deepened n p) (deepened n e) (deepened n f)

  -- what the sort of a chain reads of a link
  abbrev link_pair : LinkFacts → Operator × Sorted
  link_pair l = (l.operator, l.sort)

  -- sorts stay
  sort_stays : (y : Formula-F FormFacts Facts LinkFacts) → layer_sort y ≡ layer_sort (deepened_layer y)
  sort_stays (Formula-F.Chain e ls) = ap (λ (zs : List (Operator × Sorted)). sorts.formula_step (Formula-F.Chain e.sort zs)) (map_after link_pair link_pair deepened_link (λ l. refl) ls)
  sort_stays (Formula-F.Row e fs) = ap (λ (zs : List Bool). sorts.formula_step (Formula-F.Row e.sort zs)) (map_after (λ (f : FormFacts). f.fits) (λ (f : FormFacts). f.fits) deepened_form (λ f. refl) fs)
  sort_stays (Formula-F.Call at f us) = ap (λ (zs : List Sorted). sorts.formula_step (Formula-F.Call at f zs)) (map_after (λ (e : Facts). e.sort) (λ (e : Facts). e.sort) (deepened n) (λ e. refl) us)
  sort_stays (Formula-F.Set at us) = ap (λ (zs : List Sorted). sorts.formula_step (Formula-F.Set at zs)) (map_after (λ (e : Facts). e.sort) (λ (e : Facts). e.sort) (deepened n) (λ e. refl) us)
  sort_stays (Formula-F.Sequence at us) = ap (λ (zs : List Sorted). sorts.formula_step (Formula-F.Sequence at zs)) (map_after (λ (e : Facts). e.sort) (λ (e : Facts). e.sort) (deepened n) (λ e. refl) us)
  sort_stays x = refl

  -- numbers of nodes stay
  nodes_stay : (y : Formula-F FormFacts Facts LinkFacts) → layer_nodes y ≡ layer_nodes (deepened_layer y)
  nodes_stay (Formula-F.Chain e ls) = ap (λ (zs : List ℕ). 1 + (e.nodes + sum zs)) (map_after (λ (l : LinkFacts). l.nodes) (λ (l : LinkFacts). l.nodes) deepened_link (λ l. refl) ls)
  nodes_stay (Formula-F.Row e fs) = ap (λ (zs : List ℕ). 1 + (e.nodes + sum zs)) (map_after (λ (f : FormFacts). f.nodes) (λ (f : FormFacts). f.nodes) deepened_form (λ f. refl) fs)
  nodes_stay (Formula-F.Call at f us) = ap (λ (zs : List ℕ). 1 + sum zs) (map_after (λ (e : Facts). e.nodes) (λ (e : Facts). e.nodes) (deepened n) (λ e. refl) us)
  nodes_stay (Formula-F.Set at us) = ap (λ (zs : List ℕ). 1 + sum zs) (map_after (λ (e : Facts). e.nodes) (λ (e : Facts). e.nodes) (deepened n) (λ e. refl) us)
  nodes_stay (Formula-F.Sequence at us) = ap (λ (zs : List ℕ). 1 + sum zs) (map_after (λ (e : Facts). e.nodes) (λ (e : Facts). e.nodes) (deepened n) (λ e. refl) us)
  nodes_stay x = refl

  -- the greatest of three depths
  three_brackets : (a b c : ℕ) → max (brackets n a) (max (brackets n b) (brackets n c)) ≡ brackets n (max a (max b c))
  three_brackets a b c = ap (max (brackets n a)) (max_brackets b c) ∙ max_brackets a (max b c)

  -- the depth is that of the layer under the brackets
  depth_moves : (y : Formula-F FormFacts Facts LinkFacts) → layer_depth (deepened_layer y) ≡ brackets n (layer_depth y)
  depth_moves (Formula-F.Negative at e) = max_brackets at.depth e.depth
  depth_moves (Formula-F.Chain e ls) = greatest_brackets (λ (l : LinkFacts). l.depth) deepened_link (λ l. refl) e.depth ls
  depth_moves (Formula-F.Row e fs) = greatest_brackets (λ (f : FormFacts). f.depth) deepened_form (λ f. refl) e.depth fs
  depth_moves (Formula-F.Call at f us) = greatest_brackets (λ (e : Facts). e.depth) (deepened n) (λ e. refl) at.depth us
  depth_moves (Formula-F.Set at us) = greatest_brackets (λ (e : Facts). e.depth) (deepened n) (λ e. refl) at.depth us
  depth_moves (Formula-F.Sequence at us) = greatest_brackets (λ (e : Facts). e.depth) (deepened n) (λ e. refl) at.depth us
  depth_moves (Formula-F.Comprehension at xs p) = ap (λ (d : ℕ). max d (brackets n p.depth)) (names_brackets at xs) ∙ max_brackets (names_depth at xs) p.depth
  depth_moves (Formula-F.Quantified at q xs p) = ap (λ (d : ℕ). max d (brackets n p.depth)) (names_brackets at xs) ∙ max_brackets (names_depth at xs) p.depth
  depth_moves (Formula-F.Collected at c xs p e) = ap (λ (d : ℕ). max d (max (brackets n p.depth) (brackets n e.depth))) (names_brackets at xs) ∙ three_brackets (names_depth at xs) p.depth e.depth
  depth_moves (Formula-F.If at p e f) = ap (max (brackets n at.depth)) (three_brackets p.depth e.depth f.depth) ∙ max_brackets at.depth (max p.depth (max e.depth f.depth))
  depth_moves x = refl

  -- the facts of a layer under the brackets
  shift : (y : Formula-F FormFacts Facts LinkFacts) → layer_facts (deepened_layer y) ≡ deepened n (layer_facts y)
  shift y = facts_by _ _ _ _ _ _ (sym (sort_stays y)) (ap counted (sym (nodes_stay y))) (depth_moves y)

  -- ---- trees under more brackets

  -- what is shown of a tree
  abbrev PF : Formula → Type 0
  PF t = facts_of (deeper n t) ≡ deepened n (facts_of t)

  -- what is shown of a link
  abbrev PL : Link → Type 0
  PL l = facts_of_link (deeper_link n l) ≡ deepened_link (facts_of_link l)

  -- what is shown of a form after an operand
  abbrev PA : After → Type 0
  PA f = facts_of_form (deeper_after n f) ≡ deepened_form (facts_of_form f)

  -- a map over a list whose elements have it
  each : {X Y : Type 0} (f : X → Y) (g : X → X) (h : Y → Y) (xs : List X) → AllByRecursion (λ x. f (g x) ≡ h (f x)) xs → map f (map g xs) ≡ map h (map f xs)
  each f g h [] p = refl
  each f g h (x ∷ xs) p = ap (λ y. y ∷ map f (map g xs)) p.0 ∙ ap (λ ys. h (f x) ∷ ys) (each f g h xs p.1)

  -- the same on both sides, once the parts are
  joint : (x y : Formula-F After Formula Link) (t : Formula) → roll-Formula y ≡ t → formula_deeper n (map-Formula After Formula Link After Formula Link (deeper_after n) (deeper n) (deeper_link n) x) ≡ t
      → known y ≡ deepened_layer (known x) → PF (roll-Formula x)
  joint x y t e i k =
      ap facts_of (fold-roll-Formula After Formula Link (after_deeper n) (formula_deeper n) (link_deeper n) x ∙ i ∙ sym e) ∙ facts_layer y ∙ ap layer_facts k
      ∙ shift (known x) ∙ ap (deepened n) (sym (facts_layer x))

  -- trees, from their parts
  on_formula : (x : Formula-F After Formula Link) → Below PA PF PL x → PF (roll-Formula x)
  on_formula (Formula-F.Number at k) h =
      joint (Formula-F.Number at k) (Formula-F.Number (deeper_place n at) k) (formula.Number (deeper_place n at) k) (formula.rolls-Number (deeper_place n at) k) refl
      refl
  on_formula (Formula-F.Text at x) h =
      joint (Formula-F.Text at x) (Formula-F.Text (deeper_place n at) x) (formula.Text (deeper_place n at) x) (formula.rolls-Text (deeper_place n at) x) refl
      refl
  on_formula (Formula-F.Name at x) h =
      joint (Formula-F.Name at x) (Formula-F.Name (deeper_place n at) x) (formula.Name (deeper_place n at) x) (formula.rolls-Name (deeper_place n at) x) refl
      refl
  on_formula (Formula-F.Old at x) h =
      joint (Formula-F.Old at x) (Formula-F.Old (deeper_place n at) x) (formula.Old (deeper_place n at) x) (formula.rolls-Old (deeper_place n at) x) refl
      refl
  on_formula (Formula-F.Constant at c) h =
      joint (Formula-F.Constant at c) (Formula-F.Constant (deeper_place n at) c) (formula.Constant (deeper_place n at) c) (formula.rolls-Constant (deeper_place n at) c) refl
      refl
  on_formula (Formula-F.Negative at e) h =
      joint (Formula-F.Negative at e) (Formula-F.Negative (deeper_place n at) (deeper n e)) (formula.Negative (deeper_place n at) (deeper n e)) (formula.rolls-Negative (deeper_place n at) (deeper n e)) refl
      (ap (λ (z : Facts). Formula-F.Negative (deeper_place n at) z) h)
  on_formula (Formula-F.Chain e ls) h =
      joint (Formula-F.Chain e ls) (Formula-F.Chain (deeper n e) (map (deeper_link n) ls)) (formula.Chain (deeper n e) (map (deeper_link n) ls)) (formula.rolls-Chain (deeper n e) (map (deeper_link n) ls)) refl
      (ap (λ (z : Facts). Formula-F.Chain z (map facts_of_link (map (deeper_link n) ls))) h.0 ∙ ap (λ (zs : List LinkFacts). Formula-F.Chain (deepened n (facts_of e)) zs) (each facts_of_link (deeper_link n) deepened_link ls h.1))
  on_formula (Formula-F.Row e fs) h =
      joint (Formula-F.Row e fs) (Formula-F.Row (deeper n e) (map (deeper_after n) fs)) (formula.Row (deeper n e) (map (deeper_after n) fs)) (formula.rolls-Row (deeper n e) (map (deeper_after n) fs)) refl
      (ap (λ (z : Facts). Formula-F.Row z (map facts_of_form (map (deeper_after n) fs))) h.0 ∙ ap (λ (zs : List FormFacts). Formula-F.Row (deepened n (facts_of e)) zs) (each facts_of_form (deeper_after n) deepened_form fs h.1))
  on_formula (Formula-F.Call at f us) h =
      joint (Formula-F.Call at f us) (Formula-F.Call (deeper_place n at) f (map (deeper n) us)) (formula.Call (deeper_place n at) f (map (deeper n) us)) (formula.rolls-Call (deeper_place n at) f (map (deeper n) us)) refl
      (ap (λ (zs : List Facts). Formula-F.Call (deeper_place n at) f zs) (each facts_of (deeper n) (deepened n) us h))
  on_formula (Formula-F.Set at us) h =
      joint (Formula-F.Set at us) (Formula-F.Set (deeper_place n at) (map (deeper n) us)) (formula.Set (deeper_place n at) (map (deeper n) us)) (formula.rolls-Set (deeper_place n at) (map (deeper n) us)) refl
      (ap (λ (zs : List Facts). Formula-F.Set (deeper_place n at) zs) (each facts_of (deeper n) (deepened n) us h))
  on_formula (Formula-F.Sequence at us) h =
      joint (Formula-F.Sequence at us) (Formula-F.Sequence (deeper_place n at) (map (deeper n) us)) (formula.Sequence (deeper_place n at) (map (deeper n) us)) (formula.rolls-Sequence (deeper_place n at) (map (deeper n) us)) refl
      (ap (λ (zs : List Facts). Formula-F.Sequence (deeper_place n at) zs) (each facts_of (deeper n) (deepened n) us h))
  on_formula (Formula-F.Comprehension at xs p) h =
      joint (Formula-F.Comprehension at xs p) (Formula-F.Comprehension (deeper_place n at) (map (deeper_bound n) xs) (deeper n p)) (formula.Comprehension (deeper_place n at) (map (deeper_bound n) xs) (deeper n p)) (formula.rolls-Comprehension (deeper_place n at) (map (deeper_bound n) xs) (deeper n p)) refl
      (ap (λ (z : Facts). Formula-F.Comprehension (deeper_place n at) (map (deeper_bound n) xs) z) h)
  on_formula (Formula-F.Quantified at q xs p) h =
      joint (Formula-F.Quantified at q xs p) (Formula-F.Quantified (deeper_place n at) q (map (deeper_bound n) xs) (deeper n p)) (formula.Quantified (deeper_place n at) q (map (deeper_bound n) xs) (deeper n p)) (formula.rolls-Quantified (deeper_place n at) q (map (deeper_bound n) xs) (deeper n p)) refl
      (ap (λ (z : Facts). Formula-F.Quantified (deeper_place n at) q (map (deeper_bound n) xs) z) h)
  on_formula (Formula-F.Collected at c xs p e) h =
      joint (Formula-F.Collected at c xs p e) (Formula-F.Collected (deeper_place n at) c (map (deeper_bound n) xs) (deeper n p) (deeper n e)) (formula.Collected (deeper_place n at) c (map (deeper_bound n) xs) (deeper n p) (deeper n e)) (formula.rolls-Collected (deeper_place n at) c (map (deeper_bound n) xs) (deeper n p) (deeper n e)) refl
      (ap (λ (z : Facts). Formula-F.Collected (deeper_place n at) c (map (deeper_bound n) xs) z (facts_of (deeper n e))) h.0 ∙ ap (λ (z : Facts). Formula-F.Collected (deeper_place n at) c (map (deeper_bound n) xs) (deepened n (facts_of p)) z) h.1)
  on_formula (Formula-F.If at p e f) h =
      joint (Formula-F.If at p e f) (Formula-F.If (deeper_place n at) (deeper n p) (deeper n e) (deeper n f)) (formula.If (deeper_place n at) (deeper n p) (deeper n e) (deeper n f)) (formula.rolls-If (deeper_place n at) (deeper n p) (deeper n e) (deeper n f)) refl
      (ap (λ (z : Facts). Formula-F.If (deeper_place n at) z (facts_of (deeper n e)) (facts_of (deeper n f))) h.0 ∙ ap (λ (z : Facts). Formula-F.If (deeper_place n at) (deepened n (facts_of p)) z (facts_of (deeper n f))) h.1 ∙ ap (λ (z : Facts). Formula-F.If (deeper_place n at) (deepened n (facts_of p)) (deepened n (facts_of e)) z) h.2)

  -- the like of a form after an operand
  joint_after : (x y : After-F After Formula Link) (a : After) → roll-After y ≡ a → after_deeper n (map-After After Formula Link After Formula Link (deeper_after n) (deeper n) (deeper_link n) x) ≡ a
      → form_facts (known_after y) ≡ deepened_form (form_facts (known_after x)) → PA (roll-After x)
  joint_after x y a e i k =
      ap facts_of_form (fold-roll-After After Formula Link (after_deeper n) (formula_deeper n) (link_deeper n) x ∙ i ∙ sym e) ∙ facts_after y ∙ k ∙ ap deepened_form (sym (facts_after x))

  -- forms after an operand, from their parts
  on_after : (x : After-F After Formula Link) → BelowAfter PA PF PL x → PA (roll-After x)
  on_after (After-F.Converse at) h = joint_after (After-F.Converse at) (After-F.Converse (deeper_place n at)) (after.Converse (deeper_place n at)) (after.rolls-Converse (deeper_place n at)) refl refl
  on_after (After-F.Apply at e) h =
      joint_after (After-F.Apply at e) (After-F.Apply (deeper_place n at) (deeper n e)) (after.Apply (deeper_place n at) (deeper n e)) (after.rolls-Apply (deeper_place n at) (deeper n e)) refl
      (ap (λ (z : Facts). form_facts (After-F.Apply (deeper_place n at) z)) h ∙ form_facts_by _ _ _ _ _ _ refl refl (max_brackets at.depth (facts_of e).depth))
  on_after (After-F.Image at e) h =
      joint_after (After-F.Image at e) (After-F.Image (deeper_place n at) (deeper n e)) (after.Image (deeper_place n at) (deeper n e)) (after.rolls-Image (deeper_place n at) (deeper n e)) refl
      (ap (λ (z : Facts). form_facts (After-F.Image (deeper_place n at) z)) h ∙ form_facts_by _ _ _ _ _ _ refl refl (max_brackets at.depth (facts_of e).depth))

  -- links, from their operands
  on_link : (x : Link-F After Formula Link) → BelowLink PA PF PL x → PL (roll-Link x)
  on_link x h =
      ap facts_of_link (fold-roll-Link After Formula Link (after_deeper n) (formula_deeper n) (link_deeper n) x)
      ∙ facts_link (record { operator = x.operator; at = deeper_place n x.at; operand = deeper n x.operand })
      ∙ ap (λ (z : Facts). link_facts (record { operator = x.operator; at = deeper_place n x.at; operand = z })) h
      ∙ link_facts_by _ _ _ _ _ _ _ _ refl refl refl (max_brackets x.at.depth (facts_of x.operand).depth)
      ∙ ap deepened_link (sym (facts_link x))

  -- the facts of a tree under more brackets
  pub facts_deeper : (t : Formula) → facts_of (deeper n t) ≡ deepened n (facts_of t)
  facts_deeper t = by_layers PA PF PL on_after on_formula on_link t
