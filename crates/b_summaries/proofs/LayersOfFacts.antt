-- The facts of a tree from those of its parts.
use Rattle.std.proofs.Common.{◌≡◌, ℕ, ◌+◌, Bool, List, [], ◌∷◌, map, sum, refl, sym, ap, ◌∙◌, arith}
use Rattle.std.specs.Prelude.{min}
use Rattle.std.proofs.lemmas.List.Sums.{sum_by-cons}
use Rattle.b_ast.specs.declared.Operator.{Operator}
use Rattle.b_ast.specs.declared.Formula.{Formula, roll-Formula, map-Formula, fold-roll-Formula}
use Rattle.b_ast.specs.declared.Link.{Link, roll-Link, map-Link, fold-roll-Link}
use Rattle.b_ast.specs.declared.After.{After, roll-After, map-After, fold-roll-After}
use Rattle.b_ast.specs.declared.After.TheOpen.{Formula-F, Link-F, After-F}
use Rattle.b_ast.specs.Sorts as sorts
use Rattle.b_ast.specs.Sorts.{Sorted, sort_of, link_of, after_of}
use Rattle.b_expand.specs.Places.{node_total, nodes_of_link, nodes_of_after, deepest, depth_of_link, depth_of_after, after_nodes, formula_nodes, link_nodes, after_depth, formula_depth, link_depth}
use Rattle.b_summaries.specs.Sizes.{counted}
use Rattle.b_summaries.proofs.LayerFacts.{Facts, LinkFacts, FormFacts, facts_of, facts_of_link, facts_of_form, layer_sort, layer_nodes, layer_depth, layer_facts, form_facts, link_facts}

-- a map after a map
pub map_after : {X Y Z : Type 0} (f : X → Z) (g : Y → Z) (h : X → Y) → ((x : X) → f x ≡ g (h x)) → (xs : List X) → map f xs ≡ map g (map h xs)
map_after f g h e [] = refl
map_after f g h e (x ∷ xs) = ap (λ z. z ∷ map f xs) (e x) ∙ ap (λ zs. g (h x) ∷ zs) (map_after f g h e xs)

-- facts with equal parts are equal
pub facts_by : (s t : Sorted) (m n c d : ℕ) → s ≡ t → m ≡ n → c ≡ d → ◌≡◌ {A = Facts} (record { sort = s; nodes = m; depth = c }) (record { sort = t; nodes = n; depth = d })
facts_by s t m n c d e f g = cc

-- the like of a form after an operand
pub form_facts_by : (s t : Bool) (m n c d : ℕ) → s ≡ t → m ≡ n → c ≡ d → ◌≡◌ {A = FormFacts} (record { fits = s; nodes = m; depth = c }) (record { fits = t; nodes = n; depth = d })
form_facts_by s t m n c d e f g = cc

-- the like of a link
pub link_facts_by : (o p : Operator) (s t : Sorted) (m n c d : ℕ) → o ≡ p → s ≡ t → m ≡ n → c ≡ d → ◌≡◌ {A = LinkFacts} (record { operator = o; sort = s; nodes = m; depth = c }) (record { operator = p; sort = t; nodes = n; depth = d })
link_facts_by o p s t m n c d e f g h = cc

-- ---- counting up to a limit

module _ (k : ℕ) where
  -- numbers that aren't told apart have sums that aren't
  add_limited : (a b c d : ℕ) → min k a ≡ min k b → min k c ≡ min k d → min k (a + c) ≡ min k (b + d)
  add_limited a b c d e f = omega arith

  -- a limited number is limited once more
  limited_twice : (n : ℕ) → min k n ≡ min k (min k n)
  limited_twice n = omega arith

  -- a sum with one more number
  sum-more : (n : ℕ) (ns : List ℕ) → sum (n ∷ ns) ≡ n + sum ns
  sum-more n ns = sum_by-cons (λ n. n) n ns

  -- sums of limited numbers
  limited_sums : {X Y : Type 0} (f : X → ℕ) (g : Y → ℕ) (h : X → Y) → ((x : X) → g (h x) ≡ min k (f x)) → (xs : List X) → min k (sum (map f xs)) ≡ min k (sum (map g (map h xs)))
  limited_sums f g h e [] = refl
  limited_sums f g h e (x ∷ xs) =
      rw (sum-more (f x) (map f xs), sum-more (g (h x)) (map g (map h xs)))
      (add_limited (f x) (g (h x)) (sum (map f xs)) (sum (map g (map h xs))) (limited_twice (f x) ∙ ap (min k) (sym (e x))) (limited_sums f g h e xs))

  -- one more on both sides
  one_more : (m n : ℕ) → min k m ≡ min k n → min k (1 + m) ≡ min k (1 + n)
  one_more m n e = add_limited 1 1 m n refl e

  -- a number before a sum may be limited or not
  with_first : (m : ℕ) (c d : ℕ) → min k c ≡ min k d → min k (m + c) ≡ min k (min k m + d)
  with_first m c d e = add_limited m (min k m) c d (limited_twice m) e

-- ---- layers

-- the facts of a layer's parts
abbrev pub known : Formula-F After Formula Link → Formula-F FormFacts Facts LinkFacts
known = map-Formula After Formula Link FormFacts Facts LinkFacts facts_of_form facts_of facts_of_link

-- the like of a form after an operand
abbrev pub known_after : After-F After Formula Link → After-F FormFacts Facts LinkFacts
known_after = map-After After Formula Link FormFacts Facts LinkFacts facts_of_form facts_of facts_of_link

-- the like of a link
abbrev pub known_link : Link-F After Formula Link → Link-F FormFacts Facts LinkFacts
known_link = map-Link After Formula Link FormFacts Facts LinkFacts facts_of_form facts_of facts_of_link

-- a layer's sort, from the facts of its parts
sort_layer : (x : Formula-F After Formula Link) → sorts.formula_step (map-Formula After Formula Link Bool Sorted (Operator × Sorted) after_of sort_of link_of x) ≡ layer_sort (known x)
sort_layer (Formula-F.Chain e ls) = ap (λ (zs : List (Operator × Sorted)). sorts.formula_step (Formula-F.Chain (sort_of e) zs)) (map_after link_of (λ (l : LinkFacts). (l.operator, l.sort)) facts_of_link (λ l. refl) ls)
sort_layer (Formula-F.Row e fs) = ap (λ (zs : List Bool). sorts.formula_step (Formula-F.Row (sort_of e) zs)) (map_after after_of (λ (f : FormFacts). f.fits) facts_of_form (λ f. refl) fs)
sort_layer (Formula-F.Call at f us) = ap (λ (zs : List Sorted). sorts.formula_step (Formula-F.Call at f zs)) (map_after sort_of (λ (e : Facts). e.sort) facts_of (λ e. refl) us)
sort_layer (Formula-F.Set at us) = ap (λ (zs : List Sorted). sorts.formula_step (Formula-F.Set at zs)) (map_after sort_of (λ (e : Facts). e.sort) facts_of (λ e. refl) us)
sort_layer (Formula-F.Sequence at us) = ap (λ (zs : List Sorted). sorts.formula_step (Formula-F.Sequence at zs)) (map_after sort_of (λ (e : Facts). e.sort) facts_of (λ e. refl) us)
sort_layer x = refl

-- a layer's depth
depth_layer : (x : Formula-F After Formula Link) → formula_depth (map-Formula After Formula Link ℕ ℕ ℕ depth_of_after deepest depth_of_link x) ≡ layer_depth (known x)
depth_layer (Formula-F.Chain e ls) = ap (λ (zs : List ℕ). formula_depth (Formula-F.Chain (deepest e) zs)) (map_after depth_of_link (λ (l : LinkFacts). l.depth) facts_of_link (λ l. refl) ls)
depth_layer (Formula-F.Row e fs) = ap (λ (zs : List ℕ). formula_depth (Formula-F.Row (deepest e) zs)) (map_after depth_of_after (λ (f : FormFacts). f.depth) facts_of_form (λ f. refl) fs)
depth_layer (Formula-F.Call at f us) = ap (λ (zs : List ℕ). formula_depth (Formula-F.Call at f zs)) (map_after deepest (λ (e : Facts). e.depth) facts_of (λ e. refl) us)
depth_layer (Formula-F.Set at us) = ap (λ (zs : List ℕ). formula_depth (Formula-F.Set at zs)) (map_after deepest (λ (e : Facts). e.depth) facts_of (λ e. refl) us)
depth_layer (Formula-F.Sequence at us) = ap (λ (zs : List ℕ). formula_depth (Formula-F.Sequence at zs)) (map_after deepest (λ (e : Facts). e.depth) facts_of (λ e. refl) us)
depth_layer x = refl

-- the nodes of links
link_sums : (ls : List Link) → counted (sum (map nodes_of_link ls)) ≡ counted (sum (map (λ (l : LinkFacts). l.nodes) (map facts_of_link ls)))
link_sums ls = limited_sums 1000001 nodes_of_link (λ (l : LinkFacts). l.nodes) facts_of_link (λ l. refl) ls

-- the nodes of forms after an operand
form_sums : (fs : List After) → counted (sum (map nodes_of_after fs)) ≡ counted (sum (map (λ (f : FormFacts). f.nodes) (map facts_of_form fs)))
form_sums fs = limited_sums 1000001 nodes_of_after (λ (f : FormFacts). f.nodes) facts_of_form (λ f. refl) fs

-- the nodes of trees
tree_sums : (us : List Formula) → counted (sum (map node_total us)) ≡ counted (sum (map (λ (e : Facts). e.nodes) (map facts_of us)))
tree_sums us = limited_sums 1000001 node_total (λ (e : Facts). e.nodes) facts_of (λ e. refl) us

-- a layer's nodes
nodes_layer : (x : Formula-F After Formula Link) → counted (formula_nodes (map-Formula After Formula Link ℕ ℕ ℕ nodes_of_after node_total nodes_of_link x)) ≡ counted (layer_nodes (known x))
nodes_layer (Formula-F.Negative at e) = one_more 1000001 (node_total e) (counted (node_total e)) (limited_twice 1000001 (node_total e))
nodes_layer (Formula-F.Chain e ls) = one_more 1000001 _ _ (with_first 1000001 (node_total e) _ _ (link_sums ls))
nodes_layer (Formula-F.Row e fs) = one_more 1000001 _ _ (with_first 1000001 (node_total e) _ _ (form_sums fs))
nodes_layer (Formula-F.Call at f us) = one_more 1000001 _ _ (tree_sums us)
nodes_layer (Formula-F.Set at us) = one_more 1000001 _ _ (tree_sums us)
nodes_layer (Formula-F.Sequence at us) = one_more 1000001 _ _ (tree_sums us)
nodes_layer (Formula-F.Comprehension at ns p) = one_more 1000001 (node_total p) (counted (node_total p)) (limited_twice 1000001 (node_total p))
nodes_layer (Formula-F.Quantified at q ns p) = one_more 1000001 (node_total p) (counted (node_total p)) (limited_twice 1000001 (node_total p))
nodes_layer (Formula-F.Collected at c ns p e) = one_more 1000001 _ _ (with_first 1000001 (node_total p) (node_total e) (counted (node_total e)) (limited_twice 1000001 (node_total e)))
nodes_layer (Formula-F.If at p e f) = one_more 1000001 _ _ (with_first 1000001 (node_total p) _ _ (with_first 1000001 (node_total e) (node_total f) (counted (node_total f)) (limited_twice 1000001 (node_total f))))
nodes_layer x = refl

-- the facts of a layer
pub facts_layer : (x : Formula-F After Formula Link) → facts_of (roll-Formula x) ≡ layer_facts (known x)
facts_layer x =
    facts_by _ _ _ _ _ _
    (fold-roll-Formula Bool Sorted (Operator × Sorted) sorts.after_step sorts.formula_step sorts.link_step x ∙ sort_layer x)
    (ap counted (fold-roll-Formula ℕ ℕ ℕ after_nodes formula_nodes link_nodes x) ∙ nodes_layer x)
    (fold-roll-Formula ℕ ℕ ℕ after_depth formula_depth link_depth x ∙ depth_layer x)

-- the facts of a form after an operand
pub facts_after : (x : After-F After Formula Link) → facts_of_form (roll-After x) ≡ form_facts (known_after x)
facts_after x =
    form_facts_by _ _ _ _ _ _
    (fold-roll-After Bool Sorted (Operator × Sorted) sorts.after_step sorts.formula_step sorts.link_step x)
    (ap counted (fold-roll-After ℕ ℕ ℕ after_nodes formula_nodes link_nodes x))
    (fold-roll-After ℕ ℕ ℕ after_depth formula_depth link_depth x)
    ∙ by_form x
  where
    by_form : (x : After-F After Formula Link)
        → ◌≡◌ {A = FormFacts} (record { fits = sorts.after_step (map-After After Formula Link Bool Sorted (Operator × Sorted) after_of sort_of link_of x); nodes = counted (after_nodes (map-After After Formula Link ℕ ℕ ℕ nodes_of_after node_total nodes_of_link x)); depth = after_depth (map-After After Formula Link ℕ ℕ ℕ depth_of_after deepest depth_of_link x) })
        (form_facts (known_after x))
    by_form (After-F.Converse at) = refl
    by_form x = refl

-- the facts of a link
pub facts_link : (x : Link-F After Formula Link) → facts_of_link (roll-Link x) ≡ link_facts (known_link x)
facts_link x =
    link_facts_by _ _ _ _ _ _ _ _
    (ap (λ (l : Operator × Sorted). l.0) (fold-roll-Link Bool Sorted (Operator × Sorted) sorts.after_step sorts.formula_step sorts.link_step x))
    (ap (λ (l : Operator × Sorted). l.1) (fold-roll-Link Bool Sorted (Operator × Sorted) sorts.after_step sorts.formula_step sorts.link_step x))
    (ap counted (fold-roll-Link ℕ ℕ ℕ after_nodes formula_nodes link_nodes x))
    (fold-roll-Link ℕ ℕ ℕ after_depth formula_depth link_depth x)
