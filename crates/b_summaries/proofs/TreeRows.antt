-- What is known of chains and of rows of forms.
use Rattle.std.proofs.Common.{◌≡◌, ℕ, ◌+◌, Bool, true, List, [], ◌∷◌, map, sum, Option, Some, None, refl, sym, ap, ◌∙◌, arith}
use Rattle.std.specs.Prelude.{option_map, option_and_then, max, ◌&&◌}
use Rattle.b_ast.specs.declared.Place.{Place}
use Rattle.b_ast.specs.declared.Sort.TheVariants as sort
use Rattle.b_ast.specs.declared.Operator.{Operator}
use Rattle.b_ast.specs.declared.Formula.{Formula}
use Rattle.b_ast.specs.declared.Formula.TheVariants as formula
use Rattle.b_ast.specs.declared.Link.{Link, roll-Link, fold-roll-Link}
use Rattle.b_ast.specs.declared.After.{After, roll-After, map-After, fold-roll-After}
use Rattle.b_ast.specs.declared.After.TheVariants as after
use Rattle.b_ast.specs.declared.After.TheOpen.{Formula-F, After-F}
use Rattle.b_ast.specs.Sorts as sorts
use Rattle.b_ast.specs.Sorts.{Sorted, sort_of, link_of, after_of, fits, link_fits, links_fit, all_true, operand_sort, chain_sort}
use Rattle.b_expand.specs.Places.{node_total, nodes_of_link, nodes_of_after, deepest, depth_of_link, depth_of_after, after_nodes, formula_nodes, link_nodes, after_depth, formula_depth, link_depth, greatest}
use Rattle.b_expand.specs.Expansion.{both, all_of}
use Rattle.b_summaries.specs.declared.summary.Size.{Size}
use Rattle.b_summaries.specs.Sizes.{counted, plus, together, size_of, facts_of, known}
use Rattle.b_summaries.specs.Values.{facts_from}
use Rattle.b_summaries.specs.Summaries.{node}
use Rattle.b_summaries.proofs.Sums.{size_by}
use Rattle.b_summaries.proofs.Trees.{given_facts, given_size, given_map, given_formed, two_tests, adding, placing, adding_tree, adding_none, place_tree, adds, every, sizes, none_added, all_added, sizes_sum, links_every, true_every}
use Rattle.b_summaries.proofs.TreeLayers.{facts_layer}

-- ---- links

-- the size of a link
abbrev pub link_size : Link → Size
link_size k = record { nodes = counted (nodes_of_link k); depth = Some (depth_of_link k) }

-- with one more link
abbrev pub add_link : Option Link → Option Size → Option Size
add_link None z = None
add_link (Some k) z = together z (given_size (link_fits (link_of k)) (link_size k))

-- a link of an operator at a place
abbrev pub link_at : Operator → Place → Formula → Link
link_at o at e = roll-Link (record { operator = o; at = at; operand = e })

link_sort : (o : Operator) (at : Place) (e : Formula) → link_of (link_at o at e) ≡ (o, sort_of e)
link_sort o at e = fold-roll-Link Bool Sorted (Operator × Sorted) sorts.after_step sorts.formula_step sorts.link_step (record { operator = o; at = at; operand = e })

link_size_at : (o : Operator) (at : Place) (e : Formula) → link_size (link_at o at e) ≡ record { nodes = counted (node_total e); depth = Some (max at.depth (deepest e)) }
link_size_at o at e =
    size_by _ _ _ _ (ap counted (fold-roll-Link ℕ ℕ ℕ after_nodes formula_nodes link_nodes (record { operator = o; at = at; operand = e })))
    (ap (λ (n : ℕ). Some n) (fold-roll-Link ℕ ℕ ℕ after_depth formula_depth link_depth (record { operator = o; at = at; operand = e })))

-- a place and an operand are a link
pub side_added : (o : Operator) (at : Place) (e : Option Formula) (z : Option Size) → adding (operand_sort o) e (placing at.depth z) ≡ add_link (option_map (link_at o at) e) z
side_added o at None z = adding_none (operand_sort o) (placing at.depth z)
side_added o at (Some e) None = refl
side_added o at (Some e) (Some z) =
    place_tree (operand_sort o) e at.depth true z
    ∙ sym (two_tests true (link_fits (link_of (link_at o at e))) z (link_size (link_at o at e))
    ∙ (ap (λ (l : Operator × Sorted). given_size (link_fits l) (plus z (link_size (link_at o at e)))) (link_sort o at e)
    ∙ ap (λ y. given_size (fits (operand_sort o) (sort_of e)) (plus z y)) (link_size_at o at e)))

link_missing : (k : Option Link) → add_link k None ≡ None
link_missing None = refl
link_missing (Some k) = refl

-- the first operand
first_size : (e : Formula) → plus node (size_of e) ≡ record { nodes = counted (1 + node_total e); depth = Some (deepest e) }
first_size e = size_by _ _ _ _ (omega arith) refl

abbrev chain_size : Formula → List Link → Size
chain_size e ks = record { nodes = counted (1 + (node_total e + sum (map nodes_of_link ks))); depth = Some (greatest (deepest e) (map depth_of_link ks)) }

-- all links after the first operand
links_sum : (e : Formula) (ks : List Link) → sizes link_size (plus node (size_of e)) ks ≡ chain_size e ks
links_sum e ks =
    ap (λ z. sizes link_size z ks) (first_size e) ∙ (sizes_sum nodes_of_link depth_of_link ks (1 + node_total e) (deepest e) ∙ size_by _ _ _ _ (omega arith) refl)

chain_facts : (o : Operator) (at : Place) (e f : Formula) (ks : List Link)
    → facts_of (formula.Chain e (link_at o at f ∷ ks)) ≡ given_facts (fits (operand_sort o) (sort_of e) && every (λ k. link_fits (link_of k)) (link_at o at f ∷ ks)) (chain_sort o) (chain_size e (link_at o at f ∷ ks))
chain_facts o at e f ks =
    facts_layer (formula.Chain e (link_at o at f ∷ ks)) (Formula-F.Chain e (link_at o at f ∷ ks)) (formula.rolls-Chain e (link_at o at f ∷ ks))
    ∙ (given_map (fits (operand_sort (link_of (link_at o at f)).0) (sort_of e) && links_fit (map link_of (link_at o at f ∷ ks))) (chain_sort (link_of (link_at o at f)).0) (chain_size e (link_at o at f ∷ ks))
    ∙ (ap (λ (l : Operator × Sorted). given_facts (fits (operand_sort l.0) (sort_of e) && links_fit (map link_of (link_at o at f ∷ ks))) (chain_sort l.0) (chain_size e (link_at o at f ∷ ks))) (link_sort o at f)
    ∙ ap (λ b. given_facts (fits (operand_sort o) (sort_of e) && b) (chain_sort o) (chain_size e (link_at o at f ∷ ks))) (links_every link_of (link_at o at f ∷ ks))))

-- a chain of no links has no sort
pub no_links : (e : Formula) → None ≡ facts_of (formula.Chain e [])
no_links e = sym (facts_layer (formula.Chain e []) (Formula-F.Chain e []) (formula.rolls-Chain e []))

-- the size of the operands, where they are what the operators ask for
abbrev chain_result : Operator → Formula → List Link → Option Size
chain_result o e ks = given_size (fits (operand_sort o) (sort_of e) && every (λ k. link_fits (link_of k)) ks) (sizes link_size (plus node (size_of e)) ks)

-- what is known of a chain
pub known-Chain : (o : Operator) (at : Place) (e f : Option Formula) (ks : List (Option Link))
    → known (both formula.Chain e (all_of (option_map (link_at o at) f ∷ ks))) ≡ option_map (facts_from (chain_sort o)) (adds add_link (option_map (link_at o at) f ∷ ks) (adding (operand_sort o) e (Some node)))
known-Chain o at None f ks =
    sym (ap (option_map (facts_from (chain_sort o)))
    (none_added (λ k. link_fits (link_of k)) link_size add_link (λ z. refl) link_missing (λ k b z. two_tests b (link_fits (link_of k)) z (link_size k)) (option_map (link_at o at) f ∷ ks)))
known-Chain o at (Some e) f ks =
    let a : Bool = fits (operand_sort o) (sort_of e) in
    go f (all_of ks) refl
    ∙ sym (ap (option_map (facts_from (chain_sort o)))
    (ap (adds add_link (option_map (link_at o at) f ∷ ks)) (adding_tree (operand_sort o) e true node)
    ∙ all_added (λ k. link_fits (link_of k)) link_size add_link (λ z. refl) link_missing (λ k b z. two_tests b (link_fits (link_of k)) z (link_size k)) (option_map (link_at o at) f ∷ ks) a (plus node (size_of e))))
  where
    go : (f : Option Formula) (w : Option (List Link)) → all_of ks ≡ w
        → known (both formula.Chain (Some e) (both (λ x xs. x ∷ xs) (option_map (link_at o at) f) w)) ≡ option_map (facts_from (chain_sort o)) (option_and_then (chain_result o e) (both (λ x xs. x ∷ xs) (option_map (link_at o at) f) w))
    go None w i = refl
    go (Some f) None i = refl
    go (Some f) (Some ks) i =
        chain_facts o at e f ks
        ∙ (ap (given_facts (fits (operand_sort o) (sort_of e) && every (λ k. link_fits (link_of k)) (link_at o at f ∷ ks)) (chain_sort o)) (sym (links_sum e (link_at o at f ∷ ks)))
        ∙ sym (given_formed (fits (operand_sort o) (sort_of e) && every (λ k. link_fits (link_of k)) (link_at o at f ∷ ks)) (chain_sort o) (sizes link_size (plus node (size_of e)) (link_at o at f ∷ ks))))

-- ---- forms after an operand

-- the size of a form
abbrev pub form_size : After → Size
form_size f = record { nodes = counted (nodes_of_after f); depth = Some (depth_of_after f) }

-- with one more form
abbrev pub add_form : Option After → Option Size → Option Size
add_form None z = None
add_form (Some f) z = together z (given_size (after_of f) (form_size f))

form_fits : (f : After) (x : After-F After Formula Link) → roll-After x ≡ f → after_of f ≡ sorts.after_step (map-After After Formula Link Bool Sorted (Operator × Sorted) after_of sort_of link_of x)
form_fits f x h = sym (ap after_of h) ∙ fold-roll-After Bool Sorted (Operator × Sorted) sorts.after_step sorts.formula_step sorts.link_step x

form_nodes : (f : After) (x : After-F After Formula Link) → roll-After x ≡ f → nodes_of_after f ≡ after_nodes (map-After After Formula Link ℕ ℕ ℕ nodes_of_after node_total nodes_of_link x)
form_nodes f x h = sym (ap nodes_of_after h) ∙ fold-roll-After ℕ ℕ ℕ after_nodes formula_nodes link_nodes x

form_depth : (f : After) (x : After-F After Formula Link) → roll-After x ≡ f → depth_of_after f ≡ after_depth (map-After After Formula Link ℕ ℕ ℕ depth_of_after deepest depth_of_link x)
form_depth f x h = sym (ap depth_of_after h) ∙ fold-roll-After ℕ ℕ ℕ after_depth formula_depth link_depth x

-- a place is `~`
pub converse_added : (at : Place) (z : Option Size) → placing at.depth z ≡ add_form (Some (after.Converse at)) z
converse_added at z =
    let x : After-F After Formula Link = After-F.Converse at in
    sym (ap (λ b. together z (given_size b (form_size (after.Converse at)))) (form_fits (after.Converse at) x (after.rolls-Converse at))
    ∙ ap (λ y. together z (Some y)) (size_by _ _ _ _ (ap counted (form_nodes (after.Converse at) x (after.rolls-Converse at))) (ap (λ (n : ℕ). Some n) (form_depth (after.Converse at) x (after.rolls-Converse at)))))

-- a form that is a place and an argument
abbrev IsForm : ℕ → (Formula → After) → Type 0
IsForm d c = (e : Formula) → (after_of (c e) ≡ fits sort.Expression (sort_of e)) × (nodes_of_after (c e) ≡ node_total e) × (depth_of_after (c e) ≡ max d (deepest e))

argument_added : (d : ℕ) (c : Formula → After) → IsForm d c → (o : Option Formula) (z : Option Size) → adding sort.Expression o (placing d z) ≡ add_form (option_map c o) z
argument_added d c h None z = adding_none sort.Expression (placing d z)
argument_added d c h (Some e) None = refl
argument_added d c h (Some e) (Some z) =
    place_tree sort.Expression e d true z
    ∙ sym (two_tests true (after_of (c e)) z (form_size (c e))
    ∙ (ap (λ b. given_size b (plus z (form_size (c e)))) (h e).0
    ∙ ap (λ y. given_size (fits sort.Expression (sort_of e)) (plus z y)) (size_by _ _ _ _ (ap counted (h e).1) (ap (λ (n : ℕ). Some n) (h e).2))))

pub apply_added : (at : Place) (o : Option Formula) (z : Option Size) → adding sort.Expression o (placing at.depth z) ≡ add_form (option_map (after.Apply at) o) z
apply_added at =
    argument_added at.depth (after.Apply at) (λ e.
    (form_fits (after.Apply at e) (After-F.Apply at e) (after.rolls-Apply at e), form_nodes (after.Apply at e) (After-F.Apply at e) (after.rolls-Apply at e), form_depth (after.Apply at e) (After-F.Apply at e) (after.rolls-Apply at e)))

pub image_added : (at : Place) (o : Option Formula) (z : Option Size) → adding sort.Expression o (placing at.depth z) ≡ add_form (option_map (after.Image at) o) z
image_added at =
    argument_added at.depth (after.Image at) (λ e.
    (form_fits (after.Image at e) (After-F.Image at e) (after.rolls-Image at e), form_nodes (after.Image at e) (After-F.Image at e) (after.rolls-Image at e), form_depth (after.Image at e) (After-F.Image at e) (after.rolls-Image at e)))

form_missing : (f : Option After) → add_form f None ≡ None
form_missing None = refl
form_missing (Some f) = refl

abbrev row_size : Formula → List After → Size
row_size e fs = record { nodes = counted (1 + (node_total e + sum (map nodes_of_after fs))); depth = Some (greatest (deepest e) (map depth_of_after fs)) }

forms_sum : (e : Formula) (fs : List After) → sizes form_size (plus node (size_of e)) fs ≡ row_size e fs
forms_sum e fs =
    ap (λ z. sizes form_size z fs) (first_size e) ∙ (sizes_sum nodes_of_after depth_of_after fs (1 + node_total e) (deepest e) ∙ size_by _ _ _ _ (omega arith) refl)

row_facts : (e : Formula) (fs : List After) → facts_of (formula.Row e fs) ≡ given_facts (fits sort.Expression (sort_of e) && every after_of fs) sort.Expression (row_size e fs)
row_facts e fs =
    facts_layer (formula.Row e fs) (Formula-F.Row e fs) (formula.rolls-Row e fs)
    ∙ (given_map (fits sort.Expression (sort_of e) && all_true (map after_of fs)) sort.Expression (row_size e fs)
    ∙ ap (λ b. given_facts (fits sort.Expression (sort_of e) && b) sort.Expression (row_size e fs)) (true_every after_of fs))

-- the size of an operand and its forms, where they have expressions in them
abbrev row_result : Formula → List After → Option Size
row_result e fs = given_size (fits sort.Expression (sort_of e) && every after_of fs) (sizes form_size (plus node (size_of e)) fs)

-- what is known of an operand with forms after it
pub known-Row : (e : Option Formula) (fs : List (Option After)) → known (both formula.Row e (all_of fs)) ≡ option_map (facts_from sort.Expression) (adds add_form fs (adding sort.Expression e (Some node)))
known-Row None fs = sym (ap (option_map (facts_from sort.Expression)) (none_added after_of form_size add_form (λ z. refl) form_missing (λ f b z. two_tests b (after_of f) z (form_size f)) fs))
known-Row (Some e) fs =
    go (all_of fs)
    ∙ sym (ap (option_map (facts_from sort.Expression))
    (ap (adds add_form fs) (adding_tree sort.Expression e true node)
    ∙ all_added after_of form_size add_form (λ z. refl) form_missing (λ f b z. two_tests b (after_of f) z (form_size f)) fs (fits sort.Expression (sort_of e)) (plus node (size_of e))))
  where
    go : (w : Option (List After)) → known (both formula.Row (Some e) w) ≡ option_map (facts_from sort.Expression) (option_and_then (row_result e) w)
    go None = refl
    go (Some fs) =
        row_facts e fs
        ∙ (ap (given_facts (fits sort.Expression (sort_of e) && every after_of fs) sort.Expression) (sym (forms_sum e fs))
        ∙ sym (given_formed (fits sort.Expression (sort_of e) && every after_of fs) sort.Expression (sizes form_size (plus node (size_of e)) fs)))
