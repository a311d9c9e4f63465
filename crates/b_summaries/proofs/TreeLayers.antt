-- What is known of each form of tree from what is known of its parts.
use Rattle.std.proofs.Common.{◌≡◌, ℕ, ◌+◌, Bool, true, List, map, sum, Option, Some, None, refl, sym, ap, ◌∙◌, arith}
use Rattle.std.specs.Prelude.{option_map, option_and_then, max, ◌&&◌}
use Rattle.b_ast.specs.declared.Place.{Place}
use Rattle.b_ast.specs.declared.Bound.{Bound}
use Rattle.b_ast.specs.declared.Sort.{Sort}
use Rattle.b_ast.specs.declared.Sort.TheVariants as sort
use Rattle.b_ast.specs.declared.Constant.{Constant}
use Rattle.b_ast.specs.declared.Function.{Function}
use Rattle.b_ast.specs.declared.Quantifier.{Quantifier}
use Rattle.b_ast.specs.declared.Collector.{Collector}
use Rattle.b_ast.specs.declared.Operator.{Operator}
use Rattle.b_ast.specs.declared.Formula.{Formula, roll-Formula, map-Formula, fold-roll-Formula}
use Rattle.b_ast.specs.declared.Formula.TheVariants as formula
use Rattle.b_ast.specs.declared.Link.{Link}
use Rattle.b_ast.specs.declared.After.{After}
use Rattle.b_ast.specs.declared.After.TheOpen.{Formula-F}
use Rattle.b_ast.specs.Sorts as sorts
use Rattle.b_ast.specs.Sorts.{Sorted, sort_of, link_of, after_of, fits, given, all_fit, links_fit, all_true, operand_sort, chain_sort, chain_sorted, argument_sort, call_sort, body_sort}
use Rattle.b_expand.specs.Places.{node_total, nodes_of_link, nodes_of_after, deepest, depth_of_link, depth_of_after, after_nodes, formula_nodes, link_nodes, after_depth, formula_depth, link_depth, greatest, names_depth}
use Rattle.b_expand.specs.Expansion.{both, all_of, all_three}
use Rattle.b_summaries.specs.declared.summary.Size.{Size}
use Rattle.b_summaries.specs.declared.summary.Facts.{Facts}
use Rattle.b_summaries.specs.Sizes.{counted, plus, size_of, facts_of, known}
use Rattle.b_summaries.specs.Values.{facts_from}
use Rattle.b_summaries.specs.Making.{place_size}
use Rattle.b_summaries.proofs.Sums.{size_by}
use Rattle.b_summaries.proofs.Trees.{given_facts, given_size, given_map, given_formed, adding, adding_tree, adding_none, adds, every, sizes, all_added, sizes_sum, fit_every, and_assoc}

-- ---- the facts of a layer

abbrev pub sorts_in : Formula-F After Formula Link → Formula-F Bool Sorted (Operator × Sorted)
sorts_in = map-Formula After Formula Link Bool Sorted (Operator × Sorted) after_of sort_of link_of

abbrev pub nodes_in : Formula-F After Formula Link → Formula-F ℕ ℕ ℕ
nodes_in = map-Formula After Formula Link ℕ ℕ ℕ nodes_of_after node_total nodes_of_link

abbrev pub depths_in : Formula-F After Formula Link → Formula-F ℕ ℕ ℕ
depths_in = map-Formula After Formula Link ℕ ℕ ℕ depth_of_after deepest depth_of_link

abbrev pub layer : Sorted → ℕ → ℕ → Option Facts
layer s n d = option_map (λ s. facts_from s (record { nodes = counted n; depth = Some d })) s

-- a tree has the facts of its layer
pub facts_layer : (t : Formula) (x : Formula-F After Formula Link) → roll-Formula x ≡ t → facts_of t ≡ layer (sorts.formula_step (sorts_in x)) (formula_nodes (nodes_in x)) (formula_depth (depths_in x))
facts_layer t x h =
    sym (ap facts_of h)
    ∙ (ap (λ s. layer s (node_total (roll-Formula x)) (deepest (roll-Formula x))) (fold-roll-Formula Bool Sorted (Operator × Sorted) sorts.after_step sorts.formula_step sorts.link_step x)
    ∙ (ap (λ n. layer (sorts.formula_step (sorts_in x)) n (deepest (roll-Formula x))) (fold-roll-Formula ℕ ℕ ℕ after_nodes formula_nodes link_nodes x)
    ∙ ap (λ d. layer (sorts.formula_step (sorts_in x)) (formula_nodes (nodes_in x)) d) (fold-roll-Formula ℕ ℕ ℕ after_depth formula_depth link_depth x)))

-- ---- leaves

abbrev pub leaf_facts : ℕ → Option Facts
leaf_facts d = Some (facts_from sort.Expression (place_size 1 d))

pub facts-Number : (at : Place) (n : ℕ) → facts_of (formula.Number at n) ≡ leaf_facts at.depth
facts-Number at n = facts_layer (formula.Number at n) (Formula-F.Number at n) (formula.rolls-Number at n)

pub facts-Text : (at : Place) (x : List ℕ) → facts_of (formula.Text at x) ≡ leaf_facts at.depth
facts-Text at x = facts_layer (formula.Text at x) (Formula-F.Text at x) (formula.rolls-Text at x)

pub facts-Name : (at : Place) (x : List ℕ) → facts_of (formula.Name at x) ≡ leaf_facts at.depth
facts-Name at x = facts_layer (formula.Name at x) (Formula-F.Name at x) (formula.rolls-Name at x)

pub facts-Old : (at : Place) (x : List ℕ) → facts_of (formula.Old at x) ≡ leaf_facts at.depth
facts-Old at x = facts_layer (formula.Old at x) (Formula-F.Old at x) (formula.rolls-Old at x)

pub facts-Constant : (at : Place) (c : Constant) → facts_of (formula.Constant at c) ≡ leaf_facts at.depth
facts-Constant at c = facts_layer (formula.Constant at c) (Formula-F.Constant at c) (formula.rolls-Constant at c)

-- ---- one tree

-- a tree of a sort round one of another
abbrev IsRound : Sort → Sort → ℕ → (Formula → Formula) → Type 0
IsRound w s d c = (e : Formula) → facts_of (c e) ≡ given_facts (fits w (sort_of e)) s (record { nodes = counted (1 + node_total e); depth = Some (max d (deepest e)) })

one_tree : (w s : Sort) (d : ℕ) (c : Formula → Formula) → IsRound w s d c → (o : Option Formula) → known (option_map c o) ≡ option_map (facts_from s) (adding w o (Some (place_size 1 d)))
one_tree w s d c h None = refl
one_tree w s d c h (Some e) =
    h e
    ∙ sym (ap (option_map (facts_from s)) (adding_tree w e true (place_size 1 d) ∙ ap (given_size (fits w (sort_of e))) (size_by _ _ _ _ (omega arith) refl))
    ∙ given_formed (fits w (sort_of e)) s (record { nodes = counted (1 + node_total e); depth = Some (max d (deepest e)) }))

pub known-Negative : (at : Place) (o : Option Formula) → known (option_map (formula.Negative at) o) ≡ option_map (facts_from sort.Expression) (adding sort.Expression o (Some (place_size 1 at.depth)))
known-Negative at =
    one_tree sort.Expression sort.Expression at.depth (formula.Negative at) (λ e.
    facts_layer (formula.Negative at e) (Formula-F.Negative at e) (formula.rolls-Negative at e) ∙ given_map (fits sort.Expression (sort_of e)) sort.Expression (record { nodes = counted (1 + node_total e); depth = Some (max at.depth (deepest e)) }))

pub known-Comprehension : (at : Place) (xs : List Bound) (o : Option Formula) → known (option_map (formula.Comprehension at xs) o) ≡ option_map (facts_from sort.Expression) (adding sort.Predicate o (Some (place_size 1 (names_depth at xs))))
known-Comprehension at xs =
    one_tree sort.Predicate sort.Expression (names_depth at xs) (formula.Comprehension at xs) (λ e.
    facts_layer (formula.Comprehension at xs e) (Formula-F.Comprehension at xs e) (formula.rolls-Comprehension at xs e) ∙ given_map (fits sort.Predicate (sort_of e)) sort.Expression (record { nodes = counted (1 + node_total e); depth = Some (max (names_depth at xs) (deepest e)) }))

pub known-Quantified : (at : Place) (q : Quantifier) (xs : List Bound) (o : Option Formula) → known (option_map (formula.Quantified at q xs) o) ≡ option_map (facts_from sort.Predicate) (adding (body_sort q) o (Some (place_size 1 (names_depth at xs))))
known-Quantified at q xs =
    one_tree (body_sort q) sort.Predicate (names_depth at xs) (formula.Quantified at q xs) (λ e.
    facts_layer (formula.Quantified at q xs e) (Formula-F.Quantified at q xs e) (formula.rolls-Quantified at q xs e) ∙ given_map (fits (body_sort q) (sort_of e)) sort.Predicate (record { nodes = counted (1 + node_total e); depth = Some (max (names_depth at xs) (deepest e)) }))

-- ---- two and three trees

pub known-Collected : (at : Place) (c : Collector) (xs : List Bound) (o p : Option Formula)
    → known (both (formula.Collected at c xs) o p) ≡ option_map (facts_from sort.Expression) (adding sort.Expression p (adding sort.Predicate o (Some (place_size 1 (names_depth at xs)))))
known-Collected at c xs None p = refl
known-Collected at c xs (Some e) None = sym (ap (option_map (facts_from sort.Expression)) (adding_none sort.Expression (adding sort.Predicate (Some e) (Some (place_size 1 (names_depth at xs))))))
known-Collected at c xs (Some e) (Some f) =
    let a : Bool = fits sort.Predicate (sort_of e) in
    let b : Bool = fits sort.Expression (sort_of f) in
    let z : Size = record { nodes = counted (1 + (node_total e + node_total f)); depth = Some (max (names_depth at xs) (max (deepest e) (deepest f))) } in
    facts_layer (formula.Collected at c xs e f) (Formula-F.Collected at c xs e f) (formula.rolls-Collected at c xs e f)
    ∙ (given_map (a && b) sort.Expression z
    ∙ sym (ap (option_map (facts_from sort.Expression))
    (ap (adding sort.Expression (Some f)) (adding_tree sort.Predicate e true (place_size 1 (names_depth at xs)))
    ∙ (adding_tree sort.Expression f a (plus (place_size 1 (names_depth at xs)) (size_of e))
    ∙ ap (given_size (a && b)) (size_by _ _ _ _ (omega arith) (ap Some (omega arith)))))
    ∙ given_formed (a && b) sort.Expression z))

pub known-If : (at : Place) (o p q : Option Formula)
    → known (all_three (formula.If at) o p q) ≡ option_map (facts_from sort.Expression) (adding sort.Expression q (adding sort.Expression p (adding sort.Predicate o (Some (place_size 1 at.depth)))))
known-If at None p q = refl
known-If at (Some e) None q =
    sym (ap (λ z. option_map (facts_from sort.Expression) (adding sort.Expression q z)) (adding_none sort.Expression (adding sort.Predicate (Some e) (Some (place_size 1 at.depth)))))
known-If at (Some e) (Some f) None = sym (ap (option_map (facts_from sort.Expression)) (adding_none sort.Expression (adding sort.Expression (Some f) (adding sort.Predicate (Some e) (Some (place_size 1 at.depth))))))
known-If at (Some e) (Some f) (Some g) =
    let a : Bool = fits sort.Predicate (sort_of e) in
    let b : Bool = fits sort.Expression (sort_of f) in
    let c : Bool = fits sort.Expression (sort_of g) in
    let z : Size = record { nodes = counted (1 + (node_total e + (node_total f + node_total g))); depth = Some (max at.depth (max (deepest e) (max (deepest f) (deepest g)))) } in
    facts_layer (formula.If at e f g) (Formula-F.If at e f g) (formula.rolls-If at e f g)
    ∙ (given_map (a && (b && c)) sort.Expression z
    ∙ sym (ap (option_map (facts_from sort.Expression))
    (ap (λ z. adding sort.Expression (Some g) (adding sort.Expression (Some f) z)) (adding_tree sort.Predicate e true (place_size 1 at.depth))
    ∙ (ap (adding sort.Expression (Some g)) (adding_tree sort.Expression f a (plus (place_size 1 at.depth) (size_of e)))
    ∙ (adding_tree sort.Expression g (a && b) (plus (plus (place_size 1 at.depth) (size_of e)) (size_of f))
    ∙ (ap (λ b. given_size b (plus (plus (plus (place_size 1 at.depth) (size_of e)) (size_of f)) (size_of g))) (and_assoc a b c)
    ∙ ap (given_size (a && (b && c))) (size_by _ _ _ _ (omega arith) (ap Some (omega arith)))))))
    ∙ given_formed (a && (b && c)) sort.Expression z))

-- ---- many trees

list_map : (s : Sort) (g : List Formula → Option Facts) (b : List Formula → Bool) (z : List Formula → Size) → ((es : List Formula) → g es ≡ given_facts (b es) s (z es))
    → (o : Option (List Formula)) → option_and_then g o ≡ option_map (facts_from s) (option_and_then (λ es. given_size (b es) (z es)) o)
list_map s g b z h None = refl
list_map s g b z h (Some es) = h es ∙ sym (given_formed (b es) s (z es))

known_map : (c : List Formula → Formula) (o : Option (List Formula)) → known (option_map c o) ≡ option_and_then (λ es. facts_of (c es)) o
known_map c None = refl
known_map c (Some es) = refl

-- a tree of a sort round some of another
abbrev IsRoundAll : Sort → Sort → ℕ → (List Formula → Formula) → Type 0
IsRoundAll w s d c = (es : List Formula) → facts_of (c es) ≡ given_facts (all_fit w (map sort_of es)) s (record { nodes = counted (1 + sum (map node_total es)); depth = Some (greatest d (map deepest es)) })

all_trees : (w s : Sort) (d : ℕ) (c : List Formula → Formula) → IsRoundAll w s d c → (os : List (Option Formula)) → known (option_map c (all_of os)) ≡ option_map (facts_from s) (adds (adding w) os (Some (place_size 1 d)))
all_trees w s d c h os =
    known_map c (all_of os)
    ∙ (list_map s (λ es. facts_of (c es)) (λ es. every (λ e. fits w (sort_of e)) es) (λ es. sizes size_of (place_size 1 d) es)
    (λ es. h es ∙ (ap (λ b. given_facts b s (record { nodes = counted (1 + sum (map node_total es)); depth = Some (greatest d (map deepest es)) })) (fit_every w es)
    ∙ ap (given_facts (every (λ e. fits w (sort_of e)) es) s) (sym (sizes_sum node_total deepest es 1 d)))) (all_of os)
    ∙ ap (option_map (facts_from s)) (sym (all_added (λ e. fits w (sort_of e)) size_of (adding w) (adding_none w) (λ o. refl) (λ e b z. adding_tree w e b z) os true (place_size 1 d))))

pub known-Call : (at : Place) (f : Function) (os : List (Option Formula)) → known (option_map (formula.Call at f) (all_of os)) ≡ option_map (facts_from (call_sort f)) (adds (adding (argument_sort f)) os (Some (place_size 1 at.depth)))
known-Call at f =
    all_trees (argument_sort f) (call_sort f) at.depth (formula.Call at f) (λ es.
    facts_layer (formula.Call at f es) (Formula-F.Call at f es) (formula.rolls-Call at f es) ∙ given_map (all_fit (argument_sort f) (map sort_of es)) (call_sort f) (record { nodes = counted (1 + sum (map node_total es)); depth = Some (greatest at.depth (map deepest es)) }))

pub known-Set : (at : Place) (os : List (Option Formula)) → known (option_map (formula.Set at) (all_of os)) ≡ option_map (facts_from sort.Expression) (adds (adding sort.Expression) os (Some (place_size 1 at.depth)))
known-Set at =
    all_trees sort.Expression sort.Expression at.depth (formula.Set at) (λ es.
    facts_layer (formula.Set at es) (Formula-F.Set at es) (formula.rolls-Set at es) ∙ given_map (all_fit sort.Expression (map sort_of es)) sort.Expression (record { nodes = counted (1 + sum (map node_total es)); depth = Some (greatest at.depth (map deepest es)) }))

pub known-Sequence : (at : Place) (os : List (Option Formula)) → known (option_map (formula.Sequence at) (all_of os)) ≡ option_map (facts_from sort.Expression) (adds (adding sort.Expression) os (Some (place_size 1 at.depth)))
known-Sequence at =
    all_trees sort.Expression sort.Expression at.depth (formula.Sequence at) (λ es.
    facts_layer (formula.Sequence at es) (Formula-F.Sequence at es) (formula.rolls-Sequence at es) ∙ given_map (all_fit sort.Expression (map sort_of es)) sort.Expression (record { nodes = counted (1 + sum (map node_total es)); depth = Some (greatest at.depth (map deepest es)) }))
