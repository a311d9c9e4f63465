-- How wide and how deep a tree is, and a tree under more brackets.
use Rattle.std.specs.Prelude.{ℕ, ◌+◌, min, max, List, [], ◌∷◌, map, sum, Option, Some, None}
use Rattle.b_ast.specs.declared.Place.{Place}
use Rattle.b_ast.specs.declared.Bound.{Bound}
use Rattle.b_ast.specs.declared.Formula.{Formula, fold-Formula}
use Rattle.b_ast.specs.declared.Formula.TheVariants as formula
use Rattle.b_ast.specs.declared.Link.{Link, fold-Link, roll-Link}
use Rattle.b_ast.specs.declared.After.{After, fold-After}
use Rattle.b_ast.specs.declared.After.TheVariants as after
use Rattle.b_ast.specs.declared.After.TheOpen.{Formula-F, Link-F, After-F}

-- ---- nodes

-- the nodes of a form after an operand: those of its argument
abbrev pub after_nodes : After-F ℕ ℕ ℕ → ℕ
after_nodes (After-F.Converse at) = 0
after_nodes (After-F.Apply at n) = n
after_nodes (After-F.Image at n) = n

-- one for each form, one for a whole chain, comparison or row of forms, none for bound names
abbrev pub formula_nodes : Formula-F ℕ ℕ ℕ → ℕ
formula_nodes (Formula-F.Number at n) = 1
formula_nodes (Formula-F.Text at x) = 1
formula_nodes (Formula-F.Name at x) = 1
formula_nodes (Formula-F.Old at x) = 1
formula_nodes (Formula-F.Constant at c) = 1
formula_nodes (Formula-F.Negative at n) = 1 + n
formula_nodes (Formula-F.Chain n ns) = 1 + (n + sum ns)
formula_nodes (Formula-F.Row n ns) = 1 + (n + sum ns)
formula_nodes (Formula-F.Call at f ns) = 1 + sum ns
formula_nodes (Formula-F.Set at ns) = 1 + sum ns
formula_nodes (Formula-F.Sequence at ns) = 1 + sum ns
formula_nodes (Formula-F.Comprehension at xs n) = 1 + n
formula_nodes (Formula-F.Quantified at q xs n) = 1 + n
formula_nodes (Formula-F.Collected at c xs m n) = 1 + (m + n)
formula_nodes (Formula-F.If at l m n) = 1 + (l + (m + n))

abbrev pub link_nodes : Link-F ℕ ℕ ℕ → ℕ
link_nodes l = l.operand

-- how many nodes a tree has
abbrev pub node_total : Formula → ℕ
node_total = fold-Formula ℕ ℕ ℕ after_nodes formula_nodes link_nodes

abbrev pub nodes_of_link : Link → ℕ
nodes_of_link = fold-Link ℕ ℕ ℕ after_nodes formula_nodes link_nodes

abbrev pub nodes_of_after : After → ℕ
nodes_of_after = fold-After ℕ ℕ ℕ after_nodes formula_nodes link_nodes

-- ---- open brackets

-- the greatest of a number and others
abbrev pub greatest : ℕ → List ℕ → ℕ
greatest m [] = m
greatest m (n ∷ ns) = greatest (max m n) ns

abbrev pub names_depth : Place → List Bound → ℕ
names_depth at xs = greatest at.depth (map (λ x. x.at.depth) xs)

abbrev pub after_depth : After-F ℕ ℕ ℕ → ℕ
after_depth (After-F.Converse at) = at.depth
after_depth (After-F.Apply at n) = max at.depth n
after_depth (After-F.Image at n) = max at.depth n

abbrev pub formula_depth : Formula-F ℕ ℕ ℕ → ℕ
formula_depth (Formula-F.Number at n) = at.depth
formula_depth (Formula-F.Text at x) = at.depth
formula_depth (Formula-F.Name at x) = at.depth
formula_depth (Formula-F.Old at x) = at.depth
formula_depth (Formula-F.Constant at c) = at.depth
formula_depth (Formula-F.Negative at n) = max at.depth n
formula_depth (Formula-F.Chain n ns) = greatest n ns
formula_depth (Formula-F.Row n ns) = greatest n ns
formula_depth (Formula-F.Call at f ns) = greatest at.depth ns
formula_depth (Formula-F.Set at ns) = greatest at.depth ns
formula_depth (Formula-F.Sequence at ns) = greatest at.depth ns
formula_depth (Formula-F.Comprehension at xs n) = max (names_depth at xs) n
formula_depth (Formula-F.Quantified at q xs n) = max (names_depth at xs) n
formula_depth (Formula-F.Collected at c xs m n) = max (names_depth at xs) (max m n)
formula_depth (Formula-F.If at l m n) = max at.depth (max l (max m n))

abbrev pub link_depth : Link-F ℕ ℕ ℕ → ℕ
link_depth l = max l.at.depth l.operand

-- the greatest number of brackets that are open at one place of a tree
abbrev pub deepest : Formula → ℕ
deepest = fold-Formula ℕ ℕ ℕ after_depth formula_depth link_depth

abbrev pub depth_of_link : Link → ℕ
depth_of_link = fold-Link ℕ ℕ ℕ after_depth formula_depth link_depth

abbrev pub depth_of_after : After → ℕ
depth_of_after = fold-After ℕ ℕ ℕ after_depth formula_depth link_depth

-- ---- other places

abbrev pub after_moved : (Place → Place) → After-F After Formula Link → After
after_moved f (After-F.Converse at) = after.Converse (f at)
after_moved f (After-F.Apply at e) = after.Apply (f at) e
after_moved f (After-F.Image at e) = after.Image (f at) e

abbrev pub moved_bound : (Place → Place) → Bound → Bound
moved_bound f x = record x { at = f x.at }

abbrev pub formula_moved : (Place → Place) → Formula-F After Formula Link → Formula
formula_moved f (Formula-F.Number at k) = formula.Number (f at) k
formula_moved f (Formula-F.Text at x) = formula.Text (f at) x
formula_moved f (Formula-F.Name at x) = formula.Name (f at) x
formula_moved f (Formula-F.Old at x) = formula.Old (f at) x
formula_moved f (Formula-F.Constant at c) = formula.Constant (f at) c
formula_moved f (Formula-F.Negative at e) = formula.Negative (f at) e
formula_moved f (Formula-F.Chain e ls) = formula.Chain e ls
formula_moved f (Formula-F.Row e fs) = formula.Row e fs
formula_moved f (Formula-F.Call at g es) = formula.Call (f at) g es
formula_moved f (Formula-F.Set at es) = formula.Set (f at) es
formula_moved f (Formula-F.Sequence at es) = formula.Sequence (f at) es
formula_moved f (Formula-F.Comprehension at xs p) = formula.Comprehension (f at) (map (moved_bound f) xs) p
formula_moved f (Formula-F.Quantified at q xs p) = formula.Quantified (f at) q (map (moved_bound f) xs) p
formula_moved f (Formula-F.Collected at c xs p e) = formula.Collected (f at) c (map (moved_bound f) xs) p e
formula_moved f (Formula-F.If at p e g) = formula.If (f at) p e g

abbrev pub link_moved : (Place → Place) → Link-F After Formula Link → Link
link_moved f l = roll-Link (record l { at = f l.at })

-- the tree with other places
abbrev pub moved : (Place → Place) → Formula → Formula
moved f = fold-Formula After Formula Link (after_moved f) (formula_moved f) (link_moved f)

abbrev pub moved_link : (Place → Place) → Link → Link
moved_link f = fold-Link After Formula Link (after_moved f) (formula_moved f) (link_moved f)

abbrev pub moved_after : (Place → Place) → After → After
moved_after f = fold-After After Formula Link (after_moved f) (formula_moved f) (link_moved f)

-- ---- under more brackets

-- so many brackets and so many more: numbers past 101 aren't told apart
abbrev pub brackets : ℕ → ℕ → ℕ
brackets m n = min 101 (m + n)

-- a place under so many more brackets
abbrev pub deeper_place : ℕ → Place → Place
deeper_place n at = record at { depth = brackets n at.depth }

abbrev pub deeper_bound : ℕ → Bound → Bound
deeper_bound n = moved_bound (deeper_place n)

abbrev pub after_deeper : ℕ → After-F After Formula Link → After
after_deeper n = after_moved (deeper_place n)

abbrev pub formula_deeper : ℕ → Formula-F After Formula Link → Formula
formula_deeper n = formula_moved (deeper_place n)

abbrev pub link_deeper : ℕ → Link-F After Formula Link → Link
link_deeper n = link_moved (deeper_place n)

-- the tree under so many more brackets
abbrev pub deeper : ℕ → Formula → Formula
deeper n = moved (deeper_place n)

abbrev pub deeper_link : ℕ → Link → Link
deeper_link n = moved_link (deeper_place n)

abbrev pub deeper_after : ℕ → After → After
deeper_after n = moved_after (deeper_place n)

-- a place under so many more brackets, or under no others
abbrev pub raised_place : Option ℕ → Place → Place
raised_place None at = at
raised_place (Some n) at = deeper_place n at

-- so many more brackets under those, if there are any
abbrev pub raised : Option ℕ → ℕ → ℕ
raised None n = n
raised (Some m) n = brackets m n
