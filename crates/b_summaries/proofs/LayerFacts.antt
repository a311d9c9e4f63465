-- What is known of each part of a layer: its sort, if it has one, its nodes and its depth.
use Rattle.std.specs.Prelude.{ℕ, max, Bool}
use Rattle.b_ast.specs.declared.Operator.{Operator}
use Rattle.b_ast.specs.declared.Formula.{Formula, map-Formula}
use Rattle.b_ast.specs.declared.Link.{Link}
use Rattle.b_ast.specs.declared.After.{After}
use Rattle.b_ast.specs.declared.After.TheOpen.{Formula-F, Link-F, After-F}
use Rattle.b_ast.specs.Sorts as sorts
use Rattle.b_ast.specs.Sorts.{Sorted, sort_of, link_of, after_of}
use Rattle.b_expand.specs.Places.{node_total, nodes_of_link, nodes_of_after, deepest, depth_of_link, depth_of_after, formula_nodes, after_depth, formula_depth, brackets}
use Rattle.b_summaries.specs.Sizes.{counted}

-- of a tree
pub record Facts : Type 0 where
  pub sort : Sorted
  pub nodes : ℕ
  pub depth : ℕ

-- of a link
pub record LinkFacts : Type 0 where
  pub operator : Operator
  pub sort : Sorted
  pub nodes : ℕ
  pub depth : ℕ

-- of a form after an operand
pub record FormFacts : Type 0 where
  pub fits : Bool
  pub nodes : ℕ
  pub depth : ℕ

abbrev pub facts_of : Formula → Facts
facts_of t = record { sort = sort_of t; nodes = counted (node_total t); depth = deepest t }

abbrev pub facts_of_link : Link → LinkFacts
facts_of_link l = record { operator = (link_of l).0; sort = (link_of l).1; nodes = counted (nodes_of_link l); depth = depth_of_link l }

abbrev pub facts_of_form : After → FormFacts
facts_of_form f = record { fits = after_of f; nodes = counted (nodes_of_after f); depth = depth_of_after f }

-- ---- the facts of a layer, from those of its parts

abbrev pub layer_sort : Formula-F FormFacts Facts LinkFacts → Sorted
layer_sort x = sorts.formula_step (map-Formula FormFacts Facts LinkFacts Bool Sorted (Operator × Sorted) (λ f. f.fits) (λ e. e.sort) (λ l. (l.operator, l.sort)) x)

abbrev pub layer_nodes : Formula-F FormFacts Facts LinkFacts → ℕ
layer_nodes x = formula_nodes (map-Formula FormFacts Facts LinkFacts ℕ ℕ ℕ (λ f. f.nodes) (λ e. e.nodes) (λ l. l.nodes) x)

abbrev pub layer_depth : Formula-F FormFacts Facts LinkFacts → ℕ
layer_depth x = formula_depth (map-Formula FormFacts Facts LinkFacts ℕ ℕ ℕ (λ f. f.depth) (λ e. e.depth) (λ l. l.depth) x)

abbrev pub layer_facts : Formula-F FormFacts Facts LinkFacts → Facts
layer_facts x = record { sort = layer_sort x; nodes = counted (layer_nodes x); depth = layer_depth x }

abbrev pub form_facts : After-F FormFacts Facts LinkFacts → FormFacts
form_facts (After-F.Converse at) = record { fits = sorts.after_step (After-F.Converse at); nodes = 0; depth = at.depth }
form_facts (After-F.Apply at e) = record { fits = sorts.after_step (After-F.Apply at e.sort); nodes = e.nodes; depth = after_depth (After-F.Apply at e.depth) }
form_facts (After-F.Image at e) = record { fits = sorts.after_step (After-F.Image at e.sort); nodes = e.nodes; depth = after_depth (After-F.Image at e.depth) }

abbrev pub link_facts : Link-F FormFacts Facts LinkFacts → LinkFacts
link_facts l = record { operator = l.operator; sort = l.operand.sort; nodes = l.operand.nodes; depth = max l.at.depth l.operand.depth }

-- under so many more brackets
abbrev pub deepened : ℕ → Facts → Facts
deepened n f = record f { depth = brackets n f.depth }
