-- What a machine stands for once its definitions are expanded.
use Rattle.std.specs.Prelude.{Bool, true, false, if◌then◌else◌, List, [], ◌∷◌, map, fold, Option, Some, None, option_map, option_and_then}
use Rattle.b_ast.specs.declared.Sort.{Sort}
use Rattle.b_ast.specs.declared.Sort.TheVariants as sort
use Rattle.b_ast.specs.declared.Formula.{Formula}
use Rattle.b_ast.specs.declared.machine.Def.{Def}
use Rattle.b_ast.specs.declared.machine.Operation.{Operation}
use Rattle.b_ast.specs.declared.machine.Subst.{Subst}
use Rattle.b_machine_grammar.specs.declared.trees.Clause.{Clause}
use Rattle.b_machine_grammar.specs.declared.trees.Clause.TheVariants as clause
use Rattle.b_expand.specs.Expansion.{both, all_of, of_sort, expansion}
use Rattle.b_summaries.specs.declared.summary.Size.{Size}
use Rattle.b_summaries.specs.declared.summary.Facts.{Facts}
use Rattle.b_summaries.specs.Sizes.{plus, size_of}
use Rattle.b_summaries.specs.Summaries.{node}
use Rattle.b_substitutions.specs.Expansion.{subst_expansion}
use Rattle.b_substitutions.specs.Sizes.{size_of_subst}

-- ---- clauses under a table that is read in its order

-- a predicate
abbrev pub expanded_predicate : List Def → Formula → Option Formula
expanded_predicate table e = of_sort sort.Predicate (expansion table e)

abbrev pub expanded_predicates : List Def → List Formula → Option (List Formula)
expanded_predicates table es = all_of (map (expanded_predicate table) es)

abbrev pub expanded_operation : List Def → Operation → Option Operation
expanded_operation table o = option_map (λ u. record o { body = u }) (subst_expansion table o.body)

abbrev pub expanded_operations : List Def → List Operation → Option (List Operation)
expanded_operations table os = all_of (map (expanded_operation table) os)

-- a clause with its formulas and substitutions expanded; those of DEFINITIONS are judged where they are used
abbrev pub expanded_clause : List Def → Clause → Option Clause
expanded_clause table (clause.Properties at e) = option_map (clause.Properties at) (expanded_predicate table e)
expanded_clause table (clause.Invariant at e) = option_map (clause.Invariant at) (expanded_predicate table e)
expanded_clause table (clause.Assertions at es) = option_map (clause.Assertions at) (expanded_predicates table es)
expanded_clause table (clause.Initialisation at u) = option_map (clause.Initialisation at) (subst_expansion table u)
expanded_clause table (clause.Operations at os) = option_map (clause.Operations at) (expanded_operations table os)
expanded_clause table c = Some c

abbrev pub expanded_clauses : List Def → List Clause → Option (List Clause)
expanded_clauses table cs = all_of (map (expanded_clause table) cs)

-- ---- sizes

abbrev pub with_formula : Size → Formula → Size
with_formula z e = plus z (size_of e)

abbrev pub with_body : Size → Subst → Size
with_body z u = plus z (size_of_subst u)

abbrev pub with_operation : Size → Operation → Size
with_operation z o = with_body z o.body

-- with an expanded clause
abbrev pub with_size_of : Size → Clause → Size
with_size_of z (clause.Properties at e) = with_formula z e
with_size_of z (clause.Invariant at e) = with_formula z e
with_size_of z (clause.Assertions at es) = fold with_formula z es
with_size_of z (clause.Initialisation at u) = with_body z u
with_size_of z (clause.Operations at os) = fold with_operation z os
with_size_of z c = z

abbrev pub is_predicate : Sort → Bool
is_predicate sort.Expression = false
is_predicate s = true

-- the size of a tree that is a predicate, by what is known of it
abbrev pub size_of_predicate : Option Facts → Option Size
size_of_predicate o = option_and_then (λ f. if is_predicate f.sort then Some f.size else None) o

-- with what parts stand for, one after the other, where they stand for something
abbrev pub added : {X Y : Type 0} → (Size → Y → Size) → (X → Option Y) → Option Size → List X → Option Size
added f g z [] = z
added f g z (x ∷ xs) = added f g (both f z (g x)) xs

-- one node for the machine
abbrev pub size_of_clauses : List Clause → Size
size_of_clauses cs = fold with_size_of node cs
