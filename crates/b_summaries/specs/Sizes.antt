-- How wide and how deep parts of a tree are together, and what is known of a tree that has a sort.
use Rattle.std.specs.Prelude.{ℕ, ◌+◌, ◌*◌, min, max, Bool, true, false, ◌&&◌, ◌||◌, if◌then◌else◌, Option, Some, None, option_map, option_and_then}
use Rattle.b_ast.specs.declared.Sort.{Sort}
use Rattle.b_ast.specs.declared.Sort.TheVariants as sort
use Rattle.b_ast.specs.declared.Formula.{Formula}
use Rattle.b_ast.specs.Sorts.{sort_of, fits}
use Rattle.b_expand.specs.Places.{node_total, deepest, brackets}
use Rattle.b_expand.specs.Expansion.{both}
use Rattle.b_summaries.specs.declared.summary.Size.{Size}
use Rattle.b_summaries.specs.declared.summary.Facts.{Facts}
use Rattle.b_summaries.specs.declared.summary.Asked.{Asked}

-- numbers of nodes past the limit aren't told apart
abbrev pub counted : ℕ → ℕ
counted n = min 1000001 n

-- the greater of two depths, as far as there are any
abbrev pub deeper_of : Option ℕ → Option ℕ → Option ℕ
deeper_of None o = o
deeper_of (Some m) None = Some m
deeper_of (Some m) (Some n) = Some (max m n)

-- a depth under so many more brackets, if there are both
abbrev pub raised : Option ℕ → Option ℕ → Option ℕ
raised None o = None
raised (Some n) None = None
raised (Some n) (Some d) = Some (brackets n d)

-- no parts
abbrev pub nothing : Size
nothing = record { nodes = 0; depth = None }

-- two parts
abbrev pub plus : Size → Size → Size
plus a b = record { nodes = counted (a.nodes + b.nodes); depth = deeper_of a.depth b.depth }

-- a part so many times, its places under so many more brackets
abbrev pub times : ℕ → Option ℕ → Size → Size
times c o z = record { nodes = counted (c * z.nodes); depth = raised o z.depth }

-- a part under so many more brackets
abbrev pub under : ℕ → Size → Size
under r z = record { nodes = z.nodes; depth = raised (Some r) z.depth }

-- two parts, if both are there
abbrev pub together : Option Size → Option Size → Option Size
together a b = both plus a b

-- ---- sorts that are asked for

abbrev pub nothing_asked : Asked
nothing_asked = record { expression = false; predicate = false; implication = false }

abbrev pub asking : Sort → Asked
asking sort.Expression = record { expression = true; predicate = false; implication = false }
asking sort.Predicate = record { expression = false; predicate = true; implication = false }
asking sort.Implication = record { expression = false; predicate = false; implication = true }

abbrev pub both_asked : Asked → Asked → Asked
both_asked a b = record { expression = a.expression || b.expression; predicate = a.predicate || b.predicate; implication = a.implication || b.implication }

-- whether a sort is all that is asked for
abbrev pub met : Asked → Sort → Bool
met a s = (if a.expression then fits sort.Expression (Some s) else true) && ((if a.predicate then fits sort.Predicate (Some s) else true) && (if a.implication then fits sort.Implication (Some s) else true))

-- ---- trees

abbrev pub size_of : Formula → Size
size_of e = record { nodes = counted (node_total e); depth = Some (deepest e) }

-- what is known of a tree that has a sort
abbrev pub facts_of : Formula → Option Facts
facts_of e = option_map (λ s. record { sort = s; size = size_of e }) (sort_of e)

abbrev pub known : Option Formula → Option Facts
known o = option_and_then facts_of o

-- the size of a tree that is what is asked for
abbrev pub sized : Asked → Option Facts → Option Size
sized a o = option_and_then (λ f. if met a f.sort then Some f.size else None) o
