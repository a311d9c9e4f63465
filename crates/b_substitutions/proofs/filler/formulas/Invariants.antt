use Rattle.std.proofs.Common.{◌≡◌, map, take}
use Rattle.b_substitutions.specs.Filled.{formula_in}
use Rattle.b_substitutions.proofs.filler.formulas.Given as goal

-- those so far
abbrev pub invariant-loop-tree : goal.invariant-loop-tree
invariant-loop-tree l = l.filled ≡ map (formula_in l.text) (take l.tree-index l.trees)
