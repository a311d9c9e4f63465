use Rattle.b_expand.specs.Standing.{tree_in}
use Rattle.b_substitutions.proofs.Filling.{level_tree}
use Rattle.b_substitutions.proofs.filler.formula.Goals as goal

-- no brackets are added
pub returns : goal.returns
returns c = level_tree c.args.text.now.extra c.requires.level (tree_in c.args.text.now c.args.tree.now) c.fill.result c.fill.ensures
