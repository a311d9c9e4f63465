use Rattle.std.proofs.Common.{length}
use Rattle.b_substitutions.proofs.Uses.{called_where}
use Rattle.b_substitutions.proofs.texts.place_called.Goals as goal

-- the definition at the place of a name that is no parameter
pub returns-in-None-clause-value : goal.returns-in-None-clause-value
returns-in-None-clause-value c =
    called_where c.args.text.now.formulas.table.now c.args.text.now.formulas.params.now c.args.name.now c.in-None.ensures (length c.args.text.now.uses.now) c.definition_of.result c.definition_of.ensures c.known_place.result c.known_place.ensures
