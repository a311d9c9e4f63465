use Rattle.b_expand.specs.Standing.{params_in}
use Rattle.b_substitutions.specs.Filled.{uses_in}
use Rattle.b_substitutions.proofs.Filling.{called_where, parameter_means}
use Rattle.b_substitutions.proofs.filler.called.Goals as goal

pub returns-in-Some : goal.returns-in-Some
returns-in-Some c = parameter_means (uses_in c.args.text.now) (params_in c.args.text.now) c.args.name.now c.in-Some.field-0 c.in-Some.ensures

pub returns-in-None : goal.returns-in-None
returns-in-None c = called_where c.args.text.now.table.defs.now c.args.text.now.here.place (params_in c.args.text.now) c.args.name.now c.in-None.ensures c.definition_of.result c.definition_of.ensures.value
