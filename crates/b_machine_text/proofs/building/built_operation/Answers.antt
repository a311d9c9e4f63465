use Rattle.std.proofs.Common.{ap}
use Rattle.std.specs.Prelude.{option_map}
use Rattle.b_ast.specs.declared.machine.Subst.{Subst}
use Rattle.b_machine_text.proofs.building.built_operation.Goals as goal

pub built_subst-requires-clause-fits : goal.built_subst-requires-clause-fits
built_subst-requires-clause-fits c = c.requires.fits.within

pub returns : goal.returns
returns c = ap (option_map (λ (u : Subst). record c.args.operation { body = u })) c.in_ok-body.ensures
