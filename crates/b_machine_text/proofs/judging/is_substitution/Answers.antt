use Rattle.std.proofs.Common.{List, Option, ap, ◌∙◌}
use Rattle.std.specs.Prelude.{is_some, slice_get, option_and_then}
use Rattle.b_summaries.specs.declared.summary.Told.{Told}
use Rattle.b_machine_text.proofs.ToldUses.{told_known}
use Rattle.b_machine_text.proofs.judging.is_substitution.Goals as goal

pub returns : goal.returns
returns c =
    c.is_told.ensures
    ∙ (ap (λ (us : List (Option Told)). is_some (option_and_then (λ (t : Option Told). t) (slice_get us c.args.place))) c.as_slice-uses.ensures
    ∙ ap is_some (told_known c.args.defs.now.formulas.table.now.defs c.args.defs.now.uses c.requires.told c.requires.all c.args.place))
