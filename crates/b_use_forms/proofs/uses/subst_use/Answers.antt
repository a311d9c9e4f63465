use Rattle.std.proofs.Common.{Option, ap, ◌∙◌}
use Rattle.b_summaries.specs.declared.summary.Told.{Told}
use Rattle.b_use_forms.specs.Forms.{used}
use Rattle.b_use_forms.proofs.ToldUses.{told_known}
use Rattle.b_use_forms.proofs.uses.subst_use.Goals as goal

-- what is known is what the table tells
pub returns : goal.returns
returns c =
    c.used_at.ensures
    ∙ ap (λ (t : Option Told). used t c.args.arguments.now) (told_known c.args.text.now.formulas.table.now c.args.text.now.uses.now c.requires.told c.requires.many c.args.place)
