use Rattle.std.proofs.Common.{◌≡◌, [], Bool, subst}
use Rattle.std.specs.Prelude.{IfOk}
use Rattle.b_use_forms.proofs.Alone.{formula_alone}
use Rattle.b_use_forms.proofs.bodies.formula_fits.Goals as goal

-- the text is that of the table
pub returns : goal.returns
returns c =
    subst (λ (z : Bool). IfOk c.fits.result (λ b. b ≡ z))
    (formula_alone c.text_alone-text.result c.args.defs.now.formulas.table.now.defs c.args.front [] c.text_alone-text.ensures.table c.text_alone-text.ensures.params c.text_alone-text.ensures.front c.args.wanted c.args.formula.now) c.fits.ensures
