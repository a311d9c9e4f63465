use Rattle.std.proofs.Common.{◌≡◌, [], Bool, subst}
use Rattle.std.specs.Prelude.{IfOk}
use Rattle.b_use_forms.proofs.Alone.{subst_alone}
use Rattle.b_use_forms.proofs.bodies.subst_fits.Goals as goal

-- the text is that of the table
pub returns : goal.returns
returns c =
    subst (λ (z : Bool). IfOk c.fits_subst.result (λ b. b ≡ z))
    (subst_alone c.text_alone-text.result c.args.defs.now.formulas.table.now.defs c.args.front [] c.text_alone-text.ensures.table c.text_alone-text.ensures.params c.text_alone-text.ensures.front c.args.subst.now) c.fits_subst.ensures
