use Rattle.std.proofs.Common.{◌≡◌, ℕ, Bool, List, sym, subst, ◌∙◌}
use Rattle.std.specs.Prelude.{IfOk}
use Rattle.std.specs.Option.{option_copied}
use Rattle.b_summaries.specs.Standing.{ArePlaces}
use Rattle.b_summaries.proofs.Naming.{parameters_known}
use Rattle.b_use_forms.proofs.Alone.{body_alone}
use Rattle.b_use_forms.proofs.bodies.definition_fits.Goals as goal

-- the places are those of the definition's parameters
pub text_of-text-requires-clause-places : goal.text_of-text-requires-clause-places
text_of-text-requires-clause-places c =
    subst (λ (ps : List (List ℕ)). ArePlaces ps (option_copied c.at-places.result)) (sym c.as_slice-params.ensures)
    (parameters_known c.args.defs.now.formulas.table.now.defs c.args.defs.now.formulas.index c.requires.made.formulas.indexed c.args.place c.args.def.now c.requires.there
    c.as_slice-parameters.result.now c.as_slice-parameters.ensures (option_copied c.at-places.result) c.at-places.ensures)

-- the text is that of the definition
pub returns : goal.returns
returns c =
    subst (λ (z : Bool). IfOk c.body_fits.result (λ b. b ≡ z))
    (body_alone c.text_of-text.result c.args.defs.now.formulas.table.now.defs c.args.front c.args.def.now.params c.text_of-text.ensures.table (c.text_of-text.ensures.params ∙ c.as_slice-params.ensures) c.text_of-text.ensures.front c.args.def.now.body) c.body_fits.ensures
