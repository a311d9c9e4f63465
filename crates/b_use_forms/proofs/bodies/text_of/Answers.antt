use Rattle.std.proofs.Common.{List, Option, length, sym, ap, subst, ◌∙◌}
use Rattle.b_ast.specs.declared.machine.Def.{Def}
use Rattle.b_summaries.specs.declared.summary.Told.{Told}
use Rattle.b_summaries.specs.Standing as formulas
use Rattle.b_summaries.specs.Standing.{IsIndexed}
use Rattle.b_substitutions.specs.Standing.{AreTold}
use Rattle.b_use_forms.proofs.bodies.text_of.Goals as goal

-- what is told of the table is told of the text's
pub returns-clause-ready : goal.returns-clause-ready
returns-clause-ready c = record {
  formulas = record {
    indexed = subst (λ (ds : List Def). IsIndexed ds c.args.defs.now.formulas.index) (sym c.as_slice-table.ensures) c.requires.made.formulas.indexed;
    told = subst (λ (ks : List (Option Told)). formulas.AreTold c.as_slice-table.result.now ks) (sym c.as_slice-known.ensures)
        (subst (λ (ds : List Def). formulas.AreTold ds c.args.defs.now.formulas.known) (sym c.as_slice-table.ensures) c.requires.made.formulas.told);
    places = c.requires.places;
  };
  all = ap length c.as_slice-known.ensures ∙ (c.requires.made.formulas.all ∙ sym (ap length c.as_slice-table.ensures));
  told = subst (λ (us : List (Option Told)). AreTold c.as_slice-table.result.now us) (sym c.as_slice-uses.ensures)
      (subst (λ (ds : List Def). AreTold ds c.args.defs.now.uses) (sym c.as_slice-table.ensures) c.requires.made.told);
  many = ap length c.as_slice-uses.ensures ∙ (c.requires.made.all ∙ sym (ap length c.as_slice-table.ensures));
}
