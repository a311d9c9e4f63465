use Rattle.std.proofs.Common.{List, Option, [], length, refl, sym, ap, subst, ◌∙◌}
use Rattle.b_ast.specs.declared.machine.Def.{Def}
use Rattle.b_summaries.specs.declared.summary.Told.{Told}
use Rattle.b_summaries.specs.Standing as formulas
use Rattle.b_summaries.specs.Standing.{IsIndexed}
use Rattle.b_summaries.proofs.Naming.{none_placed}
use Rattle.b_substitutions.specs.Standing.{AreTold}
use Rattle.b_substitutions.proofs.Uses.{subst_known}
use Rattle.b_substitutions.proofs.tables.measured_subst.Goals as goal

-- what the parts say is how wide and deep the expanded substitution is
pub returns : goal.returns
returns c =
    subst_known c.args.defs.now.formulas.table.now.defs c.as_slice-table.result.now c.as_slice-table.ensures c.args.subst.now [] refl (length c.as_slice-known.result.now) (length c.as_slice-uses.result.now)
    (ap length c.as_slice-known.ensures ∙ c.requires.formulas.all) (ap length c.as_slice-uses.ensures ∙ c.requires.all) c.start.result c.start.ensures c.in_ok-parts.parts c.in_ok-parts.ensures c.size_of_parts.result c.size_of_parts.ensures

-- the text of the substitution is that of the table
pub add-requires : goal.add-requires
add-requires c = record {
  formulas = record {
    indexed = subst (λ (ds : List Def). IsIndexed ds c.args.defs.now.formulas.index) (sym c.as_slice-table.ensures) c.requires.formulas.indexed;
    told = subst (λ (ks : List (Option Told)). formulas.AreTold c.as_slice-table.result.now ks) (sym c.as_slice-known.ensures)
        (subst (λ (ds : List Def). formulas.AreTold ds c.args.defs.now.formulas.known) (sym c.as_slice-table.ensures) c.requires.formulas.told);
    places = none_placed;
  };
  told = subst (λ (us : List (Option Told)). AreTold c.as_slice-table.result.now us) (sym c.as_slice-uses.ensures)
      (subst (λ (ds : List Def). AreTold ds c.args.defs.now.uses) (sym c.as_slice-table.ensures) c.requires.told);
  many = ap length c.as_slice-known.ensures ∙ (c.requires.formulas.all ∙ sym (ap length c.as_slice-uses.ensures ∙ c.requires.all));
}
