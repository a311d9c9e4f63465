use Rattle.std.proofs.Common.{List, Option, [], refl, sym, subst}
use Rattle.b_ast.specs.declared.machine.Def.{Def}
use Rattle.b_summaries.specs.declared.summary.Told.{Told}
use Rattle.b_summaries.specs.Standing.{IsIndexed, AreTold}
use Rattle.b_summaries.proofs.Naming.{none_placed}
use Rattle.b_summaries.proofs.Refusals.{summary_known}
use Rattle.b_summaries.proofs.expanding.measured.Goals as goal

-- what the summary says is known of the expanded tree
pub returns : goal.returns
returns c =
    summary_known c.args.defs.now.table.now.defs c.as_slice.result.now c.as_slice.ensures c.args.formula.now [] refl c.args.defs.now.known c.as_slice-2.result.now c.as_slice-2.ensures c.requires.all
    c.in_ok-summary.summary c.in_ok-summary.ensures c.facts_of.result c.facts_of.ensures

-- the text of the formula is that of the table
pub walk-requires : goal.walk-requires
walk-requires c = record {
  indexed = subst (λ (ds : List Def). IsIndexed ds c.args.defs.now.index) (sym c.as_slice.ensures) c.requires.indexed;
  told = subst (λ (ks : List (Option Told)). AreTold c.as_slice.result.now ks) (sym c.as_slice-2.ensures)
      (subst (λ (ds : List Def). AreTold ds c.args.defs.now.known) (sym c.as_slice.ensures) c.requires.told);
  places = none_placed;
}
