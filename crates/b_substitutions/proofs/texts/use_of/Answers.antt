use Rattle.std.proofs.Common.{◌≡◌, Option, sym, subst}
use Rattle.std.specs.Prelude.{IfOk, option_and_then}
use Rattle.b_summaries.specs.declared.summary.Told.{Told}
use Rattle.b_substitutions.specs.Summaries.{used}
use Rattle.b_substitutions.proofs.Uses.{told_at}
use Rattle.b_substitutions.proofs.texts.use_of.Goals as goal

-- what is told at the place is what its use gives
pub returns : goal.returns
returns c =
    subst (λ (o : Option (Option Told)). IfOk c.told_use.result (λ u. u ≡ used c.args.depth (option_and_then (λ t. t) o) c.args.arguments.now))
    (sym (told_at c.args.text.now.formulas.table.now c.args.text.now.uses.now c.requires.ready.told c.args.i c.index-text-i.result c.requires.known c.index-text-i.is))
    (subst (λ (t : Option Told). IfOk c.told_use.result (λ u. u ≡ used c.args.depth t c.args.arguments.now)) (sym c.index-text-i.is) c.told_use.ensures)
