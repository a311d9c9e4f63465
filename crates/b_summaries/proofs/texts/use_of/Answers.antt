use Rattle.std.proofs.Common.{◌≡◌, Option, sym, ap, subst, ◌∙◌}
use Rattle.std.specs.Prelude.{IfOk, option_and_then}
use Rattle.b_summaries.specs.declared.summary.Told.{Told}
use Rattle.b_summaries.specs.Making.{substituted}
use Rattle.b_summaries.proofs.Naming.{get_there, use_told, use_gives}
use Rattle.b_summaries.proofs.texts.use_of.Goals as goal

pub returns-in-Some : goal.returns-in-Some
returns-in-Some c =
    use_gives c.args.text.now.table.now c.args.text.now.known.now c.requires.ready.told c.args.i c.index-text-i.result
    (get_there c.args.text.now.known.now c.args.i c.index-text-i.result c.requires.known c.index-text-i.is) c.args.depth c.args.arguments.now c.substituted.result
    (subst (λ (t : Option Told). IfOk c.substituted.result (λ o. o ≡ option_and_then (λ t. substituted t c.args.depth c.args.arguments.now) t)) (sym (c.index-text-i.is ∙ c.in-Some.is)) c.substituted.ensures)

pub returns-in-None : goal.returns-in-None
returns-in-None c =
    sym (use_told c.args.text.now.table.now c.args.text.now.known.now c.requires.ready.told c.args.i c.index-text-i.result
    (get_there c.args.text.now.known.now c.args.i c.index-text-i.result c.requires.known c.index-text-i.is) c.args.depth c.args.arguments.now
    ∙ ap (option_and_then (λ t. substituted t c.args.depth c.args.arguments.now)) (c.index-text-i.is ∙ c.in-None.is))
