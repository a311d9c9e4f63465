use Rattle.std.proofs.Common.{◌≡◌, [], List, drop, sym, ap, ◌∙◌, arith}
use Rattle.std.proofs.lemmas.Grind.{common_steps}
use Rattle.b_summaries.specs.declared.summary.Summary.{Summary}
use Rattle.b_summaries.specs.Making.{lifted_all}
use Rattle.b_summaries.proofs.PartLists.{too_few}
use Rattle.b_summaries.proofs.making.with_arguments.Goals as goal

-- a share is left, and no argument
pub returns-in-None : goal.returns-in-None
returns-in-None c =
    let k = too_few c.loop-share.found c.args.shares.now c.loop-share.share-index (omega arith) in
    let e : c.loop-share.left.now ≡ [] = grind (arith, common_steps, c.in-None.ensures) in
    sym k ∙ (ap (λ (us : List Summary). lifted_all c.loop-share.found (drop c.loop-share.share-index c.args.shares.now) us) (sym e) ∙ c.loop-share.invariant)
