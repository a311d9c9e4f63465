use Rattle.b_machine_text.proofs.Sizes.{predicate_added}
use Rattle.b_machine_text.proofs.measuring.with_predicate.Goals as goal

pub returns : goal.returns
returns c =
    predicate_added c.args.defs.now.formulas.table.now.defs c.args.formula.now c.args.size c.in_ok-facts.facts c.in_ok-facts.ensures c.size_of_predicate.result c.size_of_predicate.ensures c.with_part.result c.with_part.ensures
