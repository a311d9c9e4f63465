use Rattle.std.proofs.Common.{reverse, ◌∙◌}
use Rattle.b_clauses.specs.Clauses.{definitions_in, others_in}
use Rattle.b_machine_text.specs.Verdicts.{kind_of_fault}
use Rattle.b_machine_text.proofs.Giving.{text_along, circle_along}
use Rattle.b_machine_text.proofs.judging.machine_text.Goals as goal

pub returns-in-Ok-clause-text : goal.returns-in-Ok-clause-text
returns-in-Ok-clause-text c =
    text_along (reverse c.in-Ok.parts.texts.items) (definitions_in c.args.tree.clauses) c.in-Ok.ensures.texts c.turned_back-clauses.result.items (others_in c.args.tree.clauses) (c.turned_back-clauses.ensures ∙ c.in-Ok.ensures.others)
    c.args.tree.name (kind_of_fault c.args.fault) c.args.end c.of_parts.result c.of_parts.ensures.text

pub returns-in-Ok-clause-circle : goal.returns-in-Ok-clause-circle
returns-in-Ok-clause-circle c =
    circle_along (reverse c.in-Ok.parts.texts.items) (definitions_in c.args.tree.clauses) c.in-Ok.ensures.texts (kind_of_fault c.args.fault) c.args.end c.of_parts.result c.of_parts.ensures.circle
