use Rattle.std.proofs.Common.{◌∙◌, sym, ap}
use Rattle.b_stretches.specs.Stretches.{pieces, next_of}
use Rattle.b_stretches.proofs.Answering.{made_on}
use Rattle.b_read_clauses.specs.Clauses.{IsNamed}
use Rattle.b_read_clauses.specs.Making.{without_results}
use Rattle.b_read_clauses.proofs.Laws.{plain_on, results_on}
use Rattle.b_read_clauses.proofs.operations.operation.Goals as goal

pub returns-in-None : goal.returns-in-None
returns-in-None c = plain_on c.args.depth (pieces c.args.s) c.without_results.result (sym c.cut_at-split.ensures.1 ∙ ap next_of c.in-None.is) (made_on without_results (IsNamed c.args.depth) (pieces c.args.s) c.named.result c.without_results.result c.without_results.ensures c.named.ensures)

pub returns-in-Some : goal.returns-in-Some
returns-in-Some c =
    results_on
    c.args.depth
    (pieces c.args.s)
    (pieces c.cut_at-split.result.front)
    ((c.in-Some.field-0-0, c.in-Some.field-0-1.now), pieces c.in-Some.back)
    c.cut_at-split.ensures.0
    (sym c.cut_at-split.ensures.1 ∙ ap next_of c.in-Some.is)
    c.names.result
    c.named-in-Some.result
    c.pair-parts.result
    c.operation_of.result
    c.pair-parts.ensures
    c.operation_of.ensures
    c.names.ensures
    c.named-in-Some.ensures
