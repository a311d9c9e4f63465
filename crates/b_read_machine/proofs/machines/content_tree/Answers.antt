use Rattle.b_machine_grammar.specs.declared.words.Separator.TheVariants as at
use Rattle.b_machine_grammar.specs.Cuts.{cut, IsRow}
use Rattle.b_machine_grammar.specs.Grammar.{IsName, IsClause, machine}
use Rattle.b_stretches.specs.Stretches.{pieces}
use Rattle.b_stretches.proofs.Answering.{made_on, row_pair}
use Rattle.b_read_machine.proofs.machines.content_tree.Goals as goal

pub returns : goal.returns
returns c =
    made_on
    machine
    (IsRow (cut at.Clause) IsName (IsClause c.args.depth))
    (pieces c.args.s)
    c.pair-parts.result
    c.machine_of.result
    c.machine_of.ensures
    (row_pair (cut at.Clause) IsName (IsClause c.args.depth) (pieces c.args.s) c.cut-split.result c.cut-split.ensures c.name.result c.clauses.result c.pair-parts.result c.pair-parts.ensures c.name.ensures c.clauses.ensures)
