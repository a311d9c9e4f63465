use Rattle.b_machine_grammar.specs.declared.words.Word.TheVariants as word
use Rattle.b_machine_grammar.specs.Cuts.{cut_at, IsPartedIf}
use Rattle.b_machine_grammar.specs.Grammar.{IsName, set_decl}
use Rattle.b_stretches.specs.Stretches.{pieces}
use Rattle.b_stretches.proofs.Answering.{made_on, parted_if_pair}
use Rattle.b_read_clauses.specs.Clauses.{AreEnclosedNames}
use Rattle.b_read_clauses.proofs.sets.set_decl.Goals as goal

pub returns : goal.returns
returns c =
    made_on
    set_decl
    (IsPartedIf (cut_at word.Equal) IsName (λ s. AreEnclosedNames word.CurlyOpen word.CurlyClose))
    (pieces c.args.s)
    c.pair-parts.result
    c.set_of.result
    c.set_of.ensures
    (parted_if_pair (cut_at word.Equal) IsName (λ s. AreEnclosedNames word.CurlyOpen word.CurlyClose) (pieces c.args.s) c.cut_at-split.result c.cut_at-split.ensures c.name.result c.elements.result c.pair-parts.result c.pair-parts.ensures c.name.ensures c.elements.ensures)
