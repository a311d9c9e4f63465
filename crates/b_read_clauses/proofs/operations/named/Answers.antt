use Rattle.std.proofs.lemmas.Result.{err_from_is_err_and}
use Rattle.b_machine_grammar.specs.declared.words.Word.TheVariants as word
use Rattle.b_machine_grammar.specs.Cuts.{cut_at}
use Rattle.b_machine_grammar.specs.Grammar.{IsHeader, IsSubst}
use Rattle.b_stretches.specs.Stretches.{pieces}
use Rattle.b_stretches.proofs.Reading.{parted_none}
use Rattle.b_stretches.proofs.Answering.{parted_pair}
use Rattle.b_read_clauses.proofs.operations.named.Goals as goal

pub returns-in_err-front : goal.returns-in_err-front
returns-in_err-front c =
    let p = err_from_is_err_and c.from_residual.result c.from_residual.ensures.1 in
    rw (p.1, p.2) (parted_none (cut_at word.Equal) IsHeader (IsSubst c.args.depth) (pieces c.args.s) c.in_err-front.field-0.0 c.in_err-front.ensures)

pub returns : goal.returns
returns c = parted_pair (cut_at word.Equal) IsHeader (IsSubst c.args.depth) (pieces c.args.s) c.in_ok-front.front c.in_ok-front.back c.in_ok-front.ensures c.header.result c.subst.result c.pair.result c.pair.ensures c.header.ensures c.subst.ensures
